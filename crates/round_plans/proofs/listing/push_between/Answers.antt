use Rattle.std.proofs.Common.{◌≢◌, ◌≤◌, ℕ, List, ◌∷◌, [], ◌<◌, Bool, length, arith, sym, ◌∙◌, ap, subst}
use Rattle.std.specs.List.{AllByRecursion}
use Rattle.hands.proofs.Laws.{each_append}
use Rattle.round_plans.specs.Listed.{marked, names}
use Rattle.round_plans.proofs.Lists.{names_more, one_apart}
use Rattle.round_plans.proofs.listing.push_between.Goals as goal

pub loop-j-preserved : goal.loop-j-preserved
loop-j-preserved c =
    let list = c.args.star.now.list in let k = c.args.k in let j = c.loop-j.j in let x = c.at.result in let kept = c.args.kept in
    let Q : ℕ → Type 0 = λ q. c.args.star.now.centre ≢ q in
    let P : List ℕ → Type 0 = λ l. AllByRecursion Q l in
    let low : k ≤ j = omega arith in
    let there : j < length list = omega arith in
    let apart : x.0 ≢ c.args.star.now.centre = λ e. c.at.ensures.order.apart j there (ap (λ (z : ℕ × Bool). z.0) (sym c.at.ensures.entry) ∙ e) in record {
      names = names_more kept list k j x c.args.out.now.items c.loop-j.out.items c.push_one.new.out.items low there c.at.ensures.entry c.loop-j.invariant.names c.in_ok-push_one.ensures;
      apart = subst P (sym c.in_ok-push_one.ensures) (each_append Q c.loop-j.out.items (names (marked kept (x ∷ []))) c.loop-j.invariant.apart (one_apart kept c.args.star.now.centre x apart));
    }
