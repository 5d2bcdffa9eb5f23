use Rattle.std.proofs.Common.{◌≡◌, ℕ, List, ◌++◌, OnOk, Bool, sym, ◌∙◌, ap, subst, append-nil}
use Rattle.plane.specs.declared.segment.Pair.{Pair}
use Rattle.round_defs.specs.Candidates.{pairs_at}
use Rattle.round_plans.specs.Listed.{marked}
use Rattle.round_plans.proofs.Lists.{none_paired}
use Rattle.round_plans.proofs.Regions.{star_seen, none_seen}
use Rattle.round_plans.proofs.walking.push_marked.Goals as goal

pub returns-in-Some : goal.returns-in-Some
returns-in-Some c =
    let s = c.in-Some.star.now in let out = c.args.out.now.items in let new = c.push_pairs.new.out.items in
    let seen = star_seen c.args.region.now c.args.u s (sym c.in-Some.ensures.star) in
    let P : ℕ → Type 0 = λ v. OnOk c.push_pairs.result (new ≡ out ++ pairs_at v (marked c.args.kept s.list)) in
    let Q : List (ℕ × Bool) → Type 0 = λ l. OnOk c.push_pairs.result (new ≡ out ++ pairs_at c.args.u (marked c.args.kept l)) in
    subst Q (sym seen.1) (subst P c.in-Some.ensures.centre c.push_pairs.ensures)

pub returns-in-None : goal.returns-in-None
returns-in-None c =
    let none = none_seen c.args.region.now c.args.u (sym c.in-None.ensures.star) in
    sym (ap (λ (z : List (ℕ × Bool)). c.args.out.now.items ++ pairs_at c.args.u (marked c.args.kept z)) none.1
    ∙ ap (λ (z : List Pair). c.args.out.now.items ++ z) (none_paired c.args.kept c.args.u) ∙ append-nil c.args.out.now.items)
