use Rattle.std.proofs.Common.{◌≡◌, ◌≤◌, sym, ◌∙◌, ap, subst, arith}
use Rattle.std.specs.List.{sum_by}
use Rattle.price_defs.specs.Limits.{AreLight}
use Rattle.price_defs.specs.Loads.{IsValid, lost}
use Rattle.price_defs.specs.Rows.{AreRight}
use Rattle.search_defs.specs.Priced.{lowered, opened}
use Rattle.search_defs.proofs.laws.Trials.{lifted_valid}
use Rattle.dual_prices.proofs.laws.InPlace.{valid_light}
use Rattle.bound_worker.proofs.Lists.{lifted_lost}
use Rattle.bound_worker.proofs.Rounds.{ready_valid, ready_lost}
use Rattle.bound_worker.proofs.Settled.{ready_settled}
use Rattle.bound_worker.proofs.trial.trial.Goals as goal

pub make-requires-clause-right : goal.make-requires-clause-right
make-requires-clause-right c =
    let e : c.open_row.new.rows.items ≡ opened c.args.p c.args.r (lowered c.args.p c.args.present.now.rows.items) = c.in_ok-open_row.ensures.1 ∙ ap (opened c.args.p c.args.r) (c.in_ok-list.ensures ∙ ap (lowered c.args.p) c.as_slice.ensures.value) in
    let v : IsValid c.args.points.now c.args.costs.now c.args.q (opened c.args.p c.args.r (lowered c.args.p c.args.present.now.rows.items)) = ready_valid c.args.points.now c.args.costs.now c.args.q c.args.p c.args.r c.args.present.now.rows.items c.requires.right c.requires.valid in
    subst (AreRight c.args.points.now) (sym e) v.right

pub make-requires-clause-light : goal.make-requires-clause-light
make-requires-clause-light c =
    let e : c.open_row.new.rows.items ≡ opened c.args.p c.args.r (lowered c.args.p c.args.present.now.rows.items) = c.in_ok-open_row.ensures.1 ∙ ap (opened c.args.p c.args.r) (c.in_ok-list.ensures ∙ ap (lowered c.args.p) c.as_slice.ensures.value) in
    let v : IsValid c.args.points.now c.args.costs.now c.args.q (opened c.args.p c.args.r (lowered c.args.p c.args.present.now.rows.items)) = ready_valid c.args.points.now c.args.costs.now c.args.q c.args.p c.args.r c.args.present.now.rows.items c.requires.right c.requires.valid in
    let t : sum_by lost (opened c.args.p c.args.r (lowered c.args.p c.args.present.now.rows.items)) ≤ 100000000000 = omega (arith, ready_lost c.args.p c.args.r c.args.present.now.rows.items, c.requires.takers) in
    subst AreLight (sym e) (valid_light c.args.points.now c.args.costs.now c.args.q (opened c.args.p c.args.r (lowered c.args.p c.args.present.now.rows.items)) c.len-count.ensures.accepted v t c.requires.small c.list-listed.ensures.costs.within)

pub lift_row-requires-clause-valid : goal.lift_row-requires-clause-valid
lift_row-requires-clause-valid c =
    let e : c.in_ok-kept.kept.rows ≡ opened c.args.p c.args.r (lowered c.args.p c.args.present.now.rows.items) = c.in_ok-kept.ensures.rows ∙ c.in_ok-open_row.ensures.1 ∙ ap (opened c.args.p c.args.r) (c.in_ok-list.ensures ∙ ap (lowered c.args.p) c.as_slice.ensures.value) in
    subst (IsValid c.args.points.now c.args.costs.now c.args.q) (sym e) (ready_valid c.args.points.now c.args.costs.now c.args.q c.args.p c.args.r c.args.present.now.rows.items c.requires.right c.requires.valid)

pub lift_row-requires-clause-takers : goal.lift_row-requires-clause-takers
lift_row-requires-clause-takers c =
    let e : c.in_ok-kept.kept.rows ≡ opened c.args.p c.args.r (lowered c.args.p c.args.present.now.rows.items) = c.in_ok-kept.ensures.rows ∙ c.in_ok-open_row.ensures.1 ∙ ap (opened c.args.p c.args.r) (c.in_ok-list.ensures ∙ ap (lowered c.args.p) c.as_slice.ensures.value) in
    omega (arith, ap (sum_by lost) e, ready_lost c.args.p c.args.r c.args.present.now.rows.items, c.requires.takers)

pub raise_rows-requires-clause-valid : goal.raise_rows-requires-clause-valid
raise_rows-requires-clause-valid c =
    let e : c.in_ok-kept.kept.rows ≡ opened c.args.p c.args.r (lowered c.args.p c.args.present.now.rows.items) = c.in_ok-kept.ensures.rows ∙ c.in_ok-open_row.ensures.1 ∙ ap (opened c.args.p c.args.r) (c.in_ok-list.ensures ∙ ap (lowered c.args.p) c.as_slice.ensures.value) in
    lifted_valid c.args.points.now c.args.costs.now c.args.q c.args.p c.args.r c.in_ok-kept.kept.rows c.lift_row.new.kept.rows c.lift_row.ensures.lifted
    (subst (IsValid c.args.points.now c.args.costs.now c.args.q) (sym e) (ready_valid c.args.points.now c.args.costs.now c.args.q c.args.p c.args.r c.args.present.now.rows.items c.requires.right c.requires.valid))

pub raise_rows-requires-clause-takers : goal.raise_rows-requires-clause-takers
raise_rows-requires-clause-takers c =
    let e : c.in_ok-kept.kept.rows ≡ opened c.args.p c.args.r (lowered c.args.p c.args.present.now.rows.items) = c.in_ok-kept.ensures.rows ∙ c.in_ok-open_row.ensures.1 ∙ ap (opened c.args.p c.args.r) (c.in_ok-list.ensures ∙ ap (lowered c.args.p) c.as_slice.ensures.value) in
    omega (arith, lifted_lost c.args.points.now c.args.costs.now c.args.q c.args.p c.args.r c.in_ok-kept.kept.rows c.lift_row.new.kept.rows c.lift_row.ensures.lifted, ap (sum_by lost) e, ready_lost c.args.p c.args.r c.args.present.now.rows.items, c.requires.takers)

pub lift_row-requires-clause-settled : goal.lift_row-requires-clause-settled
lift_row-requires-clause-settled c =
    ready_settled c.args.points.now c.args.costs.now c.args.q c.args.p c.args.r c.args.present.now.rows.items c.in_ok-list.list.items c.open_row.new.rows.items c.in_ok-kept.kept.rows c.args.present.now.ends.items c.in_ok-ends.ends.items c.open_row.new.ends.items
    c.requires.ends (c.in_ok-list.ensures ∙ ap (lowered c.args.p) c.as_slice.ensures.value) (c.in_ok-ends.ensures.items ∙ c.as_slice-2.ensures.value) c.in_ok-open_row.ensures c.in_ok-kept.ensures.rows
