use Rattle.std.proofs.Common.{◌≡◌, ℤ, length, to_z, of_z, w64, subst, arith}
use Rattle.std.proofs.lemmas.Int.{ints}
use Rattle.dual_prices.specs.Tables.{IsPartlyAdded}
use Rattle.dual_prices.proofs.Tables.{part_small_at}
use Rattle.dual_prices.proofs.loads.shift_counted.Goals as goal

pub shift_at-requires-clause-small : goal.shift_at-requires-clause-small
shift_at-requires-clause-small c = λ ne.
    part_small_at c.args.points.now c.args.row c.args.p c.loop-r.r _ c.args.table.now.items c.loop-r.table.items c.loop-r.invariant c.requires.small c.requires.p_in (omega (arith, c.loop-r-test.true, c.len-r-end.ensures.count)) ne

pub returns : goal.returns
returns c =
    let b : to_z w64 (of_z w64 c.args.by) ≡ c.args.by = omega (arith, ints, c.requires.step.0, c.requires.step.1) in
    let e : c.loop-r.r ≡ length c.args.points.now = omega (arith, c.loop-r-test.false, c.loop-r.auto.r-end, c.len-r-end.ensures.count) in
    subst (λ n. IsPartlyAdded c.args.points.now c.args.row c.args.p c.args.by n c.args.table.now.items c.loop-r.table.items) e
    (subst (λ (z : ℤ). IsPartlyAdded c.args.points.now c.args.row c.args.p z c.loop-r.r c.args.table.now.items c.loop-r.table.items) b c.loop-r.invariant)
