use Rattle.std.proofs.Common.{◌≡◌, ℤ, length, to_z, of_z, w64, sym, ◌∙◌, subst, arith}
use Rattle.std.proofs.lemmas.Int.{ints}
use Rattle.dual_prices.specs.Tables.{IsShifted}
use Rattle.dual_prices.proofs.laws.Rooms.{not_counted, is_counted}
use Rattle.dual_prices.proofs.Tables.{part_more, part_less, slot_in}
use Rattle.dual_prices.proofs.loads.shift_at.Goals as goal

pub returns-then-not-is_counted : goal.returns-then-not-is_counted
returns-then-not-is_counted c = λ first part.
    part_less c.args.points.now c.args.row c.args.p c.args.r c.args.by first c.args.table.now.items c.requires.r_in
    (λ ne. not_counted c.args.points.now c.args.row c.args.p c.args.r c.is_counted.result c.is_counted.ensures c.if-not-is_counted.true) part

pub shift-requires-clause-place : goal.shift-requires-clause-place
shift-requires-clause-place c = omega (arith, slot_in c.of.result.lo c.of.result.hi (length c.args.points.now) c.of.result.ordered (omega (arith, c.of.ensures.hi, c.requires.p_in, c.requires.r_in)), c.requires.table)

pub returns : goal.returns
returns c = λ first part.
    let e : to_z w64 (of_z w64 c.args.by) ≡ c.args.by = omega (arith, ints, c.requires.step.0, c.requires.step.1) in
    part_more c.args.points.now c.args.row c.args.p c.args.r c.args.by c.of.result first c.args.table.now.items c.shift.new.table.items c.requires.r_in c.requires.p_in c.if-r-p.false (sym part.count ∙ c.requires.table)
    (is_counted c.args.points.now c.args.row c.args.p c.args.r c.is_counted.result c.is_counted.ensures c.if-not-is_counted.false) c.of.ensures.lo c.of.ensures.hi
    (subst (λ (z : ℤ). IsShifted c.args.table.now.items c.of.result z c.shift.new.table.items) e c.shift.ensures) part
