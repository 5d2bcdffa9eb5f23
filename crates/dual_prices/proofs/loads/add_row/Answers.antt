use Rattle.std.proofs.Common.{◌≡◌, ℤ, pos, neg_ℤ, length, to_z, of_z, w64, sym, refl, subst, arith}
use Rattle.std.specs.Prelude.{◌-ℤ◌}
use Rattle.std.proofs.lemmas.Int.{ints}
use Rattle.price_defs.specs.declared.row.Row.{Row}
use Rattle.price_defs.specs.declared.row.Row.TheVariants.{Half, Three, Cross, Cap}
use Rattle.price_defs.specs.Rows.{IsRight}
use Rattle.dual_prices.specs.Tables.{IsRowAdded, IsPartlyAdded, IsShifted, IsStep}
use Rattle.dual_prices.proofs.Tables.{slot_in, shifted_length, still_small, half_added, three_added, cross_added, cap_added}
use Rattle.dual_prices.proofs.loads.add_row.Goals as goal

pub shift-requires-clause-place : goal.shift-requires-clause-place
shift-requires-clause-place c =
    let right : IsRight c.args.points.now (Cross c.in-Cross.e c.in-Cross.f c.in-Cross.w) = subst (IsRight c.args.points.now) c.in-Cross.is c.requires.right in
    omega (arith, slot_in c.in-Cross.e.lo c.in-Cross.e.hi (length c.args.points.now) c.in-Cross.e.ordered right.0, c.requires.table)

pub shift-requires-in-Cross-clause-place : goal.shift-requires-in-Cross-clause-place
shift-requires-in-Cross-clause-place c =
    let right : IsRight c.args.points.now (Cross c.in-Cross.e c.in-Cross.f c.in-Cross.w) = subst (IsRight c.args.points.now) c.in-Cross.is c.requires.right in
    omega (arith, slot_in c.in-Cross.f.lo c.in-Cross.f.hi (length c.args.points.now) c.in-Cross.f.ordered right.1, c.requires.table, shifted_length _ _ c.in-Cross.e _ c.shift.ensures)

pub shift-requires-in-Cross-clause-small : goal.shift-requires-in-Cross-clause-small
shift-requires-in-Cross-clause-small c =
    let right : IsRight c.args.points.now (Cross c.in-Cross.e c.in-Cross.f c.in-Cross.w) = subst (IsRight c.args.points.now) c.in-Cross.is c.requires.right in
    let n : to_z w64 (of_z w64 (pos 0 -ℤ to_z w64 (of_z w64 c.args.by))) ≡ neg_ℤ c.args.by = omega (arith, ints, c.requires.step.0, c.requires.step.1) in
    let step : IsStep (neg_ℤ c.args.by) = (omega (arith, ints, c.requires.step.1), omega (arith, ints, c.requires.step.0)) in
    still_small c.args.points.now c.args.table.now.items c.shift.new.table.items c.in-Cross.e c.in-Cross.f (neg_ℤ c.args.by) c.requires.small step c.requires.table right.0 right.1
    (subst (λ (z : ℤ). IsShifted c.args.table.now.items c.in-Cross.e z c.shift.new.table.items) n c.shift.ensures)

pub shift-requires-in-Cap-clause-place : goal.shift-requires-in-Cap-clause-place
shift-requires-in-Cap-clause-place c =
    let right : IsRight c.args.points.now (Cap c.in-Cap.e c.in-Cap.w) = subst (IsRight c.args.points.now) c.in-Cap.is c.requires.right in
    omega (arith, slot_in c.in-Cap.e.lo c.in-Cap.e.hi (length c.args.points.now) c.in-Cap.e.ordered right.0, c.requires.table)

pub returns-in-Half : goal.returns-in-Half
returns-in-Half c =
    let b : to_z w64 (of_z w64 c.args.by) ≡ c.args.by = omega (arith, ints, c.requires.step.0, c.requires.step.1) in
    subst (λ (x : Row). IsRowAdded c.args.points.now x c.args.by c.args.table.now.items c.shift_counted.new.table.items) (sym c.in-Half.is)
    (half_added c.args.points.now (Half c.in-Half.p c.in-Half.q c.in-Half.w) c.in-Half.p c.in-Half.q c.in-Half.w c.args.by c.args.table.now.items c.shift_counted.new.table.items refl
    (subst (λ (z : ℤ). IsPartlyAdded c.args.points.now (Half c.in-Half.p c.in-Half.q c.in-Half.w) c.in-Half.p z (length c.args.points.now) c.args.table.now.items c.shift_counted.new.table.items) b c.shift_counted.ensures))

pub returns-in-Three : goal.returns-in-Three
returns-in-Three c =
    let b : to_z w64 (of_z w64 c.args.by) ≡ c.args.by = omega (arith, ints, c.requires.step.0, c.requires.step.1) in
    subst (λ (x : Row). IsRowAdded c.args.points.now x c.args.by c.args.table.now.items c.shift_counted-in-Three.new.table.items) (sym c.in-Three.is)
    (three_added c.args.points.now (Three c.in-Three.p c.in-Three.w) c.in-Three.p c.in-Three.w c.args.by c.args.table.now.items c.shift_counted-in-Three.new.table.items refl
    (subst (λ (z : ℤ). IsPartlyAdded c.args.points.now (Three c.in-Three.p c.in-Three.w) c.in-Three.p z (length c.args.points.now) c.args.table.now.items c.shift_counted-in-Three.new.table.items) b c.shift_counted-in-Three.ensures))

pub returns-in-Cross : goal.returns-in-Cross
returns-in-Cross c =
    let right : IsRight c.args.points.now (Cross c.in-Cross.e c.in-Cross.f c.in-Cross.w) = subst (IsRight c.args.points.now) c.in-Cross.is c.requires.right in
    let n : to_z w64 (of_z w64 (pos 0 -ℤ to_z w64 (of_z w64 c.args.by))) ≡ neg_ℤ c.args.by = omega (arith, ints, c.requires.step.0, c.requires.step.1) in
    subst (λ (x : Row). IsRowAdded c.args.points.now x c.args.by c.args.table.now.items c.shift-in-Cross.new.table.items) (sym c.in-Cross.is)
    (cross_added c.args.points.now c.in-Cross.e c.in-Cross.f c.in-Cross.w c.args.by c.args.table.now.items c.shift.new.table.items c.shift-in-Cross.new.table.items c.requires.table right
    (subst (λ (z : ℤ). IsShifted c.args.table.now.items c.in-Cross.e z c.shift.new.table.items) n c.shift.ensures)
    (subst (λ (z : ℤ). IsShifted c.shift.new.table.items c.in-Cross.f z c.shift-in-Cross.new.table.items) n c.shift-in-Cross.ensures))

pub returns-in-Cap : goal.returns-in-Cap
returns-in-Cap c =
    let right : IsRight c.args.points.now (Cap c.in-Cap.e c.in-Cap.w) = subst (IsRight c.args.points.now) c.in-Cap.is c.requires.right in
    let n : to_z w64 (of_z w64 (pos 0 -ℤ to_z w64 (of_z w64 c.args.by))) ≡ neg_ℤ c.args.by = omega (arith, ints, c.requires.step.0, c.requires.step.1) in
    subst (λ (x : Row). IsRowAdded c.args.points.now x c.args.by c.args.table.now.items c.shift-in-Cap.new.table.items) (sym c.in-Cap.is)
    (cap_added c.args.points.now c.in-Cap.e c.in-Cap.w c.args.by c.args.table.now.items c.shift-in-Cap.new.table.items c.requires.table right.0
    (subst (λ (z : ℤ). IsShifted c.args.table.now.items c.in-Cap.e z c.shift-in-Cap.new.table.items) n c.shift-in-Cap.ensures))
