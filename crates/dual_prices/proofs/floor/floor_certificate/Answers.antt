use Rattle.std.proofs.Common.{List, sym, subst}
use Rattle.price_defs.specs.declared.row.Row.{Row}
use Rattle.price_defs.specs.Loads.{IsValid, value}
use Rattle.price_defs.specs.Floor.{IsFloor}
use Rattle.price_defs.specs.Tight.{AreCovered}
use Rattle.raise_laws.proofs.laws.Floored.{floor_valid, floor_covered, floor_value}
use Rattle.dual_prices.proofs.Floors.{floor_all}
use Rattle.dual_prices.proofs.floor.floor_certificate.Goals as goal

pub returns-clause-valid : goal.returns-clause-valid
returns-clause-valid c =
    subst (IsValid c.args.points.now c.args.costs.now 2) (sym c.make.ensures)
    (floor_valid c.args.points.now c.args.costs.now 2 c.in_ok-rows.rows.items c.len-count.ensures.accepted.count.1 (floor_all c.args.points.now c.args.costs.now c.in_ok-rows.rows.items c.in_ok-rows.ensures))

pub returns-clause-covered : goal.returns-clause-covered
returns-clause-covered c =
    subst (AreCovered c.args.points.now) (sym c.make.ensures)
    (floor_covered c.args.points.now c.args.costs.now 2 c.in_ok-rows.rows.items (floor_all c.args.points.now c.args.costs.now c.in_ok-rows.rows.items c.in_ok-rows.ensures))

pub returns-clause-value : goal.returns-clause-value
returns-clause-value c = λ h.
    subst (λ (rows : List Row). IsFloor c.args.points.now c.args.costs.now h (value h 2 rows)) (sym c.make.ensures)
    (floor_value c.args.points.now c.args.costs.now h 2 c.in_ok-rows.rows.items (floor_all c.args.points.now c.args.costs.now c.in_ok-rows.rows.items c.in_ok-rows.ensures))
