use Rattle.std.proofs.Common.{◌≤◌, List, sym, subst}
use Rattle.std.specs.List.{AllZip}
use Rattle.price_defs.specs.declared.row.Row.{Row}
use Rattle.price_defs.specs.Loads.{IsValid, value}
use Rattle.price_defs.specs.Tight.{IsTight}
use Rattle.raise_laws.specs.Laws.{Grows}
use Rattle.raise_laws.proofs.laws.Raises.{raised_valid, raised_grows}
use Rattle.raise_laws.proofs.laws.Tightened.{raised_tight, raised_value}
use Rattle.dual_prices.proofs.raising.raise_all.Goals as goal

pub returns-clause-valid : goal.returns-clause-valid
returns-clause-valid c =
    subst (IsValid c.args.points.now c.args.costs.now c.args.certificate.q) (sym c.make.ensures)
    (raised_valid c.args.points.now c.args.costs.now c.args.certificate.q c.args.certificate.rows c.in_ok-rows.rows.items c.in_ok-rows.ensures.raised c.requires.valid)

pub returns-clause-tight : goal.returns-clause-tight
returns-clause-tight c = λ covered.
    subst (IsTight c.args.points.now c.args.costs.now c.args.certificate.q) (sym c.make.ensures)
    (raised_tight c.args.points.now c.args.costs.now c.args.certificate.q c.args.certificate.rows c.in_ok-rows.rows.items c.in_ok-rows.ensures.raised c.requires.valid covered)

pub returns-clause-grown : goal.returns-clause-grown
returns-clause-grown c =
    subst (AllZip Grows c.args.certificate.rows) (sym c.make.ensures)
    (raised_grows c.args.points.now c.args.costs.now c.args.certificate.q c.args.certificate.rows c.in_ok-rows.rows.items c.in_ok-rows.ensures.raised)

pub returns-clause-value : goal.returns-clause-value
returns-clause-value c = λ h.
    subst (λ (x : List Row). value h c.args.certificate.q c.args.certificate.rows ≤ value h c.args.certificate.q x) (sym c.make.ensures)
    (raised_value c.args.points.now c.args.costs.now h c.args.certificate.q c.args.certificate.rows c.in_ok-rows.rows.items c.requires.valid.divisor c.in_ok-rows.ensures.raised)
