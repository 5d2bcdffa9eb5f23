use Rattle.std.proofs.Common.{◌≡◌, ℕ, List, sym, ◌∙◌, subst}
use Rattle.price_defs.specs.declared.row.Row.{Row}
use Rattle.price_defs.specs.Floor.{IsFloorCertificate}
use Rattle.price_defs.specs.Loads.{IsValid}
use Rattle.price_defs.specs.Raising.{AreRaised}
use Rattle.lower_bounds.specs.Found.{IsFirst}
use Rattle.raise_laws.proofs.laws.Raises.{grown_lost}
use Rattle.lower_bounds.proofs.prices.first_certificate.Goals as goal

pub returns : goal.returns
returns c =
    let floor = c.in_ok-floor.ensures in
    let raised = c.in_ok-certificate.ensures in
    record {
      raised = (
        c.in_ok-floor.floor.rows,
        subst (λ (q : ℕ). IsFloorCertificate c.args.points.now c.args.costs.now q c.in_ok-floor.floor.rows) (sym raised.divisor) floor.floor,
        subst (λ (q : ℕ). AreRaised c.args.points.now c.args.costs.now q c.in_ok-floor.floor.rows c.in_ok-certificate.certificate.rows) (sym raised.divisor) raised.raised,
      );
      valid = raised.valid;
      tight = raised.tight floor.covered;
      divisor = raised.divisor ∙ floor.divisor;
      takers = grown_lost c.in_ok-floor.floor.rows c.in_ok-certificate.certificate.rows raised.grown ∙ floor.takers;
      light = raised.light;
    }
