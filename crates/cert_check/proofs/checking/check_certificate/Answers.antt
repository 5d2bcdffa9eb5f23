use Rattle.std.proofs.Common.{◌≡◌, ℕ, List, refl, ◌∙◌, ap₂, arith}
use Rattle.price_defs.specs.declared.row.Row.{Row}
use Rattle.price_defs.specs.Loads.{IsValid, value}
use Rattle.price_defs.proofs.laws.Duality.{none_is_cheaper}
use Rattle.cost_defs.specs.Costs.{total}
use Rattle.cert_check.proofs.BorderCosts.{cost_of_list}
use Rattle.cert_check.proofs.Shapes.{ok_is}
use Rattle.cert_check.proofs.checking.check_certificate.Goals as goal

pub returns-clause-answer : goal.returns-clause-answer
returns-clause-answer c = (
  c.in_ok-check_rows.ensures,
  λ B list. c.value_of.ensures
      ∙ ap₂ (λ (h : ℕ) (rows : List Row). value h c.args.certificate.now.q rows) (cost_of_list c.args.points.now c.args.costs.now c.border_cost.result B c.border_cost.ensures.cost list) c.as_slice-rows.ensures,
)

pub returns-clause-border : goal.returns-clause-border
returns-clause-border c = (c.border_cost.ensures.cost.0, c.border_cost.ensures.cost.1)

pub returns-clause-bound : goal.returns-clause-bound
returns-clause-bound c = λ v K e convex distinct.
    let valid : IsValid c.args.points.now c.args.costs.now c.args.certificate.now.q c.args.certificate.now.rows = c.in_ok-check_rows.ensures in
    let has = c.border_cost.ensures.cost in
    let n = none_is_cheaper c.args.points.now c.len-count.ensures.accepted.count.0 c.args.costs.now c.args.certificate.now.q c.args.certificate.now.rows has.0 K valid has.1 convex distinct in
    let a : c.value_of.result ≡ value (total c.args.costs.now has.0) c.args.certificate.now.q c.args.certificate.now.rows =
    c.value_of.ensures
    ∙ ap₂ (λ (h : ℕ) (rows : List Row). value h c.args.certificate.now.q rows) (cost_of_list c.args.points.now c.args.costs.now c.border_cost.result has.0 has has.1) c.as_slice-rows.ensures in
    let b : c.value_of.result ≡ v = ok_is c.value_of.result v _ _ refl refl e in
    omega (arith, n, a, b)
