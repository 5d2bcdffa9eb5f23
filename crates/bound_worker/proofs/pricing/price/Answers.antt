use Rattle.std.proofs.Common.{◌≡◌, ◌≤◌, ◌*◌, ℕ, List, sym, ◌∙◌, ap, ap₂, subst, arith}
use Rattle.std.proofs.lemmas.Grind.{common_steps}
use Rattle.price_defs.specs.declared.row.Row.{Row}
use Rattle.price_defs.specs.Limits.{AreLight}
use Rattle.price_defs.specs.Loads.{IsValid, value}
use Rattle.price_defs.specs.Tight.{IsTight}
use Rattle.raise_laws.specs.Laws.{IsGood}
use Rattle.search_defs.specs.Priced.{factor, scaled, IsPriced, AreRounds}
use Rattle.search_defs.specs.Words.{round_words}
use Rattle.dual_prices.proofs.laws.InPlace.{valid_light}
use Rattle.bound_worker.proofs.Runs.{IsBegun, begun_valid, begun_tight, begun_lost, IsRun, run_priced, run_good, run_light}
use Rattle.bound_worker.proofs.pricing.price.Goals as goal

begun_of : (c : goal.After-as_slice) → IsBegun c.args.start.now.q c.args.start.now.rows (c.args.start.now.q * c.factor_of-factor.result) c.in_ok-scaled.scaled.items
begun_of c =
    let f : c.factor_of-factor.result ≡ factor c.args.start.now.q c.args.start.now.rows = c.factor_of-factor.ensures ∙ ap (factor c.args.start.now.q) c.as_slice-rows.ensures in
    record {
      divisor = ap (λ (n : ℕ). c.args.start.now.q * n) f;
      rows_are = c.in_ok-scaled.ensures ∙ ap₂ scaled f c.as_slice-rows.ensures;
    }

run_of : (c : goal.After-drop-inner-2) → IsRun c.args.points.now c.args.costs.now c.in_ok-inner.inner.items c.args.stream c.args.seed c.args.rounds c.args.start.now.q c.args.start.now.rows (c.args.start.now.q * c.factor_of-factor.result) c.in_ok-scaled.scaled.items c.in_ok-rows.rows.items
run_of c =
    let f : c.factor_of-factor.result ≡ factor c.args.start.now.q c.args.start.now.rows = c.factor_of-factor.ensures ∙ ap (factor c.args.start.now.q) c.as_slice-rows.ensures in
    record {
      begun = record { divisor = ap (λ (n : ℕ). c.args.start.now.q * n) f; rows_are = c.in_ok-scaled.ensures ∙ ap₂ scaled f c.as_slice-rows.ensures };
      list = c.in_ok-inner.ensures;
      some_rounds = omega (arith, c.if-rounds-eq0.false);
      some_inner = grind (arith, common_steps);
      run = subst (λ (x : List ℕ). AreRounds c.args.points.now c.args.costs.now (c.args.start.now.q * c.factor_of-factor.result) x (round_words c.args.stream c.args.seed 0 c.args.rounds) c.in_ok-scaled.scaled.items c.in_ok-rows.rows.items) c.as_slice.ensures.value c.in_ok-rows.ensures.rounds;
      takers = c.in_ok-rows.ensures.takers;
    }

good_of : (c : goal.After-drop-inner-2) (h : ℕ) → IsGood c.args.points.now c.args.costs.now (c.args.start.now.q * c.factor_of-factor.result) c.in_ok-rows.rows.items
    × (value h c.args.start.now.q c.args.start.now.rows ≤ value h (c.args.start.now.q * c.factor_of-factor.result) c.in_ok-rows.rows.items)
good_of c h =
    run_good c.args.points.now c.args.costs.now c.in_ok-inner.inner.items c.args.stream c.args.seed c.args.rounds c.args.start.now.q c.args.start.now.rows (c.args.start.now.q * c.factor_of-factor.result) c.in_ok-scaled.scaled.items c.in_ok-rows.rows.items
    h c.len-count.ensures.accepted (run_of c) (record { valid = c.requires.valid; tight = c.requires.tight })

pub returns-then-rounds-eq0-clause-light : goal.returns-then-rounds-eq0-clause-light
returns-then-rounds-eq0-clause-light c =
    subst AreLight (sym (c.make.ensures ∙ c.in_ok-from_slice.ensures.items ∙ c.as_slice-rows.ensures))
    (valid_light c.args.points.now c.args.costs.now c.args.start.now.q c.args.start.now.rows c.len-count.ensures.accepted c.requires.valid c.requires.takers c.requires.divisor c.list-listed.ensures.costs.within)

pub scaled_rows-requires-clause-light : goal.scaled_rows-requires-clause-light
scaled_rows-requires-clause-light c =
    subst AreLight (sym c.as_slice-rows.ensures)
    (valid_light c.args.points.now c.args.costs.now c.args.start.now.q c.args.start.now.rows c.len-count.ensures.accepted c.requires.valid c.requires.takers c.requires.divisor c.list-listed.ensures.costs.within)

pub rounds_of-requires-clause-valid : goal.rounds_of-requires-clause-valid
rounds_of-requires-clause-valid c = begun_valid c.args.points.now c.args.costs.now c.args.start.now.q c.args.start.now.rows (c.args.start.now.q * c.factor_of-factor.result) c.in_ok-scaled.scaled.items (begun_of c) c.requires.valid

pub rounds_of-requires-clause-tight : goal.rounds_of-requires-clause-tight
rounds_of-requires-clause-tight c = begun_tight c.args.points.now c.args.costs.now c.args.start.now.q c.args.start.now.rows (c.args.start.now.q * c.factor_of-factor.result) c.in_ok-scaled.scaled.items (begun_of c) c.requires.tight

pub rounds_of-requires-clause-takers : goal.rounds_of-requires-clause-takers
rounds_of-requires-clause-takers c = omega (arith, begun_lost c.args.start.now.q c.args.start.now.rows (c.args.start.now.q * c.factor_of-factor.result) c.in_ok-scaled.scaled.items (begun_of c), c.requires.takers)

pub returns-clause-priced : goal.returns-clause-priced
returns-clause-priced c = (
  c.in_ok-inner.inner.items,
  c.in_ok-inner.ensures,
  subst (IsPriced c.args.points.now c.args.costs.now c.in_ok-inner.inner.items (round_words c.args.stream c.args.seed 0 c.args.rounds) c.args.start.now.q c.args.start.now.rows (c.args.start.now.q * c.factor_of-factor.result)) (sym c.make-2.ensures)
      (run_priced c.args.points.now c.args.costs.now c.in_ok-inner.inner.items c.args.stream c.args.seed c.args.rounds c.args.start.now.q c.args.start.now.rows (c.args.start.now.q * c.factor_of-factor.result) c.in_ok-scaled.scaled.items c.in_ok-rows.rows.items (run_of c)),
)

pub returns-clause-valid : goal.returns-clause-valid
returns-clause-valid c = let g = good_of c 0 in subst (IsValid c.args.points.now c.args.costs.now (c.args.start.now.q * c.factor_of-factor.result)) (sym c.make-2.ensures) g.0.valid

pub returns-clause-tight : goal.returns-clause-tight
returns-clause-tight c = let g = good_of c 0 in subst (IsTight c.args.points.now c.args.costs.now (c.args.start.now.q * c.factor_of-factor.result)) (sym c.make-2.ensures) g.0.tight

pub returns-clause-light : goal.returns-clause-light
returns-clause-light c =
    subst AreLight (sym c.make-2.ensures)
    (run_light c.args.points.now c.args.costs.now c.in_ok-inner.inner.items c.args.stream c.args.seed c.args.rounds c.args.start.now.q c.args.start.now.rows (c.args.start.now.q * c.factor_of-factor.result) c.in_ok-scaled.scaled.items c.in_ok-rows.rows.items
    c.len-count.ensures.accepted (run_of c) (record { valid = c.requires.valid; tight = c.requires.tight }) c.requires.divisor c.list-listed.ensures.costs.within)

pub returns-clause-value : goal.returns-clause-value
returns-clause-value c = λ h. subst (λ (x : List Row). value h c.args.start.now.q c.args.start.now.rows ≤ value h (c.args.start.now.q * c.factor_of-factor.result) x) (sym c.make-2.ensures) (good_of c h).1
