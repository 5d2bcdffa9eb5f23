use Rattle.std.proofs.Common.{◌≡◌, ◌<◌, ℕ, length, sym, ◌∙◌, ap, subst, arith}
use Rattle.price_defs.specs.declared.row.Row.TheVariants.{Half}
use Rattle.price_defs.specs.Limits.{AreLight}
use Rattle.price_defs.specs.Loads.{IsValid, value}
use Rattle.price_defs.specs.Rows.{IsRight}
use Rattle.search_defs.proofs.laws.Trials.{round_right}
use Rattle.search_defs.specs.Priced.{IsTrial}
use Rattle.dual_prices.proofs.laws.InPlace.{valid_light}
use Rattle.bound_worker.proofs.Rounds.{drawn_right, trial_valid, round_taken, round_left}
use Rattle.bound_worker.proofs.trial.round.Goals as goal

pub other_of-r-requires : goal.other_of-r-requires
other_of-r-requires c =
    subst (λ (n : ℕ). n < length c.args.points.now) (sym c.inner_of-p.ensures) (round_right c.args.points.now c.args.inner.now c.args.a c.args.b c.len-count.ensures.accepted.count.0 c.requires.inner c.requires.some).0

pub trial-requires-clause-right : goal.trial-requires-clause-right
trial-requires-clause-right c =
    drawn_right c.args.points.now c.args.inner.now c.args.a c.args.b c.inner_of-p.result c.other_of-r.result (record { first = c.inner_of-p.ensures; second = c.other_of-r.ensures }) c.len-count.ensures.accepted.count.0 c.requires.inner c.requires.some

pub value_of-requires-clause-light : goal.value_of-requires-clause-light
value_of-requires-clause-light c =
    subst AreLight (sym c.as_slice.ensures.value) (valid_light c.args.points.now c.args.costs.now c.args.q c.args.present.rows.items c.len-count.ensures.accepted c.requires.valid c.requires.takers c.requires.small c.list-listed.ensures.costs.within)

pub value_of-requires-2-clause-few : goal.value_of-requires-2-clause-few
value_of-requires-2-clause-few c =
    let right : IsRight c.args.points.now (Half c.inner_of-p.result c.other_of-r.result 0) =
    drawn_right c.args.points.now c.args.inner.now c.args.a c.args.b c.inner_of-p.result c.other_of-r.result (record { first = c.inner_of-p.ensures; second = c.other_of-r.ensures }) c.len-count.ensures.accepted.count.0 c.requires.inner c.requires.some in
    let is : IsTrial c.args.points.now c.args.costs.now c.args.q c.inner_of-p.result c.other_of-r.result c.args.present.rows.items c.in_ok-trial.trial.rows.items =
    c.in_ok-trial.ensures.trial in
    let v : IsValid c.args.points.now c.args.costs.now c.args.q c.in_ok-trial.trial.rows.items =
    trial_valid c.args.points.now c.args.costs.now c.args.q c.inner_of-p.result c.other_of-r.result c.args.present.rows.items c.in_ok-trial.trial.rows.items right is c.requires.valid in
    omega (arith, c.as_slice-2.ensures.len, v.count)

pub returns-then-value_of-clause-round : goal.returns-then-value_of-clause-round
returns-then-value_of-clause-round c =
    round_taken c.args.points.now c.args.costs.now c.args.q c.args.inner.now c.args.a c.args.b c.inner_of-p.result c.other_of-r.result c.args.present.rows.items c.in_ok-trial.trial.rows.items
    (record { first = c.inner_of-p.ensures; second = c.other_of-r.ensures })
    c.in_ok-trial.ensures.trial
    (let a : c.value_of.result ≡ value 0 c.args.q c.args.present.rows.items = c.value_of.ensures ∙ ap (value 0 c.args.q) c.as_slice.ensures.value in
    let b : c.value_of-2.result ≡ value 0 c.args.q c.in_ok-trial.trial.rows.items = c.value_of-2.ensures ∙ ap (value 0 c.args.q) c.as_slice-2.ensures.value in
    omega (arith, c.if-value_of.true, a, b))

pub returns-else-value_of-clause-round : goal.returns-else-value_of-clause-round
returns-else-value_of-clause-round c =
    round_left c.args.points.now c.args.costs.now c.args.q c.args.inner.now c.args.a c.args.b c.inner_of-p.result c.other_of-r.result c.args.present.rows.items c.in_ok-trial.trial.rows.items
    (record { first = c.inner_of-p.ensures; second = c.other_of-r.ensures })
    c.in_ok-trial.ensures.trial
    (let a : c.value_of.result ≡ value 0 c.args.q c.args.present.rows.items = c.value_of.ensures ∙ ap (value 0 c.args.q) c.as_slice.ensures.value in
    let b : c.value_of-2.result ≡ value 0 c.args.q c.in_ok-trial.trial.rows.items = c.value_of-2.ensures ∙ ap (value 0 c.args.q) c.as_slice-2.ensures.value in
    omega (arith, c.if-value_of.false, a, b))
