use Rattle.std.proofs.Common.{◌≡◌, ◌∙◌, ℕ, List, Ok, Result, ap, sym, inr, unwrap_or}
use Rattle.serde_json.specs.View.{view}
use Rattle.text_defs.specs.Steps.{or_fault}
use Rattle.report_io.specs.declared.summary.Summary.{Summary}
use Rattle.report_io.specs.declared.faults.Field.{Field}
use Rattle.report_io.specs.declared.faults.Field.TheVariants as key
use Rattle.report_io.specs.declared.faults.SummaryLine.TheVariants as sums
use Rattle.report_io.specs.declared.faults.ReportFault.{ReportFault}
use Rattle.report_io.specs.declared.faults.ReportFault.TheVariants as at
use Rattle.report_io.proofs.SummarySteps.{First, Second, no_bound, no_counts, no_cost, no_edges, no_gap, no_optimal, no_version, whole_summary}
use Rattle.report_io.proofs.sums.summary_of.Goals as goal

abbrev bad : Field → ReportFault
bad f = at.Summary (sums.BadField f)

pub returns-in_default : goal.returns-in_default
returns-in_default c = no_bound (view c.args.value.now) (bad key.Bound) (inr (tt, ap (or_fault (bad key.Bound)) (sym c.in_default.ensures.value)))

pub returns-in-Err : goal.returns-in-Err
returns-in-Err c =
    no_counts (view c.args.value.now) c.in-Some.bound c.in-Err.fault (ap (or_fault (bad key.Bound)) (sym c.in-Some.ensures.value)) c.in-Err.ensures

pub returns-in-Err-cost_of : goal.returns-in-Err-cost_of
returns-in-Err-cost_of c =
    let d = view c.args.value.now in
    let first : First d c.in-Some.bound c.in-Ok.commits.items = record { has_bound = ap (or_fault (bad key.Bound)) (sym c.in-Some.ensures.value); has_counts = c.in-Ok.ensures } in
    no_cost d c.in-Some.bound c.in-Ok.commits.items c.in-Err-cost_of.fault first c.in-Err-cost_of.ensures

pub returns-in_default-number_at : goal.returns-in_default-number_at
returns-in_default-number_at c =
    let d = view c.args.value.now in
    let first : First d c.in-Some.bound c.in-Ok.commits.items = record { has_bound = ap (or_fault (bad key.Bound)) (sym c.in-Some.ensures.value); has_counts = c.in-Ok.ensures } in
    no_edges d c.in-Some.bound c.in-Ok.commits.items c.in-Ok-cost_of.stated (bad key.Edges) first c.in-Ok-cost_of.ensures (inr (tt, ap (or_fault (bad key.Edges)) (sym c.in_default-number_at.ensures.value)))

pub returns-in_default-number_at-2 : goal.returns-in_default-number_at-2
returns-in_default-number_at-2 c =
    let d = view c.args.value.now in
    let second : Second d c.in-Some.bound c.in-Ok.commits.items c.in-Ok-cost_of.stated c.in-Some-number_at.edges = record {
      first = record { has_bound = ap (or_fault (bad key.Bound)) (sym c.in-Some.ensures.value); has_counts = c.in-Ok.ensures };
      has_cost = c.in-Ok-cost_of.ensures;
      has_edges = ap (or_fault (bad key.Edges)) (sym c.in-Some-number_at.ensures.value);
    } in
    no_gap d c.in-Some.bound c.in-Ok.commits.items c.in-Ok-cost_of.stated c.in-Some-number_at.edges (bad key.Gap) second (inr (tt, ap (or_fault (bad key.Gap)) (sym c.in_default-number_at-2.ensures.value)))

pub returns-in_default-truth_at : goal.returns-in_default-truth_at
returns-in_default-truth_at c =
    let d = view c.args.value.now in
    let second : Second d c.in-Some.bound c.in-Ok.commits.items c.in-Ok-cost_of.stated c.in-Some-number_at.edges = record {
      first = record { has_bound = ap (or_fault (bad key.Bound)) (sym c.in-Some.ensures.value); has_counts = c.in-Ok.ensures };
      has_cost = c.in-Ok-cost_of.ensures;
      has_edges = ap (or_fault (bad key.Edges)) (sym c.in-Some-number_at.ensures.value);
    } in
    no_optimal d c.in-Some.bound c.in-Ok.commits.items c.in-Ok-cost_of.stated c.in-Some-number_at.edges c.in-Some-number_at-2.gap (bad key.Optimal) second
    (ap (or_fault (bad key.Gap)) (sym c.in-Some-number_at-2.ensures.value)) (inr (tt, ap (or_fault (bad key.Optimal)) (sym c.in_default-truth_at.ensures)))

pub returns-in_default-number_at-3 : goal.returns-in_default-number_at-3
returns-in_default-number_at-3 c =
    let d = view c.args.value.now in
    let second : Second d c.in-Some.bound c.in-Ok.commits.items c.in-Ok-cost_of.stated c.in-Some-number_at.edges = record {
      first = record { has_bound = ap (or_fault (bad key.Bound)) (sym c.in-Some.ensures.value); has_counts = c.in-Ok.ensures };
      has_cost = c.in-Ok-cost_of.ensures;
      has_edges = ap (or_fault (bad key.Edges)) (sym c.in-Some-number_at.ensures.value);
    } in
    no_version d c.in-Some.bound c.in-Ok.commits.items c.in-Ok-cost_of.stated c.in-Some-number_at.edges c.in-Some-number_at-2.gap c.in-Some-truth_at.optimal (bad key.Version) second
    (ap (or_fault (bad key.Gap)) (sym c.in-Some-number_at-2.ensures.value)) (ap (or_fault (bad key.Optimal)) (sym c.in-Some-truth_at.ensures)) (inr (tt, ap (or_fault (bad key.Version)) (sym c.in_default-number_at-3.ensures.value)))

pub returns : goal.returns
returns c =
    let d = view c.args.value.now in
    let second : Second d c.in-Some.bound c.in-Ok.commits.items c.in-Ok-cost_of.stated c.in-Some-number_at.edges = record {
      first = record { has_bound = ap (or_fault (bad key.Bound)) (sym c.in-Some.ensures.value); has_counts = c.in-Ok.ensures };
      has_cost = c.in-Ok-cost_of.ensures;
      has_edges = ap (or_fault (bad key.Edges)) (sym c.in-Some-number_at.ensures.value);
    } in
    let made : List ℕ → ℕ → Result Summary ReportFault = λ counts cost.
    Ok (record { bound = c.in-Some.bound; commits = counts; cost = cost; edges = c.in-Some-number_at.edges; gap = c.in-Some-number_at-2.gap; optimal = c.in-Some-truth_at.optimal; version = c.in-Some-number_at-3.version }) in
    whole_summary d c.in-Some.bound c.in-Ok.commits.items c.in-Ok-cost_of.stated c.in-Some-number_at.edges c.in-Some-number_at-2.gap c.in-Some-truth_at.optimal c.in-Some-number_at-3.version second
    (ap (or_fault (bad key.Gap)) (sym c.in-Some-number_at-2.ensures.value)) (ap (or_fault (bad key.Optimal)) (sym c.in-Some-truth_at.ensures)) (ap (or_fault (bad key.Version)) (sym c.in-Some-number_at-3.ensures.value))
    ∙ (ap (λ counts. made counts (unwrap_or c.in-Ok-cost_of.stated c.in-Some-number_at.edges)) (sym c.make.ensures) ∙ ap (made c.make.result) (sym c.unwrap_or.ensures))
