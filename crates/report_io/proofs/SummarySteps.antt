-- The reading of a summary in steps.
use Rattle.std.proofs.Common.{◌≡◌, ◌⊎◌, ℕ, List, Bool, Option, Result, Ok, Err, codes, unwrap_or, inl, inr, refl}
use Rattle.serde_json.specs.Data.{Data}
use Rattle.serde_json.specs.Find.{as_bool}
use Rattle.text_defs.specs.Items.{number_within}
use Rattle.report_io.specs.declared.summary.Summary.{Summary}
use Rattle.report_io.specs.declared.faults.Field.TheVariants as key
use Rattle.report_io.specs.declared.faults.ReportFault.{ReportFault}
use Rattle.report_io.specs.Reading.{summary_in, field, is_second, cost_in, counts_of, most_32, most_64}
use Rattle.report_io.proofs.LaterSteps.{Stops}

abbrev pub bound_in : Data → Result ℕ ReportFault
bound_in d = field key.Bound (codes "bound") (number_within 0 most_64) d

abbrev pub numbers_in : Data → Result (List ℕ) ReportFault
numbers_in d = field key.Commits (codes "commits") counts_of d

abbrev pub edges_in : Data → Result ℕ ReportFault
edges_in d = field key.Edges (codes "edges") (number_within 0 most_32) d

abbrev pub gap_in : Data → Result ℕ ReportFault
gap_in d = field key.Gap (codes "gap") (number_within 0 most_64) d

abbrev pub optimal_in : Data → Result Bool ReportFault
optimal_in d = field key.Optimal (codes "optimal") as_bool d

abbrev pub version_in : Data → Result ℕ ReportFault
version_in d = field key.Version (codes "version") (number_within 1 2) d

-- the fields before the one that is looked at
pub record First (d : Data) (bound : ℕ) (counts : List ℕ) : Type 0 where
  pub has_bound : bound_in d ≡ Ok bound
  pub has_counts : numbers_in d ≡ Ok counts

pub record Second (d : Data) (bound : ℕ) (counts : List ℕ) (cost : Option ℕ) (edges : ℕ) : Type 0 where
  pub first : First d bound counts
  pub has_cost : cost_in (is_second d) d ≡ Ok cost
  pub has_edges : edges_in d ≡ Ok edges

pub no_bound : (d : Data) (f : ReportFault) → Stops (bound_in d) f → Stops (summary_in d) f
unfolding summary_in
no_bound d f (inl m) = inl m
no_bound d f (inr e) = inr (e.0, rw e.1 refl)

pub no_counts : (d : Data) (bound : ℕ) (f : ReportFault) → bound_in d ≡ Ok bound → Stops (numbers_in d) f → Stops (summary_in d) f
unfolding summary_in
no_counts d bound f h (inl m) = inl m
no_counts d bound f h (inr e) = inr (e.0, rw (h, e.1) refl)

pub no_cost : (d : Data) (bound : ℕ) (counts : List ℕ) (f : ReportFault) → First d bound counts → Stops (cost_in (is_second d) d) f → Stops (summary_in d) f
unfolding summary_in
no_cost d bound counts f h (inl m) = inl m
no_cost d bound counts f h (inr e) = let b = h.has_bound in let c = h.has_counts in inr (e.0, rw (b, c, e.1) refl)

pub no_edges : (d : Data) (bound : ℕ) (counts : List ℕ) (cost : Option ℕ) (f : ReportFault) → First d bound counts → cost_in (is_second d) d ≡ Ok cost → Stops (edges_in d) f → Stops (summary_in d) f
unfolding summary_in
no_edges d bound counts cost f h k (inl m) = inl m
no_edges d bound counts cost f h k (inr e) = let b = h.has_bound in let c = h.has_counts in inr (e.0, rw (b, c, k, e.1) refl)

pub no_gap : (d : Data) (bound : ℕ) (counts : List ℕ) (cost : Option ℕ) (edges : ℕ) (f : ReportFault) → Second d bound counts cost edges → Stops (gap_in d) f → Stops (summary_in d) f
unfolding summary_in
no_gap d bound counts cost edges f h (inl m) = inl m
no_gap d bound counts cost edges f h (inr e) = let b = h.first.has_bound in let c = h.first.has_counts in let k = h.has_cost in let l = h.has_edges in inr (e.0, rw (b, c, k, l, e.1) refl)

pub no_optimal : (d : Data) (bound : ℕ) (counts : List ℕ) (cost : Option ℕ) (edges gap : ℕ) (f : ReportFault) → Second d bound counts cost edges → gap_in d ≡ Ok gap → Stops (optimal_in d) f → Stops (summary_in d) f
unfolding summary_in
no_optimal d bound counts cost edges gap f h g (inl m) = inl m
no_optimal d bound counts cost edges gap f h g (inr e) = let b = h.first.has_bound in let c = h.first.has_counts in let k = h.has_cost in let l = h.has_edges in inr (e.0, rw (b, c, k, l, g, e.1) refl)

pub no_version : (d : Data) (bound : ℕ) (counts : List ℕ) (cost : Option ℕ) (edges gap : ℕ) (optimal : Bool) (f : ReportFault) → Second d bound counts cost edges → gap_in d ≡ Ok gap → optimal_in d ≡ Ok optimal
    → Stops (version_in d) f → Stops (summary_in d) f
unfolding summary_in
no_version d bound counts cost edges gap optimal f h g o (inl m) = inl m
no_version d bound counts cost edges gap optimal f h g o (inr e) = let b = h.first.has_bound in let c = h.first.has_counts in let k = h.has_cost in let l = h.has_edges in inr (e.0, rw (b, c, k, l, g, o, e.1) refl)

pub whole_summary : (d : Data) (bound : ℕ) (counts : List ℕ) (cost : Option ℕ) (edges gap : ℕ) (optimal : Bool) (version : ℕ) → Second d bound counts cost edges → gap_in d ≡ Ok gap → optimal_in d ≡ Ok optimal → version_in d ≡ Ok version
    → summary_in d ≡ Ok (record { bound = bound; commits = counts; cost = unwrap_or cost edges; edges = edges; gap = gap; optimal = optimal; version = version })
unfolding summary_in
whole_summary d bound counts cost edges gap optimal version h g o v = let b = h.first.has_bound in let c = h.first.has_counts in let k = h.has_cost in let l = h.has_edges in rw (b, c, k, l, g, o, v) refl
