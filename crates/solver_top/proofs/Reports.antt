-- What `check` has shown at Done, and that what is solved is right.
use Rattle.std.proofs.Common.{◌≡◌, ℕ, ◌+◌, List, [], length, Option, Some, inl, inr, sym, ◌∙◌, ap, subst, slice_index, arith}
use Rattle.std.proofs.lemmas.List.FromFn.{length-map-range_with_len, get_or-map-range_with_len}
use Rattle.plane.specs.Accepted.{AreAccepted}
use Rattle.journal_defs.specs.Journal.{made}
use Rattle.report_io.specs.declared.report.Report.{Report}
use Rattle.report_defs.specs.Laws.{IsSummaryOf}
use Rattle.report_defs.specs.Relation.{IsRight}
use Rattle.std.specs.Io.KnownBytes.{Appends}
use Rattle.report_defs.proofs.laws.Told.{told as right_told, solved}
use Rattle.report_answers.specs.declared.answer.Told.TheVariants as told
use Rattle.solve_report.specs.Reports.{IsSolvedReport}
use Rattle.solver_top.specs.declared.status.Verdict.{Verdict}
use Rattle.solver_top.specs.declared.status.Verdict.TheVariants.{Done, No, Refused}
use Rattle.solver_top.specs.Answers.{ReadsAll}
use Rattle.solver_top.specs.Checking.{IsCheckAnswer, TellsReport}

pub checked_done : (xs : List ℕ) (left : Option (List ℕ)) (verdict : Verdict) (text : List ℕ) (old new : Option (List ℕ)) → verdict ≡ Done
    → ReadsAll IsCheckAnswer xs left verdict text → Appends old new text → (left ≡ Some []) × TellsReport xs old new
checked_done xs left verdict text old new done (inl (took, refused, is)) appends = absurd (let e : Done ≡ Refused = sym done ∙ refused in cc)
checked_done xs left verdict text old new done (inr (few, at_end, (told.Yes, is, (r, (gives, accepted), right, line)))) appends =
    (at_end, (r, gives, right_told r accepted right, subst (Appends old new) line appends))
checked_done xs left verdict text old new done (inr (few, at_end, (told.No, is, h))) appends = absurd (let e : Done ≡ No = sym done ∙ is in cc)
checked_done xs left verdict text old new done (inr (few, at_end, (told.Refused, is, h))) appends = absurd (let e : Done ≡ Refused = sym done ∙ is in cc)

summary_of : (r : Report) (E : ℕ) → IsSolvedReport E r → IsSummaryOf E r
summary_of r E is =
    let s = is.summary in
    record {
      bound = s.bound;
      callers = ap length s.commits ∙ length-map-range_with_len (λ c. made c r.commits) 0 (E + 1);
      commits = λ c few.
          ap (λ l. slice_index l c) s.commits
          ∙ get_or-map-range_with_len (λ k. made k r.commits) 0 (E + 1) c c 0 (omega (arith, few)) (omega arith);
      cost = s.cost;
      edges = s.edges;
      gap = s.gap ∙ sym s.cost;
      optimal = (λ t. s.cost ∙ s.optimal.0 t, λ e. s.optimal.1 (sym s.cost ∙ e));
      version = s.version;
    }

pub solved_right : (r : Report) (E : ℕ) → AreAccepted r.instance.points → IsSolvedReport E r → IsRight r
solved_right r E ok is = solved r E ok is.name is.solved is.value (summary_of r E is)
