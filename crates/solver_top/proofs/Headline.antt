-- What `solve` has written at Done, and what a reader of it may rest on.
use Rattle.std.proofs.Common.{◌≡◌, ℕ, List, [], Option, Some, inl, inr, sym, ◌∙◌, subst}
use Rattle.std.specs.Io.KnownBytes.{Appends}
use Rattle.solve_report.specs.Headline.{IsConvexThroughout, IsLastAndMinimal, NoneIsBelowBound, TellsOptimal}
use Rattle.solve_report.proofs.laws.Headlines.{convex_throughout, last_and_minimal, none_below_bound, tells_optimal}
use Rattle.solver_top.specs.declared.status.Verdict.{Verdict}
use Rattle.solver_top.specs.declared.status.Verdict.TheVariants.{Done, Refused}
use Rattle.solver_top.specs.Answers.{ReadsAll}
use Rattle.solver_top.specs.Solving.{IsSolvedFrom, IsSolveAnswer, Reports}

done_not_refused : Done ≡ Refused → ⊥
done_not_refused e = cc

-- an answer that is Done is the text of a report
pub solved_done : (E B rounds seed : ℕ) (xs : List ℕ) (left : Option (List ℕ)) (verdict : Verdict) (text : List ℕ) (old new : Option (List ℕ)) → verdict ≡ Done
    → ReadsAll (IsSolveAnswer E B rounds seed) xs left verdict text → Appends old new text → (left ≡ Some []) × Reports (IsSolvedFrom xs E B rounds seed) old new
solved_done E B rounds seed xs left verdict text old new done (inl (took, refused, is)) appends = absurd (done_not_refused (sym done ∙ refused))
solved_done E B rounds seed xs left verdict text old new done (inr (few, at_end, answer)) appends =
    let (r, solved, is) = subst (λ (v : Verdict). IsSolveAnswer E B rounds seed xs v text) done answer in
    (at_end, (r, subst (Appends old new) is appends, solved))

pub reports_history : (E B rounds seed : ℕ) (xs : List ℕ) (old new : Option (List ℕ)) → Reports (IsSolvedFrom xs E B rounds seed) old new → Reports IsConvexThroughout old new
reports_history E B rounds seed xs old new (r, appends, h) = (r, appends, convex_throughout E r h.accepted h.solved)

pub reports_last : (E B rounds seed : ℕ) (xs : List ℕ) (old new : Option (List ℕ)) → Reports (IsSolvedFrom xs E B rounds seed) old new → Reports IsLastAndMinimal old new
reports_last E B rounds seed xs old new (r, appends, h) = (r, appends, last_and_minimal E r h.accepted h.solved)

pub reports_bound : (E B rounds seed : ℕ) (xs : List ℕ) (old new : Option (List ℕ)) → Reports (IsSolvedFrom xs E B rounds seed) old new → Reports NoneIsBelowBound old new
reports_bound E B rounds seed xs old new (r, appends, h) = (r, appends, none_below_bound E r h.accepted h.solved)

pub reports_optimal : (E B rounds seed : ℕ) (xs : List ℕ) (old new : Option (List ℕ)) → Reports (IsSolvedFrom xs E B rounds seed) old new → Reports TellsOptimal old new
reports_optimal E B rounds seed xs old new (r, appends, h) = (r, appends, tells_optimal E r h.solved)
