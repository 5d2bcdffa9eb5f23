-- The status of a text that was written, and its verdict.
use Rattle.std.proofs.Common.{◌≡◌, ◌≢◌, ℕ, List, Option, ◌⊎◌, inl, inr, refl, sym, ◌∙◌, subst}
use Rattle.solver_top.specs.declared.status.Status.{Status}
use Rattle.solver_top.specs.declared.status.Status.TheVariants as status
use Rattle.solver_top.specs.declared.status.Verdict.{Verdict}
use Rattle.solver_top.specs.declared.status.Verdict.TheVariants.{Done, No, Usage, Refused}
use Rattle.solver_top.specs.Statuses.{status_of, IsWritten}
use Rattle.solver_top.specs.Answers.{IsAnswer}

status_of_same : (v w : Verdict) → status_of v ≡ status_of w → v ≡ w
status_of_same Done Done e = refl
status_of_same No No e = refl
status_of_same Usage Usage e = refl
status_of_same Refused Refused e = refl
status_of_same v w e = absurd (cc)

pub status_of_no_fault : (s : Status) (verdict : Verdict) → s ≡ status_of verdict → s ≢ status.WriteFault
status_of_no_fault s Done e f = cc
status_of_no_fault s No e f = cc
status_of_no_fault s Usage e f = cc
status_of_no_fault s Refused e f = cc

-- the status of a verdict is that of the answer that was written
pub verdict_same : (s : Status) (v w : Verdict) → (s ≡ status_of v) ⊎ (s ≡ status.WriteFault) → s ≡ status_of w → v ≡ w
verdict_same s v w (inl e) f = status_of_same v w (sym e ∙ f)
verdict_same s v w (inr e) f = absurd (status_of_no_fault s w f e)

pub written_same : (s : Status) (v w : Verdict) (text : List ℕ) (old new : Option (List ℕ)) → v ≡ w → IsWritten s v text old new → IsWritten s w text old new
written_same s v w text old new e h = subst (λ x. IsWritten s x text old new) e h

pub answer_same : (words : List (List ℕ)) (xs : List ℕ) (left : Option (List ℕ)) (v w : Verdict) (text : List ℕ) → v ≡ w → IsAnswer words xs left v text → IsAnswer words xs left w text
answer_same words xs left v w text e h = subst (λ x. IsAnswer words xs left x text) e h
