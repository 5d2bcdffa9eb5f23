-- The reading of the lines behind an instance in steps.
use Rattle.std.proofs.Common.{◌≡◌, ◌⊎◌, ℕ, List, Result, Ok, Err, inl, inr, refl}
use Rattle.report_io.specs.declared.summary.Summary.{Summary}
use Rattle.report_io.specs.declared.faults.ReportFault.{ReportFault}
use Rattle.report_io.specs.declared.faults.ReportFault.TheVariants.{NoMemory}
use Rattle.report_io.specs.Parts.{SolutionParts, CertificateParts, JournalParts}
use Rattle.report_io.specs.Reading.{solution_from, certificate_from, journal_from, summary_from, later_from}
use Rattle.report_io.specs.Answers.{IsLaterKind}

-- the fault, or want of memory
abbrev pub Stops : {A : Type 0} → Result A ReportFault → ReportFault → Type 0
Stops reading f = (f ≡ NoMemory) ⊎ (IsLaterKind f × (reading ≡ Err f))

pub stop_solution : (n : ℕ) (a b c d : List ℕ) (f : ReportFault) → Stops (solution_from n a) f → Stops (later_from n a b c d) f
unfolding later_from
stop_solution n a b c d f (inl m) = inl m
stop_solution n a b c d f (inr e) = inr (e.0, rw e.1 refl)

pub stop_certificate : (n : ℕ) (a b c d : List ℕ) (s : SolutionParts) (f : ReportFault) → solution_from n a ≡ Ok s → Stops (certificate_from n b) f → Stops (later_from n a b c d) f
unfolding later_from
stop_certificate n a b c d s f h (inl m) = inl m
stop_certificate n a b c d s f h (inr e) = inr (e.0, rw (h, e.1) refl)

pub stop_journal : (n : ℕ) (a b c d : List ℕ) (s : SolutionParts) (t : CertificateParts) (f : ReportFault) → solution_from n a ≡ Ok s → certificate_from n b ≡ Ok t
    → Stops (journal_from n c) f → Stops (later_from n a b c d) f
unfolding later_from
stop_journal n a b c d s t f h k (inl m) = inl m
stop_journal n a b c d s t f h k (inr e) = inr (e.0, rw (h, k, e.1) refl)

pub stop_summary : (n : ℕ) (a b c d : List ℕ) (s : SolutionParts) (t : CertificateParts) (j : JournalParts) (f : ReportFault) → solution_from n a ≡ Ok s → certificate_from n b ≡ Ok t
    → journal_from n c ≡ Ok j → Stops (summary_from d) f → Stops (later_from n a b c d) f
unfolding later_from
stop_summary n a b c d s t j f h k l (inl m) = inl m
stop_summary n a b c d s t j f h k l (inr e) = inr (e.0, rw (h, k, l, e.1) refl)

pub all_lines : (n : ℕ) (a b c d : List ℕ) (s : SolutionParts) (t : CertificateParts) (j : JournalParts) (m : Summary) → solution_from n a ≡ Ok s → certificate_from n b ≡ Ok t
    → journal_from n c ≡ Ok j → summary_from d ≡ Ok m → later_from n a b c d ≡ Ok (record { solution = s; certificate = t; journal = j; summary = m })
unfolding later_from
all_lines n a b c d s t j m h k l e = rw (h, k, l, e) refl
