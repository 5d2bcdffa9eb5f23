-- What the formats read, of the parts of a report by the ends of their pairs.
use Rattle.std.specs.Prelude.{ℕ, ◌<◌, ◌≤◌, ◌^◌, List, length}
use Rattle.std.specs.Str.{IsUtf8}
use Rattle.text_defs.proofs.laws.IsPlain.{Each, IsEdge}
use Rattle.report_io.specs.Parts.{EditItem, dropped, kept, flipped, RowItem, half, three, cross, cap, CommitItem, SolutionParts, CertificateParts, JournalParts, LaterParts}
use Rattle.report_io.specs.Reading.{most_weight, most_divisor, most_callers, most_start, most_commits}
use Rattle.report_io.specs.Limits.{IsSummaryWithin}

abbrev pub IsEditItem : ℕ → EditItem → Type 0
IsEditItem n (dropped e) = IsEdge n e
IsEditItem n (kept e) = IsEdge n e
IsEditItem n (flipped e f) = IsEdge n e × IsEdge n f

abbrev pub IsRowItem : ℕ → RowItem → Type 0
IsRowItem n (half p q w) = (p < n) × (q < n) × (w ≤ most_weight)
IsRowItem n (three p w) = (p < n) × (w ≤ most_weight)
IsRowItem n (cross e f w) = IsEdge n e × IsEdge n f × (w ≤ most_weight)
IsRowItem n (cap e w) = IsEdge n e × (w ≤ most_weight)

pub record IsCommitItem (n : ℕ) (c : CommitItem) : Type 0 where
  pub caller : c.caller ≤ most_callers
  pub first : 1 ≤ c.seq
  pub seq : c.seq < 2 ^ 32
  pub some : 1 ≤ length c.edits
  pub few : length c.edits ≤ 8
  pub edits : Each (IsEditItem n) c.edits

pub record AreSolutionParts (n : ℕ) (s : SolutionParts) : Type 0 where
  pub few : length s.pairs ≤ 20000
  pub pairs : Each (IsEdge n) s.pairs

pub record AreCertificateParts (n : ℕ) (c : CertificateParts) : Type 0 where
  pub q : c.q ≤ most_divisor
  pub rows : Each (IsRowItem n) c.rows
  pub value : c.value < 2 ^ 63

pub record AreJournalParts (n : ℕ) (j : JournalParts) : Type 0 where
  pub few : length j.start ≤ most_start
  pub start : Each (IsEdge n) j.start
  pub short : length j.commits ≤ most_commits
  pub commits : Each (IsCommitItem n) j.commits

pub record AreLaterParts (n : ℕ) (r : LaterParts) : Type 0 where
  pub solution : AreSolutionParts n r.solution
  pub certificate : AreCertificateParts n r.certificate
  pub journal : AreJournalParts n r.journal
  pub summary : IsSummaryWithin r.summary
