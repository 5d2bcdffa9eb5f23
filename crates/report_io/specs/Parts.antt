-- The parts of a report as its text gives them: pairs by their ends, the smaller first. (This project's own.)
use Rattle.std.specs.Prelude.{ℕ, List}
use Rattle.report_io.specs.declared.summary.Summary.{Summary}

pub data EditItem : Type 0 where
  dropped : ℕ × ℕ → EditItem
  kept : ℕ × ℕ → EditItem
  flipped : ℕ × ℕ → ℕ × ℕ → EditItem

-- a half row has its two points and its weight, a three row its point, a cross row its two pairs, a cap row its pair
pub data RowItem : Type 0 where
  half : ℕ → ℕ → ℕ → RowItem
  three : ℕ → ℕ → RowItem
  cross : ℕ × ℕ → ℕ × ℕ → ℕ → RowItem
  cap : ℕ × ℕ → ℕ → RowItem

pub record CommitItem : Type 0 where
  pub caller : ℕ
  pub seq : ℕ
  pub edits : List EditItem

pub record SolutionParts : Type 0 where
  pub name : List ℕ
  pub pairs : List (ℕ × ℕ)

pub record CertificateParts : Type 0 where
  pub q : ℕ
  pub rows : List RowItem
  pub value : ℕ

pub record JournalParts : Type 0 where
  pub start : List (ℕ × ℕ)
  pub commits : List CommitItem

-- what stands behind the line of the instance
pub record LaterParts : Type 0 where
  pub solution : SolutionParts
  pub certificate : CertificateParts
  pub journal : JournalParts
  pub summary : Summary
