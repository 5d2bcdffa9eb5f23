-- What a reader of a solved instance may rest on.
use Rattle.std.proofs.Common.{◌≡◌, ℕ, ◌≤◌, List, ◌++◌, length, sym, subst}
use Rattle.plane.specs.declared.coordinates.Point.{Point}
use Rattle.plane.specs.declared.segment.Pair.{Pair}
use Rattle.plane.specs.Accepted.{AreAccepted}
use Rattle.partition_defs.specs.Partition.{IsConvexPartition}
use Rattle.partition_defs.specs.Triangulation.{AreDistinct}
use Rattle.cost_defs.specs.Costs.{Costed, total}
use Rattle.journal_defs.specs.declared.commit.Commit.{Commit}
use Rattle.journal_defs.specs.Edits.{IsSound}
use Rattle.journal_defs.specs.Journal.{IsLegalJournal, replay}
use Rattle.journal_defs.proofs.laws.Later.{legal_prefix}
use Rattle.journal_defs.proofs.laws.Start.{sound_legal}
use Rattle.price_defs.specs.declared.row.Certificate.{Certificate}
use Rattle.price_defs.proofs.laws.Duality.{none_is_cheaper}
use Rattle.solve_defs.specs.Solved.{IsBound, IsSolved}

-- Each beginning of the journal is legal, and leads to a convex partition.
pub history : (S : List Point) (D : List Costed) (E : ℕ) (start : List Pair) (J A L : List Commit) (K : List Pair) (C : Certificate)
    → AreAccepted S → IsSolved S D E start J K C → J ≡ A ++ L → IsLegalJournal S start A × IsConvexPartition S (replay start A).kept
history S D E start J A L K C accepted solved is =
    let legal : IsLegalJournal S start A = legal_prefix S start A L (subst (λ (M : List Commit). IsLegalJournal S start M) is solved.journal) in
    let so : IsSound S (replay start A) = sound_legal S start A accepted solved.ascending solved.triangulation legal.edits in
    (legal, so.partition)

-- No convex partition costs less than the bound.
pub none_below : (S : List Point) (D : List Costed) (E : ℕ) (start : List Pair) (J : List Commit) (K : List Pair) (C : Certificate) (v : ℕ) (L : List Pair)
    → 3 ≤ length S → IsSolved S D E start J K C → IsBound S D C v → IsConvexPartition S L → AreDistinct L → v ≤ total D L
none_below S D E start J K C v L many solved (B, list, is) convex distinct =
    subst (λ n. n ≤ total D L) (sym is) (none_is_cheaper S many D C.q C.rows B L solved.valid list convex distinct)
