-- The numbers of the report of a solved instance are within the limits of the formats.
use Rattle.std.proofs.Common.{◌≡◌, ℕ, ◌+◌, ◌<◌, ◌≤◌, ◌^◌, List, [], ◌∷◌, ◌++◌, length, count_by, nat_eq, All, inl, inr, subst, sym, length-append, arith}
use Rattle.std.specs.List.{AllByRecursion, Contains}
use Rattle.std.proofs.lemmas.List.Elements.{All-from_recursion, recursion_from_All, Contains-get_or}
use Rattle.std.proofs.lemmas.List.Sums.{count_by-le-length}
use Rattle.plane.specs.declared.coordinates.Point.{Point}
use Rattle.plane.specs.declared.segment.Pair.{Pair}
use Rattle.plane.specs.Accepted.{AreAccepted}
use Rattle.partition_defs.specs.Partition.{AreWithin}
use Rattle.cost_defs.specs.Costs.{Costed}
use Rattle.journal_defs.specs.declared.edit.Edit.{Edit}
use Rattle.journal_defs.specs.declared.edit.Edit.TheVariants.{Drop, Keep, Flip}
use Rattle.journal_defs.specs.declared.commit.Commit.{Commit}
use Rattle.journal_defs.specs.Edits.{State, IsSound, IsLegal, after}
use Rattle.journal_defs.specs.Journal.{AreLegal, AreLegalFrom, after_all, HaveSeqsAfter, HasSize, made, opening}
use Rattle.journal_defs.proofs.laws.Edits.{sound_after, sound_after_all}
use Rattle.journal_defs.proofs.laws.Start.{sound_opening}
use Rattle.price_defs.specs.declared.row.Row.{Row}
use Rattle.price_defs.specs.declared.row.Row.TheVariants.{Half, Three, Cross, Cap}
use Rattle.price_defs.specs.declared.row.Certificate.{Certificate}
use Rattle.price_defs.specs.Rows.{IsRight, AreRight}
use Rattle.price_defs.specs.Limits.{IsIndexed}
use Rattle.solve_defs.specs.Solved.{IsSolved}
use Rattle.report_io.specs.Limits.{AreBelow, IsEditBelow, IsCommitWithin}

pub pairs_below : (S : List Point) (K : List Pair) → AreWithin S K → AreBelow (length S) K
pairs_below S K within k d low = within _ (Contains-get_or K k d low)

right_indexed : (S : List Point) (row : Row) → IsRight S row → IsIndexed S row
right_indexed S (Half p q w) h = (h.0, h.1)
right_indexed S (Three p w) h = h.0
right_indexed S (Cross e f w) h = (h.0, h.1)
right_indexed S (Cap e w) h = h.0

pub rows_indexed : (S : List Point) (rows : List Row) → AreRight S rows → All (IsIndexed S) rows
rows_indexed S rows right k d low = right_indexed S _ (right k d low)

edit_below : (S : List Point) (s : State) (e : Edit) → IsSound S s → IsLegal S s e → IsEditBelow (length S) e
edit_below S s (Drop e) so legal = so.triangulation.within e (so.among e legal.kept)
edit_below S s (Keep e) so legal = so.triangulation.within e legal.there
edit_below S s (Flip e f) so legal = (so.triangulation.within e legal.spare.there, legal.within)

edits_below : (S : List Point) (s : State) (edits : List Edit) → IsSound S s → AreLegal S s edits → AllByRecursion (IsEditBelow (length S)) edits
edits_below S s [] so legal = tt
edits_below S s (e ∷ edits) so (legal, later) = (edit_below S s e so legal, edits_below S (after e s) edits (sound_after S s e so legal) later)

-- commits after those before, from a sound state
commits_after : (S : List Point) (E : ℕ) (s : State) (before J : List Commit) → E ≤ 16 → IsSound S s → AllByRecursion (λ c. c.caller ≤ E) J → AllByRecursion HasSize J
    → AreLegalFrom S s J → HaveSeqsAfter before J → length before + length J < 2 ^ 32 → AllByRecursion (IsCommitWithin (length S)) J
commits_after S E s before [] low so callers sizes legal seqs few = tt
commits_after S E s before (c ∷ J) low so (caller, callers) (size, sizes) (legal, later) (seq, seqs) few =
    let made_few : made c.caller before ≤ length before = count_by-le-length (λ (k : Commit). nat_eq k.caller c.caller) before in
    let longer : length (before ++ c ∷ []) ≡ length before + 1 = length-append before (c ∷ []) in (
      record {
        caller = omega (arith, caller, low);
        first = omega (arith, seq);
        seq = omega (arith, seq, made_few, few);
        size = size;
        edits = All-from_recursion (IsEditBelow (length S)) c.edits (edits_below S s c.edits so legal);
      },
      commits_after S E (after_all c.edits s) (before ++ c ∷ []) J low (sound_after_all S s c.edits so legal) callers sizes later seqs (omega (arith, longer, few)),
    )

pub commits_within : (S : List Point) (D : List Costed) (E : ℕ) (start : List Pair) (J : List Commit) (K : List Pair) (C : Certificate) → E ≤ 16 → AreAccepted S → IsSolved S D E start J K C
    → All (IsCommitWithin (length S)) J
commits_within S D E start J K C low accepted solved =
    All-from_recursion (IsCommitWithin (length S)) J
    (commits_after S E (opening start) [] J low (sound_opening S start accepted solved.ascending solved.triangulation)
    (recursion_from_All (λ c. c.caller ≤ E) J solved.manned.callers) (recursion_from_All HasSize J solved.journal.sizes) solved.journal.edits solved.journal.seqs
    (let a = solved.manned.swept in let b = solved.manned.worked in omega (arith, a, b)))
