-- What is kept of a core makes it the replay of its journal.
use Rattle.std.proofs.Common.{◌≡◌, ℕ, ◌+◌, ◌<◌, ◌≤◌, List, [], ◌∷◌, ◌++◌, length, arith, sym, ◌∙◌, ap, subst, refl}
use Rattle.std.proofs.lemmas.List.{length-append}
use Rattle.plane.specs.declared.coordinates.Point.{Point}
use Rattle.plane.specs.declared.segment.Pair.{Pair}
use Rattle.plane.specs.Accepted.{AreAccepted}
use Rattle.partition_defs.specs.Ascending.{IsAscending}
use Rattle.partition_defs.specs.Triangulation.{IsTriangulation}
use Rattle.star.specs.Stars.{Seen}
use Rattle.star.specs.StarOf.{IsStarOf}
use Rattle.subdivision.specs.Layout.{Layout, IsSubdivision, star_or_none}
use Rattle.journal_defs.specs.Table.{seen_of}
use Rattle.journal_defs.specs.declared.commit.Commit.{Commit}
use Rattle.journal_defs.specs.Edits.{State, IsSound}
use Rattle.journal_defs.specs.Journal.{replay, opening, after_all, AreLegal, IsLegalJournal, HasSize, made}
use Rattle.journal_defs.proofs.laws.Start.{sound_legal}
use Rattle.journal_defs.proofs.laws.Journal.{replay_append}
use Rattle.journal_defs.proofs.laws.Later.{legal_more}
use Rattle.replay.specs.declared.counts.Counts.{Counts}
use Rattle.replay.specs.declared.machine.TheConstants.{MOST_COMMITS}
use Rattle.replay.specs.Replayed.{IsCore}
use Rattle.replay.specs.Machine.{IsMachine, AreCounts, layers}
use Rattle.replay.specs.Edited.{IsSoundLayout, HasTurned}
use Rattle.replay.specs.Room.{IsSameSubdivision}
use Rattle.replay.proofs.Changed.{layers_one}
use Rattle.replay.proofs.Edited.{star_got}

pub machine_sound : (S : List Point) (start : List Pair) (J : List Commit) (all : Layout) (counts : Counts) → AreAccepted S → IsMachine S start J all counts → IsSound S (replay start J)
machine_sound S start J all counts accepted m = sound_legal S start J accepted m.ascending m.triangulation m.legal.edits

pub core_of : (S : List Point) (start : List Pair) (J : List Commit) (n : ℕ) (all : Layout) (counts : Counts) → AreAccepted S → IsMachine S start J all counts
    → IsCore (record { points = S; start = start; journal = J; spare = n })
core_of S start J n all counts accepted m = record {
  ascending = m.ascending;
  triangulation = m.triangulation;
  legal = m.legal;
  few = m.few;
  sound = machine_sound S start J all counts accepted m;
}

-- the subdivision of a core is sound
pub machine_layout : (S : List Point) (start : List Pair) (J : List Commit) (all : Layout) (counts : Counts) → AreAccepted S → IsMachine S start J all counts → IsSoundLayout S all
machine_layout S start J all counts accepted m = record {
  of = sym m.of;
  subdivision = m.subdivision;
  sound = subst (IsSound S) (sym m.state) (machine_sound S start J all counts accepted m);
}

-- at first nothing has been committed
pub machine_first : (S : List Point) (all : Layout) (counts : Counts) → AreAccepted S → all.points ≡ S → all.kept ≡ all.all → IsSubdivision all → AreCounts [] counts → IsMachine S all.all [] all counts
machine_first S all counts accepted of kept sub counted = record {
  ascending = sub.ascending;
  triangulation = subst (λ P. IsTriangulation P all.all) of sub.agreed.triangulation;
  legal = record { sizes = λ k d h. absurd (omega (arith, h)); edits = tt; seqs = tt };
  few = omega arith;
  of = of;
  subdivision = sub;
  state = layers_one all (opening all.all) refl kept;
  counted = counted;
}

-- one commit more
pub machine_more : (S : List Point) (start : List Pair) (J : List Commit) (all new : Layout) (counts next : Counts) (c : Commit) → IsMachine S start J all counts → HasSize c → c.seq ≡ made c.caller J + 1
    → AreLegal S (layers all) c.edits → HasTurned (after_all c.edits (layers all)) all new → length J < MOST_COMMITS → AreCounts (J ++ c ∷ []) next → IsMachine S start (J ++ c ∷ []) new next
machine_more S start J all new counts next c m size seq legal turned few counted = record {
  ascending = m.ascending;
  triangulation = m.triangulation;
  legal = legal_more S start J c m.legal size (subst (λ s. AreLegal S s c.edits) m.state legal) seq;
  few = omega (arith, length-append J (c ∷ []), few);
  of = turned.points ∙ m.of;
  subdivision = turned.subdivision;
  state = turned.state ∙ ap (after_all c.edits) m.state ∙ sym (replay_append J (c ∷ []) (opening start));
  counted = counted;
}

-- the same journal, with a subdivision that has more room
pub machine_same : (S : List Point) (start : List Pair) (J : List Commit) (all new : Layout) (counts : Counts) → IsMachine S start J all counts → IsSameSubdivision all new → IsMachine S start J new counts
machine_same S start J all new counts m same = record {
  ascending = m.ascending;
  triangulation = m.triangulation;
  legal = m.legal;
  few = m.few;
  of = same.points ∙ m.of;
  subdivision = same.subdivision;
  state = same.state ∙ m.state;
  counted = m.counted;
}

-- the core of these parts, with its room
pub core_as : (S : List Point) (start : List Pair) (J K : List Commit) (n : ℕ) (all : Layout) (counts : Counts) → AreAccepted S → K ≡ J → IsMachine S start J all counts
    → IsCore (record { points = S; start = start; journal = K; spare = n })
core_as S start J K n all counts accepted same m =
    let F : List Commit → Type 0 = λ x. IsCore (record { points = S; start = start; journal = x; spare = n }) in
    subst F (sym same) (core_of S start J n all counts accepted m)

pub machine_as : (S : List Point) (start : List Pair) (J K : List Commit) (all : Layout) (counts : Counts) → K ≡ J → IsMachine S start J all counts → IsMachine S start K all counts
machine_as S start J K all counts same m = subst (λ x. IsMachine S start x all counts) (sym same) m

-- a subdivision that was handed in as the replay of a journal
pub machine_given : (S : List Point) (start : List Pair) (J : List Commit) (all : Layout) (counts : Counts) → IsAscending start → IsTriangulation S start → IsLegalJournal S start J → length J ≤ MOST_COMMITS
    → all.points ≡ S → IsSubdivision all → all.all ≡ (replay start J).all → all.kept ≡ (replay start J).kept → AreCounts J counts → IsMachine S start J all counts
machine_given S start J all counts ascending triangulation legal few of sub pairs kept counted = record {
  ascending = ascending;
  triangulation = triangulation;
  legal = legal;
  few = few;
  of = of;
  subdivision = sub;
  state = layers_one all (replay start J) pairs kept;
  counted = counted;
}

pub of_journal : (J K L : List Commit) (c : Commit) (counts next : Counts) → L ≡ K ++ c ∷ [] → K ≡ J → AreCounts L next → AreCounts (J ++ c ∷ []) next
of_journal J K L c counts next is same h = subst (λ x. AreCounts x next) (is ∙ ap (λ x. x ++ c ∷ []) same) h

-- the core of a subdivision whose pairs are all kept
pub core_made : (S : List Point) (all : Layout) (start : List Pair) (J : List Commit) (n : ℕ) (counts : Counts) → AreAccepted S → all.points ≡ S → all.kept ≡ all.all → IsSubdivision all
    → start ≡ all.all → J ≡ [] → AreCounts [] counts → IsCore (record { points = S; start = start; journal = J; spare = n })
core_made S all start J n counts accepted of kept sub is none counted =
    let F : List Pair → Type 0 = λ x. IsCore (record { points = S; start = x; journal = J; spare = n }) in
    subst F (sym is) (core_as S all.all [] J n all counts accepted none (machine_first S all counts accepted of kept sub counted))

-- the star of a vertex in the state
pub star_now : (S : List Point) (start : List Pair) (J : List Commit) (all : Layout) (counts : Counts) (v : ℕ) (s : Seen) → AreAccepted S → IsMachine S start J all counts → v < length S
    → s ≡ seen_of (λ u. star_or_none all.stars u) v → IsStarOf S (replay start J).all (replay start J).kept v s
star_now S start J all counts v s accepted m h is =
    let F : State → Type 0 = λ t. IsStarOf S t.all t.kept v s in
    subst F m.state (star_got S all v s (machine_layout S start J all counts accepted m) h is)
