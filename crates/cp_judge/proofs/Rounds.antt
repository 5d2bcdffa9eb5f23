-- Ends of segments in any order, and what some ends at a point show of its needs.
use Rattle.std.proofs.Common.{◌≡◌, ℕ, ◌+◌, ◌*◌, ◌<◌, List, length, slice_index_or, set, subst, sym, inl, inr, arith}
use Rattle.std.specs.List.{All}
use Rattle.std.proofs.lemmas.List.{length-set}
use Rattle.std.proofs.lemmas.List.Elements.{All-contains}
use Rattle.plane.specs.declared.coordinates.Point.{Point}
use Rattle.plane.specs.declared.segment.Pair.{Pair}
use Rattle.partition_defs.specs.Partition.{Joins, AreWithin, MeetsNeedsAt}
use Rattle.cp_judge.specs.declared.turning.End.{End}
use Rattle.cp_judge.specs.Ends.{AreOthers, MeetsNeedsAmong}
use Rattle.cp_judge.specs.Turning.{AreEndsOf, IsTarget}
use Rattle.crossings.specs.Crossings.{IsPairAt}
use Rattle.cp_judge.proofs.Gathered.{end_elsewhere}
use Rattle.crossings.proofs.laws.Blocks.{set_more}

-- both ends of one more segment
pub two_more : (K : List Pair) (Z : List End) (k : ℕ) (e : Pair) (y z d : End) → 2 * k + 1 < length Z → IsPairAt K k e → y.at ≡ e.lo → y.to ≡ e.hi → z.at ≡ e.hi → z.to ≡ e.lo
    → ((i : ℕ) → i < 2 * k → let w = slice_index_or Z i d in Joins K w.at w.to)
    → (i : ℕ) → i < 2 * (k + 1) → let w = slice_index_or (set (set Z (2 * k) y) (2 * k + 1) z) i d in Joins K w.at w.to
two_more K Z k e y z d room st ya yt za zt before i l =
    let J : ℕ → End → Type 0 = λ _ w. Joins K w.at w.to in
    let first = set_more J Z (2 * k) y d (omega arith) (k, e, st.0, st.1, inl (sym ya, sym yt)) before in
    set_more J (set Z (2 * k) y) (2 * k + 1) z d (let l = length-set Z (2 * k) y in omega arith) (k, e, st.0, st.1, inr (sym zt, sym za)) first i (omega arith)

-- each target of an end at p is joined with p
pub targets_joined : (K : List Pair) (Z : List End) (p : ℕ) (E : List ℕ) → AreEndsOf K Z → All (IsTarget Z p) E → All (Joins K p) E
targets_joined K Z p E ends targets k d l =
    let (z, at, ez, et) = targets k d l in
    let J : ℕ → ℕ → Type 0 = λ x y. Joins K x y in
    subst (λ y. J p y) et (subst (λ x. J x z.to) ez (All-contains (λ w. Joins K w.at w.to) Z z ends at))

pub others_of_joined : (S : List Point) (K : List Pair) (p : ℕ) (E : List ℕ) → AreWithin S K → All (Joins K p) E → AreOthers S p E
others_of_joined S K p E within all k d l = end_elsewhere S K p (slice_index_or E k d) within (all k d l)

pub met_by_joined : (S : List Point) (K : List Pair) (p : ℕ) (E : List ℕ) → AreWithin S K → All (Joins K p) E → MeetsNeedsAmong S E p → MeetsNeedsAt S K p
met_by_joined S K p E within all met q hq qp =
    let (r, at, need) = met q hq qp in
    let j = All-contains (Joins K p) E r all at in
    (r, (end_elsewhere S K p r within j).0, j, need)
