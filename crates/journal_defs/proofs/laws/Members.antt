-- What stays at a vertex that an edit doesn't touch.
use Rattle.std.proofs.Common.{◌≡◌, ℕ, ◌⊎◌, true, false, nat_eq, List, inl, inr, refl, arith}
use Rattle.std.proofs.lemmas.Bool.{or_parts}
use Rattle.std.proofs.lemmas.Bool.Decides.{Decides-eqb, Decides-or, not_from_Decides}
use Rattle.plane.specs.declared.coordinates.Point.{Point}
use Rattle.plane.specs.declared.segment.Pair.{Pair}
use Rattle.partition_defs.specs.Partition.{HasEnds, Joins}
use Rattle.partition_defs.specs.Sets.{without, with_one}
use Rattle.partition_defs.proofs.laws.Sets.{joins_without, without_joins, joins_with, with_joins}
use Rattle.star.specs.Stars.{Seen}
use Rattle.star.specs.StarOf.{IsStarOf}
use Rattle.journal_defs.specs.declared.edit.Edit.{Edit}
use Rattle.journal_defs.specs.declared.edit.Edit.TheVariants.{Drop, Keep, Flip}
use Rattle.journal_defs.specs.Edits.{State, after, is_end, touches, AreAlikeAt}

-- v is no end
pub not_end : (e : Pair) (v w : ℕ) → is_end e v ≡ false → ¬ HasEnds e v w
not_end e v w h ends =
    not_from_Decides (is_end e v) (Decides-or (nat_eq e.lo v) (nat_eq e.hi v) (Decides-eqb e.lo v) (Decides-eqb e.hi v)) h
    (elim ends [ inl a ↦ inl a.0 | inr a ↦ inr a.1 ])

pub is_end_lo : (e : Pair) → is_end e e.lo ≡ true
is_end_lo e = (Decides-or (nat_eq e.lo e.lo) (nat_eq e.hi e.lo) (Decides-eqb e.lo e.lo) (Decides-eqb e.hi e.lo)).1 (inl refl)

pub is_end_hi : (e : Pair) → is_end e e.hi ≡ true
is_end_hi e = (Decides-or (nat_eq e.lo e.hi) (nat_eq e.hi e.hi) (Decides-eqb e.lo e.hi) (Decides-eqb e.hi e.hi)).1 (inr refl)

pub alike_own : (s : State) (v : ℕ) → AreAlikeAt s s v
alike_own s v = record { all = λ w. (λ h. h, λ h. h); kept = λ w. (λ h. h, λ h. h) }

pub alike_back : (s t : State) (v : ℕ) → AreAlikeAt s t v → AreAlikeAt t s v
alike_back s t v a = record { all = λ w. ((a.all w).1, (a.all w).0); kept = λ w. ((a.kept w).1, (a.kept w).0) }

pub alike_on : (s t u : State) (v : ℕ) → AreAlikeAt s t v → AreAlikeAt t u v → AreAlikeAt s u v
alike_on s t u v a b = record {
  all = λ w. (λ h. (b.all w).0 ((a.all w).0 h), λ h. (a.all w).1 ((b.all w).1 h));
  kept = λ w. (λ h. (b.kept w).0 ((a.kept w).0 h), λ h. (a.kept w).1 ((b.kept w).1 h));
}

left_out : (e : Pair) (K : List Pair) (v w : ℕ) → is_end e v ≡ false → (Joins K v w → Joins (without e K) v w) × (Joins (without e K) v w → Joins K v w)
left_out e K v w far = (λ h. without_joins e K v w h (not_end e v w far), λ h. (joins_without e K v w h).0)

put_in : (e : Pair) (K : List Pair) (v w : ℕ) → is_end e v ≡ false → (Joins K v w → Joins (with_one e K) v w) × (Joins (with_one e K) v w → Joins K v w)
put_in e K v w far = (λ h. with_joins e K v w h, λ h. elim (joins_with e K v w h) [ inl k ↦ k | inr ends ↦ absurd (not_end e v w far ends) ])

-- an edit changes nothing at a vertex that it doesn't touch
pub untouched : (e : Edit) (s : State) (v : ℕ) → touches e v ≡ false → AreAlikeAt s (after e s) v
untouched (Drop e) s v far = record { all = λ w. (λ h. h, λ h. h); kept = λ w. left_out e s.kept v w far }
untouched (Keep e) s v far = record { all = λ w. (λ h. h, λ h. h); kept = λ w. put_in e s.kept v w far }
untouched (Flip e f) s v far = record {
  all = λ w. (let a = left_out e s.all v w (or_parts (is_end e v) (is_end f v) far).0 in
      let b = put_in f (without e s.all) v w (or_parts (is_end e v) (is_end f v) far).1 in
      (λ h. b.0 (a.0 h), λ h. a.1 (b.1 h)));
  kept = λ w. (λ h. h, λ h. h);
}

-- so the star of v is the same
pub star_alike : (S : List Point) (s t : State) (v : ℕ) (a : Seen) → AreAlikeAt s t v → IsStarOf S s.all s.kept v a → IsStarOf S t.all t.kept v a
star_alike S s t v a same so = record {
  star = so.star;
  centre = so.centre;
  points = so.points;
  neighbours = λ w. (λ h. (same.all w).0 ((so.neighbours w).0 h), λ h. (so.neighbours w).1 ((same.all w).1 h));
  marks = λ w n. (λ h. (same.kept w).0 ((so.marks w n).0 h), λ h. (so.marks w n).1 ((same.kept w).1 h));
}

-- an end of a pair
pub end_of : (g : Pair) (x : ℕ) → is_end g x ≡ true → (g.lo ≡ x) ⊎ (g.hi ≡ x)
end_of g x h = (Decides-or (nat_eq g.lo x) (nat_eq g.hi x) (Decides-eqb g.lo x) (Decides-eqb g.hi x)).0 h

-- the two ends of a pair
pub ends_apart : (e : Pair) (v : ℕ) → nat_eq e.lo v ≡ true → nat_eq e.hi v ≡ true → ⊥
ends_apart e v a b =
    let lo : e.lo ≡ v = (Decides-eqb e.lo v).0 a in
    let hi : e.hi ≡ v = (Decides-eqb e.hi v).0 b in
    let o = e.ordered in omega arith
