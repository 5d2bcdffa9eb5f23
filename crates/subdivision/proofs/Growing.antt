-- How the stars grow by one segment, and why there is a place for it.
use Rattle.std.proofs.Common.{◌≡◌, ◌≢◌, ℕ, ◌+◌, ◌<◌, Bool, true, List, [], ◌∷◌, ◌++◌, length, get_or, set, take, slice_index_or, ◌⊎◌, inl, inr, ◌↔◌, arith, sym, ◌∙◌, ap, subst, refl, get_or-set_other}
use Rattle.std.proofs.lemmas.Bool.{cases_lt}
use Rattle.std.proofs.lemmas.List.{get_or_default, get_or-take, length-take, get_or_append_left, get_or_push, take_more}
use Rattle.std.proofs.Math.Seq.{take-append_seam}
use Rattle.plane.specs.declared.coordinates.Point.{Point}
use Rattle.plane.specs.declared.segment.Pair.{Pair}
use Rattle.plane.specs.Geometry.{point, IsBetween}
use Rattle.plane.specs.Accepted.{AreAccepted}
use Rattle.plane.proofs.laws.Along.{between_swap, one_between}
use Rattle.plane.proofs.laws.Border.{points_differ}
use Rattle.partition_defs.specs.Partition.{HasEnds, Joins}
use Rattle.partition_defs.specs.Triangulation.{IsTriangulation, AreDistinct}
use Rattle.star.specs.Turn.{IsInDirection}
use Rattle.star.specs.Stars.{Seen, IsStar, IsNeighbour, HasMark, SamePlace, Gains, Marks, IsFree, entry}
use Rattle.star.specs.StarOf.{IsStarOf}
use Rattle.star.proofs.laws.Marks.{gains_neighbour, gains_mark, marks_neighbour, keeps_mark}
use Rattle.star.proofs.laws.Directions.{not_opposed}
use Rattle.number_laws.proofs.Naturals.{equal_or_not}
use Rattle.subdivision.specs.Layout.{star_at, AreStarsOf}
use Rattle.subdivision.specs.Joining.{GainsKept, GainsKeptEnds}
use Rattle.partition_defs.proofs.laws.Has.{Has, has_of, contains_of, has_append, append_has}
use Rattle.partition_defs.proofs.laws.Joined.{joined, joins_of}
use Rattle.star.proofs.laws.Marks.{marked_neighbour}
use Rattle.partition_defs.proofs.laws.Joined.{one_pair}

same_list_neighbour : (old mid : Seen) → mid.list ≡ old.list → (u : ℕ) → IsNeighbour mid u ↔ IsNeighbour old u
same_list_neighbour old mid e u =
    let P : List (ℕ × Bool) → Type 0 = λ xs. (k : ℕ) × ((k < length xs) × ((entry xs k).0 ≡ u)) in
    (λ h. subst P e h, λ h. subst P (sym e) h)

same_list_mark : (old mid : Seen) → mid.list ≡ old.list → (u : ℕ) → HasMark mid u true ↔ HasMark old u true
same_list_mark old mid e u =
    let P : List (ℕ × Bool) → Type 0 = λ xs. (k : ℕ) × (k < length xs) × (entry xs k ≡ (u, true)) in
    (λ h. subst P e h, λ h. subst P (sym e) h)

-- room, an insert and a mark make a kept neighbour
pub linked : (old room put new : Seen) (w : ℕ) → room.list ≡ old.list → SamePlace old room → Gains room put w → SamePlace room put → Marks put new w true → IsStar new → GainsKept old new w
linked old room put new w list here gains there mark star =
    let is = mark.2 in
    record {
      place = (ap (λ (s : Seen). s.centre) is ∙ there.0 ∙ here.0, ap (λ (s : Seen). s.points) is ∙ there.1 ∙ here.1);
      star = star;
      neighbours = λ u. (
        λ h. elim ((gains_neighbour room put w gains u).0 ((marks_neighbour put new w true mark u).0 h)) [ inl k ↦ inl ((same_list_neighbour old room list u).0 k) | inr k ↦ inr k ],
        λ h. (marks_neighbour put new w true mark u).1 ((gains_neighbour room put w gains u).1 (elim h [ inl k ↦ inl ((same_list_neighbour old room list u).1 k) | inr k ↦ inr k ])),
      );
      marks = λ u. (
        λ h. elim ((keeps_mark put new w mark u).0 h) [ inl k ↦ inl ((same_list_mark old room list u).0 ((gains_mark room put w gains u).0 k)) | inr k ↦ inr k ],
        λ h. (keeps_mark put new w mark u).1 (elim h [ inl k ↦ inl ((gains_mark room put w gains u).1 ((same_list_mark old room list u).1 k)) | inr k ↦ inr k ]),
      );
    }

pub free_at : (stars : List Seen) (i k w u : ℕ) (d : Seen) → i ≡ k → w ≡ u → k < length stars → IsFree (star_at stars k) u → IsFree (slice_index_or stars i d) w
free_at stars i k w u d ei ew h free =
    let P : ℕ → Type 0 = λ j. IsFree (slice_index_or stars j d) w in
    let Q : ℕ → Type 0 = λ v. IsFree (slice_index_or stars k d) v in
    subst P (sym ei) (subst Q (sym ew) (subst (λ (s : Seen). IsFree s u) (get_or_default stars k (record { centre = 0; list = []; spare = 0; points = [] }) d h) free))

pub free_after : (stars : List Seen) (l i k w u : ℕ) (t d : Seen) → i ≡ k → w ≡ u → i ≢ l → k < length stars → IsFree (star_at stars k) u → IsFree (slice_index_or (set stars l t) i d) w
free_after stars l i k w u t d ei ew ne h free = subst (λ (s : Seen). IsFree s w) (sym (get_or-set_other stars l i t d ne)) (free_at stars i k w u d ei ew h free)

-- No neighbour of a among the segments before the k-th stands in the direction of b, where the k-th has the ends a and b.
pub place_free : (S : List Point) (pairs : List Pair) (k : ℕ) (d : Pair) (a b : ℕ) (s : Seen) → AreAccepted S → AreDistinct pairs → IsTriangulation S pairs → k < length pairs → HasEnds (get_or pairs k d) a b → IsStarOf S (take k pairs) (take k pairs) a s → IsFree s b
place_free S pairs k d a b s accepted distinct tri hk ends so i hi together =
    let u = (entry s.list i).0 in
    let (f, m, sides) = joined (take k pairs) a u ((so.neighbours u).0 (i, (hi, refl))) in
    let (j, hj, at) = contains_of (take k pairs) f m in
    let e = get_or pairs k d in
    let low : j < k = omega (arith, length-take k pairs) in
    let here : get_or pairs j f ≡ f = sym (get_or-take k pairs j f low) ∙ at in
    let e_in = has_of pairs e (k, hk, get_or_default pairs k e d hk) in
    let f_in = has_of pairs f (j, omega arith, here) in
    let other : u ≢ b = λ same. distinct j k f low hk (here ∙ one_pair f e a b (subst (HasEnds f a) same sides) ends ∙ get_or_default pairs k d f hk) in
    let P : List Point → Type 0 = λ T. IsInDirection T s.centre u b in
    let Q : ℕ → Type 0 = λ c. IsInDirection S c u b in
    clash e f e_in f_in sides other (subst Q so.centre (subst P so.points together))
  where
    within : (e : Pair) (x y : ℕ) → Has e pairs → HasEnds e x y → (x < length S) × (y < length S) × (x ≢ y)
    within e x y m (inl h) = let t = tri.within e (contains_of pairs e m) in (omega (arith, h.0, e.ordered), omega (arith, h.1), λ z. omega (arith, h.0, h.1, e.ordered))
    within e x y m (inr h) = let t = tri.within e (contains_of pairs e m) in (omega (arith, h.1), omega (arith, h.0, e.ordered), λ z. omega (arith, h.0, h.1, e.ordered))

    clear : (e : Pair) (x y z : ℕ) → Has e pairs → HasEnds e x y → z < length S → ¬ IsBetween S z x y
    clear e x y z m (inl h) hz on =
        let P : ℕ → Type 0 = λ i. IsBetween S z i y in let Q : ℕ → Type 0 = λ j. IsBetween S z e.lo j in
        tri.clear e (contains_of pairs e m) z hz (subst Q (sym h.1) (subst P (sym h.0) on))
    clear e x y z m (inr h) hz on =
        let P : ℕ → Type 0 = λ i. IsBetween S z i x in let Q : ℕ → Type 0 = λ j. IsBetween S z e.lo j in
        tri.clear e (contains_of pairs e m) z hz (subst Q (sym h.1) (subst P (sym h.0) (between_swap (point S z) (point S x) (point S y) on)))

    clash : (e f : Pair) → Has e pairs → Has f pairs → HasEnds f a (entry s.list i).0 → (entry s.list i).0 ≢ b → IsInDirection S a (entry s.list i).0 b → ⊥
    clash e f e_in f_in sides other (half, line) =
        let u = (entry s.list i).0 in
        let near = within f a u f_in sides in
        let far = within (get_or pairs k d) a b (has_of pairs (get_or pairs k d) (k, hk, get_or_default pairs k (get_or pairs k d) d hk)) ends in
        elim (one_between (point S a) (point S u) (point S b)
        (points_differ S a u accepted.apart near.0 near.1 near.2) (points_differ S a b accepted.apart far.0 far.1 far.2) (points_differ S u b accepted.apart near.1 far.1 other) line) [
          | inl h ↦ not_opposed (point S a) (point S u) (point S b) half h
          | inr rest ↦ elim rest [
            | inl h ↦ clear (get_or pairs k d) a b u (has_of pairs (get_or pairs k d) (k, hk, get_or_default pairs k (get_or pairs k d) d hk)) ends near.1 h
            | inr h ↦ clear f a u b f_in sides far.1 h
          ]
        ]

joins_more : (U : List Pair) (e : Pair) (v w : ℕ) → Joins (U ++ e ∷ []) v w ↔ (Joins U v w ⊎ HasEnds e v w)
joins_more U e v w = (to, from)
  where
    to : Joins (U ++ e ∷ []) v w → Joins U v w ⊎ HasEnds e v w
    to h = let (f, m, ends) = joined (U ++ e ∷ []) v w h in
        elim (has_append U (e ∷ []) f m) [
          | inl k ↦ inl (joins_of U f v w k ends)
          | inr k ↦ elim k [ inl same ↦ inr (subst (λ z. HasEnds z v w) (sym same) ends) | inr none ↦ absurd none ]
        ]

    from : Joins U v w ⊎ HasEnds e v w → Joins (U ++ e ∷ []) v w
    from (inl h) = let (f, m, ends) = joined U v w h in joins_of (U ++ e ∷ []) f v w (append_has U (e ∷ []) f (inl m)) ends
    from (inr h) = joins_of (U ++ e ∷ []) e v w (append_has U (e ∷ []) e (inr (inl refl))) h

-- the star of an end of the new segment
grown_star : (S : List Point) (U : List Pair) (e : Pair) (v w : ℕ) (old new : Seen) → HasEnds e v w → v ≢ w → IsStarOf S U U v old → GainsKept old new w → IsStarOf S (U ++ e ∷ []) (U ++ e ∷ []) v new
grown_star S U e v w old new ends apart so links = record {
  star = links.star;
  centre = links.place.0 ∙ so.centre;
  points = links.place.1 ∙ so.points;
  neighbours = λ u. (
    λ h. (joins_more U e v u).1 (elim ((links.neighbours u).0 h) [ inl k ↦ inl ((so.neighbours u).0 k) | inr k ↦ inr (subst (HasEnds e v) (sym k) ends) ]),
    λ h. (links.neighbours u).1 (elim ((joins_more U e v u).0 h) [ inl k ↦ inl ((so.neighbours u).1 k) | inr k ↦ inr (other u k ends) ]),
  );
  marks = λ u n. (
    λ h. (joins_more U e v u).1 (elim ((links.marks u).0 h) [ inl k ↦ inl ((so.marks u (marked_neighbour old u true k)).0 k) | inr k ↦ inr (subst (HasEnds e v) (sym k) ends) ]),
    λ h. (links.marks u).1 (elim ((joins_more U e v u).0 h) [ inl k ↦ inl ((so.marks u ((so.neighbours u).1 k)).1 k) | inr k ↦ inr (other u k ends) ]),
  );
}
  where
    other : (u : ℕ) → HasEnds e v u → HasEnds e v w → u ≡ w
    other u (inl x) (inl y) = sym x.1 ∙ y.1
    other u (inl x) (inr y) = absurd (omega (arith, x.0, y.1, e.ordered))
    other u (inr x) (inl y) = absurd (omega (arith, x.1, y.0, e.ordered))
    other u (inr x) (inr y) = sym x.0 ∙ y.0

-- the star of a vertex that the new segment doesn't touch
same_star : (S : List Point) (U : List Pair) (e : Pair) (v : ℕ) (s : Seen) → v ≢ e.lo → v ≢ e.hi → IsStarOf S U U v s → IsStarOf S (U ++ e ∷ []) (U ++ e ∷ []) v s
same_star S U e v s lo hi so = record {
  star = so.star;
  centre = so.centre;
  points = so.points;
  neighbours = λ u. (λ h. (joins_more U e v u).1 (inl ((so.neighbours u).0 h)), λ h. (so.neighbours u).1 (old u h));
  marks = λ u n. (λ h. (joins_more U e v u).1 (inl ((so.marks u n).0 h)), λ h. (so.marks u n).1 (old u h));
}
  where
    old : (u : ℕ) → Joins (U ++ e ∷ []) v u → Joins U v u
    old u h = elim ((joins_more U e v u).0 h) [ inl k ↦ k | inr k ↦ absurd (elim k [ inl x ↦ lo (sym x.0) | inr x ↦ hi (sym x.1) ]) ]

pub grown : (S : List Point) (U : List Pair) (e : Pair) (old new : List Seen) → AreStarsOf S U U old → GainsKeptEnds old new e → e.hi < length S → AreStarsOf S (U ++ e ∷ []) (U ++ e ∷ []) new
grown S U e old new so links high = (links.count ∙ so.0, at)
  where
    at : (v : ℕ) → v < length S → IsStarOf S (U ++ e ∷ []) (U ++ e ∷ []) v (star_at new v)
    at v h = elim (equal_or_not v e.lo) [
      | inl low ↦ (let P : ℕ → Type 0 = λ x. IsStarOf S (U ++ e ∷ []) (U ++ e ∷ []) x (star_at new x) in
          subst P (sym low) (grown_star S U e e.lo e.hi (star_at old e.lo) (star_at new e.lo) (inl (refl, refl)) (λ z. omega (arith, e.ordered)) (so.1 e.lo (omega (arith, e.ordered))) links.lower))
      | inr not_low ↦ elim (equal_or_not v e.hi) [
        | inl top ↦ (let P : ℕ → Type 0 = λ x. IsStarOf S (U ++ e ∷ []) (U ++ e ∷ []) x (star_at new x) in
            subst P (sym top) (grown_star S U e e.hi e.lo (star_at old e.hi) (star_at new e.hi) (inr (refl, refl)) (λ z. omega (arith, e.ordered)) (so.1 e.hi high) links.upper))
        | inr not_top ↦ subst (IsStarOf S (U ++ e ∷ []) (U ++ e ∷ []) v) (sym (links.others v not_low not_top)) (same_star S U e v (star_at old v) not_low not_top (so.1 v h))
      ]
    ]

-- a new bare star at the end
pub bare_more : (S : List Point) (stars new : List Seen) (v : ℕ) (s : Seen) → length stars ≡ v → ((k : ℕ) → k < v → IsStarOf S [] [] k (star_at stars k)) → IsStarOf S [] [] v s → new ≡ stars ++ s ∷ [] → (k : ℕ) → k < v + 1 → IsStarOf S [] [] k (star_at new k)
bare_more S stars new v s len so here is k h =
    let P : List Seen → Type 0 = λ xs. IsStarOf S [] [] k (star_at xs k) in
    subst P (sym is) (elim (cases_lt k v) [
      | inl low ↦ subst (IsStarOf S [] [] k) (sym (get_or_append_left stars (s ∷ []) _ k (omega arith))) (so k low)
      | inr top ↦ (let e : k ≡ length stars = omega arith in let Q : ℕ → Type 0 = λ x. IsStarOf S [] [] x (star_at (stars ++ s ∷ []) x) in
          subst Q (sym e) (subst (IsStarOf S [] [] (length stars)) (sym (get_or_push stars s _ (length stars) refl)) (let R : ℕ → Type 0 = λ x. IsStarOf S [] [] x s in subst R (sym len) here)))
    ])

front : (xs ys : List Seen) (n : ℕ) → length xs ≡ n → take n (xs ++ ys) ≡ xs
front xs ys n len = subst (λ m. take m (xs ++ ys) ≡ xs) len (take-append_seam xs ys)

-- the step to the next segment of a list
pub grown_step : (S : List Point) (pairs : List Pair) (k : ℕ) (e : Pair) (items now new rest : List Seen) (n : ℕ) → e ≡ get_or pairs k e → k < length pairs → now ≡ items → length now ≡ n → AreStarsOf S (take k pairs) (take k pairs) items → GainsKeptEnds now new e → e.hi < length S
    → AreStarsOf S (take (k + 1) pairs) (take (k + 1) pairs) (take n (new ++ rest))
grown_step S pairs k e items now new rest n is hk same len so links high =
    let before = subst (AreStarsOf S (take k pairs) (take k pairs)) (sym same) so in
    let after = grown S (take k pairs) e now new before links high in
    let more : take (k + 1) pairs ≡ take k pairs ++ e ∷ [] = take_more pairs k e hk ∙ ap (λ (z : Pair). take k pairs ++ z ∷ []) (sym is) in
    let P : List Pair → Type 0 = λ U. AreStarsOf S U U (take n (new ++ rest)) in
    subst P (sym more) (subst (AreStarsOf S (take k pairs ++ e ∷ []) (take k pairs ++ e ∷ [])) (sym (front new rest n (links.count ∙ len))) after)

pub free_lower : (S : List Point) (pairs : List Pair) (k : ℕ) (e : Pair) (items now : List Seen) → AreAccepted S → AreDistinct pairs → IsTriangulation S pairs → k < length pairs → e ≡ get_or pairs k e → now ≡ items → AreStarsOf S (take k pairs) (take k pairs) items → e.hi < length S → IsFree (star_at now e.lo) e.hi
free_lower S pairs k e items now accepted distinct tri hk is same so high =
    let before = subst (AreStarsOf S (take k pairs) (take k pairs)) (sym same) so in
    place_free S pairs k e e.lo e.hi (star_at now e.lo) accepted distinct tri hk (subst (λ (z : Pair). HasEnds z e.lo e.hi) is (inl (refl, refl))) (before.1 e.lo (omega (arith, e.ordered)))

pub free_upper : (S : List Point) (pairs : List Pair) (k : ℕ) (e : Pair) (items now : List Seen) → AreAccepted S → AreDistinct pairs → IsTriangulation S pairs → k < length pairs → e ≡ get_or pairs k e → now ≡ items → AreStarsOf S (take k pairs) (take k pairs) items → e.hi < length S → IsFree (star_at now e.hi) e.lo
free_upper S pairs k e items now accepted distinct tri hk is same so high =
    let before = subst (AreStarsOf S (take k pairs) (take k pairs)) (sym same) so in
    place_free S pairs k e e.hi e.lo (star_at now e.hi) accepted distinct tri hk (subst (λ (z : Pair). HasEnds z e.hi e.lo) is (inr (refl, refl))) (before.1 e.hi high)
