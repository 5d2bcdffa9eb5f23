-- The star of a vertex in (T, K): that it is one list, and how it changes where one segment comes, goes or is marked.
use Rattle.std.proofs.Common.{◌≡◌, ◌≢◌, ℕ, ◌+◌, ◌<◌, zero, suc, Bool, true, false, List, length, ◌⊎◌, inl, inr, ◌↔◌, arith, sym, ◌∙◌, ap, ap₂, subst, refl}
use Rattle.std.proofs.lemmas.Bool.{cases_lt}
use Rattle.std.proofs.lemmas.List.{ext_get_or}
use Rattle.plane.specs.declared.coordinates.Point.{Point}
use Rattle.plane.specs.declared.segment.Pair.{Pair}
use Rattle.plane.specs.Geometry.{point}
use Rattle.partition_defs.specs.Partition.{Joins}
use Rattle.star.specs.Turn.{IsBeforeInTurn}
use Rattle.star.specs.Stars.{Seen, entry, IsOrderly, IsStar, IsNeighbour, HasMark, Marks, Gains, Loses, SamePlace}
use Rattle.star.specs.StarOf.{IsStarOf}
use Rattle.number_laws.proofs.Naturals.{equal_or_not}
use Rattle.star.proofs.laws.Turning.{before_on, never_before_itself}
use Rattle.star.proofs.laws.Marks.{one_position, one_mark, gains_neighbour, gains_mark, gains_spare, marks_neighbour, keeps_mark, drops_mark, loses_neighbour, loses_mark}

-- v and w are the ends a and b, either way round
abbrev pub AreEndsOf : (a b v w : ℕ) → Type 0
AreEndsOf a b v w = ((v ≡ a) × (w ≡ b)) ⊎ ((v ≡ b) × (w ≡ a))

-- the second set is the first with the segment a-b
abbrev pub GainsSegment : (old new : List Pair) → (a b : ℕ) → Type 0
GainsSegment old new a b = (v w : ℕ) → Joins new v w ↔ (Joins old v w ⊎ AreEndsOf a b v w)

-- the second set is the first without the segment a-b
abbrev pub LosesSegment : (old new : List Pair) → (a b : ℕ) → Type 0
LosesSegment old new a b = (v w : ℕ) → Joins new v w ↔ (Joins old v w × (¬ AreEndsOf a b v w))

-- the two sets have the same segments at v
abbrev pub AreSameAt : (old new : List Pair) → ℕ → Type 0
AreSameAt old new v = (w : ℕ) → Joins new v w ↔ Joins old v w

-- the two sets have the same segments at v, that to b aside
abbrev pub AreSameBut : (old new : List Pair) → (v b : ℕ) → Type 0
AreSameBut old new v b = (w : ℕ) → w ≢ b → Joins new v w ↔ Joins old v w

-- the segments at a of a set that a segment a-b joins or leaves
added_at : (K K' : List Pair) (a b w : ℕ) → GainsSegment K K' a b → Joins K' a w ↔ (Joins K a w ⊎ (w ≡ b))
added_at K K' a b w adds = (
  λ h. elim ((adds a w).0 h) [ inl g ↦ inl g | inr g ↦ elim g [ inl e ↦ inr e.1 | inr e ↦ inr (e.1 ∙ e.0) ] ],
  λ h. (adds a w).1 (elim h [ inl g ↦ inl g | inr e ↦ inr (inl (refl, e)) ]),
)

taken_at : (K K' : List Pair) (a b w : ℕ) → LosesSegment K K' a b → Joins K' a w ↔ (Joins K a w × (w ≢ b))
taken_at K K' a b w takes = (
  λ h. (let (g, ne) = (takes a w).0 h in (g, λ e. ne (inl (refl, e)))),
  λ h. (takes a w).1 (h.0, λ g. elim g [ inl e ↦ h.1 e.1 | inr e ↦ h.1 (e.1 ∙ e.0) ]),
)

-- the mark of b comes, and the segment a-b comes to K
pub kept_segment : (S : List Point) (T K K' : List Pair) (a b : ℕ) (s t : Seen) → IsStarOf S T K a s → Marks s t b true → IsStar t → GainsSegment K K' a b → IsStarOf S T K' a t
kept_segment S T K K' a b s t of (k, stands, is) star adds =
    let m : Marks s t b true = (k, stands, is) in
    record {
      star = star;
      centre = ap (λ (x : Seen). x.centre) is ∙ of.centre;
      points = ap (λ (x : Seen). x.points) is ∙ of.points;
      neighbours = λ w. (λ h. (of.neighbours w).0 ((marks_neighbour s t b true m w).0 h), λ h. (marks_neighbour s t b true m w).1 ((of.neighbours w).1 h));
      marks = λ w hw.
          (let old = (marks_neighbour s t b true m w).0 hw in (
            λ h. (added_at K K' a b w adds).1 (elim ((keeps_mark s t b m w).0 h) [ inl g ↦ inl ((of.marks w old).0 g) | inr e ↦ inr e ]),
            λ h. (keeps_mark s t b m w).1 (elim ((added_at K K' a b w adds).0 h) [ inl g ↦ inl ((of.marks w old).1 g) | inr e ↦ inr e ]),
          ));
    }

-- the mark of b goes, and the segment a-b goes from K
pub dropped_segment : (S : List Point) (T K K' : List Pair) (a b : ℕ) (s t : Seen) → IsStarOf S T K a s → Marks s t b false → IsStar t → LosesSegment K K' a b → IsStarOf S T K' a t
dropped_segment S T K K' a b s t of (k, stands, is) star takes =
    let m : Marks s t b false = (k, stands, is) in
    record {
      star = star;
      centre = ap (λ (x : Seen). x.centre) is ∙ of.centre;
      points = ap (λ (x : Seen). x.points) is ∙ of.points;
      neighbours = λ w. (λ h. (of.neighbours w).0 ((marks_neighbour s t b false m w).0 h), λ h. (marks_neighbour s t b false m w).1 ((of.neighbours w).1 h));
      marks = λ w hw.
          (let old = (marks_neighbour s t b false m w).0 hw in (
            λ h. (let (g, ne) = (drops_mark s t b of.star m w).0 h in (taken_at K K' a b w takes).1 ((of.marks w old).0 g, ne)),
            λ h. (let (g, ne) = (taken_at K K' a b w takes).0 h in (drops_mark s t b of.star m w).1 ((of.marks w old).1 g, ne)),
          ));
    }

-- b comes in unmarked, and the segment a-b, which isn't in K, comes to T
pub put_segment : (S : List Point) (T T' K : List Pair) (a b : ℕ) (s t : Seen) → IsStarOf S T K a s → Gains s t b → SamePlace s t → IsStar t → GainsSegment T T' a b → (¬ Joins K a b) → IsStarOf S T' K a t
put_segment S T T' K a b s t of gains same star adds new_K = record {
  star = star;
  centre = same.0 ∙ of.centre;
  points = same.1 ∙ of.points;
  neighbours = λ w. (
    λ h. (added_at T T' a b w adds).1 (elim ((gains_neighbour s t b gains w).0 h) [ inl g ↦ inl ((of.neighbours w).0 g) | inr e ↦ inr e ]),
    λ h. (gains_neighbour s t b gains w).1 (elim ((added_at T T' a b w adds).0 h) [ inl g ↦ inl ((of.neighbours w).1 g) | inr e ↦ inr e ]),
  );
  marks = λ w hw. elim ((gains_neighbour s t b gains w).0 hw) [
    | inl old ↦ (λ h. (of.marks w old).0 ((gains_mark s t b gains w).0 h), λ h. (gains_mark s t b gains w).1 ((of.marks w old).1 h))
    | inr e ↦ (
      λ h. absurd (one_mark t b star (gains_spare s t b gains) (subst (λ x. HasMark t x true) e h)),
      λ h. absurd (new_K (subst (λ x. Joins K a x) e h)),
    )
  ];
}

-- b goes, and the segment a-b goes from T; in K it may go or stay
pub removed_segment : (S : List Point) (T T' K K' : List Pair) (a b : ℕ) (s t : Seen) → IsStarOf S T K a s → Loses s t b → SamePlace s t → IsStar t → LosesSegment T T' a b → AreSameBut K K' a b → IsStarOf S T' K' a t
removed_segment S T T' K K' a b s t of loses same star takes but = record {
  star = star;
  centre = same.0 ∙ of.centre;
  points = same.1 ∙ of.points;
  neighbours = λ w. (
    λ h. (let (g, ne) = (loses_neighbour s t b of.star loses w).0 h in (taken_at T T' a b w takes).1 ((of.neighbours w).0 g, ne)),
    λ h. (let (g, ne) = (taken_at T T' a b w takes).0 h in (loses_neighbour s t b of.star loses w).1 ((of.neighbours w).1 g, ne)),
  );
  marks = λ w hw.
      (let (old, ne) = (loses_neighbour s t b of.star loses w).0 hw in (
        λ h. (but w ne).1 ((of.marks w old).0 ((loses_mark s t b of.star loses w).0 h).0),
        λ h. (loses_mark s t b of.star loses w).1 ((of.marks w old).1 ((but w ne).0 h), ne),
      ));
}

-- sets that have the same segments at v have the same star of v
pub untouched : (S : List Point) (T T' K K' : List Pair) (v : ℕ) (s : Seen) → IsStarOf S T K v s → AreSameAt T T' v → AreSameAt K K' v → IsStarOf S T' K' v s
untouched S T T' K K' v s of same_T same_K = record {
  star = of.star;
  centre = of.centre;
  points = of.points;
  neighbours = λ w. (λ h. (same_T w).1 ((of.neighbours w).0 h), λ h. (of.neighbours w).1 ((same_T w).0 h));
  marks = λ w hw. (λ h. (same_K w).1 ((of.marks w hw).0 h), λ h. (of.marks w hw).1 ((same_K w).0 h));
}

-- a segment that comes or goes is none of another vertex
pub others_add : (T T' : List Pair) (a b v : ℕ) → GainsSegment T T' a b → v ≢ a → v ≢ b → AreSameAt T T' v
others_add T T' a b v adds va vb w = (
  λ h. elim ((adds v w).0 h) [ inl g ↦ g | inr g ↦ absurd (elim g [ inl e ↦ va e.0 | inr e ↦ vb e.0 ]) ],
  λ h. (adds v w).1 (inl h),
)

pub others_take : (T T' : List Pair) (a b v : ℕ) → LosesSegment T T' a b → v ≢ a → v ≢ b → AreSameAt T T' v
others_take T T' a b v takes va vb w = (
  λ h. ((takes v w).0 h).0,
  λ h. (takes v w).1 (h, λ g. elim g [ inl e ↦ va e.0 | inr e ↦ vb e.0 ]),
)

-- Two orderly lists with the same names and marks are one.
first_differ : (S : List Point) (c : ℕ) (xs ys : List (ℕ × Bool)) (i : ℕ) → IsOrderly S c xs → IsOrderly S c ys → i < length xs → i < length ys
    → ((j : ℕ) → j < i → (entry xs j).0 ≡ (entry ys j).0) → (m : ℕ) → m < length ys → (entry ys m).0 ≡ (entry xs i).0 → ((entry xs i).0 ≡ (entry ys i).0) ⊎ IsBeforeInTurn S c (entry ys i).0 (entry xs i).0
first_differ S c xs ys i sx sy hx hy same m hm at = elim (cases_lt m i) [
  | inl h ↦ absurd (let e = one_position S c xs m i sx (omega arith) hx (same m h ∙ at) in omega arith)
  | inr h ↦ elim (equal_or_not m i) [
    | inl e ↦ inl (sym at ∙ ap (λ k. (entry ys k).0) e)
    | inr ne ↦ inr (subst (λ x. IsBeforeInTurn S c (entry ys i).0 x) at (sy.order i m (omega arith) hm))
  ]
]

abbrev HasName : List (ℕ × Bool) → ℕ → Type 0
HasName list u = (k : ℕ) × (k < length list) × ((entry list k).0 ≡ u)

abbrev HasMarked : List (ℕ × Bool) → ℕ → Type 0
HasMarked list u = (k : ℕ) × (k < length list) × (entry list k ≡ (u, true))

names_agree : (S : List Point) (c : ℕ) (xs ys : List (ℕ × Bool)) (n : ℕ) → IsOrderly S c xs → IsOrderly S c ys → ((u : ℕ) → HasName xs u → HasName ys u) → ((u : ℕ) → HasName ys u → HasName xs u)
    → (i : ℕ) → i < n → i < length xs → i < length ys → (entry xs i).0 ≡ (entry ys i).0
names_agree S c xs ys zero sx sy to from i hn hx hy = absurd (omega arith)
names_agree S c xs ys (suc n) sx sy to from i hn hx hy =
    let same : (j : ℕ) → j < i → (entry xs j).0 ≡ (entry ys j).0 = λ j h. names_agree S c xs ys n sx sy to from j (omega arith) (omega arith) (omega arith) in
    let (m, hm, at) = to (entry xs i).0 (i, hx, refl) in
    let (k, hk, there) = from (entry ys i).0 (i, hy, refl) in
    elim (first_differ S c xs ys i sx sy hx hy same m hm at) [
      | inl e ↦ e
      | inr less ↦ elim (first_differ S c ys xs i sy sx hy hx (λ j h. sym (same j h)) k hk there) [
        | inl e ↦ sym e
        | inr more ↦ absurd (never_before_itself (point S c) (point S (entry xs i).0) (before_on (point S c) (point S (entry xs i).0) (point S (entry ys i).0) (point S (entry xs i).0) more less))
      ]
    ]

not_longer : (S : List Point) (c : ℕ) (xs ys : List (ℕ × Bool)) → IsOrderly S c xs → IsOrderly S c ys → ((u : ℕ) → HasName xs u → HasName ys u) → ((u : ℕ) → HasName ys u → HasName xs u) → length xs < length ys → ⊥
not_longer S c xs ys sx sy to from h =
    let n = length xs in
    let (k, hk, at) = from (entry ys n).0 (n, h, refl) in
    let e : (entry xs k).0 ≡ (entry ys k).0 = names_agree S c xs ys (k + 1) sx sy to from k (omega arith) hk (omega arith) in
    let z : k ≡ n = one_position S c ys k n sy (omega arith) h (sym e ∙ at) in
    omega arith

bits : (b d : Bool) → (b ≡ true → d ≡ true) → (d ≡ true → b ≡ true) → b ≡ d
bits true true f g = refl
bits true false f g = sym (f refl)
bits false true f g = g refl
bits false false f g = refl

pub one_list : (S : List Point) (c : ℕ) (xs ys : List (ℕ × Bool)) → IsOrderly S c xs → IsOrderly S c ys → ((u : ℕ) → HasName xs u → HasName ys u) → ((u : ℕ) → HasName ys u → HasName xs u)
    → ((u : ℕ) → HasMarked xs u → HasMarked ys u) → ((u : ℕ) → HasMarked ys u → HasMarked xs u) → xs ≡ ys
one_list S c xs ys sx sy to from mark unmark = ext_get_or (0, false) xs ys len entries
  where
    len : length xs ≡ length ys
    len = elim (cases_lt (length xs) (length ys)) [
      | inl h ↦ absurd (not_longer S c xs ys sx sy to from h)
      | inr h ↦ elim (cases_lt (length ys) (length xs)) [ inl g ↦ absurd (not_longer S c ys xs sy sx from to g) | inr g ↦ omega arith ]
    ]

    moved : (vs ws : List (ℕ × Bool)) → IsOrderly S c ws → ((u : ℕ) → HasMarked vs u → HasMarked ws u) → (i : ℕ) → i < length vs → i < length ws → (entry vs i).0 ≡ (entry ws i).0 → (entry vs i).1 ≡ true → (entry ws i).1 ≡ true
    moved vs ws sw f i hv hw e t =
        let (k, hk, at) = f (entry vs i).0 (i, hv, ap (λ (b : Bool). let p : ℕ × Bool = ((entry vs i).0, b) in p) t) in
        let z : k ≡ i = one_position S c ws k i sw hk hw (ap (λ (p : ℕ × Bool). p.0) at ∙ e) in
        ap (λ m. (entry ws m).1) (sym z) ∙ ap (λ (p : ℕ × Bool). p.1) at

    entries : (i : ℕ) → i < length xs → entry xs i ≡ entry ys i
    entries i h =
        let h' : i < length ys = omega (arith, len) in
        let e = names_agree S c xs ys (i + 1) sx sy to from i (omega arith) h h' in
        ap₂ (λ (n : ℕ) (b : Bool). let p : ℕ × Bool = (n, b) in p) e
        (bits (entry xs i).1 (entry ys i).1 (moved xs ys sy mark i h h' e) (moved ys xs sx unmark i h' h (sym e)))

-- the star of v in (T, K) is one list
pub one_star : (S : List Point) (T K : List Pair) (v : ℕ) (s t : Seen) → IsStarOf S T K v s → IsStarOf S T K v t → s.list ≡ t.list
one_star S T K v s t os ot =
    one_list S v s.list t.list (at_v s os) (at_v t ot)
    (λ u h. back t u ((ot.neighbours u).1 ((os.neighbours u).0 (forth s u h))))
    (λ u h. back s u ((os.neighbours u).1 ((ot.neighbours u).0 (forth t u h))))
    (λ u h. marked s t os ot u h)
    (λ u h. marked t s ot os u h)
  where
    at_v : (r : Seen) → IsStarOf S T K v r → IsOrderly S v r.list
    at_v r of = subst (λ d. IsOrderly S d r.list) of.centre (subst (λ P. IsOrderly P r.centre r.list) of.points of.star)

    forth : (r : Seen) (u : ℕ) → HasName r.list u → IsNeighbour r u
    forth r u (k, hk, at) = (k, (hk, at))

    back : (r : Seen) (u : ℕ) → IsNeighbour r u → HasName r.list u
    back r u (k, (hk, at)) = (k, hk, at)

    marked : (p r : Seen) → IsStarOf S T K v p → IsStarOf S T K v r → (u : ℕ) → HasMark p u true → HasMark r u true
    marked p r op or u h =
        let (k, hk, at) = h in
        let n : IsNeighbour p u = (k, (hk, ap (λ (x : ℕ × Bool). x.0) at)) in
        (or.marks u ((or.neighbours u).1 ((op.neighbours u).0 n))).1 ((op.marks u n).0 h)
