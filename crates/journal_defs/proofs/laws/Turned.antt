-- The star of a vertex as a value is its star, and the only one.
use Rattle.std.proofs.Common.{◌≡◌, ◌≢◌, ℕ, zero, suc, ◌<◌, ◌≤◌, Bool, true, false, ◌&&◌, ◌||◌, cond, nat_eq, List, [], ◌∷◌, length, get_or, ℤ, pos, negsuc, ◌-ℤ◌, ◌<ℤ◌, ◌⊎◌, inl, inr, arith, sym, ◌∙◌, ap, subst, refl}
use Rattle.std.specs.Bool.{Decides}
use Rattle.std.specs.Ordering.{int_eq}
use Rattle.std.proofs.lemmas.Int.{ints}
use Rattle.std.proofs.lemmas.Bool.{false≢true, cases_lt, cond_both}
use Rattle.std.proofs.lemmas.Bool.Decides.{Decides-eqb, Decides-int_eq, Decides-and, Decides-or, Decides-like}
use Rattle.std.proofs.lemmas.List.Folds.{Any-from_list_any, list_any_at}
use Rattle.plane.specs.declared.coordinates.Point.{Point}
use Rattle.plane.specs.declared.segment.Pair.{Pair}
use Rattle.plane.specs.Geometry.{point, area}
use Rattle.plane.specs.Accepted.{AreAccepted}
use Rattle.plane.proofs.laws.Border.{points_differ}
use Rattle.partition_defs.specs.Partition.{HasEnds, Joins}
use Rattle.partition_defs.specs.Triangulation.{IsTriangulation}
use Rattle.star.specs.Turn.{IsUpper, IsLower, TurnsBefore, PointTogether, IsBeforeInTurn}
use Rattle.star.specs.Stars.{Seen, entry, AreInTurn}
use Rattle.star.specs.StarOf.{IsStarOf}
use Rattle.star.proofs.laws.Turning.{not_both, upper_or_lower, before_on, before_or, never_before_itself}
use Rattle.partition_defs.proofs.laws.Has.{contains_of}
use Rattle.partition_defs.proofs.laws.Joined.{joined, among_joins}
use Rattle.journal_defs.specs.Edits.{State, IsSound}
use Rattle.journal_defs.specs.Neighbours.{is_positive, is_upper, turns_before, are_joined, put_in_turn, turned_below, star_list, star_value}
use Rattle.star.proofs.laws.Directions.{directions_differ}
use Rattle.star.proofs.laws.StarOf.{one_star}
use Rattle.partition_defs.proofs.laws.Needs.{clear_joined}

Decides-positive : (z : ℤ) → Decides (is_positive z) (pos 0 <ℤ z)
Decides-positive (pos zero) = (λ t. absurd (false≢true t), λ h. absurd (omega (arith, ints)))
Decides-positive (pos (suc n)) = (λ t. omega (arith, ints), λ h. refl)
Decides-positive (negsuc n) = (λ t. absurd (false≢true t), λ h. absurd (omega (arith, ints)))

Decides-upper : (c q : Point) → Decides (is_upper c q) (IsUpper c q)
unfolding is_upper
Decides-upper c q =
    Decides-like (is_positive (q.y -ℤ c.y) || (int_eq q.y c.y && is_positive (q.x -ℤ c.x))) to from
    (Decides-or (is_positive (q.y -ℤ c.y)) (int_eq q.y c.y && is_positive (q.x -ℤ c.x)) (Decides-positive (q.y -ℤ c.y))
    (Decides-and (int_eq q.y c.y) (is_positive (q.x -ℤ c.x)) (Decides-int_eq q.y c.y) (Decides-positive (q.x -ℤ c.x))))
  where
    to : (pos 0 <ℤ (q.y -ℤ c.y)) ⊎ ((q.y ≡ c.y) × (pos 0 <ℤ (q.x -ℤ c.x))) → IsUpper c q
    to (inl h) = inl (omega (arith, ints))
    to (inr h) = inr (h.0, omega (arith, ints, h.1))

    from : IsUpper c q → (pos 0 <ℤ (q.y -ℤ c.y)) ⊎ ((q.y ≡ c.y) × (pos 0 <ℤ (q.x -ℤ c.x)))
    from (inl h) = inl (omega (arith, ints))
    from (inr h) = inr (h.0, omega (arith, ints, h.1))

-- two points that aren't the centre turn as the test says
pub Decides-turns : (c q r : Point) → q ≢ c → r ≢ c → Decides (turns_before c q r) (TurnsBefore c q r)
unfolding turns_before
Decides-turns c q r hq hr = tell (is_upper c q) (is_upper c r) (Decides-upper c q) (Decides-upper c r)
  where
    lower : (p : Point) → p ≢ c → (b : Bool) → b ≡ false → Decides b (IsUpper c p) → IsLower c p
    lower p hp b f d = elim (upper_or_lower c p hp) [ inl u ↦ absurd (false≢true (sym f ∙ d.1 u)) | inr l ↦ l ]

    tell : (a b : Bool) → Decides a (IsUpper c q) → Decides b (IsUpper c r) → Decides (cond a (cond b (is_positive (area c q r)) true) (cond b false (is_positive (area c q r)))) (TurnsBefore c q r)
    tell true true da db = (
      λ t. inr (inl (da.0 refl, db.0 refl), (Decides-positive (area c q r)).0 t),
      λ h. elim h [ inl k ↦ absurd (not_both c r (db.0 refl) k.1) | inr k ↦ (Decides-positive (area c q r)).1 k.1 ],
    )
    tell true false da db = (λ t. inl (da.0 refl, lower r hr false refl db), λ h. refl)
    tell false true da db = (
      λ t. absurd (false≢true t),
      λ h. absurd (elim h [
        | inl k ↦ false≢true (da.1 k.0)
        | inr k ↦ elim k.0 [ inl u ↦ false≢true (da.1 u.0) | inr l ↦ not_both c r (db.0 refl) l.1 ]
      ]),
    )
    tell false false da db = (
      λ t. inr (inr (lower q hq false refl da, lower r hr false refl db), (Decides-positive (area c q r)).0 t),
      λ h. elim h [ inl k ↦ absurd (false≢true (da.1 k.0)) | inr k ↦ (Decides-positive (area c q r)).1 k.1 ],
    )

Decides-ends : (e : Pair) (i j : ℕ) → Decides ((nat_eq e.lo i && nat_eq e.hi j) || (nat_eq e.lo j && nat_eq e.hi i)) (HasEnds e i j)
Decides-ends e i j =
    Decides-or (nat_eq e.lo i && nat_eq e.hi j) (nat_eq e.lo j && nat_eq e.hi i)
    (Decides-and (nat_eq e.lo i) (nat_eq e.hi j) (Decides-eqb e.lo i) (Decides-eqb e.hi j))
    (Decides-and (nat_eq e.lo j) (nat_eq e.hi i) (Decides-eqb e.lo j) (Decides-eqb e.hi i))

pub Decides-joined : (T : List Pair) (i j : ℕ) → Decides (are_joined T i j) (Joins T i j)
Decides-joined T i j = (
  λ t. (let (k, e, h, at, same) = Any-from_list_any (λ (e : Pair). (nat_eq e.lo i && nat_eq e.hi j) || (nat_eq e.lo j && nat_eq e.hi i)) T t in (k, e, h, at, (Decides-ends e i j).0 same)),
  λ h. (let (k, e, hk, at, ends) = h in
      list_any_at (λ (e : Pair). (nat_eq e.lo i && nat_eq e.hi j) || (nat_eq e.lo j && nat_eq e.hi i)) T k e hk ((Decides-ends (get_or T k e) i j).1 (subst (λ (z : Pair). HasEnds z i j) (sym at) ends))),
)

-- membership in a list of neighbours, by recursion
abbrev pub In : ℕ × Bool → List (ℕ × Bool) → Type 0
In z [] = ⊥
In z (x ∷ xs) = (x ≡ z) ⊎ In z xs

pub in_at : (xs : List (ℕ × Bool)) (k : ℕ) → k < length xs → In (entry xs k) xs
in_at [] k h = absurd (omega arith)
in_at (x ∷ xs) zero h = inl refl
in_at (x ∷ xs) (suc k) h = inr (in_at xs k (omega arith))

pub at_in : (xs : List (ℕ × Bool)) (z : ℕ × Bool) → In z xs → (k : ℕ) × (k < length xs) × (entry xs k ≡ z)
at_in [] z h = absurd h
at_in (x ∷ xs) z (inl h) = (0, omega arith, h)
at_in (x ∷ xs) z (inr h) = let (k, l, at) = at_in xs z h in (suc k, omega arith, at)

-- in turning order round v, by recursion
abbrev pub Turns : List Point → ℕ → List (ℕ × Bool) → Type 0
Turns S v [] = Unit {0}
Turns S v (x ∷ xs) = ((y : ℕ × Bool) → In y xs → IsBeforeInTurn S v x.0 y.0) × Turns S v xs

in_turn : (S : List Point) (v : ℕ) (xs : List (ℕ × Bool)) → Turns S v xs → AreInTurn S v xs
in_turn S v [] t i j ij h = absurd (omega arith)
in_turn S v (x ∷ xs) t zero zero ij h = absurd (omega arith)
in_turn S v (x ∷ xs) t zero (suc j) ij h = t.0 (entry xs j) (in_at xs j (omega arith))
in_turn S v (x ∷ xs) t (suc i) zero ij h = absurd (omega arith)
in_turn S v (x ∷ xs) t (suc i) (suc j) ij h = in_turn S v xs t.1 i j (omega arith) (omega arith)

pub turn_in : (S : List Point) (v : ℕ) (xs : List (ℕ × Bool)) → AreInTurn S v xs → Turns S v xs
turn_in S v [] t = tt
turn_in S v (x ∷ xs) t = (
  λ y h. (let (k, l, at) = at_in xs y h in subst (λ (z : ℕ × Bool). IsBeforeInTurn S v x.0 z.0) at (t 0 (suc k) (omega arith) (omega arith))),
  turn_in S v xs (λ i j ij h. t (suc i) (suc j) (omega arith) (omega arith)),
)

-- two lists in turning order with the same neighbours and marks are one
pub one_turn : (S : List Point) (v : ℕ) (xs ys : List (ℕ × Bool)) → Turns S v xs → Turns S v ys → ((z : ℕ × Bool) → In z xs → In z ys) → ((z : ℕ × Bool) → In z ys → In z xs) → xs ≡ ys
one_turn S v [] [] r s a b = refl
one_turn S v [] (y ∷ ys) r s a b = absurd (b y (inl refl))
one_turn S v (x ∷ xs) [] r s a b = absurd (a x (inl refl))
one_turn S v (x ∷ xs) (y ∷ ys) r s a b =
    let heads : x ≡ y = first (a x (inl refl)) (b y (inl refl)) in
    let rest : xs ≡ ys = one_turn S v xs ys r.1 s.1 (λ z h. later x y xs ys r heads z h (a z (inr h))) (λ z h. later y x ys xs s (sym heads) z h (b z (inr h))) in
    ap (λ (z : ℕ × Bool). z ∷ xs) heads ∙ ap (λ (zs : List (ℕ × Bool)). y ∷ zs) rest
  where
    first : (y ≡ x) ⊎ In x ys → (x ≡ y) ⊎ In y xs → x ≡ y
    first (inl h) k = sym h
    first (inr h) (inl k) = k
    first (inr h) (inr k) = absurd (never_before_itself (point S v) (point S x.0) (before_on (point S v) (point S x.0) (point S y.0) (point S x.0) (r.0 y k) (s.0 x h)))

    later : (x y : ℕ × Bool) (xs ys : List (ℕ × Bool)) → Turns S v (x ∷ xs) → x ≡ y → (z : ℕ × Bool) → In z xs → (y ≡ z) ⊎ In z ys → In z ys
    later x y xs ys r same z h (inl k) =
        absurd (never_before_itself (point S v) (point S x.0) (subst (λ (w : ℕ × Bool). IsBeforeInTurn S v x.0 w.0) (sym (same ∙ k)) (r.0 z h)))
    later x y xs ys r same z h (inr k) = k

pub in_put : (S : List Point) (v : ℕ) (x z : ℕ × Bool) (ys : List (ℕ × Bool)) → In z (put_in_turn S v x ys) → (x ≡ z) ⊎ In z ys
unfolding put_in_turn
in_put S v x z [] h = h
in_put S v x z (y ∷ ys) h =
    cond_both (turns_before (point S v) (point S x.0) (point S y.0)) (x ∷ y ∷ ys) (y ∷ put_in_turn S v x ys) (λ l. In z l → (x ≡ z) ⊎ In z (y ∷ ys))
    (λ t h. h)
    (λ t h. elim h [ inl k ↦ inr (inl k) | inr k ↦ elim (in_put S v x z ys k) [ inl m ↦ inl m | inr m ↦ inr (inr m) ] ])
    h

pub put_in : (S : List Point) (v : ℕ) (x z : ℕ × Bool) (ys : List (ℕ × Bool)) → (x ≡ z) ⊎ In z ys → In z (put_in_turn S v x ys)
unfolding put_in_turn
put_in S v x z [] h = h
put_in S v x z (y ∷ ys) h =
    cond_both (turns_before (point S v) (point S x.0) (point S y.0)) (x ∷ y ∷ ys) (y ∷ put_in_turn S v x ys) (λ l. In z l)
    (λ t. h)
    (λ t. elim h [ inl k ↦ inr (put_in S v x z ys (inl k)) | inr k ↦ elim k [ inl m ↦ inl m | inr m ↦ inr (put_in S v x z ys (inr m)) ] ])

length_put : (S : List Point) (v : ℕ) (x : ℕ × Bool) (ys : List (ℕ × Bool)) → length (put_in_turn S v x ys) ≡ suc (length ys)
unfolding put_in_turn
length_put S v x [] = refl
length_put S v x (y ∷ ys) =
    cond_both (turns_before (point S v) (point S x.0) (point S y.0)) (x ∷ y ∷ ys) (y ∷ put_in_turn S v x ys) (λ l. length l ≡ suc (length (y ∷ ys)))
    (λ t. refl)
    (λ t. ap suc (length_put S v x ys))

pub turns_put : (S : List Point) (v : ℕ) (x : ℕ × Bool) (ys : List (ℕ × Bool)) → point S x.0 ≢ point S v → ((y : ℕ × Bool) → In y ys → (point S y.0 ≢ point S v) × ¬ PointTogether (point S v) (point S x.0) (point S y.0)) → Turns S v ys → Turns S v (put_in_turn S v x ys)
unfolding put_in_turn
turns_put S v x [] hx apart t = (λ y h. absurd h, tt)
turns_put S v x (y ∷ ys) hx apart t =
    let near = apart y (inl refl) in
    let decides = Decides-turns (point S v) (point S x.0) (point S y.0) hx near.0 in
    cond_both (turns_before (point S v) (point S x.0) (point S y.0)) (x ∷ y ∷ ys) (y ∷ put_in_turn S v x ys) (λ l. Turns S v l)
    (λ b. (let before = decides.0 b in (
      λ z h. elim h [
        | inl same ↦ subst (λ (w : ℕ × Bool). IsBeforeInTurn S v x.0 w.0) same before
        | inr k ↦ before_on (point S v) (point S x.0) (point S y.0) (point S z.0) before (t.0 z k)
      ],
      t,
    )))
    (λ b. (let behind : IsBeforeInTurn S v y.0 x.0 = (elim (before_or (point S v) (point S x.0) (point S y.0) hx near.0) [
      | inl h ↦ absurd (false≢true (sym b ∙ decides.1 h))
      | inr rest ↦ elim rest [ inl h ↦ absurd (near.1 h) | inr h ↦ h ]
    ]) in (
      λ z h. elim (in_put S v x z ys h) [
        | inl same ↦ subst (λ (w : ℕ × Bool). IsBeforeInTurn S v y.0 w.0) same behind
        | inr k ↦ t.0 z k
      ],
      turns_put S v x ys hx (λ z h. apart z (inr h)) t.1,
    )))

-- who stands in the list
pub in_below : (S : List Point) (s : State) (v n : ℕ) (z : ℕ × Bool) → In z (turned_below S s v n) → (z.0 < n) × Joins s.all v z.0 × (z.1 ≡ are_joined s.kept v z.0)
unfolding turned_below
in_below S s v zero z h = absurd h
in_below S s v (suc n) z h =
    cond_both (are_joined s.all v n) (put_in_turn S v (n, are_joined s.kept v n) (turned_below S s v n)) (turned_below S s v n)
    (λ l. In z l → (z.0 < suc n) × Joins s.all v z.0 × (z.1 ≡ are_joined s.kept v z.0))
    (λ t h. elim (in_put S v (n, are_joined s.kept v n) z (turned_below S s v n) h) [
      | inl same ↦ own z same ((Decides-joined s.all v n).0 t)
      | inr k ↦ (let r = in_below S s v n z k in (omega (arith, r.0), r.1, r.2))
    ])
    (λ t h. (let r = in_below S s v n z h in (omega (arith, r.0), r.1, r.2)))
    h
  where
    own : (z : ℕ × Bool) → (n, are_joined s.kept v n) ≡ z → Joins s.all v n → (z.0 < suc n) × Joins s.all v z.0 × (z.1 ≡ are_joined s.kept v z.0)
    own z same j =
        let low : n < suc n = omega arith in
        subst (λ (w : ℕ × Bool). (w.0 < suc n) × Joins s.all v w.0 × (w.1 ≡ are_joined s.kept v w.0)) same (low, j, refl)

pub below_in : (S : List Point) (s : State) (v n w : ℕ) → w < n → Joins s.all v w → In (w, are_joined s.kept v w) (turned_below S s v n)
unfolding turned_below
below_in S s v zero w h j = absurd (omega arith)
below_in S s v (suc n) w h j =
    cond_both (are_joined s.all v n) (put_in_turn S v (n, are_joined s.kept v n) (turned_below S s v n)) (turned_below S s v n)
    (λ l. In (w, are_joined s.kept v w) l)
    (λ t. put_in S v (n, are_joined s.kept v n) (w, are_joined s.kept v w) (turned_below S s v n) (elim (cases_lt w n) [
      | inl k ↦ inr (below_in S s v n w k j)
      | inr k ↦ inl (let e : n ≡ w = omega arith in ap (λ (u : ℕ). (let p : ℕ × Bool = (u, are_joined s.kept v u) in p)) e)
    ]))
    (λ t. elim (cases_lt w n) [
      | inl k ↦ below_in S s v n w k j
      | inr k ↦ absurd (let e : w ≡ n = omega arith in false≢true (sym t ∙ (Decides-joined s.all v n).1 (subst (λ (u : ℕ). Joins s.all v u) e j)))
    ])

length_below : (S : List Point) (s : State) (v n : ℕ) → length (turned_below S s v n) ≤ n
unfolding turned_below
length_below S s v zero = omega arith
length_below S s v (suc n) =
    let r = length_below S s v n in
    cond_both (are_joined s.all v n) (put_in_turn S v (n, are_joined s.kept v n) (turned_below S s v n)) (turned_below S s v n) (λ l. length l ≤ suc n)
    (λ t. (let e = length_put S v (n, are_joined s.kept v n) (turned_below S s v n) in omega arith))
    (λ t. omega arith)

pub joined_apart : (T : List Pair) (v w : ℕ) → Joins T v w → w ≢ v
joined_apart T v w h same = let (e, m, ends) = joined T v w h in let o = e.ordered in elim ends [ inl a ↦ omega (arith, a.0, a.1) | inr a ↦ omega (arith, a.0, a.1) ]

pub turns_below : (S : List Point) (s : State) (v n : ℕ) → AreAccepted S → IsTriangulation S s.all → v < length S → n ≤ length S → Turns S v (turned_below S s v n)
unfolding turned_below
turns_below S s v zero accepted tri hv hn = tt
turns_below S s v (suc n) accepted tri hv hn =
    let before = turns_below S s v n accepted tri hv (omega arith) in
    cond_both (are_joined s.all v n) (put_in_turn S v (n, are_joined s.kept v n) (turned_below S s v n)) (turned_below S s v n) (λ l. Turns S v l)
    (λ t. (let j = (Decides-joined s.all v n).0 t in
    let apart = joined_apart s.all v n j in
    let low : n < length S = omega arith in
    turns_put S v (n, are_joined s.kept v n) (turned_below S s v n) (points_differ S n v accepted.apart low hv apart)
    (λ y h. (let r = in_below S s v n y h in
    let near = joined_apart s.all v y.0 r.1 in
    let inside : y.0 < length S = omega (arith, r.0) in
    let other : n ≢ y.0 = omega (arith, r.0) in (
      points_differ S y.0 v accepted.apart inside hv near,
      directions_differ S v n y.0 accepted hv low inside apart near other (clear_joined S s.all v n tri j) (clear_joined S s.all v y.0 tri r.1),
    )))
    before))
    (λ t. before)

-- the value is the star
pub value_is_star : (S : List Point) (s : State) (v : ℕ) → AreAccepted S → IsSound S s → v < length S → IsStarOf S s.all s.kept v (star_value S s v)
value_is_star S s v accepted sound hv = record {
  star = record {
    centre = hv;
    within = λ k h. (let r = in_below S s v (length S) (entry (star_list S s v) k) (in_at (star_list S s v) k h) in r.0);
    apart = λ k h. (let r = in_below S s v (length S) (entry (star_list S s v) k) (in_at (star_list S s v) k h) in joined_apart s.all v (entry (star_list S s v) k).0 r.1);
    order = in_turn S v (star_list S s v) (turns_below S s v (length S) accepted sound.triangulation hv (omega arith));
    few = (let r = length_below S s v (length S) in let c = accepted.count.1 in omega arith);
  };
  centre = refl;
  points = refl;
  neighbours = λ w. (
    λ h. (let (k, (hk, at)) = h in let r = in_below S s v (length S) (entry (star_list S s v) k) (in_at (star_list S s v) k hk) in subst (λ (u : ℕ). Joins s.all v u) at r.1),
    λ j. (let (k, hk, at) = at_in (star_list S s v) (w, are_joined s.kept v w) (below_in S s v (length S) w (point_joined w j) j) in (k, (hk, ap (λ (p : ℕ × Bool). p.0) at))),
  );
  marks = λ w n. (
    λ h. (let (k, hk, at) = h in let r = in_below S s v (length S) (entry (star_list S s v) k) (in_at (star_list S s v) k hk) in
        (Decides-joined s.kept v w).0 (subst (λ (p : ℕ × Bool). are_joined s.kept v p.0 ≡ p.1) at (sym r.2))),
    λ j. (let t = (Decides-joined s.kept v w).1 j in
        let all = among_joins s.kept s.all sound.among v w j in
        let (k, hk, at) = at_in (star_list S s v) (w, are_joined s.kept v w) (below_in S s v (length S) w (point_joined w all) all) in
        (k, hk, at ∙ ap (λ (b : Bool). (let p : ℕ × Bool = (w, b) in p)) t)),
  );
}
  where
    point_joined : (w : ℕ) → Joins s.all v w → w < length S
    point_joined w j = let (e, m, ends) = joined s.all v w j in
        let high = sound.triangulation.within e (contains_of s.all e m) in let o = e.ordered in
        elim ends [ inl a ↦ omega (arith, a.1) | inr a ↦ omega (arith, a.0) ]

-- so every star of v in a sound state has the value's list
pub star_is_value : (S : List Point) (s : State) (v : ℕ) (a : Seen) → AreAccepted S → IsSound S s → v < length S → IsStarOf S s.all s.kept v a → a.list ≡ star_list S s v
star_is_value S s v a accepted sound hv so = one_star S s.all s.kept v a (star_value S s v) so (value_is_star S s v accepted sound hv)
