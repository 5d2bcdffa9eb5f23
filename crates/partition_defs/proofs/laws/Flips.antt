-- The flip in a triangulation, over lists of points and segments.
use Rattle.std.proofs.Common.{◌≡◌, ℕ, ℤ, ◌<◌, ◌⊎◌, inl, inr, List, length, sym, refl, subst, arith}
use Rattle.std.proofs.lemmas.Bool.{cases_order}
use Rattle.plane.specs.declared.coordinates.Point.{Point}
use Rattle.plane.specs.declared.segment.Pair.{Pair}
use Rattle.plane.specs.Geometry.{orientation, AreCrossing, IsBetween, IsClear, IsBorderPair}
use Rattle.partition_defs.specs.Partition.{HasEnds, Joins}
use Rattle.partition_defs.specs.Triangulation.{IsTriangulation, IsApex}
use Rattle.partition_defs.proofs.laws.Has.{contains_of}
use Rattle.partition_defs.specs.Sets.{without, with_one}
use Rattle.partition_defs.proofs.laws.Joined.{joined, join_back, one_pair}
use Rattle.partition_defs.proofs.laws.Sets.{joins_without, without_joins, joins_with, with_joins, with_joins_own}
use Rattle.plane_laws.specs.Quads.{AreEnds}
use Rattle.partition_defs.specs.Flips.{IsFlippable, IsFlip, IsFlipped}
use Rattle.plane_laws.proofs.Field.{Laws, Over, apart, over_back, over_turned, over_of, over_cross, over_cross_back}
use Rattle.plane_laws.proofs.Four.{clear_after, over_after}
use Rattle.partition_defs.proofs.laws.Net.{Apex, Net, Quad, Flipped, ends_turned, apex_once, apex_next, four_of, alone_after, quad_of, quad_turned, flipped_turned, first_side, net_after}
use Rattle.plane_laws.proofs.Places.{plane_laws}
use Rattle.plane.proofs.laws.Border.{clear_back}
use Rattle.number_laws.proofs.Signs.{turned_high, turned_low}
use Rattle.partition_defs.proofs.laws.Joined.{contains_joins}
use Rattle.number_laws.proofs.Naturals.{below_differs}

pub joins_in : (S : List Point) (T : List Pair) → IsTriangulation S T → (i j : ℕ) → Joins T i j → i < length S
joins_in S T tri i j h =
    let (e, m, ends) = joined T i j h in
    let hi : e.hi < length S = tri.within e (contains_of T e m) in
    elim ends [ inl w ↦ omega (arith, w.0, e.ordered) | inr w ↦ omega (arith, w.1) ]

pub joins_clear : (S : List Point) (T : List Pair) → IsTriangulation S T → (i j : ℕ) → Joins T i j → IsClear S i j
joins_clear S T tri i j h =
    let (e, m, ends) = joined T i j h in
    let c : IsClear S e.lo e.hi = tri.clear e (contains_of T e m) in
    elim ends [
      | inl w ↦ subst (λ x. IsClear S x j) w.0 (subst (λ x. IsClear S e.lo x) w.1 c)
      | inr w ↦ clear_back S j i (subst (λ x. IsClear S x i) w.0 (subst (λ x. IsClear S e.lo x) w.1 c))
    ]

put : (o : ℕ → ℕ → ℕ → ℤ) (p q u v i j k l : ℕ) → p ≡ i → q ≡ j → u ≡ k → v ≡ l → Over o i j k l → Over o p q u v
put o p q u v i j k l a b c d h =
    subst (λ y. Over o y q u v) (sym a) (subst (λ y. Over o i y u v) (sym b) (subst (λ y. Over o i j y v) (sym c) (subst (λ y. Over o i j k y) (sym d) h)))

-- two segments of a list that cross
over_ends : (S : List Point) (e f : Pair) (i j k l : ℕ) → HasEnds e i j → HasEnds f k l → Over (orientation S) i j k l → AreCrossing S e.lo e.hi f.lo f.hi
over_ends S e f i j k l (inl w) (inl z) x =
    over_cross (orientation S) (IsBetween S) (plane_laws S) e.lo e.hi f.lo f.hi (put (orientation S) e.lo e.hi f.lo f.hi i j k l w.0 w.1 z.0 z.1 x)
over_ends S e f i j k l (inl w) (inr z) x =
    over_cross_back (orientation S) (IsBetween S) (plane_laws S) e.lo e.hi f.lo f.hi (put (orientation S) e.hi e.lo f.lo f.hi j i l k w.1 w.0 z.0 z.1 (over_back (orientation S) i j k l x))
over_ends S e f i j k l (inr w) (inl z) x =
    over_cross_back (orientation S) (IsBetween S) (plane_laws S) e.lo e.hi f.lo f.hi (put (orientation S) e.hi e.lo f.lo f.hi i j k l w.1 w.0 z.0 z.1 x)
over_ends S e f i j k l (inr w) (inr z) x =
    over_cross (orientation S) (IsBetween S) (plane_laws S) e.lo e.hi f.lo f.hi (put (orientation S) e.lo e.hi f.lo f.hi j i l k w.0 w.1 z.0 z.1 (over_back (orientation S) i j k l x))

apex_of : (S : List Point) (T : List Pair) (p q r : ℕ) → IsApex S T p q r → Apex (length S) (orientation S) (Joins T) p q r
apex_of S T p q r h = record { within = h.within; first = h.first; second = h.second; left = h.left; empty = λ s sn a b c g. h.empty s sn a b c g }

apex_to : (S : List Point) (T : List Pair) (p q r : ℕ) → Apex (length S) (orientation S) (Joins T) p q r → IsApex S T p q r
apex_to S T p q r a = record { within = a.within; first = a.first; second = a.second; left = a.left; empty = λ s sn na nb nc h. a.empty s sn na nb nc h }

pub net_of : (S : List Point) (T : List Pair) → IsTriangulation S T → Net (length S) (orientation S) (IsBetween S) (Joins T)
net_of S T tri = record {
  within = joins_in S T tri;
  back = join_back T;
  clear = λ i j h k kn b. joins_clear S T tri i j h k kn b;
  plane = λ i j k l h g x. (let (e, m, ends) = joined T i j h in let (f, w, sides) = joined T k l g in
      tri.plane e f (contains_of T e m) (contains_of T f w) (over_ends S e f i j k l ends sides x));
  border = λ i j hi hj ne clear left. elim (cases_order i j) [
    | inl e ↦ absurd (ne e)
    | inr q ↦ elim q [
      | inl h ↦ tri.border i j h hj (clear, inl left)
      | inr h ↦ join_back T j i (tri.border j i h hi (clear_back S i j clear, inr left))
    ]
  ];
  met = λ i hi. (let (q, qn, h) = tri.met i hi in (q, h));
  apex = λ i j s h sn left. (let (r, a) = tri.apex i j h (s, sn, left) in (r, apex_of S T i j r a));
}

pub net_to : (S : List Point) (T : List Pair) → Net (length S) (orientation S) (IsBetween S) (Joins T) → IsTriangulation S T
net_to S T N = record {
  within = λ e h. N.within e.hi e.lo (N.back e.lo e.hi (contains_joins T e h));
  clear = λ e h k kn b. N.clear e.lo e.hi (contains_joins T e h) k kn b;
  plane = λ e f he hf x. over_of (orientation S) (IsBetween S) (plane_laws S) e.lo e.hi f.lo f.hi x.0 x.1
      (λ y. N.plane e.lo e.hi f.lo f.hi (contains_joins T e he) (contains_joins T f hf) y)
      (λ y. N.plane e.hi e.lo f.lo f.hi (N.back e.lo e.hi (contains_joins T e he)) (contains_joins T f hf) y);
  border = λ i j ij jn h. elim h.1 [
    | inl left ↦ N.border i j (omega arith) jn (below_differs i j ij) h.0 left
    | inr left ↦ N.back j i (N.border j i jn (omega arith) (λ e. below_differs i j ij (sym e)) (clear_back S i j h.0) left)
  ];
  met = λ p pn. (let (q, h) = N.met p pn in (q, N.within q p (N.back p q h), h));
  apex = λ p q j h. (let (r, a) = N.apex p q h.0 j h.1 h.2 in (r, apex_to S T p q r a));
}

quad_from : (S : List Point) (T : List Pair) (a b c d : ℕ) → IsFlippable S T a b c d → Quad (length S) (orientation S) (Joins T) a b c d
quad_from S T a b c d h = record {
  joined = h.joined;
  left = apex_of S T a b c h.left;
  right = apex_of S T b a d h.right;
  first = turned_high (orientation S c d a) (orientation S d c a) ((plane_laws S).swap d c a) h.first_side;
  second = h.second_side;
}

quad_to : (S : List Point) (T : List Pair) (a b c d : ℕ) → Quad (length S) (orientation S) (Joins T) a b c d → IsFlippable S T a b c d
quad_to S T a b c d Q = record {
  joined = Q.joined;
  left = apex_to S T a b c Q.left;
  right = apex_to S T b a d Q.right;
  first_side = turned_low (orientation S d c a) (orientation S c d a) ((plane_laws S).swap c d a) Q.first;
  second_side = Q.second;
}

pub flip_of_quad : (S : List Point) (T : List Pair) → IsTriangulation S T → (a b c d : ℕ) → IsFlippable S T a b c d → IsFlip S T a b c d
flip_of_quad S T tri a b c d h =
    let o = orientation S in
    let L : Laws (orientation S) (IsBetween S) = plane_laws S in
    let N : Net (length S) (orientation S) (IsBetween S) (Joins T) = net_of S T tri in
    let Q : Quad (length S) (orientation S) (Joins T) a b c d = quad_from S T a b c d h in
    let F = four_of (length S) (orientation S) (IsBetween S) L (Joins T) N a b c d Q in
    let x : Over (orientation S) c d a b = over_after (length S) (orientation S) a b c d F in
    record {
      c_in = Q.left.within;
      d_in = Q.right.within;
      joined = h.joined;
      fresh = λ k. N.plane c d a b k h.joined x;
      clear = λ k kn b2. clear_after (length S) (orientation S) (IsBetween S) L a b c d F k kn b2;
      crosses = over_cross (orientation S) (IsBetween S) L c d a b x;
      alone = λ i j k y. over_of (orientation S) (IsBetween S) L c d i j y.0 y.1
          (λ z. inl (alone_after (length S) (orientation S) (IsBetween S) L (Joins T) N a b c d i j Q k z))
          (λ z. (let w = alone_after (length S) (orientation S) (IsBetween S) L (Joins T) N a b c d j i Q (N.back i j k) (over_back (orientation S) d c i j z) in inr (w.1, w.0)));
    }

-- what a flip does to the segments
flipped_of : (T U : List Pair) (a b c d : ℕ) → IsFlipped T U a b c d → Flipped (Joins T) (Joins U) a b c d
flipped_of T U a b c d h = record {
  old = λ i j k g. (h i j).1 (inl (k, g));
  new = λ i j k. (h i j).1 (inr k);
  only = λ i j k. (h i j).0 k;
}

pub triangulation_after : (S : List Point) (T U : List Pair) → IsTriangulation S T → (a b c d : ℕ) → IsFlippable S T a b c d → IsFlipped T U a b c d → IsTriangulation S U
triangulation_after S T U tri a b c d h f =
    net_to S U (net_after (length S) (orientation S) (IsBetween S) (plane_laws S) (Joins T) (net_of S T tri) (Joins U) a b c d (quad_from S T a b c d h) (flipped_of T U a b c d f))

-- a flip joins the two apexes
pub quad_of_flip : (S : List Point) (T : List Pair) → IsTriangulation S T → (a b u v : ℕ) → IsFlip S T a b u v → IsFlippable S T a b u v ⊎ IsFlippable S T a b v u
quad_of_flip S T tri a b u v h =
    over_of (orientation S) (IsBetween S) (plane_laws S) u v a b h.crosses.0 h.crosses.1
    (λ x. inl (quad_to S T a b u v (quad_of (length S) (orientation S) (IsBetween S) (plane_laws S) (Joins T) (net_of S T tri) a b v u h.joined h.d_in h.c_in (clear_back S u v h.clear) h.clear
    (over_turned (orientation S) u v a b x)
    (λ i j k y. h.alone i j k (over_cross (orientation S) (IsBetween S) (plane_laws S) u v i j (over_back (orientation S) v u j i (over_turned (orientation S) i j v u y)))))))
    (λ x. inr (quad_to S T a b v u (quad_of (length S) (orientation S) (IsBetween S) (plane_laws S) (Joins T) (net_of S T tri) a b u v h.joined h.c_in h.d_in h.clear (clear_back S u v h.clear)
    (over_turned (orientation S) v u a b x)
    (λ i j k y. h.alone i j k (over_cross_back (orientation S) (IsBetween S) (plane_laws S) u v i j (over_back (orientation S) u v j i (over_turned (orientation S) i j u v y)))))))

pub apex_is_one : (S : List Point) (T : List Pair) → IsTriangulation S T → (p q r s : ℕ) → IsApex S T p q r → IsApex S T p q s → r ≡ s
apex_is_one S T tri p q r s A C =
    apex_once (length S) (orientation S) (IsBetween S) (plane_laws S) (Joins T) (net_of S T tri) p q r s (apex_of S T p q r A) (apex_of S T p q s C)

pub flipped_swap : (T U : List Pair) (a b c d : ℕ) → IsFlipped T U a b c d → IsFlipped T U a b d c
flipped_swap T U a b c d h i j = (
  (λ k. elim ((h i j).0 k) [ inl w ↦ inl w | inr w ↦ inr (ends_turned c d i j w) ]),
  (λ k. elim k [ inl w ↦ (h i j).1 (inl w) | inr w ↦ (h i j).1 (inr (ends_turned d c i j w)) ]),
)

pub triangulation_of_flip : (S : List Point) (T U : List Pair) → IsTriangulation S T → (a b c d : ℕ) → IsFlip S T a b c d → IsFlipped T U a b c d → IsTriangulation S U
triangulation_of_flip S T U tri a b c d h f =
    elim (quad_of_flip S T tri a b c d h) [
      | inl q ↦ triangulation_after S T U tri a b c d q f
      | inr q ↦ triangulation_after S T U tri a b d c q (flipped_swap T U a b c d f)
    ]

-- the quadrilateral after the flip is that of the flip back
pub quad_after : (S : List Point) (T U : List Pair) → IsTriangulation S T → (a b c d : ℕ) → IsFlippable S T a b c d → IsFlipped T U a b c d → IsFlippable S U c d b a
quad_after S T U tri a b c d h f =
    let N : Net (length S) (orientation S) (IsBetween S) (Joins T) = net_of S T tri in
    let Q : Quad (length S) (orientation S) (Joins T) a b c d = quad_from S T a b c d h in
    let R : Quad (length S) (orientation S) (Joins T) b a d c = quad_turned (length S) (orientation S) (IsBetween S) (plane_laws S) (Joins T) N a b c d Q in
    let F : Flipped (Joins T) (Joins U) a b c d = flipped_of T U a b c d f in
    let G : Flipped (Joins T) (Joins U) b a d c = flipped_turned (Joins T) (Joins U) a b c d F in
    record {
      joined = F.new c d (inl (refl, refl));
      left = apex_to S U c d b (first_side (length S) (orientation S) (IsBetween S) (plane_laws S) (Joins T) N (Joins U) a b c d Q F);
      right = apex_to S U d c a (first_side (length S) (orientation S) (IsBetween S) (plane_laws S) (Joins T) N (Joins U) b a d c R G);
      first_side = turned_low (orientation S a b c) (orientation S b a c) ((plane_laws S).swap b a c) Q.left.left;
      second_side = Q.right.left;
    }

pub flippable_turned : (S : List Point) (T : List Pair) → (a b c d : ℕ) → IsFlippable S T a b c d → IsFlippable S T b a d c
flippable_turned S T a b c d h = record {
  joined = join_back T a b h.joined;
  left = h.right;
  right = h.left;
  first_side = turned_low (orientation S c d b) (orientation S d c b) ((plane_laws S).swap d c b) h.second_side;
  second_side = turned_high (orientation S c d a) (orientation S d c a) ((plane_laws S).swap d c a) h.first_side;
}

-- the next side of an apex's triangle has its first point as apex
pub apex_turns : (S : List Point) (T : List Pair) → IsTriangulation S T → (p q r : ℕ) → Joins T p q → IsApex S T p q r → IsApex S T q r p
apex_turns S T tri p q r h a =
    apex_to S T q r p (apex_next (length S) (orientation S) (IsBetween S) (plane_laws S) (Joins T) p q r (join_back T) (joins_in S T tri p q h) h (apex_of S T p q r a))

-- a segment that can be flipped has points on both sides
pub not_border : (S : List Point) (T : List Pair) (a b c d : ℕ) → IsFlippable S T a b c d → ¬ IsBorderPair S a b
not_border S T a b c d q h = elim h.1 [
  | inl left ↦ apart (orientation S b a d) (orientation S a b d) ((plane_laws S).swap a b d) q.right.left (left d q.right.within)
  | inr left ↦ apart (orientation S a b c) (orientation S b a c) ((plane_laws S).swap b a c) q.left.left (left c q.left.within)
]

pub flip_inside : (S : List Point) (T : List Pair) → IsTriangulation S T → (a b c d : ℕ) → IsFlip S T a b c d → ¬ IsBorderPair S a b
flip_inside S T tri a b c d h = elim (quad_of_flip S T tri a b c d h) [ inl q ↦ not_border S T a b c d q | inr q ↦ not_border S T a b d c q ]

-- crossing doesn't go by the order of the ends
pub crossing_swap : (S : List Point) (p q u v : ℕ) → AreCrossing S p q u v → AreCrossing S p q v u
crossing_swap S p q u v x = over_of (orientation S) (IsBetween S) (plane_laws S) p q u v x.0 x.1
    (λ y. over_cross_back (orientation S) (IsBetween S) (plane_laws S) p q v u (over_back (orientation S) p q u v y))
    (λ y. over_cross (orientation S) (IsBetween S) (plane_laws S) p q v u (over_back (orientation S) q p u v y))

pub crossing_swap_first : (S : List Point) (p q u v : ℕ) → AreCrossing S p q u v → AreCrossing S q p u v
crossing_swap_first S p q u v x = over_of (orientation S) (IsBetween S) (plane_laws S) p q u v x.0 x.1
    (λ y. over_cross_back (orientation S) (IsBetween S) (plane_laws S) q p u v y)
    (λ y. over_cross (orientation S) (IsBetween S) (plane_laws S) q p u v y)

-- the new pair named the other way round
pub flip_swap : (S : List Point) (T : List Pair) (a b c d : ℕ) → IsFlip S T a b c d → IsFlip S T a b d c
flip_swap S T a b c d h = record {
  c_in = h.d_in;
  d_in = h.c_in;
  joined = h.joined;
  fresh = λ k. h.fresh (join_back T d c k);
  clear = clear_back S c d h.clear;
  crosses = crossing_swap_first S c d a b h.crosses;
  alone = λ i j k x. h.alone i j k (crossing_swap_first S d c i j x);
}

-- the pair with two ends, told either way
pub pair_of_ends : (g e : Pair) (i j : ℕ) → HasEnds g i j → AreEnds e.lo e.hi i j → g ≡ e
pair_of_ends g e i j h (inl z) = one_pair g e i j h (inl (sym z.0, sym z.1))
pair_of_ends g e i j h (inr z) = one_pair g e i j h (inr (sym z.1, sym z.0))

pub ends_of_pair : (g : Pair) (i j : ℕ) → HasEnds g i j → AreEnds g.lo g.hi i j
ends_of_pair g i j (inl w) = inl (sym w.0, sym w.1)
ends_of_pair g i j (inr w) = inr (sym w.1, sym w.0)

pair_ends : (g : Pair) (i j : ℕ) → AreEnds g.lo g.hi i j → HasEnds g i j
pair_ends g i j (inl w) = inl (sym w.0, sym w.1)
pair_ends g i j (inr w) = inr (sym w.1, sym w.0)

-- the set with f for e is flipped
pub flipped_set : (T : List Pair) (e f : Pair) → IsFlipped T (with_one f (without e T)) e.lo e.hi f.lo f.hi
flipped_set T e f i j = (
  λ h. elim (joins_with f (without e T) i j h) [
    | inl k ↦ (let r = joins_without e T i j k in inl (r.0, λ z. r.1 (pair_ends e i j z)))
    | inr k ↦ inr (ends_of_pair f i j k)
  ],
  λ h. elim h [
    | inl k ↦ with_joins f (without e T) i j (without_joins e T i j k.0 (λ z. k.1 (ends_of_pair e i j z)))
    | inr k ↦ with_joins_own f (without e T) i j (pair_ends f i j k)
  ],
)
