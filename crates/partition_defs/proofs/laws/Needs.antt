-- A triangulation meets all needs, so it is a convex partition.
use Rattle.std.proofs.Common.{◌≡◌, ◌≢◌, ℕ, zero, suc, ◌<◌, List, [], ◌∷◌, length, ℤ, pos, ◌*ℤ◌, ◌<ℤ◌, ◌≤ℤ◌, ◌⊎◌, inl, inr, arith, sym, ◌∙◌, ap, subst, refl}
use Rattle.std.proofs.lemmas.Int.{ints}
use Rattle.std.proofs.lemmas.Bool.{cases_lt}
use Rattle.number_laws.proofs.Naturals.{equal_or_not}
use Rattle.plane.specs.declared.coordinates.Point.{Point}
use Rattle.plane.specs.declared.segment.Pair.{Pair}
use Rattle.plane.specs.Geometry.{point, area, scalar, orientation, LiesBetween, IsBetween, IsClear, IsInner}
use Rattle.plane.specs.Accepted.{AreAccepted}
use Rattle.plane.proofs.laws.Area.{area_cycle, area_swap, area_back, area_first, area_second}
use Rattle.plane.proofs.laws.Along.{between_swap, other_side, other_side_right, one_between}
use Rattle.number_laws.proofs.Signs.{negative_or, positive_negative, negative_negative, zero_left, zero_right}
use Rattle.plane.proofs.laws.Border.{points_differ, clear_back}
use Rattle.plane_laws.proofs.Separation.{weigh}
use Rattle.plane_laws.proofs.Orientations.{area_four}
use Rattle.partition_defs.specs.Partition.{HasEnds, Joins, IsMet, MeetsNeedsAt, IsConvexPartition}
use Rattle.partition_defs.specs.Triangulation.{IsTriangulation}
use Rattle.partition_defs.proofs.laws.Has.{Has, contains_of}
use Rattle.partition_defs.proofs.laws.Joined.{joined, joins_of, one_other}
use Rattle.number_laws.proofs.Sums.{positive_low}

weak_product : (a b : ℤ) → a ≤ℤ pos 0 → b ≤ℤ pos 0 → pos 0 ≤ℤ (a *ℤ b)
weak_product a b ha hb = elim (negative_or a) [
  | inl x ↦ elim (negative_or b) [
    | inl y ↦ (let h = negative_negative a b x y in omega (arith, ints))
    | inr rest ↦ elim rest [ inl y ↦ (let h = zero_right a b y in omega (arith, ints)) | inr y ↦ absurd (omega (arith, ints)) ]
  ]
  | inr rest ↦ elim rest [ inl x ↦ (let h = zero_left a b x in omega (arith, ints)) | inr x ↦ absurd (omega (arith, ints)) ]
]

-- a point left of p to m is left of p to q where m lies in the direction of q
same_direction : (p q m x : Point) → p ≢ q → p ≢ m → area p q m ≡ pos 0 → ¬ LiesBetween p q m → pos 0 <ℤ area p m x → ¬ (q ≡ m) → pos 0 <ℤ area p q x
same_direction p q m x pq pm line off left qm = elim (one_between p q m pq pm qm line) [
  | inl h ↦ absurd (off h)
  | inr rest ↦ elim rest [
    | inl h ↦ (let sum = area_four p q m x in
        elim (negative_or (area q m x)) [
          | inl a ↦ omega (arith, ints)
          | inr others ↦ elim others [
            | inl a ↦ omega (arith, ints)
            | inr a ↦ (let e = area_swap q x m in
                let side : pos 0 <ℤ area q x p = other_side q p m x h (omega (arith, ints)) in
                let f = area_cycle q x p in let g = area_cycle x p q in omega (arith, ints))
          ]
        ])
    | inr h ↦ (let sum = area_four p m q x in
        let flat = area_swap p m q in
        let a = area_cycle p m x in
        let side : area m x q <ℤ pos 0 = other_side_right m q p x (between_swap m p q h) (omega (arith, ints)) in
        let e = area_swap m q x in
        omega (arith, ints))
  ]
]

-- of three points right of p to q, none of them opposite to q: y isn't left of p to x where it isn't left of p to m and x is
turns_on : (p q m x y : Point) → p ≢ q → p ≢ m → ((q ≡ m) ⊎ ¬ (q ≡ m)) → area p q m ≤ℤ pos 0 → ¬ LiesBetween p q m → area p q x ≤ℤ pos 0 → area p q y ≤ℤ pos 0
    → pos 0 <ℤ area p m x → area p m y ≤ℤ pos 0 → area p x y ≤ℤ pos 0
turns_on p q m x y pq pm same hm off hx hy mx my = elim (negative_or (area p q m)) [
  | inl strict ↦ elim (negative_or (area p x y)) [
    | inl a ↦ omega (arith, ints)
    | inr rest ↦ elim rest [
      | inl a ↦ omega (arith, ints)
      | inr a ↦ absurd (
          let sum = weigh p q p m x y in
          let first = zero_right (area m x y) (area p q p) (area_first p q) in
          let second = weak_product (area p m y) (area p q x) my hx in
          let third = positive_negative (area p x y) (area p q m) a strict in
          let fourth = positive_low (area p m x) (area p q y) mx hy in
          omega (arith, ints))
    ]
  ]
  | inr rest ↦ elim rest [
    | inl line ↦ elim same [
      | inl e ↦ absurd (let f : area p q x ≡ area p m x = ap (λ (z : Point). area p z x) e in omega (arith, ints))
      | inr ne ↦ absurd (let h = same_direction p q m x pq pm line off mx ne in omega (arith, ints))
    ]
    | inr a ↦ absurd (omega (arith, ints))
  ]
]

-- x is right of p to q or in line, and not opposite to q
abbrev pub IsAside : List Point → (p q x : ℕ) → Type 0
IsAside S p q x = (orientation S p q x ≤ℤ pos 0) × ¬ IsBetween S p q x

-- a point is on the left or opposite, or aside
aside_or : (S : List Point) (p q x : ℕ) → ((pos 0 <ℤ orientation S p q x) ⊎ IsBetween S p q x) ⊎ IsAside S p q x
aside_or S p q x =
    let back = area_back (point S p) (point S q) (point S x) in
    elim (negative_or (orientation S p q x)) [
      | inl a ↦ inr (omega (arith, ints), λ b. (let z = b.0 in omega (arith, ints)))
      | inr rest ↦ elim rest [
        | inl a ↦ elim (negative_or (scalar (point S p) (point S q) (point S x))) [
          | inl s ↦ inl (inr (omega (arith, ints), s))
          | inr t ↦ inr (omega (arith, ints), λ b. (let z = b.1 in elim t [ inl u ↦ omega (arith, ints) | inr u ↦ omega (arith, ints) ]))
        ]
        | inr a ↦ inl (inl a)
      ]
    ]

-- the segment to m is the furthest one to the left of those at p among some
record Furthest (S : List Point) (T : List Pair) (p q : ℕ) (xs : List Pair) : Type 0 where
  m : ℕ
  within : m < length S
  apart : m ≢ p
  join : Joins T p m
  aside : IsAside S p q m
  most : (f : Pair) (x : ℕ) → Has f xs → HasEnds f p x → IsAside S p q x × (orientation S p m x ≤ℤ pos 0)

abbrev Found : List Point → List Pair → (p q : ℕ) → Type 0
Found S T p q = IsMet S T p q

abbrev None_at : ℕ → List Pair → Type 0
None_at p xs = (f : Pair) (x : ℕ) → Has f xs → ¬ HasEnds f p x

-- the other end of a segment at p
other_of : (e : Pair) (p : ℕ) → ((x : ℕ) × HasEnds e p x × (x ≢ p)) ⊎ ((x : ℕ) → ¬ HasEnds e p x)
other_of e p = let o = e.ordered in elim (equal_or_not e.lo p) [
  | inl a ↦ inl (e.hi, inl (a, refl), omega arith)
  | inr a ↦ elim (equal_or_not e.hi p) [
    | inl b ↦ inl (e.lo, inr (refl, b), omega arith)
    | inr b ↦ inr (λ x h. elim h [ inl u ↦ a u.0 | inr u ↦ b u.1 ])
  ]
]

end_within : (S : List Point) (e : Pair) (p x : ℕ) → e.hi < length S → HasEnds e p x → x < length S
end_within S e p x h (inl (a, b)) = subst (λ y. y < length S) b h
end_within S e p x h (inr (a, b)) = let o = e.ordered in subst (λ y. y < length S) a (let r : e.lo < length S = omega arith in r)

furthest : (S : List Point) (T : List Pair) (p q : ℕ) (xs : List Pair) → AreAccepted S → IsTriangulation S T → p < length S → q < length S → q ≢ p → ((f : Pair) → Has f xs → Has f T)
    → Found S T p q ⊎ (None_at p xs ⊎ Furthest S T p q xs)
furthest S T p q [] accepted tri hp hq ne sub = inr (inl (λ f x h ends. h))
furthest S T p q (e ∷ xs) accepted tri hp hq ne sub = elim (furthest S T p q xs accepted tri hp hq ne (λ f h. sub f (inr h))) [
  | inl found ↦ inl found
  | inr rest ↦ elim (other_of e p) [
    | inr away ↦ elim rest [
      | inl none ↦ inr (inl (λ f x h ends. elim h [ inl same ↦ away x (subst (λ (z : Pair). HasEnds z p x) (sym same) ends) | inr k ↦ none f x k ends ]))
      | inr best ↦ inr (inr (record {
        m = best.m;
        within = best.within;
        apart = best.apart;
        join = best.join;
        aside = best.aside;
        most = λ f x h ends. elim h [ inl same ↦ absurd (away x (subst (λ (z : Pair). HasEnds z p x) (sym same) ends)) | inr k ↦ best.most f x k ends ];
      }))
    ]
    | inl here ↦ next here.0 here.1 here.2 rest
  ]
]
  where
    mine : Has e T
    mine = sub e (inl refl)

    next : (x : ℕ) → HasEnds e p x → x ≢ p → (None_at p xs ⊎ Furthest S T p q xs) → Found S T p q ⊎ (None_at p (e ∷ xs) ⊎ Furthest S T p q (e ∷ xs))
    next x ends apart rest =
        let hx = end_within S e p x (tri.within e (contains_of T e mine)) ends in
        let join = joins_of T e p x mine ends in
        elim (aside_or S p q x) [
          | inl need ↦ inl (x, hx, join, (apart, need))
          | inr aside ↦ inr (inr (elim rest [
            | inl none ↦ record {
              m = x;
              within = hx;
              apart = apart;
              join = join;
              aside = aside;
              most = λ f y h fe. elim h [
                | inl same ↦ own x ends aside f y same fe
                | inr k ↦ absurd (none f y k fe)
              ];
            }
            | inr best ↦ elim (negative_or (orientation S p best.m x)) [
              | inl a ↦ keeps best x ends aside (let w : orientation S p best.m x ≤ℤ pos 0 = omega (arith, ints) in w)
              | inr others ↦ elim others [
                | inl a ↦ keeps best x ends aside (let w : orientation S p best.m x ≤ℤ pos 0 = omega (arith, ints) in w)
                | inr a ↦ record {
                  m = x;
                  within = hx;
                  apart = apart;
                  join = join;
                  aside = aside;
                  most = λ f y h fe. elim h [
                    | inl same ↦ own x ends aside f y same fe
                    | inr k ↦ (let b = best.most f y k fe in (
                      b.0,
                      turns_on (point S p) (point S q) (point S best.m) (point S x) (point S y)
                          (points_differ S p q accepted.apart hp hq (λ s. ne (sym s)))
                          (points_differ S p best.m accepted.apart hp best.within (λ s. best.apart (sym s)))
                          (whether best.m best.within) best.aside.0 best.aside.1 aside.0 b.0.0 a b.1,
                    ))
                  ];
                }
              ]
            ]
          ]))
        ]
      where
        own : (x : ℕ) → HasEnds e p x → IsAside S p q x → (f : Pair) (y : ℕ) → e ≡ f → HasEnds f p y → IsAside S p q y × (orientation S p x y ≤ℤ pos 0)
        own x ends aside f y same fe =
            let one : x ≡ y = one_other e p x y ends (subst (λ (z : Pair). HasEnds z p y) (sym same) fe) in
            (subst (λ z. IsAside S p q z) one aside, (let z : orientation S p x y ≡ pos 0 = ap (λ w. orientation S p x w) (sym one) ∙ area_second (point S p) (point S x) in omega (arith, ints)))

        keeps : (best : Furthest S T p q xs) (x : ℕ) → HasEnds e p x → IsAside S p q x → orientation S p best.m x ≤ℤ pos 0 → Furthest S T p q (e ∷ xs)
        keeps best x ends aside weak = record {
          m = best.m;
          within = best.within;
          apart = best.apart;
          join = best.join;
          aside = best.aside;
          most = λ f y h fe. elim h [
            | inl same ↦ (let one : x ≡ y = one_other e p x y ends (subst (λ (z : Pair). HasEnds z p y) (sym same) fe) in
                subst (λ z. IsAside S p q z × (orientation S p best.m z ≤ℤ pos 0)) one (aside, weak))
            | inr k ↦ best.most f y k fe
          ];
        }

        whether : (m : ℕ) → m < length S → (point S q ≡ point S m) ⊎ ¬ (point S q ≡ point S m)
        whether m hm = elim (equal_or_not q m) [ inl e ↦ inl (ap (point S) e) | inr d ↦ inr (points_differ S q m accepted.apart hq hm d) ]

-- some point is left of a line, or none
left_or : (S : List Point) (p m n : ℕ) → ((k : ℕ) × (k < n) × (pos 0 <ℤ orientation S p m k)) ⊎ ((k : ℕ) → k < n → orientation S p m k ≤ℤ pos 0)
left_or S p m zero = inr (λ k h. absurd (omega arith))
left_or S p m (suc n) = elim (left_or S p m n) [
  | inl found ↦ inl (found.0, (let h = found.1 in omega arith), found.2)
  | inr none ↦ elim (negative_or (orientation S p m n)) [
    | inl a ↦ inr (λ k h. all none (let w : orientation S p m n ≤ℤ pos 0 = omega (arith, ints) in w) k h)
    | inr rest ↦ elim rest [
      | inl a ↦ inr (λ k h. all none (let w : orientation S p m n ≤ℤ pos 0 = omega (arith, ints) in w) k h)
      | inr a ↦ inl (n, omega arith, a)
    ]
  ]
]
  where
    all : ((k : ℕ) → k < n → orientation S p m k ≤ℤ pos 0) → orientation S p m n ≤ℤ pos 0 → (k : ℕ) → k < suc n → orientation S p m k ≤ℤ pos 0
    all none last k h = elim (cases_lt k n) [ inl a ↦ none k a | inr a ↦ (let e : k ≡ n = omega arith in subst (λ z. orientation S p m z ≤ℤ pos 0) (sym e) last) ]

pub clear_joined : (S : List Point) (T : List Pair) (p m : ℕ) → IsTriangulation S T → Joins T p m → IsClear S p m
clear_joined S T p m tri join = let (e, h, ends) = joined T p m join in both e ends (tri.clear e (contains_of T e h))
  where
    both : (e : Pair) → HasEnds e p m → IsClear S e.lo e.hi → IsClear S p m
    both e (inl (a, b)) c = let P : ℕ → Type 0 = λ i. IsClear S i m in let Q : ℕ → Type 0 = λ j. IsClear S e.lo j in subst P a (subst Q b c)
    both e (inr (a, b)) c = clear_back S m p (let P : ℕ → Type 0 = λ i. IsClear S i p in let Q : ℕ → Type 0 = λ j. IsClear S e.lo j in subst P a (subst Q b c))

-- at an inner point all needs are met
pub triangulation_meets : (S : List Point) (T : List Pair) → AreAccepted S → IsTriangulation S T → (p : ℕ) → p < length S → IsInner S p → MeetsNeedsAt S T p
triangulation_meets S T accepted tri p hp inner q hq ne = elim (furthest S T p q T accepted tri hp hq ne (λ f h. h)) [
  | inl found ↦ found
  | inr rest ↦ elim rest [
    | inl none ↦ absurd (let (r, hr, join) = tri.met p hp in let (e, h, ends) = joined T p r join in none e r h ends)
    | inr best ↦ absurd (elim (left_or S p best.m (length S)) [
      | inl left ↦ (let (a, apex) = tri.apex p best.m best.join left in
          let (e, h, ends) = joined T p a apex.first in
          let most = best.most e a h ends in
          let more = apex.left in
          let weak = most.1 in
          omega (arith, ints))
      | inr right ↦ inner best.m best.within best.apart (clear_joined S T p best.m tri best.join, inr (λ k hk. (let w = right k hk in let e = area_back (point S best.m) (point S p) (point S k) in omega (arith, ints))))
    ])
  ]
]

pub triangulation_partition : (S : List Point) (T : List Pair) → AreAccepted S → IsTriangulation S T → IsConvexPartition S T
triangulation_partition S T accepted tri = record {
  within = tri.within;
  clear = tri.clear;
  plane = tri.plane;
  border = tri.border;
  needs = λ p hp inner. triangulation_meets S T accepted tri p hp inner;
}
