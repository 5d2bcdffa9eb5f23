-- The search for opposite points: buckets, the next point in a bucket, the first two.
use Rattle.std.proofs.Common.{◌≡◌, ◌≢◌, ℕ, ◌+◌, ◌%◌, ◌<◌, ◌≤◌, ◌-◌, inl, inr, List, length, set, sym, ◌∙◌, ap, subst, refl, arith}
use Rattle.std.proofs.lemmas.Bool.{cases_lt, cases_eq, cases_order}
use Rattle.std.proofs.lemmas.List.{length-set, get_or-set_same, get_or-set_other}
use Rattle.plane.specs.declared.coordinates.Point.{Point}
use Rattle.plane.specs.Accepted.{AreAccepted}
use Rattle.plane.specs.First.{IsFirstPair}
use Rattle.plane.specs.Geometry.{IsBetween}
use Rattle.directions.specs.Opposites.{number, AreClear, bucket, IsFirstIn, AreFollowed, AreLinked}
use Rattle.directions.proofs.Lines.{opposite_keys}
use Rattle.plane_laws.proofs.Nearest.{not_first_end, not_second_end}

pub linked_none : (S : List Point) (p k : ℕ) (heads next : List ℕ) → length S ≤ 5000 → k ≡ length S → length next ≡ length S → AreClear heads 16384 → AreLinked S p k heads next
linked_none S p k heads next few end count clear = record {
  room = clear.0;
  firsts = λ b l. (let e = clear.1 b l in (λ q kq qx qn qp. absurd (omega arith), λ xn. absurd (omega arith)));
  follow = record { count = count; each = λ q kq qn qp. absurd (omega arith) };
}

-- one point more, before all others
pub linked_more : (S : List Point) (p k b : ℕ) (heads newheads next newnext : List ℕ) → k < length S → k ≢ p → b ≡ bucket S p k → newheads ≡ set heads b k → newnext ≡ set next k (number heads b)
    → AreLinked S p (k + 1) heads next → AreLinked S p k newheads newnext
linked_more S p k b heads newheads next newnext kn kp be his nis so =
    let bl : b < 16384 = omega arith in
    record {
      room = ap length his ∙ length-set heads b k ∙ so.room;
      firsts = λ d l. elim (cases_eq d b) [
        | inl e ↦
            (let is : k ≡ number newheads d = sym (ap (λ (x : List ℕ). number x d) his ∙ ap (number (set heads b k)) e ∙ get_or-set_same heads b k 0 (omega (arith, so.room))) in
            subst (IsFirstIn S p d k) is (λ q kq qk qn qp. absurd (omega arith), λ kn2. (omega arith, kp, sym be ∙ sym e)))
        | inr ne ↦
            (let is : number heads d ≡ number newheads d = sym (ap (λ (x : List ℕ). number x d) his ∙ get_or-set_other heads b d k 0 ne) in
            let old = so.firsts d l in
            subst (IsFirstIn S p d k) is (
              λ q kq qx qn qp. elim (cases_eq q k) [
                | inl e ↦ (λ f. ne (sym f ∙ ap (bucket S p) e ∙ sym be))
                | inr other ↦ old.0 q (later k q kq other) qx qn qp
              ],
              λ xn. (let o = old.1 xn in let g : k + 1 ≤ number heads d = o.0 in (omega arith, o.1, o.2)),
            ))
      ];
      follow = record {
        count = ap length nis ∙ length-set next k (number heads b) ∙ so.follow.count;
        each = λ q kq qn qp. elim (cases_eq q k) [
          | inl e ↦
              (let is : number heads b ≡ number newnext q = sym (ap (λ (x : List ℕ). number x q) nis ∙ ap (number (set next k (number heads b))) e ∙ get_or-set_same next k (number heads b) 0 (omega (arith, so.follow.count))) in
              let f : b ≡ bucket S p q = be ∙ ap (bucket S p) (sym e) in
              let g : k + 1 ≡ q + 1 = ap (λ n. n + 1) (sym e) in
              subst (IsFirstIn S p (bucket S p q) (q + 1)) is (subst (λ n. IsFirstIn S p (bucket S p q) n (number heads b)) g (subst (λ n. IsFirstIn S p n (k + 1) (number heads b)) f (so.firsts b bl))))
          | inr ne ↦
              (let is : number next q ≡ number newnext q = sym (ap (λ (x : List ℕ). number x q) nis ∙ get_or-set_other next k q (number heads b) 0 ne) in
              subst (IsFirstIn S p (bucket S p q) (q + 1)) is (so.follow.each q (later k q kq ne) qn qp))
        ];
      };
    }
  where
    later : (k q : ℕ) → k ≤ q → q ≢ k → k + 1 ≤ q
    later k q h ne = elim (cases_lt k q) [ inl l ↦ omega arith | inr g ↦ absurd (ne (omega arith)) ]

-- the centre is in no bucket
pub linked_less : (S : List Point) (p k : ℕ) (heads next : List ℕ) → k ≡ p → AreLinked S p (k + 1) heads next → AreLinked S p k heads next
linked_less S p k heads next e so = record {
  room = so.room;
  firsts = λ b l. (let old = so.firsts b l in (
    λ q kq qx qn qp. old.0 q (later q kq qp) qx qn qp,
    λ xn. (let o = old.1 xn in let g : k + 1 ≤ number heads b = o.0 in (omega arith, o.1, o.2)),
  ));
  follow = record { count = so.follow.count; each = λ q kq qn qp. so.follow.each q (later q kq qp) qn qp };
}
  where
    later : (q : ℕ) → k ≤ q → q ≢ p → k + 1 ≤ q
    later q h ne = elim (cases_lt k q) [ inl l ↦ omega arith | inr g ↦ absurd (ne (let s : q ≡ k = omega arith in s ∙ e)) ]

-- what lies opposite to q is in its bucket
opposite_bucket : (S : List Point) (p q r : ℕ) → AreAccepted S → p < length S → q < length S → r < length S → q ≢ p → IsBetween S p q r → (r ≢ p) × (bucket S p q ≡ bucket S p r)
opposite_bucket S p q r ok pn qn rn qp between =
    let rp : r ≢ p = λ e. not_second_end S p q (subst (λ n. IsBetween S p q n) e between) in
    (rp, ap (λ n. n % 16384) (opposite_keys S p q r ok pn qn rn qp rp between))

-- what the walk along a bucket knows at r: no point after q and before r lies opposite to q, and r is in the bucket
pub record IsSearched (S : List Point) (p q r : ℕ) : Type 0 where
  pub none : (s : ℕ) → q < s → s < r → s < length S → ¬ IsBetween S p q s
  pub here : r < length S → (q < r) × (r ≢ p) × (bucket S p r ≡ bucket S p q)

pub searched_first : (S : List Point) (p q : ℕ) (next : List ℕ) → AreAccepted S → p < length S → q < length S → q ≢ p → AreFollowed S p 0 next → IsSearched S p q (number next q)
searched_first S p q next ok pn qn qp follow =
    let f = follow.each q (omega arith) qn qp in
    record {
      none = λ s qs sr sn between. (let o = opposite_bucket S p q s ok pn qn sn qp between in f.0 s (omega arith) sr sn o.0 (sym o.1));
      here = λ rn. (let h = f.1 rn in let g : q + 1 ≤ number next q = h.0 in (omega arith, h.1, h.2));
    }

pub searched_next : (S : List Point) (p q r : ℕ) (next : List ℕ) → AreAccepted S → p < length S → q < length S → q ≢ p → r < length S → AreFollowed S p 0 next → ¬ IsBetween S p q r → IsSearched S p q r
    → IsSearched S p q (number next r)
searched_next S p q r next ok pn qn qp rn follow miss so =
    let h = so.here rn in
    let f = follow.each r (omega arith) rn h.1 in
    record {
      none = λ s qs sx sn. elim (cases_order s r) [
        | inl e ↦ subst (λ n. ¬ IsBetween S p q n) (sym e) miss
        | inr rest ↦ elim rest [
          | inl l ↦ so.none s qs l sn
          | inr g ↦ (λ between. let o = opposite_bucket S p q s ok pn qn sn qp between in f.0 s (omega arith) sx sn o.0 (sym o.1 ∙ sym h.2))
        ]
      ];
      here = λ xn. (let k = f.1 xn in let g : r + 1 ≤ number next r = k.0 in let l : q < r = h.0 in (omega arith, k.1, k.2 ∙ h.2));
    }

-- the walk goes on upwards
pub searched_rises : (S : List Point) (p q r : ℕ) (next : List ℕ) → r < length S → AreFollowed S p 0 next → IsSearched S p q r → length S - number next r < length S - r
searched_rises S p q r next rn follow so =
    let f = follow.each r (omega arith) rn (so.here rn).1 in
    elim (cases_lt (number next r) (length S)) [
      | inl l ↦ (let g : r + 1 ≤ number next r = (f.1 l).0 in omega arith)
      | inr g ↦ omega arith
    ]

-- no point lies opposite to the centre itself
pub centre_none : (S : List Point) (p q r : ℕ) → q ≡ p → ¬ IsBetween S p q r
centre_none S p q r e between = not_first_end S p r (subst (λ n. IsBetween S p n r) e between)

-- what the walk over the first points knows: none before q has one opposite to it after it
abbrev pub NoneBefore : List Point → (p q : ℕ) → Type 0
NoneBefore S p q = (i r : ℕ) → i < q → i < r → r < length S → ¬ IsBetween S p i r

pub none_more : (S : List Point) (p q : ℕ) → NoneBefore S p q → ((r : ℕ) → q < r → r < length S → ¬ IsBetween S p q r) → NoneBefore S p (q + 1)
none_more S p q before none i r iq ir rn = elim (cases_lt i q) [
  | inl l ↦ before i r l ir rn
  | inr g ↦ (let e : q ≡ i = omega arith in subst (λ n. ¬ IsBetween S p n r) e (none r (omega arith) rn))
]

pub first_found : (S : List Point) (p q r : ℕ) → NoneBefore S p q → q < r → r < length S → IsBetween S p q r → ((s : ℕ) → q < s → s < r → ¬ IsBetween S p q s)
    → IsFirstPair (λ i j. IsBetween S p i j) (length S) q r
first_found S p q r before qr rn between none = record {
  ordered = qr;
  within = rn;
  holds = between;
  before = λ k l kl ln comes. elim comes [
    | inl kq ↦ before k l kq kl ln
    | inr h ↦ (let e : k ≡ q = h.0 in let lr : l < r = h.1 in subst (λ n. ¬ IsBetween S p n l) (sym e) (none l (omega arith) lr))
  ];
}
