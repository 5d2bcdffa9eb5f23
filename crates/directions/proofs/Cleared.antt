-- The table of the clear pairs as it fills: a pair is clear exactly where its point is the first in its direction.
use Rattle.std.proofs.Common.{◌≡◌, ◌≢◌, refl, Bool, true, false, not, IsTrue, ℕ, ◌+◌, ◌-◌, ◌/◌, ◌<◌, ◌≤◌, ◌⊎◌, inl, inr, ◌↔◌, sym, ◌∙◌, ap, subst, min, max, List, length, slice_index_or, arith}
use Rattle.std.specs.Prelude.{slice_index}
use Rattle.std.specs.List.{Contains}
use Rattle.std.proofs.lemmas.Bool.{cases_lt}
use Rattle.std.proofs.lemmas.List.{get_or_default}
use Rattle.std.proofs.lemmas.List.Elements.{Contains-get_or}
use Rattle.plane.specs.declared.coordinates.Point.{Point}
use Rattle.plane.specs.Geometry.{point, IsBetween, IsClear}
use Rattle.plane.specs.Accepted.{AreAccepted}
use Rattle.plane.proofs.laws.Border.{points_differ, clear_of_pair, clear_back}
use Rattle.star.specs.Turn.{IsUpper, IsLower, PointTogether}
use Rattle.star.proofs.laws.Turning.{not_both, upper_or_lower}
use Rattle.directions.specs.Fans.{IsBeforeRound}
use Rattle.directions.specs.Bits.{number_of, HasBit, HasRoom, AddsBit, HasClearAlone, HasPair, HasClearAbove, IsClearTable, IsUpperFan, IsGrown}
use Rattle.directions.proofs.Nearer.{between_together, flip_down}
use Rattle.directions.proofs.Precedence.{never_both, between_first}
use Rattle.directions.proofs.Tables.{number_once, number_same, number_in}

pub untrue : (b : Bool) → ¬ (b ≡ true) → IsTrue (not b)
untrue true h = absurd (h refl)
untrue false h = refl

same_half : (c k q : Point) → PointTogether c k q → IsUpper c q → IsUpper c k
same_half c k q t up = elim t.0 [ inl u ↦ u.0 | inr d ↦ absurd (not_both c q up d.1) ]

-- the item at a position, at the default that a fact names
at_default : (list : List ℕ) (i d : ℕ) → i < length list → slice_index_or list i d ≡ slice_index list i
at_default list i d l = get_or_default list i d 0 l

pub nearest_clear : (S : List Point) (p : ℕ) (list : List ℕ) (i : ℕ) → AreAccepted S → p < length S → IsUpperFan S p list → i < length list
    → IsUpper (point S p) (point S (slice_index list i)) → (i ≡ 0) ⊎ ¬ IsBetween S (slice_index list (i - 1)) p (slice_index list i) → IsClear S p (slice_index list i)
nearest_clear S p list i ok pn fan il up first k kn between =
    let q : ℕ = slice_index list i in
    let t : PointTogether (point S p) (point S k) (point S q) = between_together (point S p) (point S k) (point S q) between in
    let has : Contains list k = fan.all k kn (same_half (point S p) (point S k) (point S q) t up) in
    let apart : (x : ℕ) → Contains list x → point S x ≢ point S p = λ x c. (let w = fan.part.within x c in points_differ S x p ok.apart w.0 pn w.1) in
    let kp = apart k has in
    let qp = apart q (Contains-get_or list i 0 il) in
    let kq : IsBeforeRound S p k q = inr (t, between) in
    let at : slice_index list has.0 ≡ k = sym (at_default list has.0 k has.1) ∙ has.2 in
    elim (cases_lt has.0 i) [
      | inl before ↦
          let r : ℕ = slice_index list (i - 1) in
          let blocked : ¬ IsBetween S r p q = elim first [ inl z ↦ absurd (omega arith) | inr n ↦ n ] in
          elim (cases_lt has.0 (i - 1)) [
            | inl far ↦
                let rl : i - 1 < length list = omega arith in
                let rp = apart r (Contains-get_or list (i - 1) 0 rl) in
                let kr : IsBeforeRound S p k r = subst (λ x. IsBeforeRound S p x r) at (fan.part.ordered has.0 (i - 1) 0 far rl) in
                let rq : IsBeforeRound S p r q = fan.part.ordered (i - 1) i 0 (omega arith) il in
                blocked (between_first (point S p) (point S k) (point S r) (point S q) kp rp qp kr rq t)
            | inr near ↦
                let e : has.0 ≡ i - 1 = omega arith in
                let s : k ≡ r = sym at ∙ ap (slice_index list) e in
                blocked (subst (λ x. IsBetween S x p q) s between)
          ]
      | inr later ↦ elim (cases_lt i has.0) [
        | inl after ↦
            let qk : IsBeforeRound S p q k = subst (λ x. IsBeforeRound S p q x) at (fan.part.ordered i has.0 0 after has.1) in
            never_both (point S p) (point S k) (point S q) kp qp kq qk
        | inr same ↦
            let e : has.0 ≡ i = omega arith in
            let s : k ≡ q = sym at ∙ ap (slice_index list) e in
            let kk : IsBeforeRound S p k k = subst (λ x. IsBeforeRound S p k x) (sym s) kq in
            never_both (point S p) (point S k) (point S k) kp kp kk kk
      ]
    ]

pub grown_same : (S : List Point) (table : List ℕ) → HasRoom (length S) table → HasClearAlone S table → IsGrown S table table
grown_same S table room alone = record { room = room; alone = alone; kept = λ k h. h }

pub grown_on : (S : List Point) (a b c : List ℕ) → IsGrown S a b → IsGrown S b c → IsGrown S a c
grown_on S a b c h k = record { room = k.room; alone = k.alone; kept = λ i x. k.kept i (h.kept i x) }

-- the bit of a clear pair
pub grown_by : (S : List Point) (p q lo hi : ℕ) (old new : List ℕ) → length new ≡ length old → lo ≡ min p q → hi ≡ max p q → p ≢ q → IsClear S p q
    → AddsBit old (number_of lo hi) new → HasRoom (length S) old → HasClearAlone S old → IsGrown S old new
grown_by S p q lo hi old new count el eh apart clear adds room alone = record {
  room = λ k h. (let r = room k h in omega arith);
  alone = λ i j ij jn b. elim ((adds (number_of i j)).0 b) [
    | inl e ↦
        let lh : lo < hi = omega arith in
        let s = number_once i j lo hi ij lh e in
        let C : IsClear S lo hi = (clear_of_pair S p q lo hi el eh).1 clear in
        subst (λ x. IsClear S x j) (sym s.0) (subst (λ y. IsClear S lo y) (sym s.1) C)
    | inr b ↦ alone i j ij jn b
  ];
  kept = λ k b. (adds k).1 (inr b);
}

pub pair_there : (p q lo hi : ℕ) (old new : List ℕ) → lo ≡ min p q → hi ≡ max p q → AddsBit old (number_of lo hi) new → HasPair p q new
pair_there p q lo hi old new el eh adds = (adds (number_of (min p q) (max p q))).1 (inl (number_same (min p q) (max p q) lo hi (sym el) (sym eh)))

-- all points above p were looked at
pub above_all : (S : List Point) (p : ℕ) (list table : List ℕ) → IsUpperFan S p list
    → ((j : ℕ) → j < length list → IsUpper (point S p) (point S (slice_index list j)) → IsClear S p (slice_index list j) → HasPair p (slice_index list j) table)
    → HasClearAbove S p table
above_all S p list table fan each q qn up clear =
    let c : Contains list q = fan.all q qn up in
    let at : slice_index list c.0 ≡ q = sym (at_default list c.0 q c.1) ∙ c.2 in
    let U : ℕ → Type 0 = λ x. IsUpper (point S p) (point S x) in
    let C : ℕ → Type 0 = λ x. IsClear S p x in
    let P : ℕ → Type 0 = λ x. HasPair p x table in
    subst P at (each c.0 c.1 (subst U (sym at) up) (subst C (sym at) clear))

pub above_kept : (S : List Point) (a : ℕ) (old new : List ℕ) → IsGrown S old new → HasClearAbove S a old → HasClearAbove S a new
above_kept S a old new grown h q qn up clear = grown.kept _ (h q qn up clear)

-- the bit of a pair tells whether it is clear
pub bit_tells : (S : List Point) (table : List ℕ) (i j : ℕ) → AreAccepted S → IsClearTable S table → i < j → j < length S → HasBit table (number_of i j) ↔ IsClear S i j
bit_tells S table i j ok t ij jn = (
  λ b. t.alone i j ij jn b,
  λ clear.
      let il : i < length S = omega arith in
      elim (upper_or_lower (point S i) (point S j) (points_differ S j i ok.apart jn il (λ e. omega arith))) [
        | inl up ↦ subst (HasBit table) (number_same (min i j) (max i j) i j (omega arith) (omega arith)) (t.above i il j jn up clear)
        | inr down ↦ subst (HasBit table) (number_same (min j i) (max j i) i j (omega arith) (omega arith)) (t.above j jn i il (flip_down (point S i) (point S j) down) (clear_back S i j clear))
      ],
)

-- the same of a table and points that are known by other names
pub told : (S V : List Point) (t u : List ℕ) (i j : ℕ) (r : Bool) → V ≡ S → u ≡ t → AreAccepted V → IsClearTable V t → i < j → j < length S
    → (IsTrue r ↔ HasBit u (number_of i j)) → IsTrue r ↔ IsClear S i j
told S V t u i j r e f ok table ij jn tells =
    let L : List Point → Type 0 = λ X. j < length X in
    let P : List ℕ → Type 0 = λ x. HasBit x (number_of i j) ↔ IsClear V i j in
    let Q : List Point → Type 0 = λ X. HasBit u (number_of i j) ↔ IsClear X i j in
    let h : HasBit u (number_of i j) ↔ IsClear S i j = subst Q e (subst P (sym f) (bit_tells V t i j ok table ij (subst L (sym e) jn))) in
    (λ x. h.0 (tells.0 x), λ c. tells.1 (h.1 c))

pub has_room : (S V : List Point) (t u : List ℕ) (i j : ℕ) → V ≡ S → u ≡ t → IsClearTable V t → i < j → j < length S → number_of i j / 64 < length u
has_room S V t u i j e f table ij jn =
    let L : List Point → Type 0 = λ X. j < length X in
    let P : List ℕ → Type 0 = λ x. number_of i j / 64 < length x in
    subst P (sym f) (table.room (number_of i j) (number_in i j (length V) ij (subst L (sym e) jn)))
