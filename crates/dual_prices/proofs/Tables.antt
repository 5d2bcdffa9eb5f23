-- Tables of loads: places of pairs, one row added, one row's weight changed.
use Rattle.std.proofs.Common.{◌≡◌, ◌≢◌, ℕ, zero, suc, ◌+◌, ◌-◌, ◌*◌, ◌/◌, ◌<◌, ◌≤◌, inl, inr, List, [], ◌∷◌, ◌++◌, length, get_or, take, set, min, max, Bool, true, false, cond, ℤ, pos, neg_ℤ, sym, ◌∙◌, ap, ap₂, refl, subst, arith}
use Rattle.std.specs.Prelude.{◌+ℤ◌, ◌-ℤ◌, ◌&&◌, ◌||◌, nat_eq}
use Rattle.std.proofs.Math.Nat.{mul-div_cancel, mul-le-mul_left}
use Rattle.std.proofs.lemmas.Int.{ints}
use Rattle.std.proofs.lemmas.Bool.{cases_lt, eqb-true, false≢true, ne_eqb}
use Rattle.std.specs.Prelude.{replicate}
use Rattle.std.proofs.Common.{length-append}
use Rattle.std.proofs.lemmas.List.{length-set, length-take, length-replicate, get_or-replicate, take_more, get_or-set_same, get_or-set_other}
use Rattle.std.proofs.lemmas.List.Sums.{sum_by_push, sum_by-set}
use Rattle.std.proofs.lemmas.List.Elements.{All-contains, All-set, All-append, All-cons, All-nil, All-take, Contains-get_or}
use Rattle.plane.specs.declared.coordinates.Point.{Point}
use Rattle.plane.specs.declared.segment.Pair.{Pair}
use Rattle.plane.specs.Geometry.{point, AreCrossing}
use Rattle.plane.proofs.laws.Area.{area_first}
use Rattle.cost_defs.specs.Costs.{has_ends}
use Rattle.price_defs.specs.declared.row.Row.{Row}
use Rattle.price_defs.specs.declared.row.Row.TheVariants.{Half, Three, Cross, Cap}
use Rattle.price_defs.specs.Rows.{IsRight, AreRight, weight, counts, lessens, in_need}
use Rattle.price_defs.specs.Limits.{AreLight}
use Rattle.price_defs.specs.Loads.{given, lessened, load}
use Rattle.price_defs.specs.Raising.{reweigh}
use Rattle.price_defs.proofs.laws.Tests.{has_ends_decides}
use Rattle.price_defs.proofs.laws.Values.{gives_le, takes_le}
use Rattle.price_defs.specs.Rows.{row_at}
use Rattle.dual_prices.proofs.laws.Rooms.{counts_same}
use Rattle.dual_prices.specs.Tables.{tri, slot, entry, at, IsSmall, AreSmall, IsStep, IsShifted, change, IsPartlyAdded, IsRowAdded, IsTableOf, IsLoaded}
use Rattle.price_defs.proofs.laws.Reweighed.{counts_reweigh, lessens_reweigh, weight_reweigh, right_reweigh}

-- places
pub tri_twice : (n : ℕ) → 2 * tri n + n ≡ n * n
tri_twice zero = refl
tri_twice (suc n) = omega (arith, tri_twice n)

pub tri_half : (n : ℕ) → n * (n - 1) / 2 ≡ tri n
tri_half n = elim (cases_lt 0 n) [
  | inl h ↦ (let e : n * (n - 1) ≡ tri n * 2 = twice n h in ap (λ x. x / 2) e ∙ mul-div_cancel (tri n) (omega arith))
  | inr h ↦ (let e : n ≡ 0 = omega arith in subst (λ x. x * (x - 1) / 2 ≡ tri x) (sym e) refl)
]
  where
    twice : (n : ℕ) → 0 < n → n * (n - 1) ≡ tri n * 2
    twice zero h = absurd (omega arith)
    twice (suc m) h = (let e : suc m - 1 ≡ m = omega arith in ap (λ x. suc m * x) e ∙ omega (arith, tri_twice (suc m)))

tri_grows : (j l : ℕ) → j < l → tri j + j ≤ tri l
tri_grows j zero h = absurd (omega arith)
tri_grows j (suc l) h = elim (cases_lt j l) [
  | inl k ↦ omega (arith, tri_grows j l k)
  | inr g ↦ (let e : j ≡ l = omega arith in omega (arith, ap tri e))
]

pub slot_once : (i j k l : ℕ) → i < j → k < l → slot i j ≡ slot k l → (i ≡ k) × (j ≡ l)
slot_once i j k l ij kl e = elim (cases_lt j l) [
  | inl h ↦ absurd (omega (arith, tri_grows j l h))
  | inr g ↦ elim (cases_lt l j) [
    | inl h ↦ absurd (omega (arith, tri_grows l j h))
    | inr m ↦ (let s : j ≡ l = omega arith in (omega (arith, ap tri s), s))
  ]
]

pub slot_in : (i j n : ℕ) → i < j → j < n → slot i j < tri n
slot_in i j n ij jn = omega (arith, tri_grows j n jn)

-- one entry is changed
shifted_same : (old new : List ℤ) (e : Pair) (by : ℤ) (k : ℕ) → slot e.lo e.hi < length old → IsShifted old e by new → k ≡ slot e.lo e.hi → entry new k ≡ (entry old k +ℤ by)
shifted_same old new e by k l is s =
    ap (entry new) s ∙ ap (λ (t : List ℤ). entry t (slot e.lo e.hi)) is ∙ get_or-set_same old (slot e.lo e.hi) (entry old (slot e.lo e.hi) +ℤ by) (pos 0) l
    ∙ ap (λ n. entry old n +ℤ by) (sym s)

shifted_other : (old new : List ℤ) (e : Pair) (by : ℤ) (k : ℕ) → IsShifted old e by new → k ≢ slot e.lo e.hi → entry new k ≡ entry old k
shifted_other old new e by k is ne = ap (λ (t : List ℤ). entry t k) is ∙ get_or-set_other old (slot e.lo e.hi) k (entry old (slot e.lo e.hi) +ℤ by) (pos 0) ne

pub shifted_length : (old new : List ℤ) (e : Pair) (by : ℤ) → IsShifted old e by new → length new ≡ length old
shifted_length old new e by is = ap length is ∙ length-set old (slot e.lo e.hi) (entry old (slot e.lo e.hi) +ℤ by)

-- the place of two different points
place_of : (e : Pair) (p r : ℕ) → e.lo ≡ min p r → e.hi ≡ max p r → slot (min p r) (max p r) ≡ slot e.lo e.hi
place_of e p r lo hi = ap₂ slot (sym lo) (sym hi)

apart : (p r s : ℕ) → s ≢ r → s ≢ p → r ≢ p → slot (min p s) (max p s) ≢ slot (min p r) (max p r)
apart p r s sr sp rp e =
    let h = slot_once (min p s) (max p s) (min p r) (max p r) (omega arith) (omega arith) e in sr (omega (arith, h.0, h.1))

apart_rest : (p r i j : ℕ) → i ≢ p → j ≢ p → i < j → r ≢ p → slot (min i j) (max i j) ≢ slot (min p r) (max p r)
apart_rest p r i j ip jp ij rp e =
    let h = slot_once (min i j) (max i j) (min p r) (max p r) (omega arith) (omega arith) e in
    elim (cases_lt p r) [ inl l ↦ ip (omega (arith, h.0, h.1)) | inr g ↦ jp (omega (arith, h.0, h.1)) ]

-- one more point
pub part_more : (S : List Point) (row : Row) (p r : ℕ) (by : ℤ) (e : Pair) (old now new : List ℤ) → r < length S → p < length S → r ≢ p → length old ≡ tri (length S) → counts S row p r ≡ true
    → e.lo ≡ min p r → e.hi ≡ max p r → IsShifted now e by new → IsPartlyAdded S row p by r old now → IsPartlyAdded S row p by (r + 1) old new
part_more S row p r by e old now new rn pn ne len holds lo hi is part = record {
  count = shifted_length now new e by is ∙ part.count;
  done = λ s l sn sp. elim (cases_lt s r) [
    | inl m ↦ shifted_other now new e by (slot (min p s) (max p s)) is (λ h. apart p r s (λ x. absurd (omega arith)) sp ne (h ∙ sym (place_of e p r lo hi))) ∙ part.done s m sn sp
    | inr g ↦
        let q : s ≡ r = omega arith in
        let h : at new p r ≡ (at now p r +ℤ by) = shifted_same now new e by (slot (min p r) (max p r)) (omega (arith, slot_in (min p r) (max p r) (length S) (omega arith) (omega arith), place_of e p r lo hi, part.count)) is (place_of e p r lo hi) in
        let o : at now p r ≡ at old p r = part.left r (omega arith) rn ne in
        let c : cond (counts S row p r) by (pos 0) ≡ by = ap (λ b. cond b by (pos 0)) holds in
        subst (λ x. at new p x ≡ (at old p x +ℤ cond (counts S row p x) by (pos 0))) (sym q) (h ∙ ap (λ x. x +ℤ by) o ∙ ap (λ x. at old p r +ℤ x) (sym c))
  ];
  left = λ s l sn sp. shifted_other now new e by (slot (min p s) (max p s)) is (λ h. apart p r s (λ x. absurd (omega arith)) sp ne (h ∙ sym (place_of e p r lo hi))) ∙ part.left s (omega arith) sn sp;
  rest = λ i j ip jp ij jn. shifted_other now new e by (slot (min i j) (max i j)) is (λ h. apart_rest p r i j ip jp ij ne (h ∙ sym (place_of e p r lo hi))) ∙ part.rest i j ip jp ij jn;
}

pub part_less : (S : List Point) (row : Row) (p r : ℕ) (by : ℤ) (old now : List ℤ) → r < length S → (r ≢ p → counts S row p r ≡ false) → IsPartlyAdded S row p by r old now → IsPartlyAdded S row p by (r + 1) old now
part_less S row p r by old now rn never part = record {
  count = part.count;
  done = λ s l sn sp. elim (cases_lt s r) [
    | inl m ↦ part.done s m sn sp
    | inr g ↦
        let q : s ≡ r = omega arith in
        let o : at now p s ≡ at old p s = part.left s (omega arith) sn sp in
        let c : cond (counts S row p s) by (pos 0) ≡ pos 0 = ap (λ b. cond b by (pos 0)) (ap (counts S row p) q ∙ never (subst (λ x. x ≢ p) q sp)) in
        omega (arith, ints, o, c)
  ];
  left = λ s l sn sp. part.left s (omega arith) sn sp;
  rest = part.rest;
}

pub part_none : (S : List Point) (row : Row) (p : ℕ) (by : ℤ) (old : List ℤ) → IsPartlyAdded S row p by 0 old old
part_none S row p by old = record {
  count = refl;
  done = λ s l sn sp. absurd (omega arith);
  left = λ s l sn sp. refl;
  rest = λ i j ip jp ij jn. refl;
}

at_ordered : (t : List ℤ) (i j : ℕ) → i < j → at t i j ≡ entry t (slot i j)
at_ordered t i j h = ap (entry t) (ap₂ slot (let a : min i j ≡ i = omega arith in a) (let b : max i j ≡ j = omega arith in b))

at_turned : (t : List ℤ) (i j : ℕ) → i < j → at t j i ≡ entry t (slot i j)
at_turned t i j h = ap (entry t) (ap₂ slot (let a : min j i ≡ i = omega arith in a) (let b : max j i ≡ j = omega arith in b))

same_or_not : (i p : ℕ) → (i ≡ p → ⊥) → i ≢ p
same_or_not i p h = h

-- a row that counts pairs at p alone was added to all its pairs
pub added_of_part : (S : List Point) (row : Row) (p : ℕ) (by : ℤ) (old new : List ℤ) → ((i j : ℕ) → i ≢ p → j ≢ p → counts S row i j ≡ false) → ((i j : ℕ) → lessens row i j ≡ false)
    → IsPartlyAdded S row p by (length S) old new → IsRowAdded S row by old new
added_of_part S row p by old new only none part = record {
  count = part.count;
  each = λ i j ij jn.
      let l : cond (lessens row i j) by (pos 0) ≡ pos 0 = ap (λ b. cond b by (pos 0)) (none i j) in
      elim (cases_lt i p) [
        | inl ip ↦ elim (cases_lt j p) [
          | inl jp ↦ rest i j ij jn l (λ e. absurd (omega arith)) (λ e. absurd (omega arith))
          | inr pj ↦ elim (cases_lt p j) [
            | inl pj2 ↦ rest i j ij jn l (λ e. absurd (omega arith)) (λ e. absurd (omega arith))
            | inr jp ↦ (let e : j ≡ p = omega arith in greater i j ij jn l e)
          ]
        ]
        | inr pi ↦ elim (cases_lt p i) [
          | inl pi2 ↦ rest i j ij jn l (λ e. absurd (omega arith)) (λ e. absurd (omega arith))
          | inr ip ↦ (let e : i ≡ p = omega arith in lesser i j ij jn l e)
        ]
      ];
}
  where
    rest : (i j : ℕ) → i < j → j < length S → cond (lessens row i j) by (pos 0) ≡ pos 0 → i ≢ p → j ≢ p → entry new (slot i j) ≡ (entry old (slot i j) +ℤ change S row by i j)
    rest i j ij jn l ip jp =
        let c : cond (counts S row i j) by (pos 0) ≡ pos 0 = ap (λ b. cond b by (pos 0)) (only i j ip jp) in
        omega (arith, ints, c, l, part.rest i j ip jp ij jn, at_ordered new i j ij, at_ordered old i j ij)

    lesser : (i j : ℕ) → i < j → j < length S → cond (lessens row i j) by (pos 0) ≡ pos 0 → i ≡ p → entry new (slot i j) ≡ (entry old (slot i j) +ℤ change S row by i j)
    lesser i j ij jn l e =
        let d : at new p j ≡ (at old p j +ℤ cond (counts S row p j) by (pos 0)) = part.done j jn jn (λ x. absurd (omega arith)) in
        let d2 : at new i j ≡ (at old i j +ℤ cond (counts S row i j) by (pos 0)) = subst (λ x. at new x j ≡ (at old x j +ℤ cond (counts S row x j) by (pos 0))) (sym e) d in
        omega (arith, ints, l, d2, at_ordered new i j ij, at_ordered old i j ij)

    greater : (i j : ℕ) → i < j → j < length S → cond (lessens row i j) by (pos 0) ≡ pos 0 → j ≡ p → entry new (slot i j) ≡ (entry old (slot i j) +ℤ change S row by i j)
    greater i j ij jn l e =
        let d : at new p i ≡ (at old p i +ℤ cond (counts S row p i) by (pos 0)) = part.done i (omega arith) (omega arith) (λ x. absurd (omega arith)) in
        let d2 : at new j i ≡ (at old j i +ℤ cond (counts S row j i) by (pos 0)) = subst (λ x. at new x i ≡ (at old x i +ℤ cond (counts S row x i) by (pos 0))) (sym e) d in
        let s : cond (counts S row j i) by (pos 0) ≡ cond (counts S row i j) by (pos 0) = ap (λ b. cond b by (pos 0)) (counts_same S row j i) in
        omega (arith, ints, l, d2, s, at_turned new i j ij, at_turned old i j ij)

-- a pair is named by its ends
shift_each : (n : ℕ) (old new : List ℤ) (e : Pair) (d : ℤ) → length old ≡ tri n → e.hi < n → IsShifted old e d new
    → (i j : ℕ) → i < j → entry new (slot i j) ≡ (entry old (slot i j) +ℤ cond (has_ends e i j) d (pos 0))
shift_each n old new e d len en is i j ij =
    elim (has_ends e i j) as (λ t. has_ends e i j ≡ t → entry new (slot i j) ≡ (entry old (slot i j) +ℤ cond t d (pos 0))) [
      | true ↦ λ t. elim ((has_ends_decides e i j).0 t) [
        | inl h ↦ shifted_same old new e d (slot i j) (omega (arith, slot_in e.lo e.hi n e.ordered en)) is (ap₂ slot (sym h.0) (sym h.1))
        | inr h ↦ absurd (let o : e.lo < e.hi = e.ordered in omega (arith, h.0, h.1))
      ]
      | false ↦ λ t. (let o : entry new (slot i j) ≡ entry old (slot i j) = shifted_other old new e d (slot i j) is (λ s.
          (let h : (i ≡ e.lo) × (j ≡ e.hi) = slot_once i j e.lo e.hi ij e.ordered s in
          false≢true (sym t ∙ (has_ends_decides e i j).1 (inl (sym h.0, sym h.1))))) in omega (arith, ints, o))
    ] refl

pub cap_added : (S : List Point) (e : Pair) (w : ℕ) (by : ℤ) (old new : List ℤ) → length old ≡ tri (length S) → e.hi < length S → IsShifted old e (neg_ℤ by) new → IsRowAdded S (Cap e w) by old new
unfolding counts lessens
cap_added S e w by old new len en is = record {
  count = shifted_length old new e (neg_ℤ by) is;
  each = λ i j ij jn. (let h = shift_each (length S) old new e (neg_ℤ by) len en is i j ij in
      elim (has_ends e i j) as (λ t. entry new (slot i j) ≡ (entry old (slot i j) +ℤ cond t (neg_ℤ by) (pos 0)) → entry new (slot i j) ≡ (entry old (slot i j) +ℤ (pos 0 -ℤ cond t by (pos 0)))) [
        | true ↦ λ g. omega (arith, ints, g)
        | false ↦ λ g. omega (arith, ints, g)
      ] h);
}

-- two pairs that cross have not the same ends
not_crossing_itself : (S : List Point) (i j : ℕ) → AreCrossing S i j i j → ⊥
not_crossing_itself S i j c = elim c.0 [
  | inl h ↦ absurd (omega (arith, ints, h.0, area_first (point S i) (point S j)))
  | inr h ↦ absurd (omega (arith, ints, h.0, area_first (point S i) (point S j)))
]

ordered_ends : (e : Pair) (i j : ℕ) → i < j → has_ends e i j ≡ true → (e.lo ≡ i) × (e.hi ≡ j)
ordered_ends e i j ij t = elim ((has_ends_decides e i j).0 t) [
  | inl h ↦ h
  | inr h ↦ absurd (let o : e.lo < e.hi = e.ordered in omega (arith, h.0, h.1))
]

cross_apart : (S : List Point) (e f : Pair) (i j : ℕ) → i < j → AreCrossing S e.lo e.hi f.lo f.hi → has_ends e i j ≡ true → has_ends f i j ≡ true → ⊥
cross_apart S e f i j ij c a b =
    let x = ordered_ends e i j ij a in
    let y = ordered_ends f i j ij b in
    let c1 : AreCrossing S i e.hi f.lo f.hi = subst (λ n. AreCrossing S n e.hi f.lo f.hi) x.0 c in
    let c2 : AreCrossing S i j f.lo f.hi = subst (λ n. AreCrossing S i n f.lo f.hi) x.1 c1 in
    let c3 : AreCrossing S i j i f.hi = subst (λ n. AreCrossing S i j n f.hi) y.0 c2 in
    not_crossing_itself S i j (subst (λ n. AreCrossing S i j i n) y.1 c3)

both_off : (a b : Bool) (x y z by : ℤ) → (a ≡ true → b ≡ true → ⊥) → y ≡ (x +ℤ cond a (neg_ℤ by) (pos 0)) → z ≡ (y +ℤ cond b (neg_ℤ by) (pos 0)) → z ≡ (x +ℤ (pos 0 -ℤ cond (a || b) by (pos 0)))
both_off true true x y z by never g h = absurd (never refl refl)
both_off true false x y z by never g h = omega (arith, ints, g, h)
both_off false true x y z by never g h = omega (arith, ints, g, h)
both_off false false x y z by never g h = omega (arith, ints, g, h)

pub cross_added : (S : List Point) (e f : Pair) (w : ℕ) (by : ℤ) (old now new : List ℤ) → length old ≡ tri (length S) → IsRight S (Cross e f w) → IsShifted old e (neg_ℤ by) now → IsShifted now f (neg_ℤ by) new
    → IsRowAdded S (Cross e f w) by old new
unfolding counts lessens
cross_added S e f w by old now new len (en, fn_, crossing) first second = record {
  count = shifted_length now new f (neg_ℤ by) second ∙ shifted_length old now e (neg_ℤ by) first;
  each = λ i j ij jn.
      both_off (has_ends e i j) (has_ends f i j) (entry old (slot i j)) (entry now (slot i j)) (entry new (slot i j)) by (λ a b. cross_apart S e f i j ij crossing a b)
      (shift_each (length S) old now e (neg_ℤ by) len en first i j ij)
      (shift_each (length S) now new f (neg_ℤ by) (shifted_length old now e (neg_ℤ by) first ∙ len) fn_ second i j ij);
}

-- the entry of a second pair is still small
pub still_small : (S : List Point) (old now : List ℤ) (e f : Pair) (d : ℤ) → AreSmall (length S) old → IsStep d → length old ≡ tri (length S) → e.hi < length S → f.hi < length S → IsShifted old e d now → IsSmall (entry now (slot f.lo f.hi))
still_small S old now e f d small step len en fn_ is =
    let h = shift_each (length S) old now e d len en is f.lo f.hi f.ordered in
    let s = small f.lo f.hi f.ordered fn_ in
    elim (has_ends e f.lo f.hi) as (λ t. entry now (slot f.lo f.hi) ≡ (entry old (slot f.lo f.hi) +ℤ cond t d (pos 0)) → IsSmall (entry now (slot f.lo f.hi))) [
      | true ↦ λ g. (omega (arith, ints, g, s.0, s.1, step.0, step.1), omega (arith, ints, g, s.0, s.1, step.0, step.1))
      | false ↦ λ g. (omega (arith, ints, g, s.0, s.1), omega (arith, ints, g, s.0, s.1))
    ] h

-- loads of one row more, and of a row with another weight
cond_pos : (b : Bool) (w : ℕ) → cond b (pos w) (pos 0) ≡ pos (cond b w 0)
cond_pos true w = refl
cond_pos false w = refl

pub load_push : (S : List Point) (rows : List Row) (row : Row) (i j : ℕ) → load S (rows ++ row ∷ []) i j ≡ (load S rows i j +ℤ change S row (pos (weight row)) i j)
load_push S rows row i j =
    omega (arith, ints, sum_by_push (given S i j) rows row, sum_by_push (lessened i j) rows row, cond_pos (counts S row i j) (weight row), cond_pos (lessens row i j) (weight row))

cond_by : (b : Bool) (w v : ℕ) (by : ℤ) → pos v ≡ (pos w +ℤ by) → pos (cond b v 0) ≡ (pos (cond b w 0) +ℤ cond b by (pos 0))
cond_by true w v by h = h
cond_by false w v by h = refl

pub load_set : (S : List Point) (rows : List Row) (k v : ℕ) (by : ℤ) (i j : ℕ) → k < length rows → pos v ≡ (pos (weight (row_at rows k)) +ℤ by)
    → load S (set rows k (reweigh (row_at rows k) v)) i j ≡ (load S rows i j +ℤ change S (row_at rows k) by i j)
load_set S rows k v by i j l h =
    let row : Row = row_at rows k in
    let g : given S i j (reweigh row v) ≡ cond (counts S row i j) v 0 = ap₂ (λ b n. cond b n 0) (counts_reweigh S row v i j) (weight_reweigh row v) in
    let t : lessened i j (reweigh row v) ≡ cond (lessens row i j) v 0 = ap₂ (λ b n. cond b n 0) (lessens_reweigh row v i j) (weight_reweigh row v) in
    omega (
      arith,
      ints,
      sum_by-set (given S i j) rows k (reweigh row v) (Three 0 0) l,
      sum_by-set (lessened i j) rows k (reweigh row v) (Three 0 0) l,
      g,
      t,
      cond_by (counts S row i j) (weight row) v by h,
      cond_by (lessens row i j) (weight row) v by h,
    )

-- tables of loads
pub table_small : (S : List Point) (rows : List Row) (table : List ℤ) → AreLight rows → length rows ≤ 200000 → IsTableOf S rows table → AreSmall (length S) table
table_small S rows table light few is i j ij jn =
    (omega (arith, ints, is.each i j ij jn, gives_le S rows i j light few, takes_le rows i j light few), omega (arith, ints, is.each i j ij jn, gives_le S rows i j light few, takes_le rows i j light few))

pub table_push : (S : List Point) (rows : List Row) (row : Row) (old new : List ℤ) → IsTableOf S rows old → IsRowAdded S row (pos (weight row)) old new → IsTableOf S (rows ++ row ∷ []) new
table_push S rows row old new is added = record {
  count = added.count ∙ is.count;
  each = λ i j ij jn. added.each i j ij jn ∙ ap (λ x. x +ℤ change S row (pos (weight row)) i j) (is.each i j ij jn) ∙ sym (load_push S rows row i j);
}

pub table_set : (S : List Point) (rows : List Row) (k v : ℕ) (by : ℤ) (old new : List ℤ) → k < length rows → pos v ≡ (pos (weight (row_at rows k)) +ℤ by)
    → IsTableOf S rows old → IsRowAdded S (row_at rows k) by old new → IsTableOf S (set rows k (reweigh (row_at rows k) v)) new
table_set S rows k v by old new l h is added = record {
  count = added.count ∙ is.count;
  each = λ i j ij jn. added.each i j ij jn ∙ ap (λ x. x +ℤ change S (row_at rows k) by i j) (is.each i j ij jn) ∙ sym (load_set S rows k v by i j l h);
}

apart_ordered : (p r : ℕ) → r ≢ p → min p r < max p r
apart_ordered p r ne = elim (cases_lt p r) [ inl h ↦ omega arith | inr h ↦ elim (cases_lt r p) [ inl k ↦ omega arith | inr k ↦ absurd (ne (omega arith)) ] ]

-- small entries
at_small : (n : ℕ) (table : List ℤ) (p r : ℕ) → AreSmall n table → p < n → r < n → r ≢ p → IsSmall (at table p r)
at_small n table p r small pn rn ne =
    let h = small (min p r) (max p r) (apart_ordered p r ne) (omega arith) in (omega (arith, ints, h.0), omega (arith, ints, h.1))

pub part_small_at : (S : List Point) (row : Row) (p r : ℕ) (by : ℤ) (old now : List ℤ) → IsPartlyAdded S row p by r old now → AreSmall (length S) old → p < length S → r < length S → r ≢ p → IsSmall (at now p r)
part_small_at S row p r by old now part small pn rn ne = subst IsSmall (sym (part.left r (omega arith) rn ne)) (at_small (length S) old p r small pn rn ne)

pub entry_small : (n : ℕ) (table : List ℤ) (e : Pair) → AreSmall n table → e.hi < n → IsSmall (entry table (slot e.lo e.hi))
entry_small n table e small en = (let h = small e.lo e.hi e.ordered en in (omega (arith, ints, h.0), omega (arith, ints, h.1)))

half_only : (S : List Point) (p q w i j : ℕ) → i ≢ p → j ≢ p → counts S (Half p q w) i j ≡ false
unfolding counts
half_only S p q w i j ip jp = ap₂ (λ a b. (a && in_need S p q j) || (b && in_need S p q i)) (ne_eqb i p ip) (ne_eqb j p jp)

three_only : (S : List Point) (p w i j : ℕ) → i ≢ p → j ≢ p → counts S (Three p w) i j ≡ false
unfolding counts
three_only S p w i j ip jp = ap₂ (λ a b. a || b) (ne_eqb i p ip) (ne_eqb j p jp)

half_none : (p q w i j : ℕ) → lessens (Half p q w) i j ≡ false
unfolding lessens
half_none p q w i j = refl

three_none : (p w i j : ℕ) → lessens (Three p w) i j ≡ false
unfolding lessens
three_none p w i j = refl

pub half_added : (S : List Point) (row : Row) (p q w : ℕ) (by : ℤ) (old new : List ℤ) → row ≡ Half p q w → IsPartlyAdded S row p by (length S) old new → IsRowAdded S row by old new
half_added S row p q w by old new e part =
    subst (λ (x : Row). IsRowAdded S x by old new) (sym e)
    (added_of_part S (Half p q w) p by old new (half_only S p q w) (half_none p q w) (subst (λ (x : Row). IsPartlyAdded S x p by (length S) old new) e part))

pub three_added : (S : List Point) (row : Row) (p w : ℕ) (by : ℤ) (old new : List ℤ) → row ≡ Three p w → IsPartlyAdded S row p by (length S) old new → IsRowAdded S row by old new
three_added S row p w by old new e part =
    subst (λ (x : Row). IsRowAdded S x by old new) (sym e)
    (added_of_part S (Three p w) p by old new (three_only S p w) (three_none p w) (subst (λ (x : Row). IsPartlyAdded S x p by (length S) old new) e part))

-- certificates with their tables
pub right_at : (S : List Point) (rows : List Row) (k : ℕ) → k < length rows → AreRight S rows → IsRight S (row_at rows k)
right_at S rows k l right = All-contains (IsRight S) rows (row_at rows k) right (Contains-get_or rows k (Three 0 0) l)

pub loaded_set : (S : List Point) (rows : List Row) (k w : ℕ) (by : ℤ) (old new : List ℤ) → k < length rows → w ≤ 1000000000000 → pos w ≡ (pos (weight (row_at rows k)) +ℤ by)
    → IsLoaded S rows old → IsRowAdded S (row_at rows k) by old new → IsLoaded S (set rows k (reweigh (row_at rows k) w)) new
loaded_set S rows k w by old new l small is loaded added = record {
  right = All-set (IsRight S) rows k (reweigh (row_at rows k) w) (right_reweigh S (row_at rows k) w (right_at S rows k l loaded.right)) loaded.right;
  few = omega (arith, length-set rows k (reweigh (row_at rows k) w), loaded.few);
  light = All-set (λ row. weight row ≤ 1000000000000) rows k (reweigh (row_at rows k) w) (omega (arith, weight_reweigh (row_at rows k) w)) loaded.light;
  loads = table_set S rows k w by old new l is loaded.loads added;
}

pub loaded_push : (S : List Point) (rows : List Row) (row : Row) (old new : List ℤ) → length rows < 200000 → IsRight S row → weight row ≤ 1000000000000
    → IsLoaded S rows old → IsRowAdded S row (pos (weight row)) old new → IsLoaded S (rows ++ row ∷ []) new
loaded_push S rows row old new room right small loaded added = record {
  right = All-append (IsRight S) rows (row ∷ []) loaded.right (All-cons (IsRight S) row [] right (All-nil (IsRight S)));
  few = omega (arith, length-append rows (row ∷ []));
  light = All-append (λ row. weight row ≤ 1000000000000) rows (row ∷ []) loaded.light (All-cons (λ row. weight row ≤ 1000000000000) row [] small (All-nil (λ row. weight row ≤ 1000000000000)));
  loads = table_push S rows row old new loaded.loads added;
}

pub loaded_small : (S : List Point) (rows : List Row) (table : List ℤ) → IsLoaded S rows table → AreSmall (length S) table
loaded_small S rows table loaded = table_small S rows table loaded.light loaded.few loaded.loads

pub table_step : (S : List Point) (rows : List Row) (k : ℕ) (row : Row) (old new : List ℤ) → k < length rows → row ≡ get_or rows k row → IsTableOf S (take k rows) old → IsRowAdded S row (pos (weight row)) old new
    → IsTableOf S (take (k + 1) rows) new
table_step S rows k row old new l is table added =
    let t : take (k + 1) rows ≡ take k rows ++ row ∷ [] = take_more rows k row l ∙ ap (λ x. take k rows ++ x ∷ []) (sym is) in
    subst (λ (x : List Row). IsTableOf S x new) (sym t) (table_push S (take k rows) row old new table added)

pub table_begins : (S : List Point) (table : List ℤ) → table ≡ replicate (tri (length S)) (pos 0) → IsTableOf S [] table
table_begins S table is = record {
  count = ap length is ∙ length-replicate (tri (length S)) (pos 0);
  each = λ i j ij jn. ap (λ (x : List ℤ). entry x (slot i j)) is ∙ get_or-replicate (tri (length S)) (slot i j) (pos 0) (pos 0) (slot_in i j (length S) ij jn);
}

-- the rows before a position are few and light
pub take_small : (S : List Point) (rows : List Row) (k : ℕ) (table : List ℤ) → length rows ≤ 200000 → AreLight rows → IsTableOf S (take k rows) table → AreSmall (length S) table
take_small S rows k table few light is = table_small S (take k rows) table (All-take (λ row. weight row ≤ 1000000000000) k rows light) (omega (arith, length-take k rows)) is

pub step_up : (w : ℕ) → w ≤ 1000000000000 → IsStep (pos w)
step_up w h = (omega (arith, ints), omega (arith, ints))

pub step_between : (v w : ℕ) (by : ℤ) → v ≤ 1000000000000 → w ≤ 1000000000000 → pos w ≡ (pos v +ℤ by) → IsStep by
step_between v w by hv hw e = (omega (arith, ints, e), omega (arith, ints, e))

pub weight_at : (rows : List Row) (k : ℕ) → k < length rows → AreLight rows → weight (row_at rows k) ≤ 1000000000000
weight_at rows k l light = All-contains (λ row. weight row ≤ 1000000000000) rows (row_at rows k) light (Contains-get_or rows k (Three 0 0) l)

pub tri_small : (n : ℕ) → n < 4294967296 → tri n < 9223372036854775808
tri_small n h = (let a : n * n ≤ 18446744065119617025 = square_within n (omega arith) in omega (arith, tri_twice n, a))
  where
    square_within : (n : ℕ) → n ≤ 4294967295 → n * n ≤ 18446744065119617025
    square_within n h = (let a : n * n ≤ n * 4294967295 = mul-le-mul_left n h in omega (arith, a))
