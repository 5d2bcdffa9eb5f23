-- The free part of the taken pairs, pair by pair; loads and sums of a leaf's rows.
use Rattle.std.proofs.Common.{◌≡◌, ◌≢◌, ◌↔◌, ℕ, zero, suc, ◌+◌, ◌-◌, ◌*◌, ◌<◌, ◌≤◌, inl, inr, List, [], ◌∷◌, ◌++◌, length, take, get_or, sym, ◌∙◌, ap, refl, subst, ℤ, pos, neg_ℤ, w64, to_z, of_z, FitsSigned, arith}
use Rattle.std.specs.Prelude.{◌-ℤ◌, ◌≤ℤ◌, ◌+ℤ◌}
use Rattle.std.specs.List.{All, AllPairs, Contains, sum_by}
use Rattle.std.proofs.lemmas.Int.{ints}
use Rattle.std.proofs.lemmas.List.{take_more, get_or-take, length-take}
use Rattle.std.proofs.lemmas.List.Sums.{sum_by_more, sum_by-le, sum_by-le-sum_by}
use Rattle.std.proofs.lemmas.List.Elements.{All-weaker, Contains-append_left, Contains-append_right, Contains-append_cases}
use Rattle.std.proofs.lemmas.List.Kept.{AllPairs-cons}
use Rattle.number_laws.proofs.ListSums.{contains_cases, contains_here, cond_le}
use Rattle.plane.specs.declared.coordinates.Point.{Point}
use Rattle.plane.specs.declared.segment.Pair.{Pair}
use Rattle.plane.specs.Geometry.{IsBorderPair}
use Rattle.partition_defs.specs.Triangulation.{AreDistinct}
use Rattle.price_defs.specs.declared.row.Row.{Row}
use Rattle.price_defs.specs.Limits.{AreLight}
use Rattle.price_defs.specs.Rows.{counts, lessens, weight}
use Rattle.price_defs.specs.Loads.{given, lessened, gives, takes, load, lost}
use Rattle.price_defs.specs.declared.row.Row.TheVariants.{Half, Three, Cross, Cap}
use Rattle.price_defs.proofs.laws.Values.{sum_small}
use Rattle.tree_defs.specs.Leaves.{IsFreePart}
use Rattle.tree_defs.proofs.laws.AllMet.{append_distinct}
use Rattle.branch_tree.specs.Values.{AreLightRows, IsLoadSum}

-- the pair at a position stands at none before
pub not_before : (xs : List Pair) (k : ℕ) (d : Pair) → AreDistinct xs → k < length xs → ¬ Contains (take k xs) (get_or xs k d)
not_before xs k d apart l (j, m, e) =
    let below : j < k = omega (arith, m, length-take k xs) in
    apart j k (get_or xs k d) below l (sym (get_or-take k xs j (get_or xs k d) below) ∙ e ∙ same_default xs k d (get_or xs k d) l)
  where
    same_default : (ys : List Pair) (i : ℕ) (a b : Pair) → i < length ys → get_or ys i a ≡ get_or ys i b
    same_default [] i a b h = absurd (omega (arith, h))
    same_default (y ∷ ys) zero a b h = refl
    same_default (y ∷ ys) (suc i) a b h = same_default ys i a b (omega (arith, h))

one_distinct : (e : Pair) → AreDistinct (e ∷ [])
one_distinct e i j d l m = absurd (omega (arith, l, m))

pub free_none : (S : List Point) → IsFreePart S [] []
free_none S = record {
  distinct = λ i j d l m. absurd (omega (arith, l, m));
  exact = λ e. ((λ c. absurd (omega (arith, c.1))), (λ c. absurd (omega (arith, c.0.1))));
}

-- one more taken pair, which is a border pair
pub free_skip : (S : List Point) (A F : List Pair) (e : Pair) → IsFreePart S A F → IsBorderPair S e.lo e.hi → IsFreePart S (A ++ e ∷ []) F
free_skip S A F e part is = record {
  distinct = part.distinct;
  exact = λ f. (
    (λ c. (Contains-append_left A (e ∷ []) f ((part.exact f).0 c).0, ((part.exact f).0 c).1)),
    (λ h. elim (Contains-append_cases A (e ∷ []) f h.0) [
      | inl a ↦ (part.exact f).1 (a, h.1)
      | inr b ↦ elim (contains_cases e [] f b) [
        | inl same ↦ absurd (h.1 (subst (λ (x : Pair). IsBorderPair S x.lo x.hi) same is))
        | inr t ↦ absurd (omega (arith, t.1))
      ]
    ]),
  );
}

-- one more, which isn't
pub free_keep : (S : List Point) (A F : List Pair) (e : Pair) → IsFreePart S A F → ¬ IsBorderPair S e.lo e.hi → ¬ Contains A e → IsFreePart S (A ++ e ∷ []) (F ++ e ∷ [])
free_keep S A F e part off new = record {
  distinct = append_distinct F (e ∷ []) part.distinct (one_distinct e) (λ f c d. elim (contains_cases e [] f d) [
    | inl same ↦ new (subst (Contains A) (sym same) ((part.exact f).0 c).0)
    | inr t ↦ absurd (omega (arith, t.1))
  ]);
  exact = λ f. (
    (λ c. elim (Contains-append_cases F (e ∷ []) f c) [
      | inl a ↦ (Contains-append_left A (e ∷ []) f ((part.exact f).0 a).0, ((part.exact f).0 a).1)
      | inr b ↦ elim (contains_cases e [] f b) [
        | inl same ↦ (Contains-append_right A (e ∷ []) f b, subst (λ (x : Pair). ¬ IsBorderPair S x.lo x.hi) same off)
        | inr t ↦ absurd (omega (arith, t.1))
      ]
    ]),
    (λ h. elim (Contains-append_cases A (e ∷ []) f h.0) [
      | inl a ↦ Contains-append_left F (e ∷ []) f ((part.exact f).1 (a, h.1))
      | inr b ↦ Contains-append_right F (e ∷ []) f b
    ]),
  );
}

-- a leaf's rows are rows of a certificate
pub light_of : (rows : List Row) → AreLightRows rows → AreLight rows
light_of rows h = All-weaker (λ row. weight row ≤ 1000000000) (λ row. weight row ≤ 1000000000000) (λ row l. omega (arith, l)) rows h.each

pub gives_few : (S : List Point) (rows : List Row) (i j : ℕ) → AreLightRows rows → gives S rows i j ≤ 100000000000
gives_few S rows i j h =
    let a : gives S rows i j ≤ sum_by weight rows = sum_by-le-sum_by (given S i j) weight rows (λ row. cond_le (counts S row i j) (weight row)) in
    let b : sum_by weight rows ≤ length rows * 1000000000 = sum_by-le weight 1000000000 rows h.each in
    omega (arith, a, b, h.few)

pub takes_few : (rows : List Row) (i j : ℕ) → AreLightRows rows → takes rows i j ≤ 100000000000
takes_few rows i j h =
    let a : takes rows i j ≤ sum_by weight rows = sum_by-le-sum_by (lessened i j) weight rows (λ row. cond_le (lessens row i j) (weight row)) in
    let b : sum_by weight rows ≤ length rows * 1000000000 = sum_by-le weight 1000000000 rows h.each in
    omega (arith, a, b, h.few)

-- one more load
pub loads_more : (S : List Point) (rows : List Row) (list : List Pair) (k : ℕ) (e d : Pair) (sum more : ℤ)
    → k < length list → e ≡ get_or list k e → IsLoadSum S rows (take k list) sum → more ≡ load S rows e.lo e.hi → IsLoadSum S rows (take (k + 1) list) (sum +ℤ more)
loads_more S rows list k e d sum more l is so_far here =
    let g : sum_by (λ (x : Pair). gives S rows x.lo x.hi) (take (k + 1) list) ≡ sum_by (λ (x : Pair). gives S rows x.lo x.hi) (take k list) + gives S rows e.lo e.hi =
    sum_by_more (λ (x : Pair). gives S rows x.lo x.hi) list k e l ∙ ap (λ (x : Pair). sum_by (λ (y : Pair). gives S rows y.lo y.hi) (take k list) + gives S rows x.lo x.hi) (sym is) in
    let t : sum_by (λ (x : Pair). takes rows x.lo x.hi) (take (k + 1) list) ≡ sum_by (λ (x : Pair). takes rows x.lo x.hi) (take k list) + takes rows e.lo e.hi =
    sum_by_more (λ (x : Pair). takes rows x.lo x.hi) list k e l ∙ ap (λ (x : Pair). sum_by (λ (y : Pair). takes rows y.lo y.hi) (take k list) + takes rows x.lo x.hi) (sym is) in
    omega (arith, ints, g, t, so_far, here)

pub few_of : (rows : List Row) → AreLightRows rows → length rows ≤ 200000
few_of rows h = omega (arith, h.few)

lost_light : (row : Row) → weight row ≤ 1000000000000 → lost row ≤ 3000000000000
lost_light (Half p q w) h = omega arith
lost_light (Three p w) h = omega arith
lost_light (Cross e f w) h = omega (arith, h)
lost_light (Cap e w) h = omega (arith, h)

pub lost_total : (rows : List Row) → AreLightRows rows → sum_by lost rows ≤ 600000000000000000
lost_total rows h = sum_small lost lost_light rows (light_of rows h) (few_of rows h)

-- one more load in code
pub load_plain : (l : ℤ) (g t : ℕ) → l ≡ pos g -ℤ pos t → g ≤ 100000000000 → t ≤ 100000000000 → to_z w64 (of_z w64 l) ≡ l
load_plain l g t e a b = omega (arith, ints)

pub sum_fits : (x l : ℤ) (k : ℕ) → k < 20000 → neg_ℤ (pos (100000000000 * k)) ≤ℤ x → x ≤ℤ pos (100000000000 * k) → neg_ℤ (pos 100000000000) ≤ℤ l → l ≤ℤ pos 100000000000
    → FitsSigned w64 (x +ℤ l)
sum_fits x l k few low high a b = omega (arith, ints)

pub sum_plain : (x l : ℤ) (k : ℕ) → k < 20000 → neg_ℤ (pos (100000000000 * k)) ≤ℤ x → x ≤ℤ pos (100000000000 * k) → neg_ℤ (pos 100000000000) ≤ℤ l → l ≤ℤ pos 100000000000
    → to_z w64 (of_z w64 (x +ℤ l)) ≡ x +ℤ l
sum_plain x l k few low high a b = omega (arith, ints)

pub sum_low : (x l : ℤ) (k : ℕ) → neg_ℤ (pos (100000000000 * k)) ≤ℤ x → neg_ℤ (pos 100000000000) ≤ℤ l → neg_ℤ (pos (100000000000 * (k + 1))) ≤ℤ (x +ℤ l)
sum_low x l k low a = omega (arith, ints)

pub sum_high : (x l : ℤ) (k : ℕ) → x ≤ℤ pos (100000000000 * k) → l ≤ℤ pos 100000000000 → (x +ℤ l) ≤ℤ pos (100000000000 * (k + 1))
sum_high x l k high b = omega (arith, ints)

pub load_low : (l : ℤ) (g t : ℕ) → l ≡ pos g -ℤ pos t → g ≤ 100000000000 → t ≤ 100000000000 → (neg_ℤ (pos 100000000000) ≤ℤ l) × (l ≤ℤ pos 100000000000)
load_low l g t e a b = (omega (arith, ints), omega (arith, ints))
