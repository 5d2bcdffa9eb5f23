-- What is known of points, and the check's answers.
use Rattle.std.proofs.Common.{◌≡◌, ◌≢◌, ◌↔◌, ℕ, ◌+◌, ◌*◌, ◌<◌, ◌≤◌, inl, inr, ℤ, pos, List, [], ◌∷◌, ◌++◌, length, get_or, set, Bool, false, IsTrue, Option, Some, None, Result, Ok, Err, sym, ◌∙◌, ap, subst, arith, length-append}
use Rattle.std.specs.Prelude.{◌<ℤ◌, ◌≤ℤ◌}
use Rattle.std.proofs.lemmas.Bool.{cases_lt}
use Rattle.std.proofs.lemmas.Int.{ints}
use Rattle.std.proofs.lemmas.List.{length-set, get_or_append_left, get_or_default, get_or-set_same, get_or-set_other}
use Rattle.std.proofs.Math.Seq.{get_or-append_seam}
use Rattle.plane.specs.declared.coordinates.Point.{Point}
use Rattle.plane.specs.First.{IsFirstPair}
use Rattle.plane.specs.Geometry.{IsBetween, IsInner}
use Rattle.cost_defs.specs.Costs.{Costed, cost}
use Rattle.price_defs.specs.declared.row.Row.{Row}
use Rattle.price_defs.specs.declared.row.Row.TheVariants.{Half, Three}
use Rattle.price_defs.specs.declared.row.TheConstants.{MOST_ROWS}
use Rattle.price_defs.specs.Rows.{IsRight, AreRight, IsAlone}
use Rattle.price_defs.specs.Limits.{IsIndexed}
use Rattle.price_defs.specs.Loads.{load, IsValid}
use Rattle.price_defs.specs.Faults.{IsOver, IsBadRow}
use Rattle.cert_check.specs.Shapes.{AreAloneMarks}

-- one mark more
pub inner_more : (S : List Point) (marks new : List Bool) (p : ℕ) (b : Bool) → new ≡ marks ++ b ∷ [] → IsTrue b ↔ IsInner S p
    → (length marks ≡ p) × ((q : ℕ) → q < p → IsTrue (get_or marks q false) ↔ IsInner S q)
    → (length new ≡ p + 1) × ((q : ℕ) → q < p + 1 → IsTrue (get_or new q false) ↔ IsInner S q)
inner_more S marks new p b is h (len, each) = (
  omega (arith, ap length is, length-append marks (b ∷ [])),
  λ q l. elim (cases_lt q p) [
    | inl m ↦
        let e : get_or new q false ≡ get_or marks q false = ap (λ (x : List Bool). get_or x q false) is ∙ get_or_append_left marks (b ∷ []) false q (omega arith) in
        subst (λ t. IsTrue t ↔ IsInner S q) (sym e) (each q m)
    | inr g ↦
        let s : q ≡ length marks = omega arith in
        let e : get_or new q false ≡ b = ap (λ (x : List Bool). get_or x q false) is ∙ ap (λ n. get_or (marks ++ b ∷ []) n false) s ∙ get_or-append_seam marks b [] false in
        subst (λ n. IsTrue (get_or new q false) ↔ IsInner S n) (let x : p ≡ q = omega arith in x) (subst (λ t. IsTrue t ↔ IsInner S p) (sym e) h)
  ],
)

some_is : (a b : Bool) → Some a ≡ Some b → a ≡ b
some_is a b e = ap unwrapped e
  where
    unwrapped : Option Bool → Bool
    unwrapped None = false
    unwrapped (Some x) = x

pub alone_set : (S : List Point) (marks : List (Option Bool)) (p : ℕ) (b : Bool) → p < length S → IsTrue b ↔ IsAlone S p → AreAloneMarks S marks → AreAloneMarks S (set marks p (Some b))
alone_set S marks p b l h m = record {
  count = length-set marks p (Some b) ∙ m.count;
  each = λ q c ql e. elim (cases_lt q p) [
    | inl x ↦ m.each q c ql (sym (get_or-set_other marks p q (Some b) None (λ y. absurd (omega arith))) ∙ e)
    | inr g ↦ elim (cases_lt p q) [
      | inl x ↦ m.each q c ql (sym (get_or-set_other marks p q (Some b) None (λ y. absurd (omega arith))) ∙ e)
      | inr y ↦
          let s : q ≡ p = omega arith in
          let v : Some b ≡ Some c = sym (get_or-set_same marks p (Some b) None (omega (arith, m.count))) ∙ sym (ap (λ n. get_or (set marks p (Some b)) n None) s) ∙ e in
          subst (λ n. IsTrue c ↔ IsAlone S n) (sym s) (subst (λ t. IsTrue t ↔ IsAlone S p) (some_is b c v) h)
    ]
  ];
}

pub not_alone : (S : List Point) (p q r : ℕ) → IsFirstPair (λ i j. IsBetween S p i j) (length S) q r → IsAlone S p → ⊥
not_alone S p q r first alone = (let o : q < r = first.ordered in let w : r < length S = first.within in alone q r (omega arith) w first.holds)

pub half_right : (S : List Point) (row : Row) (p q w : ℕ) (b : Bool) → row ≡ Half p q w → IsIndexed S row → p ≢ q → IsTrue b ↔ IsInner S p → IsTrue b ↔ IsRight S row
half_right S row p q w b e indexed ne inner =
    let i : IsIndexed S (Half p q w) = subst (IsIndexed S) e indexed in
    subst (λ (x : Row). IsTrue b ↔ IsRight S x) (sym e) ((λ t. (i.0, i.1, (λ s. ne (sym s)), inner.0 t)), (λ r. inner.1 r.3))

pub three_right : (S : List Point) (row : Row) (p w : ℕ) (b : Bool) → row ≡ Three p w → IsIndexed S row → IsInner S p → IsTrue b ↔ IsAlone S p → IsTrue b ↔ IsRight S row
three_right S row p w b e indexed inner alone =
    let i : IsIndexed S (Three p w) = subst (IsIndexed S) e indexed in
    subst (λ (x : Row). IsTrue b ↔ IsRight S x) (sym e) ((λ t. (i, inner, alone.0 t)), (λ r. alone.1 r.2))

pub bad_row : (S : List Point) (rows : List Row) (k : ℕ) (row : Row) → k < length rows → row ≡ get_or rows k row → ¬ IsRight S row → ((j : ℕ) (d : Row) → j < k → IsRight S (get_or rows j d)) → IsBadRow S rows k
bad_row S rows k row l is wrong before = record {
  within = l;
  holds = λ d r. wrong (subst (IsRight S) (sym (is ∙ get_or_default rows k row d l)) r);
  before = λ j jk h. h row (before j row jk);
}

not_more : (x y : ℤ) → (x <ℤ y → ⊥) → y ≤ℤ x
not_more x y h = grind (arith, ints, h)

pub valid_of : (S : List Point) (D : List Costed) (q : ℕ) (rows : List Row) → 0 < q → length rows ≤ MOST_ROWS → AreRight S rows → ((i j : ℕ) → i < j → j < length S → ¬ IsOver S D q rows i j) → IsValid S D q rows
valid_of S D q rows divisor few right none = record {
  divisor = divisor;
  count = few;
  right = right;
  loads = λ i j ij jn clear inside. not_more (pos (q * cost D i j)) (load S rows i j) (λ m. none i j ij jn (clear, inside, m));
}

abbrev pub or_zero : {E : Type 0} → Result ℕ E → ℕ
or_zero (Ok x) = x
or_zero (Err x) = 0

pub ok_is : {E : Type 0} (a b : ℕ) (r s : Result ℕ E) → r ≡ Ok a → s ≡ Ok b → r ≡ s → a ≡ b
ok_is a b r s x y e = sym (ap or_zero x) ∙ ap or_zero e ∙ ap or_zero y
