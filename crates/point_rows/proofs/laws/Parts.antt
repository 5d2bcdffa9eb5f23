-- What is given to a pair comes from the rows at its two ends.
use Rattle.std.proofs.Common.{◌≡◌, ◌≢◌, ℕ, ◌+◌, List, [], ◌∷◌, Bool, true, false, cond, sym, ◌∙◌, ap, ap₂, refl, arith}
use Rattle.std.specs.Prelude.{nat_eq, ◌&&◌, ◌||◌}
use Rattle.std.proofs.lemmas.Bool.{eqb-true, false≢true}
use Rattle.std.proofs.lemmas.Bool.Decides.{Decides-eqb}
use Rattle.std.proofs.lemmas.List.Sums.{sum_by-cons}
use Rattle.plane.specs.declared.coordinates.Point.{Point}
use Rattle.price_defs.specs.declared.row.Row.{Row}
use Rattle.price_defs.specs.declared.row.Row.TheVariants.{Half, Three, Cross, Cap}
use Rattle.price_defs.specs.Rows.{counts, in_need}
use Rattle.price_defs.specs.Loads.{given, gives}
use Rattle.point_rows.specs.Placed.{given_at, gives_at}

-- the row that gives to i-j stands at i or at j
parts_half : (a b : Bool) (x y : Bool) (w : ℕ) → (a ≡ true → b ≡ true → ⊥)
    → cond ((a && x) || (b && y)) w 0 ≡ cond a (cond ((a && x) || (b && y)) w 0) 0 + cond b (cond ((b && y) || (a && x)) w 0) 0
parts_half true true x y w never = absurd (never refl refl)
parts_half true false true y w never = omega arith
parts_half true false false y w never = omega arith
parts_half false true x true w never = omega arith
parts_half false true x false w never = omega arith
parts_half false false x y w never = omega arith

parts_three : (a b : Bool) (w : ℕ) → (a ≡ true → b ≡ true → ⊥) → cond (a || b) w 0 ≡ cond a (cond (a || b) w 0) 0 + cond b (cond (b || a) w 0) 0
parts_three true true w never = absurd (never refl refl)
parts_three true false w never = omega arith
parts_three false true w never = omega arith
parts_three false false w never = omega arith

turned_eq : (i p : ℕ) → nat_eq p i ≡ nat_eq i p
turned_eq i p = elim (nat_eq i p) as (λ t. nat_eq i p ≡ t → nat_eq p i ≡ t) [
  | true ↦ λ t. (let e : i ≡ p = eqb-true i p t in ap (λ n. nat_eq p n) e ∙ sym (ap (λ n. nat_eq n p) e) ∙ t)
  | false ↦ λ t. elim (nat_eq p i) as (λ s. nat_eq p i ≡ s → s ≡ false) [
    | true ↦ λ s. absurd (false≢true (sym t ∙ (Decides-eqb i p).1 (sym (eqb-true p i s))))
    | false ↦ λ s. refl
  ] refl
] refl

not_both : (i j p : ℕ) → i ≢ j → nat_eq i p ≡ true → nat_eq j p ≡ true → ⊥
not_both i j p ne a b = ne (eqb-true i p a ∙ sym (eqb-true j p b))

pub given_parts : (S : List Point) (row : Row) (i j : ℕ) → i ≢ j → given S i j row ≡ given_at S i j row + given_at S j i row
unfolding counts
given_parts S (Half p q w) i j ne =
    parts_half (nat_eq i p) (nat_eq j p) (in_need S p q j) (in_need S p q i) w (not_both i j p ne)
    ∙ ap₂ (λ x y. cond x (cond ((nat_eq i p && in_need S p q j) || (nat_eq j p && in_need S p q i)) w 0) 0 + cond y (cond ((nat_eq j p && in_need S p q i) || (nat_eq i p && in_need S p q j)) w 0) 0)
    (sym (turned_eq i p)) (sym (turned_eq j p))
given_parts S (Three p w) i j ne =
    parts_three (nat_eq i p) (nat_eq j p) w (not_both i j p ne)
    ∙ ap₂ (λ x y. cond x (cond (nat_eq i p || nat_eq j p) w 0) 0 + cond y (cond (nat_eq j p || nat_eq i p) w 0) 0) (sym (turned_eq i p)) (sym (turned_eq j p))
given_parts S (Cross e f w) i j ne = omega arith
given_parts S (Cap e w) i j ne = omega arith

pub gives_parts : (S : List Point) (rows : List Row) (i j : ℕ) → i ≢ j → gives S rows i j ≡ gives_at S rows i j + gives_at S rows j i
gives_parts S [] i j ne = refl
gives_parts S (row ∷ rows) i j ne =
    omega (arith, sum_by-cons (given S i j) row rows, sum_by-cons (given_at S i j) row rows, sum_by-cons (given_at S j i) row rows, given_parts S row i j ne, gives_parts S rows i j ne)
