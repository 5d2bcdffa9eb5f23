-- The last cell of a list, by its place.
use Rattle.std.proofs.Common.{◌≡◌, ℕ, zero, suc, List, [], ◌∷◌, ◌++◌, length, length-append, ap, refl, sym, subst, ◌∙◌, arith, ◌+◌}
use Rattle.std.specs.Prelude.{Some, slice_get}

module _ {A : Type 0} where
  slice_get-last : (l : List A) (x : A) → slice_get (l ++ x ∷ []) (length l) ≡ Some x
  slice_get-last [] x = refl
  slice_get-last (y ∷ ys) x = slice_get-last ys x

  pub last_fits : (fits : ℕ → A → Type 0) (l : List A) (x : A) (n : ℕ) → length (l ++ x ∷ []) ≡ n + 1
      → ((place : ℕ) (cell : A) → slice_get (l ++ x ∷ []) place ≡ Some cell → fits place cell) → fits n x
  last_fits fits l x n count all =
      let e : length l ≡ n = omega (arith, length-append l (x ∷ []), count) in
      subst (λ (k : ℕ). fits k x) e (all (length l) x (slice_get-last l x))
