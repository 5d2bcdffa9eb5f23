-- Lists of cells, read by place.
use Rattle.std.proofs.Common.{◌≡◌, ℕ, zero, suc, List, [], ◌∷◌, ◌++◌, length, ap, refl}
use Rattle.std.specs.Prelude.{Some, slice_get}
use mathlib.Core.Option.{some}
use lib.ListN.{get_elem?}

module _ {A : Type 0} where
  pub slice_get-is_there : (l : List A) (i : ℕ) (x : A) → slice_get l i ≡ Some x → get_elem? l i ≡ some x
  slice_get-is_there [] i x e = absurd (cc)
  slice_get-is_there (y ∷ ys) zero x e = let same : y ≡ x = cc in ap some same
  slice_get-is_there (y ∷ ys) (suc i) x e = slice_get-is_there ys i x e

  pub slice_get-longer : (l m : List A) (i : ℕ) (x : A) → slice_get l i ≡ Some x → slice_get (l ++ m) i ≡ Some x
  slice_get-longer [] m i x e = absurd (cc)
  slice_get-longer (y ∷ ys) m zero x e = e
  slice_get-longer (y ∷ ys) m (suc i) x e = slice_get-longer ys m i x e

  pub slice_get-last : (l : List A) (x : A) → slice_get (l ++ x ∷ []) (length l) ≡ Some x
  slice_get-last [] x = refl
  slice_get-last (y ∷ ys) x = slice_get-last ys x
