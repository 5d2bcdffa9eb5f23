-- What a test at a step of a loop over a list adds.
use Rattle.std.proofs.Common.{sym, Bool, true, false, IsTrue, ◌↔◌, ◌≡◌, ◌<◌, ◌+◌, ℕ, List, length, slice_index_or, ◌∙◌, subst}
use Rattle.std.proofs.lemmas.List.{get_or_default}
use Rattle.std.proofs.lemmas.Bool.{false≢true}
use borrow.Author.Count.{below_more}

pub more_items : {X : Type 0} (P : X → Type 0) (xs : List X) (i : ℕ) (x : X) → x ≡ slice_index_or xs i x → i < length xs → P x
    → ((k : ℕ) (y : X) → k < i → slice_index_or xs k y ≡ y → P y)
    → (k : ℕ) (y : X) → k < i + 1 → slice_index_or xs k y ≡ y → P y
more_items {X} P xs i x is l here before =
    let Q : ℕ → Type 0 = λ k. (y : X) → slice_index_or xs k y ≡ y → P y in
    let all : (k : ℕ) → k < i + 1 → Q k =
    below_more Q i (λ k m y e. before k y m e) (λ y e. subst P (is ∙ get_or_default xs i x y l ∙ e) here) in
    λ k y m e. all k m y e

-- a test that fails refuses what stands on it
pub refuses : (b : Bool) (P X : Type 0) → b ≡ false → (IsTrue b ↔ P) → (X → P) → (IsTrue false → X) × (X → IsTrue false)
refuses b P X e h f = (λ u. absurd (false≢true u), λ x. sym e ∙ h.1 (f x))

pub passed : (b : Bool) (P : Type 0) → b ≡ true → (IsTrue b ↔ P) → P
passed b P e h = h.0 e
