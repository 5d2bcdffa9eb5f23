-- The last side of a chain.
use Rattle.std.proofs.Common.{◌≡◌, ℕ, ℤ, pos, ◌<◌, List, [], ◌∷◌, Some, None, sym, ap, subst}
use Rattle.std.specs.Prelude.{◌<ℤ◌, ◌≤ℤ◌}
use Rattle.std.specs.List.{All}
use Rattle.std.proofs.lemmas.List.Elements.{All-head, All-tail}
use Rattle.std.proofs.lemmas.Int.{by_lt_z}
use Rattle.triangulate.specs.Chains.{last_side}
use Rattle.triangulate.specs.Swept.{IsSettled, SeesLastSide}

-- the last side and the points before it
pub record Ends (l : List ℕ) (a b : ℕ) : Type 0 where
  pub r : List ℕ
  pub is : l ≡ b ∷ (a ∷ r)

abbrev pair : (x y : ℕ) → ℕ × ℕ
pair x y = (x, y)

pub ends_of : (l : List ℕ) (a b : ℕ) → last_side l ≡ Some (a, b) → Ends l a b
ends_of [] a b h = cc
ends_of (t ∷ []) a b h = cc
ends_of (t ∷ (s ∷ r)) a b h =
    let g : pair s t ≡ pair a b = cc in
    let e : s ≡ a = ap (λ (x : ℕ × ℕ). x.0) g in let f : t ≡ b = ap (λ (x : ℕ × ℕ). x.1) g in record { r = r; is = cc }

pub ends_in : (n : ℕ) (l : List ℕ) (a b : ℕ) → last_side l ≡ Some (a, b) → All (λ i. i < n) l → (a < n) × (b < n)
ends_in n l a b h all =
    let e : Ends l a b = ends_of l a b h in
    let f : All (λ i. i < n) (b ∷ (a ∷ e.r)) = subst (λ xs. All (λ i. i < n) xs) e.is all in
    (All-head (λ i. i < n) a e.r (All-tail (λ i. i < n) b (a ∷ e.r) f), All-head (λ i. i < n) b (a ∷ e.r) f)

pub seen_last : (o : ℕ → ℕ → ℕ → ℤ) (l : List ℕ) (z a b : ℕ) → last_side l ≡ Some (a, b) → o a b z <ℤ pos 0 → SeesLastSide o l z a
seen_last o l z a b h p = let e : Ends l a b = ends_of l a b h in record { b = b; r = e.r; is = e.is; right = p }

weak_of : (x : ℤ) → ¬ (x <ℤ pos 0) → pos 0 ≤ℤ x
weak_of x h = by_lt_z x (pos 0) (λ p. absurd (h p)) (λ p. p)

pub settled_last : (o : ℕ → ℕ → ℕ → ℤ) (l : List ℕ) (z a b : ℕ) → last_side l ≡ Some (a, b) → ¬ (o a b z <ℤ pos 0) → IsSettled o l z
settled_last o l z a b h p = let e : Ends l a b = ends_of l a b h in subst (λ xs. IsSettled o xs z) (sym e.is) (weak_of (o a b z) p)

pub settled_short : (o : ℕ → ℕ → ℕ → ℤ) (l : List ℕ) (z : ℕ) → last_side l ≡ None → IsSettled o l z
settled_short o [] z h = tt
settled_short o (t ∷ []) z h = tt
settled_short o (t ∷ (s ∷ r)) z h = cc
