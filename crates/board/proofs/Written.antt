-- What was written through a slice of a whole vector.
use Rattle.std.proofs.Common.{◌≡◌, ℕ, List, [], ◌∷◌, ◌++◌, length, take, drop, ap, subst, refl}

written : {X : Type 0} (xs ys : List X) → take (length xs) (xs ++ ys) ≡ xs
written {X = X} [] ys = refl
written {X = X} (x ∷ xs) ys = ap (λ (l : List X). x ∷ l) (written xs ys)

pub written_back : {X : Type 0} (n : ℕ) (xs ys : List X) → length xs ≡ n → take n (xs ++ drop (length xs) ys) ≡ xs
written_back n xs ys e = subst (λ (m : ℕ). take m (xs ++ drop (length xs) ys) ≡ xs) e (written xs (drop (length xs) ys))
