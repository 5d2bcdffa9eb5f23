-- A list that was lent as a slice and has come back.
use Rattle.std.proofs.Common.{◌≡◌, ℕ, List, length, take, ◌++◌, subst}
use Rattle.std.proofs.Math.Seq.{take-append_seam}

pub written_back : {T : Type 0} (xs ys : List T) (n : ℕ) → length xs ≡ n → take n (xs ++ ys) ≡ xs
written_back xs ys n len = subst (λ m. take m (xs ++ ys) ≡ xs) len (take-append_seam xs ys)
