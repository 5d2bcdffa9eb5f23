-- A number has one spelling, and reading it gives the number.
use Rattle.std.proofs.Common.{◌≡◌, ℕ, ◌<◌, ◌^◌, List, Result, Ok, Err}
use Rattle.std.specs.Fmt.{decimal}
use Rattle.std.specs.Str.Parse.{ParsesUnsigned}
use Rattle.std.proofs.lemmas.Fmt.{parse-decimal}

pub reads_as : {E : Type 0} (word : List ℕ) (n m : ℕ) (r : Result ℕ E) → n < 2 ^ 64 → word ≡ decimal n → ParsesUnsigned 64 10 word r → r ≡ Ok m → m ≡ n
reads_as word n m r h e parsed is = let found : r ≡ Ok n = parse-decimal 64 n word r h h e parsed in cc

pub reads_always : {E : Type 0} (word : List ℕ) (n : ℕ) (fault : E) (r : Result ℕ E) → n < 2 ^ 64 → word ≡ decimal n → ParsesUnsigned 64 10 word r → r ≡ Err fault → ⊥
reads_always word n fault r h e parsed is = let found : r ≡ Ok n = parse-decimal 64 n word r h h e parsed in cc
