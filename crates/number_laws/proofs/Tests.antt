-- What a test that answers no says.
use Rattle.std.proofs.Common.{◌≡◌, Bool, true, false, sym, ◌∙◌}
use Rattle.std.proofs.lemmas.Bool.{false≢true}

pub refused : (b : Bool) (P : Type 0) → b ≡ false → (P → b ≡ true) → ¬ P
refused b P e f p = false≢true (sym e ∙ f p)
