-- Who owns which place.
use Rattle.std.proofs.Common.{◌≡◌, ℕ, Option, None, replicate, inl, inr, arith}
use Rattle.std.proofs.lemmas.Bool.{cases_lt}
use Rattle.std.proofs.lemmas.List.{get_or-replicate, get_or_past, length-replicate}
use Rattle.weave.specs.Owned.{owner_in}

-- places that are all free
pub owner_free : (count v : ℕ) → owner_in (replicate count None) v ≡ None
owner_free count v = elim (cases_lt v count) [
  | inl h ↦ get_or-replicate count v None None h
  | inr h ↦ get_or_past (replicate count None) v None (omega (arith, length-replicate {A = Option ℕ} count None))
]
