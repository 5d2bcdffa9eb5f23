-- Lists of entries: whose they are, and which places they leave alone.
use Rattle.std.specs.Prelude.{◌≡◌, ℕ, Bool, false, nat_eq, if◌then◌else◌, List, [], filter}
use Rattle.std.specs.List.{AllByRecursion}

module _ {T : Type 0} where
  -- the caller's entries, in order. Caller 0 has none
  abbrev pub entries_of : (caller : T → ℕ) → ℕ → List T → List T
  entries_of caller c entries = if nat_eq c 0 then [] else filter (λ e. nat_eq (caller e) c) entries

  -- none of the entries is the caller's
  abbrev pub LacksCaller : (caller : T → ℕ) → List T → ℕ → Type 0
  LacksCaller caller entries c = AllByRecursion (λ (e : T). nat_eq (caller e) c ≡ false) entries

  -- none of the entries touches the place
  abbrev pub SparesPlace : (touches : T → ℕ → Bool) → List T → ℕ → Type 0
  SparesPlace touches entries place = AllByRecursion (λ (e : T). touches e place ≡ false) entries
