-- Which values are read back as they are written: their numbers are whole and of 64 bits with a sign, their texts
-- are UTF-8, and their objects have their keys in order, each once.
use Rattle.std.specs.Prelude.{◌≡◌, ℕ, ◌^◌, ◌<◌, ◌≤◌, List, [], ◌∷◌, ℤ, pos, negsuc, ⊤}
use Rattle.std.specs.Str.{IsUtf8}
use Rattle.serde_json.specs.Data.{Num, unsigned, negative, float, Data, null, boolean, number, string, array, object, Items, no_items, item, Members, no_members, member, put}
use Rattle.serde_json.specs.Find.{of_integer}
use Rattle.text_defs.specs.Costs.{CostItem}

abbrev pub IsWhole64 : Num → Type 0
IsWhole64 (unsigned n) = n < 2 ^ 63
IsWhole64 (negative (pos n)) = ⊥
IsWhole64 (negative (negsuc n)) = n < 2 ^ 63
IsWhole64 (float x) = ⊥

-- the members, put in one after another behind those that were found
abbrev pub put_all : Members → Members → Members
put_all no_members found = found
put_all (member k d ms) found = put_all ms (put k d found)

abbrev mutual
  pub IsPlain : Data → Type 0
  IsPlain null = ⊤
  IsPlain (boolean b) = ⊤
  IsPlain (number n) = IsWhole64 n
  IsPlain (string s) = IsUtf8 s
  IsPlain (array ds) = ItemsArePlain ds
  IsPlain (object ms) = (put_all ms no_members ≡ ms) × MembersArePlain ms

  pub ItemsArePlain : Items → Type 0
  ItemsArePlain no_items = ⊤
  ItemsArePlain (item d ds) = IsPlain d × ItemsArePlain ds

  pub MembersArePlain : Members → Type 0
  MembersArePlain no_members = ⊤
  MembersArePlain (member k d ms) = IsUtf8 k × (IsPlain d × MembersArePlain ms)

-- P holds of each
abbrev pub Each : {A : Type 0} → (A → Type 0) → List A → Type 0
Each P [] = ⊤
Each P (x ∷ xs) = P x × Each P xs

-- ---- what the formats read, of solutions and instances

abbrev pub IsEdge : ℕ → ℕ × ℕ → Type 0
IsEdge n e = (e.0 < e.1) × (e.1 < n)

abbrev pub IsCosted : ℕ → CostItem → Type 0
IsCosted n x = IsEdge n x.0 × (x.1 ≤ 1000)

abbrev pub IsPlace : ℤ × ℤ → Type 0
IsPlace p = IsWhole64 (of_integer p.0) × IsWhole64 (of_integer p.1)
