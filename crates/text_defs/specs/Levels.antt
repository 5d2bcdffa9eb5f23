-- The levels of a text, counted on its bytes before it is read (this project's own).
use Rattle.std.specs.Prelude.{ℕ, ◌+◌, ◌-◌, List, [], ◌∷◌, ◌||◌, ◌==◌, Bool, if◌then◌else◌}
use Rattle.std.specs.List.{flat_map}
use Rattle.text_defs.specs.Pieces.{Piece, quoted, run, other, pieces}

abbrev pub opens : ℕ → Bool
opens c = (c == 91) || (c == 123)

abbrev pub closes : ℕ → Bool
closes c = (c == 93) || (c == 125)

-- a piece without its strings
abbrev pub outside : Piece → List ℕ
outside (quoted bytes) = []
outside (run bytes) = bytes
outside (other byte) = byte ∷ []

-- the bytes of a text that stand outside its strings
unfoldable pub unquoted : List ℕ → List ℕ
unquoted bytes = flat_map outside (pieces bytes)

-- The greatest count that comes up, the count being 0 before the first byte. The numbers stop at 0, as the greatest count does.
abbrev pub greatest_count : List ℕ → ℕ
greatest_count [] = 0
greatest_count (c ∷ cs) = if opens c then 1 + greatest_count cs else (if closes c then greatest_count cs - 1 else greatest_count cs)

unfoldable pub levels : List ℕ → ℕ
levels bytes = greatest_count (unquoted bytes)
