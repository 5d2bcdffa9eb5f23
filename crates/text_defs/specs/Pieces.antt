-- A text before it is read as JSON: its strings, its longest runs of number bytes, and its other bytes.
use Rattle.std.specs.Prelude.{ℕ, zero, suc, ◌+◌, List, [], ◌∷◌, length, take, drop, Bool, not, ◌&&◌, ◌||◌, ◌==◌, if◌then◌else◌}
use Rattle.std.specs.List.{prefix_len}
use Rattle.std.specs.Char.{is_ascii_digit}

-- `0` to `9`, `+`, `-`, `.`, `e` and `E` (this project's own)
abbrev pub is_number_byte : ℕ → Bool
is_number_byte c = is_ascii_digit c || (c == 43) || (c == 45) || (c == 46) || (c == 101) || (c == 69)

-- a byte that begins neither a string nor a run of number bytes
abbrev pub is_other : ℕ → Bool
is_other c = not (c == 34) && not (is_number_byte c)

-- how many bytes a string takes behind its first quotation mark: through the next one that no backslash takes, or all
abbrev pub string_len : List ℕ → ℕ
string_len [] = 0
string_len (c ∷ []) = 1
string_len (c ∷ d ∷ cs) = if c == 34 then 1 else (if c == 92 then 2 + string_len cs else 1 + string_len (d ∷ cs))

pub data Piece : Type 0 where
  quoted : List ℕ → Piece
  run : List ℕ → Piece
  other : ℕ → Piece

-- the pieces from the front, of at most n bytes
abbrev pub pieces_within : ℕ → List ℕ → List Piece
pieces_within zero cs = []
pieces_within (suc n) [] = []
pieces_within (suc n) (c ∷ cs) =
    if c == 34 then quoted (c ∷ take (string_len cs) cs) ∷ pieces_within n (drop (string_len cs) cs)
    else (if is_number_byte c then run (c ∷ take (prefix_len is_number_byte cs) cs) ∷ pieces_within n (drop (prefix_len is_number_byte cs) cs)
    else other c ∷ pieces_within n cs)

-- the pieces of a text, in order
unfoldable pub pieces : List ℕ → List Piece
pieces bytes = pieces_within (length bytes) bytes
