-- The pieces of a value's text.
use Rattle.std.proofs.Common.{◌≡◌, ℕ, suc, ◌+◌, ◌-◌, max, List, [], ◌∷◌, ◌++◌, Bool, true, false, eqb, refl, sym, ap, ap₂, ◌∙◌, arith, append_assoc, append-nil, flat_map}
use Rattle.std.proofs.Math.Nat.{zero-max}
use Rattle.std.proofs.lemmas.Bool.{and_parts}
use Rattle.std.proofs.lemmas.Bool.Decides.{nat_tests}
use Rattle.std.proofs.lemmas.Grind.{flat_map-append}
use Rattle.json.specs.Print.{quoted}
use Rattle.json.specs.Word.{after_number}
use Rattle.serde_json.specs.Data.{Data, null, boolean, number, string, array, object, Items, no_items, item, Members, no_members, member, depth, items_depth, members_depth}
use Rattle.serde_json.specs.Written.{number_text, comma_if, compact_text, items_text, members_text}
use Rattle.text_defs.specs.Pieces as text
use Rattle.text_defs.specs.Pieces.{Piece, run, other, is_number_byte, pieces}
use Rattle.text_defs.specs.Numbers.{written, rewritten, replacement}
use Rattle.text_defs.specs.Levels.{opens, closes, outside, unquoted, greatest_count, levels}
use Rattle.text_defs.proofs.laws.Pieces.{pieces-nil, pieces-other}
use Rattle.text_defs.proofs.laws.IsPlain.{IsPlain, ItemsArePlain, MembersArePlain}
use Rattle.text_defs.proofs.laws.Strings.{pieces-quoted}
use Rattle.text_defs.proofs.laws.Whole.{Breaks, pieces-number, number_piece, number_stays, are_number_bytes, number_bytes}

abbrev comma_pieces : Bool → List Piece
comma_pieces true = other 44 ∷ []
comma_pieces false = []

abbrev mutual
  pub pieces_of : Data → List Piece
  pieces_of null = other 110 ∷ other 117 ∷ other 108 ∷ other 108 ∷ []
  pieces_of (boolean true) = other 116 ∷ other 114 ∷ other 117 ∷ run (101 ∷ []) ∷ []
  pieces_of (boolean false) = other 102 ∷ other 97 ∷ other 108 ∷ other 115 ∷ run (101 ∷ []) ∷ []
  pieces_of (number n) = run (number_text n) ∷ []
  pieces_of (string s) = text.quoted (quoted s) ∷ []
  pieces_of (array ds) = other 91 ∷ items_pieces false ds
  pieces_of (object ms) = other 123 ∷ members_pieces false ms

  items_pieces : Bool → Items → List Piece
  items_pieces later no_items = other 93 ∷ []
  items_pieces later (item d ds) = comma_pieces later ++ (pieces_of d ++ items_pieces true ds)

  members_pieces : Bool → Members → List Piece
  members_pieces later no_members = other 125 ∷ []
  members_pieces later (member k d ms) = comma_pieces later ++ (text.quoted (quoted k) ∷ other 58 ∷ (pieces_of d ++ members_pieces true ms))

byte : (a : ℕ) (cs : List ℕ) (ps : List Piece) → eqb a 34 ≡ false → is_number_byte a ≡ false → pieces cs ≡ ps → pieces (a ∷ cs) ≡ other a ∷ ps
byte a cs ps q n e = pieces-other a cs q n ∙ ap (λ x. other a ∷ x) e

comma : (later : Bool) (cs : List ℕ) (ps : List Piece) → pieces cs ≡ ps → pieces (comma_if later ++ cs) ≡ comma_pieces later ++ ps
comma true cs ps e = byte 44 cs ps refl refl e
comma false cs ps e = e

breaks_items : (ds : Items) (rest : List ℕ) → Breaks (items_text true ds ++ rest)
breaks_items no_items rest = refl
breaks_items (item d ds) rest = refl

breaks_members : (ms : Members) (rest : List ℕ) → Breaks (members_text true ms ++ rest)
breaks_members no_members rest = refl
breaks_members (member k d ms) rest = refl

mutual
  pub pieces-compact_text : (d : Data) (rest : List ℕ) → IsPlain d → Breaks rest → pieces (compact_text d ++ rest) ≡ pieces_of d ++ pieces rest
  pieces-compact_text null rest h b = byte 110 _ _ refl refl (byte 117 _ _ refl refl (byte 108 _ _ refl refl (byte 108 _ _ refl refl refl)))
  pieces-compact_text (boolean true) rest h b = byte 116 _ _ refl refl (byte 114 _ _ refl refl (byte 117 _ _ refl refl (pieces-number (101 ∷ []) rest (omega arith) refl b)))
  pieces-compact_text (boolean false) rest h b = byte 102 _ _ refl refl (byte 97 _ _ refl refl (byte 108 _ _ refl refl (byte 115 _ _ refl refl (pieces-number (101 ∷ []) rest (omega arith) refl b))))
  pieces-compact_text (number n) rest h b = number_piece n rest h b
  pieces-compact_text (string s) rest h b = pieces-quoted s rest
  pieces-compact_text (array ds) rest h b = byte 91 _ _ refl refl (pieces-items ds false rest h)
  pieces-compact_text (object ms) rest h b = byte 123 _ _ refl refl (pieces-members ms false rest h.1)

  pieces-items : (ds : Items) (later : Bool) (rest : List ℕ) → ItemsArePlain ds → pieces (items_text later ds ++ rest) ≡ items_pieces later ds ++ pieces rest
  pieces-items no_items later rest h = byte 93 rest (pieces rest) refl refl refl
  pieces-items (item d ds) later rest h =
      let more = items_text true ds in
      ap pieces (append_assoc (comma_if later) (compact_text d ++ more) rest)
      ∙ (comma later ((compact_text d ++ more) ++ rest) ((pieces_of d ++ items_pieces true ds) ++ pieces rest)
      (ap pieces (append_assoc (compact_text d) more rest) ∙ (pieces-compact_text d (more ++ rest) h.0 (breaks_items ds rest)
      ∙ (ap (λ ps. pieces_of d ++ ps) (pieces-items ds true rest h.1) ∙ sym (append_assoc (pieces_of d) (items_pieces true ds) (pieces rest)))))
      ∙ sym (append_assoc (comma_pieces later) (pieces_of d ++ items_pieces true ds) (pieces rest)))

  pieces-members : (ms : Members) (later : Bool) (rest : List ℕ) → MembersArePlain ms → pieces (members_text later ms ++ rest) ≡ members_pieces later ms ++ pieces rest
  pieces-members no_members later rest h = byte 125 rest (pieces rest) refl refl refl
  pieces-members (member k d ms) later rest h =
      let more = members_text true ms in
      let behind = 58 ∷ (compact_text d ++ more) in
      let ps = other 58 ∷ (pieces_of d ++ members_pieces true ms) in
      ap pieces (append_assoc (comma_if later) (quoted k ++ behind) rest)
      ∙ (comma later ((quoted k ++ behind) ++ rest) (text.quoted (quoted k) ∷ (ps ++ pieces rest))
      (ap pieces (append_assoc (quoted k) behind rest) ∙ (pieces-quoted k (behind ++ rest)
      ∙ ap (λ x. text.quoted (quoted k) ∷ x) (byte 58 ((compact_text d ++ more) ++ rest) ((pieces_of d ++ members_pieces true ms) ++ pieces rest) refl refl
      (ap pieces (append_assoc (compact_text d) more rest) ∙ (pieces-compact_text d (more ++ rest) h.1.0 (breaks_members ms rest)
      ∙ (ap (λ x. pieces_of d ++ x) (pieces-members ms true rest h.1.1) ∙ sym (append_assoc (pieces_of d) (members_pieces true ms) (pieces rest))))))))
      ∙ sym (append_assoc (comma_pieces later) (text.quoted (quoted k) ∷ ps) (pieces rest)))

pub pieces_whole : (d : Data) → IsPlain d → pieces (compact_text d) ≡ pieces_of d
pieces_whole d h = ap pieces (sym (append-nil (compact_text d))) ∙ (pieces-compact_text d [] h refl ∙ (ap (λ ps. pieces_of d ++ ps) pieces-nil ∙ append-nil (pieces_of d)))

-- ---- the numbers stay

commas_written : (later : Bool) → flat_map written (comma_pieces later) ≡ comma_if later
commas_written true = refl
commas_written false = refl

e_stays : replacement (101 ∷ []) ≡ 101 ∷ []
unfolding replacement after_number
e_stays = refl

mutual
  written_of : (d : Data) → IsPlain d → flat_map written (pieces_of d) ≡ compact_text d
  written_of null h = refl
  written_of (boolean true) h = ap (λ r. 116 ∷ 114 ∷ 117 ∷ (r ++ [])) e_stays
  written_of (boolean false) h = ap (λ r. 102 ∷ 97 ∷ 108 ∷ 115 ∷ (r ++ [])) e_stays
  written_of (number n) h = append-nil (replacement (number_text n)) ∙ number_stays n h
  written_of (string s) h = append-nil (quoted s)
  written_of (array ds) h = ap (λ t. 91 ∷ t) (written_items ds false h)
  written_of (object ms) h = ap (λ t. 123 ∷ t) (written_members ms false h.1)

  written_items : (ds : Items) (later : Bool) → ItemsArePlain ds → flat_map written (items_pieces later ds) ≡ items_text later ds
  written_items no_items later h = refl
  written_items (item d ds) later h =
      flat_map-append written (comma_pieces later) (pieces_of d ++ items_pieces true ds)
      ∙ ap₂ (λ (a b : List ℕ). a ++ b) (commas_written later) (flat_map-append written (pieces_of d) (items_pieces true ds) ∙ ap₂ (λ (a b : List ℕ). a ++ b) (written_of d h.0) (written_items ds true h.1))

  written_members : (ms : Members) (later : Bool) → MembersArePlain ms → flat_map written (members_pieces later ms) ≡ members_text later ms
  written_members no_members later h = refl
  written_members (member k d ms) later h =
      flat_map-append written (comma_pieces later) (text.quoted (quoted k) ∷ other 58 ∷ (pieces_of d ++ members_pieces true ms))
      ∙ ap₂ (λ (a b : List ℕ). a ++ b) (commas_written later)
      (ap (λ t. quoted k ++ 58 ∷ t) (flat_map-append written (pieces_of d) (members_pieces true ms) ∙ ap₂ (λ (a b : List ℕ). a ++ b) (written_of d h.1.0) (written_members ms true h.1.1)))

-- The rewriting of numbers leaves a plain value's text as it is.
pub rewritten-compact_text : (d : Data) → IsPlain d → rewritten (compact_text d) ≡ compact_text d
unfolding rewritten
rewritten-compact_text d h = ap (flat_map written) (pieces_whole d h) ∙ written_of d h

-- ---- the levels are the depth

number_flat : (cs r : List ℕ) → are_number_bytes cs ≡ true → greatest_count (cs ++ r) ≡ greatest_count r
number_flat [] r h = refl
number_flat (c ∷ cs) r h =
    let p = and_parts (is_number_byte c) (are_number_bytes cs) h in
    let o : opens c ≡ false = no_opening c p.0 in
    let k : closes c ≡ false = no_closing c p.0 in
    rw (o, k) (number_flat cs r p.1)
  where
    no_opening : (c : ℕ) → is_number_byte c ≡ true → opens c ≡ false
    no_opening c h = grind (arith, nat_tests)

    no_closing : (c : ℕ) → is_number_byte c ≡ true → closes c ≡ false
    no_closing c h = grind (arith, nat_tests)

abbrev flat : List Piece → List ℕ
flat = flat_map outside

open_max : (n g : ℕ) → 1 + max n (g - 1) ≡ max (suc n) g
open_max n g = grind arith

max_max : (a b c : ℕ) → max a (max b c) ≡ max (max a b) c
max_max a b c = grind arith

comma_flat : (later : Bool) (r : List ℕ) → greatest_count (flat (comma_pieces later) ++ r) ≡ greatest_count r
comma_flat true r = refl
comma_flat false r = refl

mutual
  count_of : (d : Data) (r : List ℕ) → IsPlain d → greatest_count (flat (pieces_of d) ++ r) ≡ max (depth d) (greatest_count r)
  count_of null r h = sym (zero-max _)
  count_of (boolean true) r h = sym (zero-max _)
  count_of (boolean false) r h = sym (zero-max _)
  count_of (number n) r h = ap (λ t. greatest_count (t ++ r)) (append-nil (number_text n)) ∙ (number_flat (number_text n) r (number_bytes n h) ∙ sym (zero-max _))
  count_of (string s) r h = sym (zero-max _)
  count_of (array ds) r h = ap (λ n. 1 + n) (count_items ds false r h) ∙ open_max (items_depth ds) (greatest_count r)
  count_of (object ms) r h = ap (λ n. 1 + n) (count_members ms false r h.1) ∙ open_max (members_depth ms) (greatest_count r)

  count_items : (ds : Items) (later : Bool) (r : List ℕ) → ItemsArePlain ds → greatest_count (flat (items_pieces later ds) ++ r) ≡ max (items_depth ds) (greatest_count r - 1)
  count_items no_items later r h = sym (zero-max _)
  count_items (item d ds) later r h =
      ap (λ t. greatest_count (t ++ r)) (flat_map-append outside (comma_pieces later) (pieces_of d ++ items_pieces true ds))
      ∙ (ap greatest_count (append_assoc (flat (comma_pieces later)) (flat (pieces_of d ++ items_pieces true ds)) r)
      ∙ (comma_flat later (flat (pieces_of d ++ items_pieces true ds) ++ r)
      ∙ (ap (λ t. greatest_count (t ++ r)) (flat_map-append outside (pieces_of d) (items_pieces true ds))
      ∙ (ap greatest_count (append_assoc (flat (pieces_of d)) (flat (items_pieces true ds)) r)
      ∙ (count_of d (flat (items_pieces true ds) ++ r) h.0
      ∙ (ap (max (depth d)) (count_items ds true r h.1) ∙ max_max (depth d) (items_depth ds) (greatest_count r - 1)))))))

  count_members : (ms : Members) (later : Bool) (r : List ℕ) → MembersArePlain ms → greatest_count (flat (members_pieces later ms) ++ r) ≡ max (members_depth ms) (greatest_count r - 1)
  count_members no_members later r h = sym (zero-max _)
  count_members (member k d ms) later r h =
      ap (λ t. greatest_count (t ++ r)) (flat_map-append outside (comma_pieces later) (text.quoted (quoted k) ∷ other 58 ∷ (pieces_of d ++ members_pieces true ms)))
      ∙ (ap greatest_count (append_assoc (flat (comma_pieces later)) (58 ∷ flat (pieces_of d ++ members_pieces true ms)) r)
      ∙ (comma_flat later (58 ∷ (flat (pieces_of d ++ members_pieces true ms) ++ r))
      ∙ (ap (λ t. greatest_count (t ++ r)) (flat_map-append outside (pieces_of d) (members_pieces true ms))
      ∙ (ap greatest_count (append_assoc (flat (pieces_of d)) (flat (members_pieces true ms)) r)
      ∙ (count_of d (flat (members_pieces true ms) ++ r) h.1.0
      ∙ (ap (max (depth d)) (count_members ms true r h.1.1) ∙ max_max (depth d) (members_depth ms) (greatest_count r - 1)))))))

-- The levels of a plain value's text are the value's depth.
pub levels-compact_text : (d : Data) → IsPlain d → levels (compact_text d) ≡ depth d
unfolding levels unquoted
levels-compact_text d h =
    ap (λ ps. greatest_count (flat ps)) (pieces_whole d h) ∙ (ap greatest_count (sym (append-nil (flat (pieces_of d)))) ∙ (count_of d [] h ∙ max_zero (depth d)))
  where
    max_zero : (n : ℕ) → max n 0 ≡ n
    max_zero n = grind arith
