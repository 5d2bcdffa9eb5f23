-- A plain value's text is read as the value.
use Rattle.std.proofs.Common.{◌≡◌, suc, ◌≤◌, max, List, [], pos, negsuc, Option, Some, option_map, option_and_then, refl, sym, ap, ap₂, ◌∙◌, arith, append-nil}
use Rattle.json.specs.Lex.{tokens}
use Rattle.json.specs.Token.{Token}
use Rattle.json.specs.Json as json
use Rattle.json.specs.Tree as tree
use Rattle.json.proofs.Printed.Tokens.{tokens-print}
use Rattle.json.proofs.Printed.Trees.{value-json_tokens, ArePrintable-json_tokens}
use Rattle.json.proofs.Printed.Decimals.{IsNumber-decimal, IsNumber-signed_decimal}
use Rattle.json.specs.Print.{IsNumber}
use Rattle.serde_json.specs.Data.{Num, unsigned, negative, float, Data, null, boolean, number, string, array, object, Items, no_items, item, Members, no_members, member, put, depth, items_depth, members_depth}
use Rattle.serde_json.specs.Read.{read, number_of, of_json, of_items, of_members, max_depth}
use Rattle.serde_json.specs.Written.{number_text, outline, items_outline, members_outline, compact_text}
use Rattle.serde_json.proofs.Numbers.{number_of-decimal, number_of-negative}
use Rattle.serde_json.proofs.Texts.{print-outline}
use Rattle.text_defs.proofs.laws.IsPlain.{IsWhole64, put_all, IsPlain, ItemsArePlain, MembersArePlain}

number_back : (n : Num) → IsWhole64 n → number_of (number_text n) ≡ Some n
number_back (unsigned n) h = number_of-decimal n (omega arith)
number_back (negative (pos n)) h = absurd h
number_back (negative (negsuc n)) h = number_of-negative n (omega arith)
number_back (float x) h = absurd h

pub is_number : (n : Num) → IsWhole64 n → IsNumber (number_text n)
is_number (unsigned n) h = IsNumber-decimal n (omega arith)
is_number (negative (pos n)) h = absurd h
is_number (negative (negsuc n)) h = IsNumber-signed_decimal (negsuc n) h
is_number (float x) h = absurd h

mutual
  of_outline : (d : Data) → IsPlain d → of_json (outline d) ≡ Some d
  of_outline null h = refl
  of_outline (boolean b) h = refl
  of_outline (number n) h = ap (option_map number) (number_back n h)
  of_outline (string s) h = refl
  of_outline (array ds) h = ap (option_map array) (of_items_outline ds h)
  of_outline (object ms) h = ap (option_map object) (of_members_outline ms no_members h.1 ∙ ap Some h.0)

  of_items_outline : (ds : Items) → ItemsArePlain ds → of_items (items_outline ds) ≡ Some ds
  of_items_outline no_items h = refl
  of_items_outline (item d ds) h = ap (option_and_then (λ e. option_map (item e) (of_items (items_outline ds)))) (of_outline d h.0) ∙ ap (option_map (item d)) (of_items_outline ds h.1)

  of_members_outline : (ms found : Members) → MembersArePlain ms → of_members (members_outline ms) found ≡ Some (put_all ms found)
  of_members_outline no_members found h = refl
  of_members_outline (member k d ms) found h =
      ap (option_and_then (λ e. of_members (members_outline ms) (put k e found))) (of_outline d h.1.0) ∙ of_members_outline ms (put k d found) h.1.1

mutual
  pub numbers_outline : (d : Data) → IsPlain d → tree.HasNumbers (outline d)
  numbers_outline null h = tt
  numbers_outline (boolean b) h = tt
  numbers_outline (number n) h = is_number n h
  numbers_outline (string s) h = tt
  numbers_outline (array ds) h = items_numbers ds h
  numbers_outline (object ms) h = members_numbers ms h.1

  items_numbers : (ds : Items) → ItemsArePlain ds → tree.ItemsHaveNumbers (items_outline ds)
  items_numbers no_items h = tt
  items_numbers (item d ds) h = (numbers_outline d h.0, items_numbers ds h.1)

  members_numbers : (ms : Members) → MembersArePlain ms → tree.MembersHaveNumbers (members_outline ms)
  members_numbers no_members h = tt
  members_numbers (member k d ms) h = (numbers_outline d h.1.0, members_numbers ms h.1.1)

mutual
  depth_outline : (d : Data) → tree.depth (outline d) ≡ depth d
  depth_outline null = refl
  depth_outline (boolean b) = refl
  depth_outline (number n) = refl
  depth_outline (string s) = refl
  depth_outline (array ds) = ap suc (items_depth_outline ds)
  depth_outline (object ms) = ap suc (members_depth_outline ms)

  items_depth_outline : (ds : Items) → tree.items_depth (items_outline ds) ≡ items_depth ds
  items_depth_outline no_items = refl
  items_depth_outline (item d ds) = ap₂ max (depth_outline d) (items_depth_outline ds)

  members_depth_outline : (ms : Members) → tree.members_depth (members_outline ms) ≡ members_depth ms
  members_depth_outline no_members = refl
  members_depth_outline (member k d ms) = ap₂ max (depth_outline d) (members_depth_outline ms)

-- the tokens of a plain value's text are those of its outline
pub tokens_back : (d : Data) → IsPlain d → tokens (compact_text d) ≡ tree.json_tokens (outline d)
tokens_back d h = ap tokens (sym (print-outline d)) ∙ tokens-print (tree.json_tokens (outline d)) (ArePrintable-json_tokens (outline d) (numbers_outline d h))

-- what a text is read as, by the JSON at its front
abbrev whole : Option (json.Json × List Token) → Option Data
whole o = option_and_then of_json (option_and_then (λ p. json.if_last p.0 p.1) o)

-- The text of a plain value, of a depth that is read, is read as the value.
pub read-compact_text : (d : Data) → IsPlain d → depth d ≤ 127 → read (compact_text d) ≡ Some d
read-compact_text d h shallow =
    ap whole (ap (json.value max_depth) (tokens_back d h ∙ sym (append-nil _)) ∙ value-json_tokens (outline d) max_depth [] (rw depth_outline shallow)) ∙ of_outline d h
