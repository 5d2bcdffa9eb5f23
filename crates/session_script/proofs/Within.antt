-- Commands that were read are of the points.
use Rattle.std.proofs.Common.{◌≡◌, ℕ, ◌<◌, ◌≤◌, ◌⊎◌, List, [], ◌∷◌, map, length, Option, Some, None, Ok, All, cond, codes, option_map, inl, inr, subst, arith}
use Rattle.std.proofs.lemmas.List.{length-map}
use Rattle.serde_json.specs.Data.{Data}
use Rattle.text_defs.specs.Items.{index, is_tag, array_list, each_or_fault}
use Rattle.text_defs.proofs.laws.IsPlain.{Each}
use Rattle.report_io.specs.Reading.{edits_of}
use Rattle.report_io.proofs.laws.PartLimits.{IsEditItem}
use Rattle.report_io.proofs.laws.PartsWithin.{some_of, mapped_of, index-some, each_or_fault-ok, unless_many-ok}
use Rattle.report_io.proofs.laws.Within.{each_told}
use Rattle.weave_script.proofs.Laws.{where_of, either_of, edits_of-some, edits_within}
use Rattle.edit_session.specs.declared.command.EditCommand.{EditCommand}
use Rattle.edit_session.specs.declared.command.EditCommand.TheVariants.{Look, Commit, Undo, Bound}
use Rattle.edit_session.specs.Sessions.{IsCommandOf}
use Rattle.session_script.specs.declared.script.SessionFault.TheVariants.{TooManyCommands, BadCommand}
use Rattle.session_script.specs.Reading.{CommandItem, looked, committed, undone, bounded, alone, tagged, command_in, command_of, command_items}
use Rattle.session_script.specs.Sessions.{command_item}

abbrev IsCommandItem : ℕ → CommandItem → Type 0
IsCommandItem n (looked v) = v < n
IsCommandItem n (committed edits) = Each (IsEditItem n) edits
IsCommandItem n undone = Unit {0}
IsCommandItem n bounded = Unit {0}

alone-some : (n : ℕ) (t : Data) (x : CommandItem) → alone t ≡ Some x → IsCommandItem n x
alone-some n t x h = elim (either_of (is_tag (codes "undo") t) (Some undone) (cond (is_tag (codes "bound") t) (Some bounded) None) x h) [
  | inl one ↦ (let same : undone ≡ x = cc in subst (IsCommandItem n) same tt)
  | inr two ↦ (let other : Some bounded ≡ Some x = where_of (is_tag (codes "bound") t) (Some bounded) x two in let same : bounded ≡ x = cc in subst (IsCommandItem n) same tt)
]

looked-some : (n : ℕ) (d : Data) (x : CommandItem) → option_map looked (index n d) ≡ Some x → IsCommandItem n x
looked-some n d x h = let (v, at, same) = mapped_of looked (index n d) x h in subst (IsCommandItem n) same (index-some n d v at)

committed-some : (n : ℕ) (d : Data) (x : CommandItem) → option_map committed (edits_of n d) ≡ Some x → IsCommandItem n x
committed-some n d x h = let (edits, at, same) = mapped_of committed (edits_of n d) x h in subst (IsCommandItem n) same (edits_of-some n d edits at)

tagged-some : (n : ℕ) (t d : Data) (x : CommandItem) → tagged n t d ≡ Some x → IsCommandItem n x
tagged-some n t d x h =
    let later : Option CommandItem = cond (is_tag (codes "commit") t) (option_map committed (edits_of n d)) None in
    elim (either_of (is_tag (codes "look") t) (option_map looked (index n d)) later x h) [
      | inl one ↦ looked-some n d x one
      | inr two ↦ committed-some n d x (where_of (is_tag (codes "commit") t) (option_map committed (edits_of n d)) x two)
    ]

none_of : (x : CommandItem) → ◌≡◌ {A = Option CommandItem} None (Some x) → ⊥
none_of x h = cc

command_in-some : (n : ℕ) (ds : List Data) (x : CommandItem) → command_in n ds ≡ Some x → IsCommandItem n x
command_in-some n [] x h = absurd (none_of x h)
command_in-some n (t ∷ []) x h = alone-some n t x h
command_in-some n (t ∷ d ∷ []) x h = tagged-some n t d x h
command_in-some n (t ∷ d ∷ e ∷ more) x h = absurd (none_of x h)

command_of-some : (n : ℕ) (d : Data) (x : CommandItem) → command_of n d ≡ Some x → IsCommandItem n x
command_of-some n d x h = let (ds, at, is) = some_of (command_in n) (array_list d) x h in command_in-some n ds x is

command_within : (n : ℕ) (c : EditCommand) → IsCommandItem n (command_item c) → IsCommandOf n c
command_within n (Look v) h = h
command_within n (Commit edits) h = edits_within n edits h
command_within n Undo h = tt
command_within n Bound h = tt

-- commands that were read are commands, and few
pub commands_within : (n : ℕ) (items : List Data) (list : List EditCommand) → command_items n items ≡ Ok (map command_item list) → All (IsCommandOf n) list × (length list ≤ 100000)
commands_within n items list h =
    let (few, is) = unless_many-ok 100000 TooManyCommands items (each_or_fault (command_of n) BadCommand items) (map command_item list) h in
    let all = each_or_fault-ok (IsCommandItem n) (command_of n) BadCommand items (map command_item list) (command_of-some n) is in
    let count = all.1 in
    let same = length-map list command_item in
    (each_told (IsCommandOf n) (IsCommandItem n) command_item list (command_within n) all.0, omega (arith, few, count, same))
