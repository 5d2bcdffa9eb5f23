-- The reading of commands.
use Rattle.std.proofs.Common.{◌≡◌, ◌≢◌, ℕ, ◌+◌, ◌<◌, ◌≤◌, List, [], ◌∷◌, ◌++◌, map, length, take, get_or, not, nat_le, Option, Some, None, is_some, Result, Ok, Err, Bool, true, false, inl, inr, refl, sym, ap, ◌∙◌, subst, arith}
use Rattle.std.specs.List.{filter_map}
use Rattle.std.proofs.lemmas.List.{length-map, map-append, take_more, take_all}
use Rattle.serde_json.specs.Data.{Data, null}
use Rattle.serde_json.specs.Find.{as_array}
use Rattle.serde_json.specs.View.{view, items_view}
use Rattle.serde_json.specs.declared.value.Value.{Value}
use Rattle.text_defs.specs.Items.{each_or_fault}
use Rattle.text_defs.proofs.laws.Lists.{list_of-items_of}
use Rattle.json_text.proofs.Laws.{NoneBefore, view-at, position-item, position-no_item, filter_map-push}
use Rattle.edit_session.specs.declared.command.EditCommand.{EditCommand}
use Rattle.session_script.specs.declared.script.SessionFault.{SessionFault}
use Rattle.session_script.specs.declared.script.SessionFault.TheVariants.{TooManyCommands, BadCommand}
use Rattle.session_script.specs.Reading.{command_in, command_of, command_items}
use Rattle.session_script.specs.Sessions.{command_item}
use Rattle.session_script.specs.Told.{IsOfCommands, IsOr, Answers, tell_commands}

command_in-other : (n : ℕ) (ds : List Data) → length ds ≢ 1 → length ds ≢ 2 → command_in n ds ≡ None
command_in-other n [] h k = refl
command_in-other n (a ∷ []) h k = absurd (h refl)
command_in-other n (a ∷ b ∷ []) h k = absurd (k refl)
command_in-other n (a ∷ b ∷ c ∷ more) h k = refl

-- an array of another length is no command
pub command_of-other : (n : ℕ) (d : Data) (vs : List Value) → Some (items_view vs) ≡ as_array d → length vs ≢ 1 → length vs ≢ 2 → None ≡ command_of n d
command_of-other n d vs h one two =
    let same = sym (length-map vs view) in
    rw (← h, list_of-items_of (map view vs)) (sym (command_in-other n (map view vs) (λ e. one (same ∙ e)) (λ e. two (same ∙ e))))

-- ---- too many commands, and others

command_items-few : (n : ℕ) (vs : List Value) → length vs ≤ 100000 → command_items n (map view vs) ≡ each_or_fault (command_of n) BadCommand (map view vs)
command_items-few n vs h =
    let count = length-map vs view in
    let few : nat_le (length (map view vs)) 100000 ≡ true = grind (arith, count) in
    rw few refl

-- too many commands are answered so
pub many_answer : (n : ℕ) (vs : List Value) (fault : SessionFault) → 100000 < length vs → IsOr (TooManyCommands (length vs)) fault → Answers tell_commands (command_items n (map view vs)) (Err fault)
many_answer n vs fault many (inl m) = inl m
many_answer n vs fault many (inr is) =
    let count = length-map vs view in
    let more : nat_le (length (map view vs)) 100000 ≡ false = grind (arith, count) in
    let refused : command_items n (map view vs) ≡ Err (TooManyCommands (length vs)) = rw more (ap (λ c. Err (TooManyCommands c)) count) in
    inr (subst IsOfCommands (sym is) tt, refused ∙ ap (λ (f : SessionFault). Err f) (sym is))

-- ---- one item after the other

abbrev pub is_no_command : ℕ → Data → Bool
is_no_command n d = not (is_some (command_of n d))

pub bad_command : (n : ℕ) (vs : List Value) (k : ℕ) (v : Value) → length vs ≤ 100000 → k < length vs → v ≡ get_or vs k v → NoneBefore (is_no_command n) (map view vs) k → None ≡ command_of n (view v)
    → command_items n (map view vs) ≡ Err (BadCommand k)
bad_command n vs k v few h e b q =
    let at = position-item (is_no_command n) vs k v h e b (ap (λ o. not (is_some o)) (sym q)) in
    command_items-few n vs few ∙ rw at refl

pub is_command : (n : ℕ) (d : Data) (c : EditCommand) → Some (command_item c) ≡ command_of n d → is_no_command n d ≡ false
is_command n d c q = ap (λ o. not (is_some o)) (sym q)

pub one_more : (n : ℕ) (xs : List EditCommand) (c : EditCommand) (vs : List Value) (k : ℕ) (v : Value) → k < length vs → v ≡ get_or vs k v
    → map command_item xs ≡ filter_map (command_of n) (take k (map view vs)) → Some (command_item c) ≡ command_of n (view v)
    → map command_item (xs ++ c ∷ []) ≡ filter_map (command_of n) (take (k + 1) (map view vs))
one_more n xs c vs k v h e so q =
    let next : take (k + 1) (map view vs) ≡ take k (map view vs) ++ view v ∷ [] =
    take_more (map view vs) k null (rw (length-map vs view) h) ∙ ap (λ d. take k (map view vs) ++ d ∷ []) (view-at vs k v h e) in
    map-append command_item xs (c ∷ []) ∙ (ap (λ ys. ys ++ command_item c ∷ []) so
    ∙ (sym (filter_map-push (command_of n) (take k (map view vs)) (view v) (command_item c) (sym q)) ∙ ap (filter_map (command_of n)) (sym next)))

pub all_commands : (n : ℕ) (xs : List EditCommand) (vs : List Value) (k : ℕ) → length vs ≤ 100000 → length vs ≤ k → NoneBefore (is_no_command n) (map view vs) k
    → map command_item xs ≡ filter_map (command_of n) (take k (map view vs)) → command_items n (map view vs) ≡ Ok (map command_item xs)
all_commands n xs vs k few h b so =
    let none = position-no_item (is_no_command n) vs k h b in
    let count : length (map view vs) ≤ k = let e = length-map vs view in omega (arith, e) in
    command_items-few n vs few ∙ rw none (ap (λ ds. Ok (filter_map (command_of n) ds)) (sym (take_all k (map view vs) count)) ∙ ap Ok (sym so))
