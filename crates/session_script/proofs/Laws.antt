-- A text that is a session isn't refused.
use Rattle.std.proofs.Common.{◌≡◌, ◌≢◌, ℕ, List, length, map, Ok, Err, Result, sym, ◌∙◌, ap, subst, refl}
use Rattle.serde_json.specs.Data.{Data}
use Rattle.plane.specs.declared.coordinates.Point.{Point}
use Rattle.cost_defs.specs.Costs.{Costed}
use Rattle.text_defs.specs.Instances.{instance_in}
use Rattle.json_text.proofs.Laws.{ok_same, ok_err}
use Rattle.instance_io.specs.Refusal as instances
use Rattle.instance_io.proofs.laws.Readings.{gives_no_fault, gives_once}
use Rattle.edit_session.specs.declared.command.EditCommand.{EditCommand}
use Rattle.session_script.specs.declared.script.SessionFault.{SessionFault}
use Rattle.session_script.specs.declared.script.SessionFault.TheVariants.{NotJson, NoInstance, NoCommands, Instance, TooManyCommands, BadCommand, NoMemory}
use Rattle.session_script.specs.Reading.{command_items}
use Rattle.session_script.specs.Sessions.{command_item, HasParts, HasInstance, IsSession, HasCommandsFault, HasFault}

parts_same : (input : List ℕ) (a b : Data) (xs ys : List Data) → HasParts input a xs → HasParts input b ys → (a ≡ b) × (xs ≡ ys)
parts_same input a b xs ys h k =
    let e : ◌≡◌ {A = Result (Data × List Data) SessionFault} (Ok (a, xs)) (Ok (b, ys)) = sym h ∙ k in
    let pair : (a, xs) ≡ (b, ys) = ok_same e in
    (ap (λ (p : Data × List Data). p.0) pair, ap (λ (p : Data × List Data). p.1) pair)

points_same : (input : List ℕ) (S T : List Point) (D E : List Costed) (xs ys : List Data) → HasInstance input S D xs → HasInstance input T E ys → S ≡ T
points_same input S T D E xs ys h k =
    let one : h.instance ≡ k.instance = (parts_same input h.instance k.instance xs ys h.parts k.parts).0 in
    (gives_once (instance_in k.instance) h.name k.name S T D E (subst (λ (d : Data). instances.Gives (instance_in d) h.name S D) one h.gives) k.gives).1

no_commands_fault : (input : List ℕ) (S : List Point) (D : List Costed) (list : List EditCommand) (fault : SessionFault) → IsSession input S D list → HasCommandsFault input fault → ⊥
no_commands_fault input S D list fault (items, has, is) (T, E, others, found, refused) =
    let points : S ≡ T = points_same input S T D E items others has found in
    let same : items ≡ others = (parts_same input has.instance found.instance items others has.parts found.parts).1 in
    let read : command_items (length T) others ≡ Ok (map command_item list) =
    subst (λ (P : List Point). command_items (length P) others ≡ Ok (map command_item list)) points (subst (λ (xs : List Data). command_items (length S) xs ≡ Ok (map command_item list)) same is) in
    ok_err (sym read ∙ refused)

pub session_not_refused : (input : List ℕ) (S : List Point) (D : List Costed) (list : List EditCommand) (fault : SessionFault) → IsSession input S D list → fault ≢ NoMemory → HasFault input fault → ⊥
session_not_refused input S D list NotJson (items, has, is) named h = ok_err (sym has.parts ∙ h)
session_not_refused input S D list NoInstance (items, has, is) named h = ok_err (sym has.parts ∙ h)
session_not_refused input S D list NoCommands (items, has, is) named h = ok_err (sym has.parts ∙ h)
session_not_refused input S D list (Instance f) (items, has, is) named (d, others, parts, known, fault) =
    let one : has.instance ≡ d = (parts_same input has.instance d items others has.parts parts).0 in
    gives_no_fault (instance_in has.instance) has.name S D f has.gives has.accepted known (subst (λ (x : Data). instances.HasFault (instance_in x) f) (sym one) fault)
session_not_refused input S D list (TooManyCommands count) script named h = no_commands_fault input S D list (TooManyCommands count) script h
session_not_refused input S D list (BadCommand k) script named h = no_commands_fault input S D list (BadCommand k) script h
session_not_refused input S D list NoMemory script named h = named refl
