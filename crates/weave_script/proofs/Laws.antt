-- A text that is a script isn't refused; edits that were read are of the points.
use Rattle.std.proofs.Common.{◌≡◌, ◌≢◌, ◌⊎◌, inl, inr, ℕ, ◌&&◌, nat_le, Bool, true, false, cond, List, length, map, Option, Some, None, Ok, Err, Result, sym, ◌∙◌, ap, subst, refl}
use Rattle.serde_json.specs.Data.{Data}
use Rattle.plane.specs.declared.coordinates.Point.{Point}
use Rattle.text_defs.specs.Instances.{instance_in}
use Rattle.text_defs.specs.Items.{array_list, all_of}
use Rattle.text_defs.proofs.laws.IsPlain.{Each}
use Rattle.json_text.proofs.Laws.{ok_same, ok_err}
use Rattle.instance_io.specs.Refusal as instances
use Rattle.instance_io.proofs.laws.Readings.{gives_no_fault, gives_once}
use Rattle.journal_defs.specs.declared.edit.Edit.{Edit}
use Rattle.journal_defs.specs.declared.edit.Edit.TheVariants.{Drop, Keep, Flip}
use Rattle.report_io.specs.Parts.{EditItem}
use Rattle.report_io.specs.Reading.{edit_of, edits_in, edits_of}
use Rattle.report_io.specs.Report.{edit_item}
use Rattle.report_io.proofs.laws.PartLimits.{IsEditItem}
use Rattle.report_io.proofs.laws.PartsWithin.{some_of, edit_of-some, all_of-some}
use Rattle.report_io.proofs.laws.Within.{each_told}
use Rattle.replay.specs.Applied.{IsWithin, AreWithin}
use Rattle.weave.specs.declared.step.Step.{Step}
use Rattle.weave_script.specs.declared.script.ScriptFault.{ScriptFault}
use Rattle.weave_script.specs.declared.script.ScriptFault.TheVariants.{NotJson, NoInstance, NoSteps, Instance, TooManySteps, BadStep, NoMemory}
use Rattle.weave_script.specs.Reading.{step_items}
use Rattle.weave_script.specs.Scripts.{step_item, HasParts, HasInstance, IsScript, HasStepsFault, HasFault}

parts_same : (input : List ℕ) (a b : Data) (xs ys : List Data) → HasParts input a xs → HasParts input b ys → (a ≡ b) × (xs ≡ ys)
parts_same input a b xs ys h k =
    let e : ◌≡◌ {A = Result (Data × List Data) ScriptFault} (Ok (a, xs)) (Ok (b, ys)) = sym h ∙ k in
    let pair : (a, xs) ≡ (b, ys) = ok_same e in
    (ap (λ (p : Data × List Data). p.0) pair, ap (λ (p : Data × List Data). p.1) pair)

points_same : (input : List ℕ) (S T : List Point) (xs ys : List Data) → HasInstance input S xs → HasInstance input T ys → S ≡ T
points_same input S T xs ys h k =
    let one : h.instance ≡ k.instance = (parts_same input h.instance k.instance xs ys h.parts k.parts).0 in
    (gives_once (instance_in k.instance) h.name k.name S T h.costs k.costs (subst (λ (d : Data). instances.Gives (instance_in d) h.name S h.costs) one h.gives) k.gives).1

no_steps_fault : (input : List ℕ) (S : List Point) (list : List Step) (fault : ScriptFault) → IsScript input S list → HasStepsFault input fault → ⊥
no_steps_fault input S list fault (items, has, is) (T, others, found, refused) =
    let points : S ≡ T = points_same input S T items others has found in
    let same : items ≡ others = (parts_same input has.instance found.instance items others has.parts found.parts).1 in
    let read : step_items (length T) others ≡ Ok (map step_item list) =
    subst (λ (P : List Point). step_items (length P) others ≡ Ok (map step_item list)) points (subst (λ (xs : List Data). step_items (length S) xs ≡ Ok (map step_item list)) same is) in
    ok_err (sym read ∙ refused)

pub script_not_refused : (input : List ℕ) (S : List Point) (list : List Step) (fault : ScriptFault) → IsScript input S list → fault ≢ NoMemory → HasFault input fault → ⊥
script_not_refused input S list NotJson (items, has, is) named h = ok_err (sym has.parts ∙ h)
script_not_refused input S list NoInstance (items, has, is) named h = ok_err (sym has.parts ∙ h)
script_not_refused input S list NoSteps (items, has, is) named h = ok_err (sym has.parts ∙ h)
script_not_refused input S list (Instance f) (items, has, is) named (d, others, parts, known, fault) =
    let one : has.instance ≡ d = (parts_same input has.instance d items others has.parts parts).0 in
    gives_no_fault (instance_in has.instance) has.name S has.costs f has.gives has.accepted known (subst (λ (x : Data). instances.HasFault (instance_in x) f) (sym one) fault)
script_not_refused input S list (TooManySteps count) script named h = no_steps_fault input S list (TooManySteps count) script h
script_not_refused input S list (BadStep k) script named h = no_steps_fault input S list (BadStep k) script h
script_not_refused input S list NoMemory script named h = named refl

-- ---- edits

pub where_of : {A : Type 0} (b : Bool) (o : Option A) (y : A) → cond b o None ≡ Some y → o ≡ Some y
where_of true o y h = h
where_of false o y h = absurd (cc)

pub either_of : {A : Type 0} (b : Bool) (x y : Option A) (z : A) → cond b x y ≡ Some z → (x ≡ Some z) ⊎ (y ≡ Some z)
either_of true x y z h = inl h
either_of false x y z h = inr h

edits_in-some : (n : ℕ) (ds : List Data) (edits : List EditItem) → edits_in n ds ≡ Some edits → Each (IsEditItem n) edits
edits_in-some n ds edits h =
    (all_of-some (IsEditItem n) (edit_of n) ds edits (edit_of-some n) (where_of (nat_le 1 (length ds) && nat_le (length ds) 8) (all_of (edit_of n) ds) edits h)).0

pub edits_of-some : (n : ℕ) (d : Data) (edits : List EditItem) → edits_of n d ≡ Some edits → Each (IsEditItem n) edits
edits_of-some n d edits h = let (ds, at, is) = some_of (edits_in n) (array_list d) edits h in edits_in-some n ds edits is

edit_within : (n : ℕ) (e : Edit) → IsEditItem n (edit_item e) → IsWithin n e
edit_within n (Drop e) h = h.1
edit_within n (Keep e) h = h.1
edit_within n (Flip e f) h = (h.0.1, h.1.1)

pub edits_within : (n : ℕ) (edits : List Edit) → Each (IsEditItem n) (map edit_item edits) → AreWithin n edits
edits_within n edits h = each_told (IsWithin n) (IsEditItem n) edit_item edits (edit_within n) h
