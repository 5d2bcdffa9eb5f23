-- Words that are a line, and an input that has its reading, are answered by Done or No.
use Rattle.std.proofs.Common.{◌≡◌, ℕ, ◌≤◌, List, length, map, Option, Result, Ok, ◌⊎◌, inl, inr, refl, arith, sym, ◌∙◌, ap, subst}
use Rattle.serde_json.specs.Data.{Data}
use Rattle.plane.specs.declared.coordinates.Point.{Point}
use Rattle.plane.specs.declared.segment.Pair.{Pair}
use Rattle.plane.specs.Accepted.{AreAccepted}
use Rattle.text_defs.specs.Instances.{instance_in, instance_from}
use Rattle.text_defs.specs.Solutions.{edges_in}
use Rattle.text_defs.specs.Solutions as edges
use Rattle.text_defs.specs.Bundles as bundle
use Rattle.cost_defs.specs.Costs.{Costed}
use Rattle.instance_io.specs.Refusal.{Gives, HasFault, ends}
use Rattle.json_text.proofs.Laws.{ok_same, ok_err}
use Rattle.instance_io.proofs.laws.Readings.{gives_no_fault, gives_once}
use Rattle.solution_io.specs.declared.fault.SolutionFault.{SolutionFault}
use Rattle.solution_io.specs.declared.fault.SolutionFault.TheVariants as solution
use Rattle.solution_io.specs.Refusal.{HasFault as HasEdgesFault}
use Rattle.solver_top.specs.declared.words.Command.{Command}
use Rattle.solver_top.specs.declared.words.Command.TheVariants.{Judge, Start, Solve, Check, Part, Weave, Rewind, EditSession, Gen, GenSolve}
use Rattle.solver_top.specs.Statuses.{status_of}
use Rattle.solver_top.specs.declared.status.Status.{Status}
use Rattle.solver_top.specs.declared.status.Status.TheVariants as status
use Rattle.solver_top.specs.declared.status.Verdict.{Verdict}
use Rattle.solver_top.specs.declared.status.Verdict.TheVariants.{Done, No, Usage, Refused}
use Rattle.solver_top.specs.declared.refusals.BundleFault.{BundleFault}
use Rattle.solver_top.specs.declared.refusals.BundleFault.TheVariants.{NotJson, NoInstance, NoSolution}
use Rattle.solver_top.specs.declared.refusals.Refusal.{Refusal}
use Rattle.solver_top.specs.declared.refusals.Refusal.TheVariants.{Bundle, Instance as OfInstance, Solution}
use Rattle.solver_top.specs.Words.{IsLineOf}
use Rattle.solver_top.proofs.LineCommands.{line_command_same}
use Rattle.solver_top.specs.Bundles.{HasParts, HasBundle, HasRefusal, HasBundleFault, IsNamedSolution}
use Rattle.solver_top.specs.Answers.{IsAnswer, IsAnswerOf, IsTooLong, HasInput, most_input}
use Rattle.solver_top.specs.Judging.{IsJudged, IsRefused}
use Rattle.solver_top.specs.Starting.{IsStarted, IsRefusedInstance}
use Rattle.solver_top.specs.Solving.{IsSolveAnswer}
use Rattle.solver_top.specs.Checking.{IsCheckAnswer, IsPartAnswer, IsRewindAnswer}
use Rattle.solver_top.specs.Editing.{IsEditAnswer, IsRefusedSession}
use Rattle.solver_top.specs.Weaving.{IsWeaveAnswer, IsRefusedScript}
use Rattle.report_io.specs.declared.report.Report.{Report}
use Rattle.report_io.specs.declared.report.Part.{Part as ReportPart}
use Rattle.report_io.specs.Report.{Gives as GivesReport}
use Rattle.report_answers.specs.declared.answer.Told.TheVariants as told
use Rattle.report_answers.specs.Answers.{IsRefusedReport}
use Rattle.report_answers.specs.Rewinding.{ReachesReport, IsTooLate}
use Rattle.report_answers.proofs.Laws.{report_not_refused, not_too_late}
use Rattle.weave.specs.declared.step.Step.{Step}
use Rattle.weave_script.specs.Scripts.{IsScript}
use Rattle.weave_script.proofs.Laws.{script_not_refused}
use Rattle.edit_session.specs.declared.command.EditCommand.{EditCommand}
use Rattle.session_script.specs.Sessions.{IsSession}
use Rattle.session_script.proofs.Laws.{session_not_refused}

parts_same : (input : List ℕ) (a b c d : Data) → HasParts input a b → HasParts input c d → (a ≡ c) × (b ≡ d)
parts_same input a b c d h k =
    let e : ◌≡◌ {A = Result (Data × Data) bundle.Fault} (Ok (a, b)) (Ok (c, d)) = sym h ∙ k in
    let pair : (a, b) ≡ (c, d) = ok_same e in
    (ap (λ (p : Data × Data). p.0) pair, ap (λ (p : Data × Data). p.1) pair)

no_bundle_fault : (reading : Result (Data × Data) bundle.Fault) (x : Data × Data) (f : BundleFault) → reading ≡ Ok x → HasBundleFault reading f → ⊥
no_bundle_fault reading x NotJson e h = ok_err (sym e ∙ h)
no_bundle_fault reading x NoInstance e h = ok_err (sym e ∙ h)
no_bundle_fault reading x NoSolution e h = ok_err (sym e ∙ h)

no_edges_fault : (reading : Result (List (ℕ × ℕ)) edges.Fault) (ps : List (ℕ × ℕ)) (f : SolutionFault) → reading ≡ Ok ps → IsNamedSolution f → HasEdgesFault reading f → ⊥
no_edges_fault reading ps solution.NotJson e named h = ok_err (sym e ∙ h)
no_edges_fault reading ps solution.NoEdges e named h = ok_err (sym e ∙ h)
no_edges_fault reading ps (solution.TooManyEdges c) e named h = ok_err (sym e ∙ h)
no_edges_fault reading ps (solution.BadEdge k) e named h = ok_err (sym e ∙ h)
no_edges_fault reading ps solution.NoMemory e named h = named refl

-- a bundle that has its reading isn't refused
pub no_refusal : (input : List ℕ) (S : List Point) (K : List Pair) (refusal : Refusal) → HasBundle input S K → HasRefusal input refusal → ⊥
no_refusal input S K (Bundle f) (a, b, parts, points, edges) h = no_bundle_fault (bundle.parts_from input) (a, b) f parts h
no_refusal input S K (OfInstance f) (a, b, parts, (name, D, gives, ok), edges) (c, d, others, named, fault) =
    gives_no_fault (instance_in a) name S D f gives ok named (subst (λ (x : Data). HasFault (instance_in x) f) (sym (parts_same input a b c d parts others).0) fault)
no_refusal input S K (Solution f) (a, b, parts, (name, D, gives, ok), edges) (c, d, others, (T, (m, E, told, fine), named, fault)) =
    let same = parts_same input a b c d parts others in
    let count = ap length (gives_once (instance_in a) name m S T D E gives (subst (λ (x : Data). Gives (instance_in x) m T E) (sym same.0) told)).1 in
    no_edges_fault (edges_in (length S) b) (map ends K) f edges named
    (subst (λ (x : Data). HasEdgesFault (edges_in (length S) x) f) (sym same.1) (subst (λ (n : ℕ). HasEdgesFault (edges_in n d) f) (sym count) fault))

pub not_refused : (input text : List ℕ) → HasInput Judge input → IsRefused input text → ⊥
not_refused input text (few, (S, K, has)) (refusal, h, e) = no_refusal input S K refusal has h

pub not_refused_instance : (input text : List ℕ) → HasInput Start input → IsRefusedInstance input text → ⊥
not_refused_instance input text (few, (name, S, D, gives, ok)) (f, named, fault, e) = gives_no_fault (instance_from input) name S D f gives ok named fault

pub not_refused_report : (input text : List ℕ) → HasInput Check input → IsRefusedReport input text → ⊥
not_refused_report input text (few, (r, gives, ok)) (fault, named, h, e) = report_not_refused input r fault ok gives named h

pub not_refused_script : (input text : List ℕ) → HasInput Weave input → IsRefusedScript input text → ⊥
not_refused_script input text (few, (S, list, is)) (fault, named, h, e) = script_not_refused input S list fault is named h

pub not_refused_rewind : (k : ℕ) (input text : List ℕ) → HasInput (Rewind k) input → (IsRefusedReport input text → ⊥) × (IsTooLate k input text → ⊥)
not_refused_rewind k input text (few, (r, ((gives, ok), far))) = (
  λ (fault, named, h, e). report_not_refused input r fault ok gives named h,
  λ (s, (given, fine), late, e). not_too_late input r s k gives given far late,
)

pub not_refused_session : (input text : List ℕ) → HasInput EditSession input → IsRefusedSession input text → ⊥
not_refused_session input text (few, (S, D, list, is)) (fault, named, h, e) = session_not_refused input S D list fault is named h

abbrev IsAnswered : Verdict → Type 0
IsAnswered verdict = (verdict ≡ Done) ⊎ (verdict ≡ No)

judged_answer : (input : List ℕ) (S : List Point) (K : List Pair) (verdict : Verdict) (text : List ℕ) → HasBundle input S K → IsJudged input verdict text → IsAnswered verdict
judged_answer input S K Done text has h = inl refl
judged_answer input S K No text has h = inr refl
judged_answer input S K Usage text has h = absurd h
judged_answer input S K Refused text has (refusal, h, e) = absurd (no_refusal input S K refusal has h)

started_answer : (input : List ℕ) (name : List ℕ) (S : List Point) (D : List Costed) (verdict : Verdict) (text : List ℕ) → Gives (instance_from input) name S D → AreAccepted S → IsStarted input verdict text → IsAnswered verdict
started_answer input name S D Done text gives ok h = inl refl
started_answer input name S D No text gives ok h = absurd h
started_answer input name S D Usage text gives ok h = absurd h
started_answer input name S D Refused text gives ok (f, named, fault, e) = absurd (gives_no_fault (instance_from input) name S D f gives ok named fault)

solve_answer : (E B rounds seed : ℕ) (input : List ℕ) (name : List ℕ) (S : List Point) (D : List Costed) (verdict : Verdict) (text : List ℕ) → Gives (instance_from input) name S D → AreAccepted S
    → IsSolveAnswer E B rounds seed input verdict text → IsAnswered verdict
solve_answer E B rounds seed input name S D Done text gives ok h = inl refl
solve_answer E B rounds seed input name S D No text gives ok h = absurd h
solve_answer E B rounds seed input name S D Usage text gives ok h = absurd h
solve_answer E B rounds seed input name S D Refused text gives ok (f, named, fault, e) = absurd (gives_no_fault (instance_from input) name S D f gives ok named fault)

check_answer : (input : List ℕ) (r : Report) (verdict : Verdict) (text : List ℕ) → GivesReport input r → AreAccepted r.instance.points → IsCheckAnswer input verdict text → IsAnswered verdict
check_answer input r verdict text gives ok (told.Yes, is, h) = inl is
check_answer input r verdict text gives ok (told.No, is, h) = inr is
check_answer input r verdict text gives ok (told.Refused, is, (fault, named, h, e)) = absurd (report_not_refused input r fault ok gives named h)

part_answer : (part : ReportPart) (input : List ℕ) (r : Report) (verdict : Verdict) (text : List ℕ) → GivesReport input r → AreAccepted r.instance.points → IsPartAnswer part input verdict text → IsAnswered verdict
part_answer part input r verdict text gives ok (told.Yes, is, h) = inl is
part_answer part input r verdict text gives ok (told.No, is, h) = absurd h
part_answer part input r verdict text gives ok (told.Refused, is, (fault, named, h, e)) = absurd (report_not_refused input r fault ok gives named h)

weave_answer : (input : List ℕ) (S : List Point) (list : List Step) (verdict : Verdict) (text : List ℕ) → IsScript input S list → IsWeaveAnswer input verdict text → IsAnswered verdict
weave_answer input S list Done text is h = inl refl
weave_answer input S list No text is h = absurd h
weave_answer input S list Usage text is h = absurd h
weave_answer input S list Refused text is (fault, named, h, e) = absurd (script_not_refused input S list fault is named h)

rewind_answer : (k : ℕ) (input : List ℕ) (r : Report) (verdict : Verdict) (text : List ℕ) → ReachesReport k input r → IsRewindAnswer k input verdict text → IsAnswered verdict
rewind_answer k input r verdict text reaches (told.Yes, is, h) = inl is
rewind_answer k input r verdict text reaches (told.No, is, h) = inr is
rewind_answer k input r verdict text ((gives, ok), far) (told.Refused, is, inl (fault, named, h, e)) = absurd (report_not_refused input r fault ok gives named h)
rewind_answer k input r verdict text ((gives, ok), far) (told.Refused, is, inr (s, (given, fine), late, e)) = absurd (not_too_late input r s k gives given far late)

edit_answer : (input : List ℕ) (S : List Point) (D : List Costed) (list : List EditCommand) (verdict : Verdict) (text : List ℕ) → IsSession input S D list → IsEditAnswer input verdict text → IsAnswered verdict
edit_answer input S D list Done text is h = inl refl
edit_answer input S D list No text is h = absurd h
edit_answer input S D list Usage text is h = absurd h
edit_answer input S D list Refused text is (fault, named, h, e) = absurd (session_not_refused input S D list fault is named h)

long_enough : (input : List ℕ) (left : Option (List ℕ)) (verdict : Verdict) (text : List ℕ) → length input ≤ most_input → IsTooLong input left verdict text → ⊥
long_enough input left verdict text few h = omega (arith, h.0.0)

-- a command's answer, where the input has its reading
command_answered : (command : Command) (input : List ℕ) (left : Option (List ℕ)) (verdict : Verdict) (text : List ℕ) → HasInput command input → IsAnswerOf command input left verdict text → IsAnswered verdict
command_answered Judge input left verdict text (few, (S, K, has)) (inl long) = absurd (long_enough input left verdict text few long)
command_answered Judge input left verdict text (few, (S, K, has)) (inr (len, at_end, h)) = judged_answer input S K verdict text has h
command_answered Start input left verdict text (few, (name, S, D, gives, ok)) (inl long) = absurd (long_enough input left verdict text few long)
command_answered Start input left verdict text (few, (name, S, D, gives, ok)) (inr (len, at_end, h)) = started_answer input name S D verdict text gives ok h
command_answered (Solve e b r s) input left verdict text (few, (name, S, D, gives, ok)) (inl long) = absurd (long_enough input left verdict text few long)
command_answered (Solve e b r s) input left verdict text (few, (name, S, D, gives, ok)) (inr (len, at_end, h)) = solve_answer e b r s input name S D verdict text gives ok h
command_answered Check input left verdict text (few, (r, gives, ok)) (inl long) = absurd (long_enough input left verdict text few long)
command_answered Check input left verdict text (few, (r, gives, ok)) (inr (len, at_end, h)) = check_answer input r verdict text gives ok h
command_answered (Part name) input left verdict text (few, (r, gives, ok)) (inl long) = absurd (long_enough input left verdict text few long)
command_answered (Part name) input left verdict text (few, (r, gives, ok)) (inr (len, at_end, h)) = part_answer name input r verdict text gives ok h
command_answered Weave input left verdict text (few, (S, list, is)) (inl long) = absurd (long_enough input left verdict text few long)
command_answered Weave input left verdict text (few, (S, list, is)) (inr (len, at_end, h)) = weave_answer input S list verdict text is h
command_answered (Rewind k) input left verdict text (few, (r, reaches)) (inl long) = absurd (long_enough input left verdict text few long)
command_answered (Rewind k) input left verdict text (few, (r, reaches)) (inr (len, at_end, h)) = rewind_answer k input r verdict text reaches h
command_answered EditSession input left verdict text (few, (S, D, list, is)) (inl long) = absurd (long_enough input left verdict text few long)
command_answered EditSession input left verdict text (few, (S, D, list, is)) (inr (len, at_end, h)) = edit_answer input S D list verdict text is h
command_answered (Gen kind n seed) input left verdict text has (alone, (done, made)) = inl done
command_answered (GenSolve kind n seed) input left verdict text has (alone, (done, made)) = inl done

-- words that are a line, and an input that has its reading, are answered by Done or No
pub is_answered : (words : List (List ℕ)) (command : Command) (input : List ℕ) (left : Option (List ℕ)) (verdict : Verdict) (text : List ℕ) → IsLineOf words command → HasInput command input → IsAnswer words input left verdict text → IsAnswered verdict
is_answered words command input left verdict text line has (inl (is, kept, (k, fault, e))) = absurd (fault.none command line)
is_answered words command input left verdict text line has (inr (other, own, h)) =
    command_answered command input left verdict text has (subst (λ c. IsAnswerOf c input left verdict text) (line_command_same words other command own line) h)

-- the status of such a verdict
pub done_or_no : (verdict : Verdict) (s : Status) → IsAnswered verdict → s ≡ status_of verdict → (s ≡ status.Done) ⊎ (s ≡ status.No)
done_or_no verdict s (inl e) h = inl (h ∙ ap status_of e)
done_or_no verdict s (inr e) h = inr (h ∙ ap status_of e)
