-- The reading of a written report is that report and no other.
use Rattle.std.proofs.Common.{◌≡◌, ℕ, ◌^◌, ◌≤◌, List, [], ◌∷◌, length, map, Result, Ok, IsUtf8, All, refl, sym, ap, ◌∙◌, subst, arith}
use Rattle.std.proofs.lemmas.List.{length-map}
use Rattle.serde_json.specs.Data.{Data, depth}
use Rattle.serde_json.specs.Written.{compact_text}
use Rattle.plane.specs.Accepted.{AreAccepted}
use Rattle.cost_defs.specs.Costs.{AreCosts}
use Rattle.text_defs.specs.Instances.{instance_from}
use Rattle.text_defs.specs.Lines.{lines, lines_text}
use Rattle.text_defs.specs.Texts.{instance_data, solution_data, with_costs, instance_text}
use Rattle.text_defs.proofs.laws.IsPlain.{IsPlain, Each, IsEdge, IsPlace, IsCosted}
use Rattle.text_defs.proofs.laws.Lists.{each}
use Rattle.text_defs.proofs.laws.Lines.{lines-lines_text}
use Rattle.text_defs.proofs.laws.Costs.{with_costs-plain}
use Rattle.text_defs.proofs.laws.Instances.{instance_plain}
use Rattle.text_defs.proofs.laws.Solutions.{solution_plain}
use Rattle.instance_io.specs.Refusal.{coordinates, cost_item, ends}
use Rattle.instance_io.specs.Refusal as instances
use Rattle.instance_io.specs.declared.instances.Instance.{Instance}
use Rattle.instance_io.proofs.laws.Written.{near_places, costs_below}
use Rattle.instance_io.proofs.laws.Readings.{read_once}
use Rattle.report_io.specs.declared.report.Report.{Report}
use Rattle.report_io.specs.declared.report.Part.TheVariants as part
use Rattle.report_io.specs.declared.faults.ReportFault.{ReportFault}
use Rattle.report_io.specs.Parts.{LaterParts}
use Rattle.report_io.specs.Texts.{certificate_data, journal_data, summary_data}
use Rattle.report_io.specs.Report.{FiveLines, HasLines, later_of, later_parts, part_data, report_lines, report_text, Gives}
use Rattle.report_io.specs.Limits.{IsWithin}
use Rattle.report_io.proofs.laws.PartLimits.{AreLaterParts}
use Rattle.report_io.proofs.laws.PartsPlain.{certificate_plain, journal_plain, summary_plain}
use Rattle.report_io.proofs.laws.LaterBack.{later_back}
use Rattle.report_io.proofs.laws.Within.{later_told}
use Rattle.report_io.proofs.laws.Once.{report_once, ok_is}

-- what a report's types say of it
pub record IsTyped (r : Report) : Type 0 where
  pub name : IsUtf8 r.instance.name
  pub solution_name : IsUtf8 r.solution_name
  pub points : AreAccepted r.instance.points
  pub costs : AreCosts r.instance.costs

-- its five lines
abbrev pub written_lines : Report → FiveLines
written_lines r = record {
  first = compact_text (part_data r part.Instance);
  second = compact_text (part_data r part.Solution);
  third = compact_text (part_data r part.Certificate);
  fourth = compact_text (part_data r part.Journal);
  fifth = compact_text (part_data r part.Summary);
}

small : (r : Report) → IsTyped r → length r.instance.points ≤ 2 ^ 63
small r h = let count = h.points.count.1 in omega (arith, count)

plain_lines : (r : Report) → IsTyped r → IsWithin r → Each IsPlain (report_lines r)
plain_lines r t h =
    let n = length r.instance.points in
    let S = map coordinates r.instance.points in
    let D = map cost_item r.instance.costs in
    let count : length S ≡ n = length-map r.instance.points coordinates in
    let few = small r t in
    let low : length S ≤ 2 ^ 63 = omega (arith, count, few) in
    let places = each IsPlace S (near_places r.instance.points t.points.near) in
    let costs : Each (IsCosted (length S)) D = each (IsCosted (length S)) D (subst (λ m. All (IsCosted m) D) (sym count) (costs_below n r.instance.costs t.costs.within h.instance.below)) in
    let parts = later_told r h.later in (
      with_costs-plain (length S) D r.instance.name S low costs (instance_plain r.instance.name S t.name low places),
      (
        solution_plain n r.solution_name (map ends r.solution) few parts.solution.pairs t.solution_name,
        (
          certificate_plain n few (later_parts r).certificate parts.certificate,
          (
            journal_plain n few (later_parts r).journal parts.journal.commits parts.journal.start,
            (summary_plain r.summary parts.summary, tt),
          ),
        ),
      ),
    )

lines_back : (r : Report) → IsTyped r → IsWithin r → HasLines (report_text r) (written_lines r)
lines_back r t h = lines-lines_text (report_lines r) (plain_lines r t h)

-- the instance's own law is a premise
pub report_back : (r : Report) → IsTyped r → IsWithin r → instances.IsRead (instance_from (instance_text (map cost_item r.instance.costs) r.instance.name (map coordinates r.instance.points))) (Ok r.instance)
    → Gives (report_text r) r
unfolding instance_text
report_back r t h first = record {
  lines = written_lines r;
  cut = lines_back r t h;
  instance = first;
  later = later_back (length r.instance.points) (later_parts r) (small r t) t.solution_name (later_told r h.later);
}

five_of : List (List ℕ) → FiveLines
five_of [] = record { first = []; second = []; third = []; fourth = []; fifth = [] }
five_of (a ∷ []) = record { first = a; second = []; third = []; fourth = []; fifth = [] }
five_of (a ∷ b ∷ []) = record { first = a; second = b; third = []; fourth = []; fifth = [] }
five_of (a ∷ b ∷ c ∷ []) = record { first = a; second = b; third = c; fourth = []; fifth = [] }
five_of (a ∷ b ∷ c ∷ d ∷ []) = record { first = a; second = b; third = c; fourth = d; fifth = [] }
five_of (a ∷ b ∷ c ∷ d ∷ e ∷ ls) = record { first = a; second = b; third = c; fourth = d; fifth = e }

-- a text has its five lines once
pub lines_once : (bytes : List ℕ) (L M : FiveLines) → HasLines bytes L → HasLines bytes M → L ≡ M
unfolding five_of
lines_once bytes L M h k = ap five_of (sym h ∙ k)

-- a text gives one report at most
pub gives_once : (bytes : List ℕ) (r s : Report) → Gives bytes r → Gives bytes s → r ≡ s
gives_once bytes r s h k =
    let same : h.lines ≡ k.lines = lines_once bytes h.lines k.lines h.cut k.cut in
    let read : instances.IsRead (instance_from k.lines.first) (Ok r.instance) = subst (λ (L : FiveLines). instances.IsRead (instance_from L.first) (Ok r.instance)) same h.instance in
    let one : r.instance ≡ s.instance = read_once (instance_from k.lines.first) r.instance s.instance read k.instance in
    let later : later_of (length r.instance.points) k.lines ≡ Ok (later_parts r) = subst (λ (L : FiveLines). later_of (length r.instance.points) L ≡ Ok (later_parts r)) same h.later in
    let moved : later_of (length s.instance.points) k.lines ≡ Ok (later_parts r) = subst (λ (i : Instance). later_of (length i.points) k.lines ≡ Ok (later_parts r)) one later in
    report_once r s one (ok_is (later_parts r) (later_parts s) (sym moved ∙ k.later))
