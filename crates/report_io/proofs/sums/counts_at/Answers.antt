use Rattle.std.proofs.Common.{◌≡◌, ◌∙◌, Err, codes, length, map, ap, sym, inr, arith}
use Rattle.serde_json.specs.Find.{get}
use Rattle.serde_json.specs.View.{view}
use Rattle.text_defs.specs.Steps.{or_fault}
use Rattle.report_io.specs.declared.faults.Field.TheVariants as key
use Rattle.report_io.specs.declared.faults.SummaryLine.TheVariants as sums
use Rattle.report_io.specs.declared.faults.ReportFault.{ReportFault}
use Rattle.report_io.specs.declared.faults.ReportFault.TheVariants as at
use Rattle.report_io.specs.Answers.{tell_counts}
use Rattle.report_io.specs.Reading.{field, counts_of, counts_in}
use Rattle.report_io.proofs.Steps.{same_answer}
use Rattle.report_io.proofs.OtherLengths.{counts_of-list, counts_in-none, counts_in-many}
use Rattle.report_io.proofs.sums.counts_at.Goals as goal

abbrev bad : ReportFault
bad = at.Summary (sums.BadField key.Commits)

pub returns-then-is_empty : goal.returns-then-is_empty
returns-then-is_empty c =
    let vs = c.in-Some.items.now in
    let none : length vs ≡ 0 = grind (arith, c.is_empty.ensures, c.if-is_empty.true) in
    inr (tt, ap (or_fault bad) (counts_of-list (get (codes "commits") (view c.args.value.now)) vs c.in-Some.ensures ∙ counts_in-none vs none))

pub returns-then-items-gt-MOST_COUNTS : goal.returns-then-items-gt-MOST_COUNTS
returns-then-items-gt-MOST_COUNTS c =
    let vs = c.in-Some.items.now in
    inr (tt, ap (or_fault bad) (counts_of-list (get (codes "commits") (view c.args.value.now)) vs c.in-Some.ensures ∙ counts_in-many vs c.if-items-gt-MOST_COUNTS.true))

pub returns : goal.returns
returns c =
    let vs = c.in-Some.items.now in
    same_answer tell_counts (field key.Commits (codes "commits") counts_of (view c.args.value.now)) (or_fault bad (counts_in (map view vs))) c.numbers_of.result
    (ap (or_fault bad) (counts_of-list (get (codes "commits") (view c.args.value.now)) vs c.in-Some.ensures)) c.numbers_of.ensures
