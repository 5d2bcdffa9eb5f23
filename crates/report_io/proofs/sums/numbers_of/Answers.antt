use Rattle.std.proofs.Common.{◌∙◌, Some, ap, sym, inr, arith}
use Rattle.text_defs.specs.Items.{number_within}
use Rattle.text_defs.specs.Steps.{or_fault}
use Rattle.report_io.specs.declared.faults.Field.TheVariants as key
use Rattle.report_io.specs.declared.faults.SummaryLine.TheVariants as sums
use Rattle.report_io.specs.declared.faults.ReportFault.TheVariants as at
use Rattle.report_io.specs.Reading.{most_32}
use Rattle.report_io.proofs.Each.{all_of-push, all_of-whole, all_of-missing}
use Rattle.report_io.proofs.OtherLengths.{counts_in-few}
use Rattle.report_io.proofs.sums.numbers_of.Goals as goal

pub returns-in_default-number_within : goal.returns-in_default-number_within
returns-in_default-number_within c =
    inr (
      tt,
      ap (or_fault (at.Summary (sums.BadField key.Commits))) (counts_in-few c.args.items.now c.requires.some c.requires.few
          ∙ all_of-missing (number_within 0 most_32) c.args.items.now c.loop-item.item-index c.item-item.result (omega arith) c.item-item.is c.in_default-number_within.ensures.value),
    )

pub loop-item-preserved : goal.loop-item-preserved
loop-item-preserved c =
    all_of-push (number_within 0 most_32) c.loop-item.numbers.items c.in-Some.number c.args.items.now c.loop-item.item-index c.item-item.result (omega arith) c.item-item.is c.loop-item.invariant c.in-Some.ensures.value
    ∙ ap Some (sym c.in-Ok-push.ensures.items)

pub returns : goal.returns
returns c =
    ap (or_fault (at.Summary (sums.BadField key.Commits))) (counts_in-few c.args.items.now c.requires.some c.requires.few
    ∙ all_of-whole (number_within 0 most_32) c.loop-item.numbers.items c.args.items.now c.loop-item.item-index (omega arith) c.loop-item.invariant)
