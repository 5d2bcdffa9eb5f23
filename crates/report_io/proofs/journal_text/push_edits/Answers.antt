use Rattle.std.proofs.Common.{arith}
use Rattle.report_io.specs.Report.{edit_item}
use Rattle.report_io.specs.Texts.{edit_data}
use Rattle.report_io.proofs.Written.{next_item, last_item}
use Rattle.report_io.proofs.journal_text.push_edits.Goals as goal

pub loop-place-preserved : goal.loop-place-preserved
loop-place-preserved c =
    next_item edit_data edit_item c.args.edits.now c.loop-place.place c.index-edits-place.result c.loop-place.text.items c.push_edit.new.text.items _ (omega arith) c.index-edits-place.is c.loop-place.invariant c.in_ok-push_edit.ensures

pub returns : goal.returns
returns c =
    last_item edit_data edit_item c.args.edits.now c.loop-place.place c.args.text.now.items c.loop-place.text.items c.push.new.self.items (omega arith) c.loop-place.invariant c.in_ok-push.ensures.items
