use Rattle.std.proofs.Common.{arith}
use Rattle.report_io.specs.Report.{row_item}
use Rattle.report_io.specs.Texts.{row_data}
use Rattle.report_io.proofs.Written.{next_item, last_item}
use Rattle.report_io.proofs.certificate_text.push_rows.Goals as goal

pub loop-place-preserved : goal.loop-place-preserved
loop-place-preserved c =
    next_item row_data row_item c.args.rows.now c.loop-place.place c.index-rows-place.result c.loop-place.text.items c.push_row.new.text.items _ (omega arith) c.index-rows-place.is c.loop-place.invariant c.in_ok-push_row.ensures

pub returns : goal.returns
returns c =
    last_item row_data row_item c.args.rows.now c.loop-place.place c.args.text.now.items c.loop-place.text.items c.push.new.self.items (omega arith) c.loop-place.invariant c.in_ok-push.ensures.items
