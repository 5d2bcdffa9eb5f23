use Rattle.std.proofs.Common.{arith}
use Rattle.instance_io.specs.Refusal.{ends}
use Rattle.report_io.specs.Texts.{start_data}
use Rattle.report_io.proofs.Written.{next_item, last_item}
use Rattle.report_io.proofs.journal_text.push_start.Goals as goal

pub loop-place-preserved : goal.loop-place-preserved
loop-place-preserved c =
    next_item start_data ends c.args.start.now c.loop-place.place c.index-start-place.result c.loop-place.text.items c.push_pair.new.text.items _ (omega arith) c.index-start-place.is c.loop-place.invariant c.in_ok-push_pair.ensures

pub returns : goal.returns
returns c =
    last_item start_data ends c.args.start.now c.loop-place.place c.args.text.now.items c.loop-place.text.items c.push.new.self.items (omega arith) c.loop-place.invariant c.in_ok-push.ensures.items
