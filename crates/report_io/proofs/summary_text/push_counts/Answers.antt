use Rattle.std.proofs.Common.{refl, arith}
use Rattle.report_io.proofs.Written.{next_count, last_count}
use Rattle.report_io.proofs.summary_text.push_counts.Goals as goal

pub loop-place-preserved : goal.loop-place-preserved
loop-place-preserved c =
    next_count c.args.counts.now c.loop-place.place _ c.loop-place.text.items c.push_comma.new.text.items c.push_index.new.text.items _ (omega arith) refl c.loop-place.invariant c.in_ok-push_comma.ensures c.in_ok-push_index.ensures

pub returns : goal.returns
returns c =
    last_count c.args.counts.now c.loop-place.place c.args.text.now.items c.loop-place.text.items c.push.new.self.items (omega arith) c.loop-place.invariant c.in_ok-push.ensures.items
