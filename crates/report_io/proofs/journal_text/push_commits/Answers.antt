use Rattle.std.proofs.Common.{arith}
use Rattle.report_io.specs.Report.{commit_item}
use Rattle.report_io.specs.Texts.{commit_data}
use Rattle.report_io.proofs.Written.{next_item, last_item}
use Rattle.report_io.proofs.journal_text.push_commits.Goals as goal

pub loop-place-preserved : goal.loop-place-preserved
loop-place-preserved c =
    next_item commit_data commit_item c.args.commits.now c.loop-place.place c.index-commits-place.result c.loop-place.text.items c.push_commit.new.text.items _ (omega arith) c.index-commits-place.is c.loop-place.invariant c.in_ok-push_commit.ensures

pub returns : goal.returns
returns c =
    last_item commit_data commit_item c.args.commits.now c.loop-place.place c.args.text.now.items c.loop-place.text.items c.push.new.self.items (omega arith) c.loop-place.invariant c.in_ok-push.ensures.items
