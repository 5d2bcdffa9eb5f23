use Rattle.subdivision.proofs.Growing.{linked}
use Rattle.subdivision.proofs.joining.link.Goals as goal

pub returns : goal.returns
returns c = linked _ c.reserve.new.self c.insert.new.self _ c.args.w c.in_ok-reserve.ensures.list c.in_ok-reserve.ensures.place c.insert.ensures.list c.insert.ensures.place c.keep_mark.ensures.mark c.keep_mark.ensures.order
