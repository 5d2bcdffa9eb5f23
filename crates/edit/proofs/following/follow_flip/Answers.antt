use Rattle.std.proofs.Common.{sym, ◌∙◌}
use Rattle.edit.proofs.StarSteps.{before_there, before_free, left_after, put_after}
use Rattle.edit.proofs.following.follow_flip.Goals as goal

pub take_out_end-requires-clause-there : goal.take_out_end-requires-clause-there
take_out_end-requires-clause-there c = before_there c.args.points.now c.args.from c.args.to c.args.star.now c.requires.legal

pub put_in_end-requires-clause-free : goal.put_in_end-requires-clause-free
put_in_end-requires-clause-free c = before_free c.args.points.now c.args.from c.args.to c.args.star.now c.len-count.ensures.accepted c.requires.legal

pub returns-then-is_at_end : goal.returns-then-is_at_end
returns-then-is_at_end c =
    left_after c.args.points.now c.args.from c.args.to c.args.star.now c.take_out_end.new.star c.len-count.ensures.accepted c.requires.legal c.take_out_end.ensures.list c.take_out_end.ensures.place c.take_out_end.ensures.spare c.take_out_end.ensures.order

pub returns-else-is_at_end : goal.returns-else-is_at_end
returns-else-is_at_end c =
    put_after c.args.points.now c.args.from c.args.to c.args.star.now c.put_in_end.new.star c.len-count.ensures.accepted c.requires.legal c.put_in_end.ensures.list c.put_in_end.ensures.place c.put_in_end.ensures.spare c.put_in_end.ensures.order
    (c.requires.end (sym c.is_at_end.ensures ∙ c.if-is_at_end.false))
