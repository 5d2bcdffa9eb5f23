use Rattle.std.proofs.Common.{ap}
use Rattle.star.specs.declared.links.Link.{Link}
use Rattle.star.proofs.Marked.{put_in_by}
use Rattle.star.proofs.links.put_in.Goals as goal

pub returns-else-a-b : goal.returns-else-a-b
returns-else-a-b c = record {
  put = put_in_by c.args.points.now c.args.centre c.args.links.now c.set_link.new.links c.set_link-else-a-b.new.links c.set_link-else-a-b-2.new.links c.args.k c.args.a c.args.b c.args.r c.args.p c.args.q c.link_at-outer.result.before c.link_at-next.result.after
      c.if-a-b.false c.requires.first_apart c.requires.second_apart c.requires.own c.requires.first c.requires.second (ap (λ (l : Link). l.before) c.link_at-outer.ensures) (ap (λ (l : Link). l.after) c.link_at-next.ensures)
      c.set_link.ensures.set c.set_link-else-a-b.ensures.set c.set_link-else-a-b-2.ensures.set;
}
