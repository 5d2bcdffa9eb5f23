use Rattle.std.proofs.Common.{ap, sym, ◌∙◌}
use Rattle.star.specs.declared.links.Link.{Link}
use Rattle.star.proofs.Answers.{opens_answer}
use Rattle.star.proofs.Dropped.{link_in, seat_before, seat_after, unlinked, unlinked_last}
use Rattle.star.proofs.links.unlink.Goals as goal

pub returns-then-gone-name_at : goal.returns-then-gone-name_at
returns-then-gone-name_at c =
    unlinked_last c.args.points.now c.args.centre c.args.list.now c.args.links.now c.args.misses c.opens-opened.result c.args.k c.link_at-gone.result c.requires.right c.requires.kept c.link_at-gone.ensures
    (opens_answer c.args.points.now c.args.centre c.args.list.now c.args.links.now c.args.misses c.args.k c.opens-opened.result c.requires.right c.requires.kept c.opens-opened.ensures)
    (c.if-gone-name_at.true ∙ c.name_at.ensures)

pub take_out-requires-clause-before_in : goal.take_out-requires-clause-before_in
take_out-requires-clause-before_in c =
    let r = c.requires.right in
    let before = seat_before c.args.points.now c.args.centre c.args.list.now c.args.links.now c.args.misses c.args.k c.position-a.result r c.requires.kept c.position-a.ensures.within (c.position-a.ensures.name ∙ ap (λ (l : Link). l.before) c.link_at-gone.ensures) in
    (link_in c.args.points.now c.args.centre c.args.list.now c.args.links.now c.args.misses c.position-a.result r before.kept).0

pub take_out-requires-clause-before_apart : goal.take_out-requires-clause-before_apart
take_out-requires-clause-before_apart c =
    let r = c.requires.right in
    let before = seat_before c.args.points.now c.args.centre c.args.list.now c.args.links.now c.args.misses c.args.k c.position-a.result r c.requires.kept c.position-a.ensures.within (c.position-a.ensures.name ∙ ap (λ (l : Link). l.before) c.link_at-gone.ensures) in
    λ e. (link_in c.args.points.now c.args.centre c.args.list.now c.args.links.now c.args.misses c.position-a.result r before.kept).2 (sym e)

pub take_out-requires-clause-after_in : goal.take_out-requires-clause-after_in
take_out-requires-clause-after_in c =
    let r = c.requires.right in
    let after = seat_after c.args.points.now c.args.centre c.args.list.now c.args.links.now c.args.misses c.args.k c.position-b.result r c.requires.kept c.position-b.ensures.within (c.position-b.ensures.name ∙ ap (λ (l : Link). l.after) c.link_at-gone.ensures) in
    (link_in c.args.points.now c.args.centre c.args.list.now c.args.links.now c.args.misses c.position-b.result r after.kept).1

pub returns : goal.returns
returns c =
    let r = c.requires.right in
    let before = seat_before c.args.points.now c.args.centre c.args.list.now c.args.links.now c.args.misses c.args.k c.position-a.result r c.requires.kept c.position-a.ensures.within (c.position-a.ensures.name ∙ ap (λ (l : Link). l.before) c.link_at-gone.ensures) in
    let after = seat_after c.args.points.now c.args.centre c.args.list.now c.args.links.now c.args.misses c.args.k c.position-b.result r c.requires.kept c.position-b.ensures.within (c.position-b.ensures.name ∙ ap (λ (l : Link). l.after) c.link_at-gone.ensures) in
    unlinked c.args.points.now c.args.centre c.args.list.now c.args.links.now c.take_out.new.links c.args.misses c.opens-opened.result c.args.k c.position-a.result c.position-b.result c.link_at-gone.result r c.requires.kept c.link_at-gone.ensures
    (opens_answer c.args.points.now c.args.centre c.args.list.now c.args.links.now c.args.misses c.args.k c.opens-opened.result r c.requires.kept c.opens-opened.ensures)
    (λ e. c.if-gone-name_at.false (e ∙ sym c.name_at.ensures)) before after c.position-a.ensures.name c.position-b.ensures.name c.take_out.ensures.taken
