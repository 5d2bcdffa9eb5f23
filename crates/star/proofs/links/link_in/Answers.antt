use Rattle.std.proofs.Common.{ap, sym, ◌∙◌}
use Rattle.std.proofs.lemmas.Bool.{false≢true}
use Rattle.star.specs.Stars.{entry}
use Rattle.star.specs.declared.links.Link.{Link}
use Rattle.star.proofs.Dropped.{link_in, seat_before}
use Rattle.star.proofs.Marked.{linked_in, linked_alone}
use Rattle.star.proofs.links.link_in.Goals as goal

pub returns-in-None : goal.returns-in-None
returns-in-None c =
    linked_alone c.args.points.now c.args.centre c.args.list.now c.args.links.now c.set_link.new.links c.args.misses c.args.k c.name_at-name.result c.requires.right c.requires.place c.requires.spare c.name_at-name.ensures c.in-None.ensures c.set_link.ensures.set

pub put_in-requires-clause-first_apart : goal.put_in-requires-clause-first_apart
put_in-requires-clause-first_apart c =
    let before = seat_before c.args.points.now c.args.centre c.args.list.now c.args.links.now c.args.misses c.in-Some.b c.position-a.result c.requires.right c.in-Some.ensures.1.kept c.position-a.ensures.within (c.position-a.ensures.name ∙ ap (λ (l : Link). l.before) c.link_at-p.ensures) in
    λ e. false≢true (sym c.requires.spare ∙ ap (λ i. (entry c.args.list.now i).1) (sym e) ∙ before.kept.1)

pub put_in-requires-clause-before_in : goal.put_in-requires-clause-before_in
put_in-requires-clause-before_in c =
    let before = seat_before c.args.points.now c.args.centre c.args.list.now c.args.links.now c.args.misses c.in-Some.b c.position-a.result c.requires.right c.in-Some.ensures.1.kept c.position-a.ensures.within (c.position-a.ensures.name ∙ ap (λ (l : Link). l.before) c.link_at-p.ensures) in
    (link_in c.args.points.now c.args.centre c.args.list.now c.args.links.now c.args.misses c.position-a.result c.requires.right before.kept).0

pub put_in-requires-clause-before_apart : goal.put_in-requires-clause-before_apart
put_in-requires-clause-before_apart c =
    let before = seat_before c.args.points.now c.args.centre c.args.list.now c.args.links.now c.args.misses c.in-Some.b c.position-a.result c.requires.right c.in-Some.ensures.1.kept c.position-a.ensures.within (c.position-a.ensures.name ∙ ap (λ (l : Link). l.before) c.link_at-p.ensures) in
    λ e. (link_in c.args.points.now c.args.centre c.args.list.now c.args.links.now c.args.misses c.position-a.result c.requires.right before.kept).2 (sym e)

pub returns-in-Some : goal.returns-in-Some
returns-in-Some c =
    linked_in c.args.points.now c.args.centre c.args.list.now c.args.links.now c.put_in.new.links c.args.misses c.misses_with-missed.result c.args.k c.name_at-name.result c.link_at-p.result.before c.name_at-q.result c.position-a.result c.in-Some.b
    c.requires.right c.requires.place c.requires.spare c.name_at-name.ensures c.in-Some.ensures (ap (λ (l : Link). l.before) c.link_at-p.ensures) c.name_at-q.ensures c.position-a.ensures.within c.position-a.ensures.name c.misses_with-missed.ensures c.put_in.ensures.put
