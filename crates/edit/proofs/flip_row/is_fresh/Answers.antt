use Rattle.std.proofs.Common.{sym, ◌∙◌}
use Rattle.std.proofs.lemmas.Bool.{false≢true}
use Rattle.edit.proofs.Shown.{spare_of}
use Rattle.edit.proofs.flip_row.is_fresh.Goals as goal

pub returns-then-shows : goal.returns-then-shows
returns-then-shows c =
    let (there, spare) = spare_of c.args.lower.now c.args.from.hi c.in-Some.kept c.in-Some.ensures.order c.in-Some.ensures.mark c.if-kept.false in
    (there, spare, c.shows.ensures.0 c.if-shows.true)

pub returns : goal.returns
returns c =
    let (there, spare) = spare_of c.args.lower.now c.args.from.hi c.in-Some.kept c.in-Some.ensures.order c.in-Some.ensures.mark c.if-kept.false in
    (there, spare, λ g. false≢true (sym c.if-shows.false ∙ c.shows.ensures.1 g))
