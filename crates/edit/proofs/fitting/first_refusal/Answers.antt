use Rattle.std.proofs.Common.{sym, subst}
use Rattle.std.specs.Prelude.{MatchResult}
use Rattle.journal_defs.specs.declared.edit.Edit.{Edit}
use Rattle.journal_defs.specs.Table.{Fits, Refuses, seen_of}
use Rattle.edit.proofs.Rows.{drop_told, flip_told}
use Rattle.edit.proofs.TrueEnds.{ends_of_stars}
use Rattle.edit.specs.TrueStars.{AreTrueStars}
use Rattle.edit.proofs.fitting.first_refusal.Goals as goal

pub returns-in-Drop : goal.returns-in-Drop
returns-in-Drop g c =
    let star = g.S.Stars.star_of c.args.stars.now in
    subst (λ (x : Edit). MatchResult c.drop_fits.result (λ _. Fits c.args.points.now (seen_of star) x) (λ why. Refuses c.args.points.now (seen_of star) x why)) (sym c.in-Drop.is)
    (drop_told c.args.points.now star c.lower_star-lower.result.now c.upper_star-upper.result.now c.in-Drop.e c.drop_fits.result c.lower_star-lower.ensures.star c.upper_star-upper.ensures.star c.drop_fits.ensures)

pub returns-in-Flip : goal.returns-in-Flip
returns-in-Flip g c =
    let star = g.S.Stars.star_of c.args.stars.now in
    subst (λ (x : Edit). MatchResult c.flip_fits.result (λ _. Fits c.args.points.now (seen_of star) x) (λ why. Refuses c.args.points.now (seen_of star) x why)) (sym c.in-Flip.is)
    (flip_told c.args.points.now star c.lower_star-lower-in-Flip.result.now c.upper_star-upper-in-Flip.result.now c.lower_star-fresh.result.now c.in-Flip.from c.in-Flip.to c.flip_fits.result
    c.lower_star-lower-in-Flip.ensures.star c.upper_star-upper-in-Flip.ensures.star c.lower_star-fresh.ensures.star c.flip_fits.ensures)

pub drop_fits-requires-clause-known : goal.drop_fits-requires-clause-known
drop_fits-requires-clause-known g c = λ known.
    (let star = g.S.Stars.star_of c.args.stars.now in
    ends_of_stars c.args.points.now star c.in-Drop.e c.lower_star-lower.result.now c.upper_star-upper.result.now c.lower_star-lower.ensures.star c.upper_star-upper.ensures.star
    (subst (λ (x : Edit). AreTrueStars c.args.points.now star x) c.in-Drop.is (c.requires.known known)))
