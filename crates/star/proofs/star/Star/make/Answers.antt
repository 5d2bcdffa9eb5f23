use Rattle.std.proofs.Common.{ℕ, true, List, [], arith, subst, sym}
use Rattle.plane.specs.declared.coordinates.Point.{Point}
use Rattle.star.specs.declared.links.Link.{Link}
use Rattle.star.specs.Links.{HasRightLinks}
use Rattle.star.proofs.Answers.{right_empty}
use Rattle.std.proofs.Common.{Bool}
use Rattle.star.proofs.star.Star.make.Goals as goal

pub invariant_of-result : goal.invariant_of-result
invariant_of-result c = record {
  right = subst (λ (S : List Point). HasRightLinks S c.args.centre c.new.result.items c.new-2.result.items true) (sym c.of.ensures)
      (subst (λ (xs : List (ℕ × Bool)). HasRightLinks c.args.points.now c.args.centre xs c.new-2.result.items true) (sym c.new.ensures.items)
      (subst (λ (ls : List Link). HasRightLinks c.args.points.now c.args.centre [] ls true) (sym c.new-2.ensures.items)
      (right_empty c.args.points.now c.args.centre c.len-count.ensures.accepted c.requires)));
  room = omega (arith, c.new.ensures.len);
  links_room = omega (arith, c.new-2.ensures.len);
}
