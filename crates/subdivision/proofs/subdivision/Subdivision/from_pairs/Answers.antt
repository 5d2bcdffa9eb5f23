use Rattle.std.proofs.Common.{subst, sym}
use Rattle.subdivision.specs.Layout.{AreOf}
use Rattle.subdivision.proofs.Members.{all_kept, all_joins, kept_is_all, subdivision_own}
use Rattle.subdivision.proofs.subdivision.Subdivision.from_pairs.Goals as goal

pub invariant_of-result : goal.invariant_of-result
invariant_of-result c = (
  c.args.pairs.now,
  c.args.pairs.now,
  subst (λ S. AreOf S c.args.pairs.now c.args.pairs.now c.in_ok-stars.stars.items) (sym c.of.ensures) (all_kept _ _ _ c.requires.triangulation c.in_ok-stars.ensures),
)

pub returns-clause-all : goal.returns-clause-all
returns-clause-all c = all_joins c.args.points.now c.args.pairs.now c.args.pairs.now c.in_ok-stars.stars.items (all_kept _ _ _ c.requires.triangulation c.in_ok-stars.ensures)

pub returns-clause-kept : goal.returns-clause-kept
returns-clause-kept c = kept_is_all c.args.points.now c.args.pairs.now c.in_ok-stars.stars.items (all_kept _ _ _ c.requires.triangulation c.in_ok-stars.ensures)

pub returns-clause-subdivision : goal.returns-clause-subdivision
returns-clause-subdivision c = subdivision_own _ _ (invariant_of-result c)
