use Rattle.std.proofs.Common.{List, subst}
use Rattle.std.specs.List.Sorted.{IsPermutation}
use Rattle.plane.specs.declared.segment.Pair.{Pair}
use Rattle.cp_judge.proofs.Outlined.{border_moved}
use Rattle.cp_judge.proofs.outline.has_border.Goals as goal

pub returns-clause-border : goal.returns-clause-border
returns-clause-border c = λ t.
    let P : List Pair → Type 0 = λ K. IsPermutation K c.sort_unstable.new.self in
    border_moved c.args.points.now c.args.list.now c.sort_unstable.new.self (subst P c.copy_from_slice.ensures.after c.sort_unstable.ensures.permutation) (c.has_outline.ensures.border t)
