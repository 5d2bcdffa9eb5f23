use Rattle.std.proofs.Common.{List, subst}
use Rattle.std.specs.List.Sorted.{IsPermutation}
use Rattle.plane.specs.declared.segment.Pair.{Pair}
use Rattle.cp_judge.proofs.Distinct.{distinct_reordered}
use Rattle.cp_judge.proofs.doubled.ascends_when_sorted.Goals as goal

pub returns : goal.returns
returns c = λ t.
    let P : List Pair → Type 0 = λ K. IsPermutation K c.sort_unstable.new.self in
    distinct_reordered c.args.list.now c.sort_unstable.new.self (subst P c.copy_from_slice.ensures.after c.sort_unstable.ensures.permutation) (c.is_ascending.ensures.0 t)
