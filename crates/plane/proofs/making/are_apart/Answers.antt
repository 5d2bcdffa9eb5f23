use Rattle.std.proofs.Common.{rules, is_lt, subst}
use Rattle.std.specs.List.Sorted.{IsPermutation}
use Rattle.std.proofs.lemmas.List.Sorted.{answers_always}
use Rattle.plane.proofs.Rising.{apart_by_neighbours}
use Rattle.plane.proofs.making.are_apart.Goals as goal
use Rattle.plane.proofs.laws.Order.{lex}

pub returns : goal.returns
returns c =
    apart_by_neighbours c.args.list.now _ _ (subst (λ S. IsPermutation S c.sort_unstable.new.self) c.copy_from_slice.ensures.after c.sort_unstable.ensures.permutation) c.sort_unstable.ensures.sorted
    (c.is_sorted_by.ensures.cases (λ p q. is_lt (lex p q)) (answers_always _ _ _ (λ f a r g k. search rules)))
