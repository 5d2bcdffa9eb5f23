use Rattle.std.proofs.Common.{rules, is_lt}
use Rattle.std.proofs.lemmas.List.Sorted.{answers_always}
use Rattle.cost_defs.proofs.Laws.{pair_cmp}
use Rattle.cost_defs.proofs.Search.{ascending_tested}
use Rattle.cost_defs.proofs.costs.are_ascending.Goals as goal

pub returns : goal.returns
returns c =
    ascending_tested c.args.list.now c.is_sorted_by.result (c.is_sorted_by.ensures.cases (λ x y. is_lt (pair_cmp x.0 y.0)) (answers_always _ _ _ (λ f a r g k. search rules)))
