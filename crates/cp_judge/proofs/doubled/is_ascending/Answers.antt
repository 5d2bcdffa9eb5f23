use Rattle.std.proofs.Common.{rules, is_lt}
use Rattle.std.proofs.lemmas.List.Sorted.{answers_always}
use Rattle.cp_judge.proofs.Distinct.{pair_cmp, ascending_tested}
use Rattle.cp_judge.proofs.doubled.is_ascending.Goals as goal

pub returns : goal.returns
returns c = ascending_tested c.args.list.now c.is_sorted_by.result (c.is_sorted_by.ensures.cases (λ e f. is_lt (pair_cmp e f)) (answers_always _ _ _ (λ f a r g k. search rules)))
