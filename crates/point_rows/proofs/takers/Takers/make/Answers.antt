use Rattle.std.proofs.Common.{◌∙◌, ℕ, cond, arith, rules}
use Rattle.std.proofs.lemmas.List.Sorted.{IsNonDecreasingBy-from_sort_by_key, sum_by-IsPermutation}
use Rattle.plane.specs.declared.segment.Pair.{Pair}
use Rattle.cost_defs.specs.Costs.{has_ends}
use Rattle.point_rows.specs.Takers.{key_of}
use Rattle.point_rows.proofs.Taking.{all_small}
use Rattle.point_rows.proofs.takers.Takers.make.Goals as goal

pub invariant_of-result : goal.invariant_of-result
invariant_of-result c = (
  IsNonDecreasingBy-from_sort_by_key (λ (x : Pair × ℕ). key_of x.0) c.sort_unstable_by_key.new.self.items c.sort_unstable_by_key.ensures.sorted (λ a r q k. search rules),
  omega (arith, sum_by-IsPermutation (λ (x : Pair × ℕ). x.1) _ _ c.sort_unstable_by_key.ensures.permutation, c.in_ok-list.ensures.all, all_small c.args.rows.now c.requires.few c.requires.light),
)

pub returns : goal.returns
returns c = λ i j. sum_by-IsPermutation (λ (x : Pair × ℕ). cond (has_ends x.0 i j) x.1 0) _ _ c.sort_unstable_by_key.ensures.permutation ∙ c.in_ok-list.ensures.takes i j
