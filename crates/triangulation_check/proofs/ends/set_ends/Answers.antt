use Rattle.std.proofs.Common.{rules}
use Rattle.std.proofs.lemmas.List.Sorted.{IsPermutation-sym, IsNonDecreasingBy-from_sort_by_key}
use Rattle.triangulation_check.specs.declared.ends.End.{End}
use Rattle.triangulation_check.proofs.Runs.{ends_moved}
use Rattle.triangulation_check.proofs.ends.set_ends.Goals as goal

pub returns : goal.returns
returns c = record {
  ends = ends_moved c.args.list.now _ _ c.sort_unstable_by_key.ensures.permutation (IsPermutation-sym _ _ c.sort_unstable_by_key.ensures.permutation) c.copy_ends.ensures;
  order = IsNonDecreasingBy-from_sort_by_key (λ (z : End). z.at) _ c.sort_unstable_by_key.ensures.sorted (λ a r g k. search rules);
}
