use Rattle.std.proofs.Common.{rules}
use Rattle.std.proofs.lemmas.List.Sorted.{answers_always}
use Rattle.crossings.proofs.laws.Blocks.{segments_moved}
use Rattle.cp_judge.proofs.Sweeping.{by_left}
use Rattle.cp_judge.proofs.crossing.least_within.Goals as goal

pub least_crossing-requires-clause-segments : goal.least_crossing-requires-clause-segments
least_crossing-requires-clause-segments c =
    segments_moved c.args.points.now c.args.list.now c.copy_segments.new.segments c.sort_unstable_by_key.new.self c.sort_unstable_by_key.ensures.permutation c.copy_segments.ensures

pub least_crossing-requires-clause-ordered : goal.least_crossing-requires-clause-ordered
least_crossing-requires-clause-ordered c =
    by_left c.sort_unstable_by_key.new.self (c.sort_unstable_by_key.ensures.sorted (λ z. z.from.x) (answers_always _ _ _ (λ f a r g k. search rules)))
