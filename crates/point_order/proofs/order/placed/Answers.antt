use Rattle.std.proofs.Common.{rules}
use Rattle.std.proofs.lemmas.List.Sorted.{answers_always}
use Rattle.plane.specs.Accepted.{AreAccepted}
use Rattle.point_order.proofs.Placed.{sorted_placed}
use Rattle.point_order.proofs.order.placed.Goals as goal

pub returns-clause-placed : goal.returns-clause-placed
returns-clause-placed c =
    sorted_placed c.args.points.now (let a : AreAccepted c.args.points.now = c.with_indices.ensures.accepted in a.apart) _ _ (search rules) (c.in_ok-placed.ensures.each) c.sort_unstable_by_key.ensures.permutation
    (c.sort_unstable_by_key.ensures.sorted (λ e. e.0) (answers_always _ _ _ (λ f a r g k. search rules)))
