use Rattle.std.proofs.Common.{rules}
use Rattle.std.proofs.lemmas.List.Sorted.{answers_always}
use Rattle.cost_defs.proofs.Search.{cost-found, cost-missed}
use Rattle.cost_defs.proofs.costs.Costs.of.Goals as goal

pub returns-in-Ok-clause-cost : goal.returns-in-Ok-clause-cost
returns-in-Ok-clause-cost c =
    let by_pair = c.in-Ok.ensures.position (λ x. x.0) (answers_always _ _ _ (λ f a r g called. search rules)) in
    let found = rw c.list-list.ensures.list at by_pair in
    let within = rw c.list-list.ensures.list at c.in-Ok.ensures.bound in
    rw c.list-list.ensures.list (cost-found c.args.self.now c.args.e c.in-Ok.k c.index-list-k.result c.list-list.ensures.costs within (found c.index-list-k.result))

pub returns-in-Err-clause-cost : goal.returns-in-Err-clause-cost
returns-in-Err-clause-cost c =
    let by_pair = c.in-Err.ensures.position (λ x. x.0) (answers_always _ _ _ (λ f a r g called. search rules)) in
    cost-missed c.args.self.now c.args.e c.in-Err.field-0 c.list-list.ensures.costs (rw c.list-list.ensures.list at by_pair)
