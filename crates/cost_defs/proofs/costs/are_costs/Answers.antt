use Rattle.cost_defs.proofs.costs.are_costs.Goals as goal

pub returns-then-are_ascending : goal.returns-then-are_ascending
returns-then-are_ascending c = (
  λ t. record {
    ascending = c.are_ascending.ensures.0 c.if-are_ascending.true;
    within = λ k d l. (c.are_listed.ensures.0 t k d l).0;
    other = λ k d l. (c.are_listed.ensures.0 t k d l).1;
  },
  λ costs. c.are_listed.ensures.1 (λ k d l. (costs.within k d l, costs.other k d l)),
)
