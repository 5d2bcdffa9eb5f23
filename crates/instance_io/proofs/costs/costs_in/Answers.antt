use Rattle.std.proofs.Common.{ap, sym, subst, []}
use Rattle.serde_json.specs.View.{view}
use Rattle.instance_io.specs.Refusal.{AreCostsOf}
use Rattle.instance_io.specs.Told.{error}
use Rattle.instance_io.proofs.CostItems.{costs_in-none, costs_in-no_array, no_costs, too_many_told, costs_answer}
use Rattle.instance_io.proofs.costs.costs_in.Goals as goal

pub returns-in_default : goal.returns-in_default
returns-in_default c = ([], costs_in-none c.args.n (view c.args.value.now) c.in_default.ensures, subst (AreCostsOf []) (sym c.unit.ensures) no_costs)

pub returns-in_default-array_of : goal.returns-in_default-array_of
returns-in_default-array_of c = ap error (costs_in-no_array c.args.n (view c.args.value.now) (view c.in-Some.found.now) c.in-Some.ensures c.in_default-array_of.ensures)

pub returns-then-items-gt-MOST_COSTS : goal.returns-then-items-gt-MOST_COSTS
returns-then-items-gt-MOST_COSTS c =
    too_many_told c.args.n (view c.args.value.now) (view c.in-Some.found.now) c.in-Some-array_of.items.now c.too_many.result c.in-Some.ensures c.in-Some-array_of.ensures c.if-items-gt-MOST_COSTS.true c.too_many.ensures

pub returns : goal.returns
returns c =
    costs_answer c.args.n (view c.args.value.now) (view c.in-Some.found.now) c.in-Some-array_of.items.now c.costs_of.result c.in-Some.ensures c.in-Some-array_of.ensures c.costs_of.ensures
