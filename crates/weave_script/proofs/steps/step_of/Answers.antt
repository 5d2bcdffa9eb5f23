use Rattle.serde_json.specs.View.{view}
use Rattle.weave_script.proofs.StepLists.{step_of-other}
use Rattle.weave_script.proofs.steps.step_of.Goals as goal

pub returns-then-items-ne3 : goal.returns-then-items-ne3
returns-then-items-ne3 c = step_of-other c.args.n (view c.args.item.now) c.in_ok-items.items.now c.in_ok-items.ensures c.if-items-ne3.true
