use Rattle.weave_script.proofs.StepLists.{many_answer}
use Rattle.weave_script.proofs.steps.steps_in.Goals as goal

pub returns-then-items-gt-MOST_STEPS : goal.returns-then-items-gt-MOST_STEPS
returns-then-items-gt-MOST_STEPS c = many_answer c.args.n c.args.items.now c.too_many_steps.result c.if-items-gt-MOST_STEPS.true c.too_many_steps.ensures
