use Rattle.weave.specs.Owned.{IsWeaving}
use Rattle.replay.specs.Replayed.{IsCore}
use Rattle.weave.proofs.running.run_steps.Given as goal

abbrev pub invariant-loop-step : goal.invariant-loop-step
invariant-loop-step l = IsWeaving l.initial.core l.core l.owners.items l.steps l.answers.items l.step-index × IsCore l.core
