use Rattle.std.specs.Prelude.{◌≡◌, map}
use Rattle.workers.specs.Jobs.{edit_job}
use Rattle.workers.proofs.jobs.edit_jobs.Given as goal

abbrev pub invariant-loop-pass : goal.invariant-loop-pass
invariant-loop-pass l = l.jobs.items ≡ map edit_job l.yielded
