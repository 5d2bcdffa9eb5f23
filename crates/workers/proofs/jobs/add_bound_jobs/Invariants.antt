use Rattle.std.specs.Prelude.{◌≡◌, ◌++◌, map}
use Rattle.index_sets.specs.Indices.{numbers_from}
use Rattle.workers.specs.Jobs.{bound_job}
use Rattle.workers.proofs.jobs.add_bound_jobs.Given as goal

abbrev pub invariant-loop-k : goal.invariant-loop-k
invariant-loop-k l = l.jobs.items ≡ l.fn.jobs.items ++ map bound_job (numbers_from 1 l.k)
