use Rattle.std.specs.Prelude.{◌≡◌}
use Rattle.std.specs.List.{AllByRecursion}
use Rattle.workers.specs.Jobs.{HasEnded, passes_in, found_in}
use Rattle.workers.proofs.results.results_of.Given as goal

abbrev pub invariant-loop-job : goal.invariant-loop-job
invariant-loop-job l =
    AllByRecursion HasEnded l.yielded × (l.results.passes.items ≡ passes_in l.yielded) × (l.results.found.items ≡ found_in l.yielded)
