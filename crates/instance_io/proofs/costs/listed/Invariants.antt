use Rattle.std.proofs.Common.{◌≡◌, ◌++◌, filter}
use Rattle.instance_io.specs.Reading.{is_listed}
use Rattle.instance_io.proofs.costs.listed.Given as goal

abbrev pub invariant-loop-pair : goal.invariant-loop-pair
invariant-loop-pair l = l.list.items ++ filter is_listed l.pair-iterator ≡ filter is_listed l.found.entries
