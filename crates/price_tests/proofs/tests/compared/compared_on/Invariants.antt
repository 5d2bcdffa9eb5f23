use Rattle.std.proofs.Common.{◌≤◌}
use Rattle.std.specs.List.{sum_by}
use Rattle.price_defs.specs.Loads.{IsValid, lost}
use Rattle.price_defs.specs.Tight.{IsTight}
use Rattle.price_tests.proofs.tests.compared.compared_on.Given as goal

abbrev pub invariant-loop-call : goal.invariant-loop-call
invariant-loop-call g l = record {
  valid : IsValid l.points l.costs l.present.q l.present.rows;
  tight : IsTight l.points l.costs l.present.q l.present.rows;
  divisor : l.present.q ≤ 1000000;
  takers : sum_by lost l.present.rows ≤ 100000000000;
}
