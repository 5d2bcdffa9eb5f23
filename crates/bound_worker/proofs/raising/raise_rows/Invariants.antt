use Rattle.std.proofs.Common.{◌≡◌, length}
use Rattle.dual_prices.specs.Rooms.{IsRaising}
use Rattle.bound_worker.specs.Ends.{AreSettled}
use Rattle.bound_worker.proofs.raising.raise_rows.Given as goal

abbrev pub invariant-loop-k : goal.invariant-loop-k
invariant-loop-k l = record {
  raising : IsRaising l.points l.costs l.q l.initial.kept.rows l.kept.rows l.k;
  points : l.kept.points ≡ l.points;
  count : length l.kept.rows ≡ length l.initial.kept.rows;
  settled : AreSettled l.points l.costs l.q l.p l.k l.kept.rows l.ends.items;
}
