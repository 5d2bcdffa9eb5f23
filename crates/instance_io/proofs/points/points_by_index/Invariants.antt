use Rattle.std.proofs.Common.{◌≡◌, length, map}
use Rattle.serde_json.specs.View.{view}
use Rattle.instance_io.proofs.Placed.{Stepped}
use Rattle.instance_io.proofs.points.points_by_index.Given as goal

abbrev pub invariant-loop-place : goal.invariant-loop-place
invariant-loop-place l = record {
  all_seen : length l.seen.items ≡ length l.items;
  all_placed : length l.placed.items ≡ length l.items;
  stepped : Stepped l.seen.items l.placed.items (map view l.items) l.place;
}
