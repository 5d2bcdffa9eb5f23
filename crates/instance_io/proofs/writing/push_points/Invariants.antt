use Rattle.std.proofs.Common.{◌≡◌, ◌++◌, map, nat_lt, false}
use Rattle.serde_json.specs.Written.{items_text}
use Rattle.instance_io.specs.Refusal.{coordinates}
use Rattle.instance_io.proofs.InstanceText.{rest}
use Rattle.instance_io.proofs.writing.push_points.Given as goal

abbrev pub invariant-loop-i : goal.invariant-loop-i
invariant-loop-i l =
    l.text.items ++ items_text (nat_lt 0 l.i) (rest l.i (map coordinates l.points))
    ≡ l.initial.text.items ++ items_text false (rest 0 (map coordinates l.points))
