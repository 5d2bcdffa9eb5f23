use Rattle.std.proofs.Common.{take, ◌≤◌}
use Rattle.replay.specs.Replayed.{IsCore}
use Rattle.replay.specs.Tried.{IsSweeping}
use Rattle.replay.proofs.machine.Core.drop_all.Given as goal

abbrev pub invariant-loop-e : goal.invariant-loop-e
invariant-loop-e l = IsSweeping l.initial.self l.self (take l.e-index l.kept) l.dropped × IsCore l.self × (l.dropped ≤ l.e-index)
