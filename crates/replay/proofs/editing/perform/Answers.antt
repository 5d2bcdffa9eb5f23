use Rattle.std.proofs.Common.{subst}
use Rattle.std.specs.List.{Any}
use Rattle.replay.specs.Applied.{IsFlip}
use Rattle.replay.proofs.editing.perform.Goals as goal

pub returns-in-Err-clause-refused : goal.returns-in-Err-clause-refused
returns-in-Err-clause-refused c = subst (Any IsFlip) c.as_slice-edits.ensures.edits c.in-Err.ensures.flip
