use Rattle.std.proofs.Common.{refl}
use Rattle.chronicle.proofs.history.Chronicle.append.Goals as goal

pub append_told-requires-clause-told : goal.append_told-requires-clause-told
append_told-requires-clause-told g c = refl
