use Rattle.std.proofs.Common.{refl}
use Rattle.chronicle.proofs.history.Chronicle.split_parts.Goals as goal

pub split_at-requires-clause-told : goal.split_at-requires-clause-told
split_at-requires-clause-told g c = refl
