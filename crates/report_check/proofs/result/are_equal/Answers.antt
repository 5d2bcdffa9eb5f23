use Rattle.std.proofs.lemmas.Slice.Eq.{slice_eq-Decides}
use Rattle.partition_defs.proofs.laws.Sets.{Decides-same}
use Rattle.report_check.proofs.result.are_equal.Goals as goal

pub returns : goal.returns
returns c = slice_eq-Decides Decides-same _ _ _ c.eq.ensures
