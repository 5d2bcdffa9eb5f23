use Rattle.std.proofs.Common.{sym, subst}
use Rattle.partition_defs.specs.Ascending.{IsAscending}
use Rattle.triangulate.specs.Start.{IsStart}
use Rattle.triangulate.proofs.Started.{has_list}
use Rattle.triangulate.proofs.starting.start.Goals as goal

pub returns-clause-start : goal.returns-clause-start
returns-clause-start c =
    has_list (IsStart c.args.points.now) c.as_slice.result.now c.from_pairs.result
    (subst IsAscending (sym c.as_slice.ensures.value) c.in_ok-list.ensures.ascending)
    (subst (IsStart c.args.points.now) (sym c.as_slice.ensures.value) c.in_ok-list.ensures.start)
    c.from_pairs.ensures.all c.from_pairs.ensures.subdivision
