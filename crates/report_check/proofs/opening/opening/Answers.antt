use Rattle.std.proofs.Common.{List, sym, subst}
use Rattle.plane.specs.declared.segment.Pair.{Pair}
use Rattle.partition_defs.specs.Sets.{AreSame}
use Rattle.report_check.proofs.opening.opening.Goals as goal

pub returns-in-Ok-clause-start : goal.returns-in-Ok-clause-start
returns-in-Ok-clause-start c = (
  c.in-Ok.ensures.core.ascending,
  subst (λ (A : List Pair). AreSame A c.args.report.now.start) (sym c.in-Ok.ensures.start)
      (subst (λ (P : List Pair). AreSame c.in_ok-all.all.all P) c.as_slice.ensures c.in_ok-all.ensures.all),
)
