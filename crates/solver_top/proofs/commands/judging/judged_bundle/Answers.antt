use Rattle.std.proofs.Common.{◌<◌, ◌^◌, List, length, sym, subst}
use Rattle.plane.specs.declared.segment.Pair.{Pair}
use Rattle.partition_defs.specs.Partition.{AreWithin}
use Rattle.solver_top.proofs.Within.{solution_within}
use Rattle.solver_top.proofs.commands.judging.judged_bundle.Goals as goal

pub judge-judgement-requires-clause-within : goal.judge-judgement-requires-clause-within
judge-judgement-requires-clause-within c =
    let (instance, solution, parts, points, edges) = c.requires in
    subst (AreWithin c.args.bundle.now.points) (sym c.as_slice.ensures.value) (solution_within c.args.bundle.now.points solution c.args.bundle.now.pairs.items edges).0

pub judge-judgement-requires-clause-fewer : goal.judge-judgement-requires-clause-fewer
judge-judgement-requires-clause-fewer c =
    let (instance, solution, parts, points, edges) = c.requires in
    subst (λ (list : List Pair). length list < 2 ^ 32) (sym c.as_slice.ensures.value) (solution_within c.args.bundle.now.points solution c.args.bundle.now.pairs.items edges).1
