use Rattle.std.proofs.Common.{subst, ◌∙◌}
use Rattle.replay.specs.Machine.{AreCounts}
use Rattle.replay.proofs.Cores.{core_of, machine_given}
use Rattle.replay.proofs.machine.Core.from_parts.Goals as goal

pub invariant_of-result : goal.invariant_of-result
invariant_of-result c =
    machine_given _ _ _ _ _ c.requires.ascending c.requires.triangulation c.requires.legal c.requires.few c.again-all.ensures.points c.again-all.ensures.subdivision
    (c.again-all.ensures.all ∙ c.requires.all) (c.again-all.ensures.kept ∙ c.requires.kept) (subst (λ J. AreCounts J c.of-counts.result) c.deref.ensures.value c.of-counts.ensures)

pub returns-clause-core : goal.returns-clause-core
returns-clause-core c =
    core_of _ _ _ _ _ _ c.len-count.ensures.accepted
    (machine_given _ _ _ _ _ c.requires.ascending c.requires.triangulation c.requires.legal c.requires.few c.again-all.ensures.points c.again-all.ensures.subdivision
    (c.again-all.ensures.all ∙ c.requires.all) (c.again-all.ensures.kept ∙ c.requires.kept) (subst (λ J. AreCounts J c.of-counts.result) c.deref.ensures.value c.of-counts.ensures))
