use Rattle.std.proofs.Common.{take, ap, sym, ◌∙◌, subst, refl, ◌++◌, ◌∷◌, []}
use Rattle.std.proofs.lemmas.List.{take_more}
use Rattle.journal_defs.specs.declared.commit.Commit.{Commit}
use Rattle.replay.specs.Machine.{AreCounts}
use Rattle.replay.proofs.counts.Counts.of.Goals as goal

pub loop-commit-preserved : goal.loop-commit-preserved
loop-commit-preserved c =
    subst (λ J. AreCounts J c.add.new.self)
    (sym (take_more c.args.journal.now c.loop-commit.commit-index c.commit-item.result c.loop-commit-test.true ∙ ap (λ (x : Commit). take c.loop-commit.commit-index c.args.journal.now ++ x ∷ []) (sym c.commit-item.is)))
    (c.add.ensures (take c.loop-commit.commit-index c.args.journal.now) c.commit-item.result refl c.loop-commit.invariant)
