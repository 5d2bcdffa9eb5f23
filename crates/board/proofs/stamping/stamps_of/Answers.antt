use Rattle.std.proofs.Common.{◌+◌, ℕ, List, take, sym, ◌∙◌, subst, refl}
use Rattle.journal_defs.specs.declared.commit.Commit.{Commit}
use Rattle.journal_defs.specs.Journal.{commit_touches}
use Rattle.board.specs.Stamping.{AreStampsOf, AreMarked}
use Rattle.board.proofs.Stamps.{stamps_more}
use Rattle.board.proofs.Written.{written_back}
use Rattle.board.proofs.stamping.stamps_of.Goals as goal

pub loop-k-preserved : goal.loop-k-preserved
loop-k-preserved c =
    let k = c.loop-k.k in
    let xs = c.loop-k.stamps.items in
    let ys = c.mark_commit.new.stamps in
    let marked : AreMarked (commit_touches c.index-journal-k.result) (k + 1) xs ys = subst (λ (l : List ℕ). AreMarked (commit_touches c.index-journal-k.result) (k + 1) l ys) c.deref_mut.ensures.value c.mark_commit.ensures in
    subst (AreStampsOf (take (k + 1) c.args.journal.now) c.args.count) (sym (written_back c.loop-k.stamps.len ys xs (c.mark_commit.ensures.long ∙ c.deref_mut.ensures.len)))
    (stamps_more c.args.journal.now k c.index-journal-k.result c.args.count (k + 1) xs ys c.loop-k.invariant c.loop-k-test.true refl
    (subst (λ (x : Commit). AreMarked (commit_touches x) (k + 1) xs ys) c.index-journal-k.is marked))
