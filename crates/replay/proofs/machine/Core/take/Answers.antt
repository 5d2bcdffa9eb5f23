use Rattle.std.proofs.Common.{subst, sym, length, ◌<◌, ◌≡◌, ◌+◌, refl}
use Rattle.journal_defs.specs.Journal.{made}
use Rattle.replay.specs.declared.machine.TheConstants.{MOST_COMMITS}
use Rattle.replay.specs.Replayed.{Replayed}
use Rattle.replay.proofs.Cores.{core_of, machine_layout, machine_same}
use Rattle.replay.proofs.Committed.{machine_taken}
use Rattle.replay.proofs.machine.Core.take.Goals as goal

pub perform-requires-clause-sound : goal.perform-requires-clause-sound
perform-requires-clause-sound c = machine_layout _ _ _ _ _ c.len-count.ensures.accepted c.self.invariant

pub returns-in_err-perform-clause-core : goal.returns-in_err-perform-clause-core
returns-in_err-perform-clause-core c =
    core_of _ _ _ _ c.perform.new.all c.self.inside.counts c.len-count.ensures.accepted (machine_same _ _ _ c.self.inside.all _ _ c.self.invariant c.in_err-perform.ensures.undone)

pub invariant_of-self-2 : goal.invariant_of-self-2
invariant_of-self-2 c =
    machine_taken _ _ c.self.inside.journal.items _ c.enter.new.journal.items c.self.inside.all c.perform.new.all c.self.inside.counts c.enter.new.counts c.args.commit c.args.commit.seq c.self.invariant
    (subst (λ (x : Replayed). length x.journal < MOST_COMMITS) (sym c.self.view_is) c.requires.few)
    (c.in_ok-perform.ensures.some, c.in_ok-perform.ensures.few) refl
    (subst (λ (x : Replayed). c.args.commit.seq ≡ made c.args.commit.caller x.journal + 1) (sym c.self.view_is) c.requires.sequence)
    c.in_ok-perform.ensures.legal c.in_ok-perform.ensures.made refl c.enter.ensures.journal c.enter.ensures.counts

pub returns-clause-core : goal.returns-clause-core
returns-clause-core c =
    core_of _ _ _ _ c.perform.new.all c.enter.new.counts c.len-count.ensures.accepted
    (machine_taken _ _ c.self.inside.journal.items _ c.enter.new.journal.items c.self.inside.all c.perform.new.all c.self.inside.counts c.enter.new.counts c.args.commit c.args.commit.seq c.self.invariant
    (subst (λ (x : Replayed). length x.journal < MOST_COMMITS) (sym c.self.view_is) c.requires.few)
    (c.in_ok-perform.ensures.some, c.in_ok-perform.ensures.few) refl
    (subst (λ (x : Replayed). c.args.commit.seq ≡ made c.args.commit.caller x.journal + 1) (sym c.self.view_is) c.requires.sequence)
    c.in_ok-perform.ensures.legal c.in_ok-perform.ensures.made refl c.enter.ensures.journal c.enter.ensures.counts)
