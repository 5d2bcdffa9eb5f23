use Rattle.std.proofs.Common.{subst, sym, length, ◌<◌, ap, ◌∙◌, refl}
use Rattle.journal_defs.specs.Edits.{State, IsLegalDrop}
use Rattle.journal_defs.specs.Journal.{made}
use Rattle.replay.specs.declared.machine.TheConstants.{MOST_COMMITS}
use Rattle.replay.specs.Replayed.{Replayed, state_of}
use Rattle.replay.proofs.Cores.{core_of, machine_layout}
use Rattle.replay.proofs.Committed.{drop_entered, machine_dropped}
use Rattle.replay.proofs.machine.Core.drop_pair.Goals as goal

pub change-requires-clause-sound : goal.change-requires-clause-sound
change-requires-clause-sound c = machine_layout _ _ _ _ _ c.len-count.ensures.accepted c.self.invariant

pub change-requires-clause-legal : goal.change-requires-clause-legal
change-requires-clause-legal c =
    subst (λ (s : State). IsLegalDrop c.self.inside.points s c.args.e) (sym c.self.invariant.state)
    (subst (λ (x : Replayed). IsLegalDrop x.points (state_of x) c.args.e) (sym c.self.view_is) c.requires.legal)

pub invariant_of-self : goal.invariant_of-self
invariant_of-self c =
    machine_dropped _ _ c.self.inside.journal.items c.enter.new.journal.items _ _ _ _ c.args.e c.self.invariant
    (subst (λ (x : Replayed). length x.journal < MOST_COMMITS) (sym c.self.view_is) c.requires.few)
    (subst (λ (s : State). IsLegalDrop c.self.inside.points s c.args.e) (sym c.self.invariant.state)
    (subst (λ (x : Replayed). IsLegalDrop x.points (state_of x) c.args.e) (sym c.self.view_is) c.requires.legal))
    c.change.ensures
    (drop_entered c.self.inside.journal.items c.self.inside.journal.items c.enter.new.journal.items c.count-seq.result c.drop_commit.result c.args.e (c.count-seq.ensures ∙ ap (made 0) c.deref.ensures.value) c.drop_commit.ensures refl c.enter.ensures.journal) c.enter.ensures.counts

pub returns-clause-core : goal.returns-clause-core
returns-clause-core c = core_of _ _ _ _ _ _ c.len-count.ensures.accepted (machine_dropped _ _ c.self.inside.journal.items c.enter.new.journal.items _ _ _ _ c.args.e c.self.invariant
    (subst (λ (x : Replayed). length x.journal < MOST_COMMITS) (sym c.self.view_is) c.requires.few)
    (subst (λ (s : State). IsLegalDrop c.self.inside.points s c.args.e) (sym c.self.invariant.state)
    (subst (λ (x : Replayed). IsLegalDrop x.points (state_of x) c.args.e) (sym c.self.view_is) c.requires.legal))
    c.change.ensures
    (drop_entered c.self.inside.journal.items c.self.inside.journal.items c.enter.new.journal.items c.count-seq.result c.drop_commit.result c.args.e (c.count-seq.ensures ∙ ap (made 0) c.deref.ensures.value) c.drop_commit.ensures refl c.enter.ensures.journal) c.enter.ensures.counts)
