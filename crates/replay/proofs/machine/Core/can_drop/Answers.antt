use Rattle.std.proofs.Common.{subst, ◌↔◌, IsTrue}
use Rattle.journal_defs.specs.Edits.{State, IsLegalDrop}
use Rattle.replay.specs.Replayed.{Replayed, IsCore, state_of}
use Rattle.replay.proofs.Cores.{core_of, machine_layout}
use Rattle.replay.proofs.machine.Core.can_drop.Goals as goal

pub can_make-requires-clause-sound : goal.can_make-requires-clause-sound
can_make-requires-clause-sound c = machine_layout _ _ _ _ _ c.len-count.ensures.accepted c.self.invariant

pub returns-clause-legal : goal.returns-clause-legal
returns-clause-legal c =
    subst (λ (x : Replayed). IsTrue c.can_make.result ↔ IsLegalDrop x.points (state_of x) c.args.e) c.self.view_is
    (subst (λ (s : State). IsTrue c.can_make.result ↔ IsLegalDrop c.self.inside.points s c.args.e) c.self.invariant.state c.can_make.ensures.legal)

pub returns-clause-core : goal.returns-clause-core
returns-clause-core c = subst IsCore c.self.view_is (core_of _ _ _ _ _ _ c.len-count.ensures.accepted c.self.invariant)
