use Rattle.std.proofs.Common.{ℕ, ◌+◌, ◌∷◌, [], subst}
use Rattle.plane.specs.Accepted.{AreAccepted}
use Rattle.journal_defs.specs.declared.commit.Commit.{Commit}
use Rattle.replay.specs.Replayed.{GrowsBy}
use Rattle.replay.specs.Applied.{IsRefused}
use Rattle.replay.specs.declared.fault.ApplyFault.{ApplyFault}
use Rattle.rewind.proofs.laws.Earlier.{past_of}
use Rattle.rewind.proofs.laws.Undoing.{last_back, last_never}
use Rattle.rewind.proofs.undoing.undo.Goals as goal

pub returns-in-Ok-clause-back : goal.returns-in-Ok-clause-back
returns-in-Ok-clause-back c = λ is.
    (let core = c.args.core.now in
    let past = past_of core (subst AreAccepted c.points.ensures.points c.len-count.ensures.accepted) c.points.ensures.core in
    let grows = subst (λ (n : ℕ). GrowsBy core c.apply.new.self (record { caller = c.args.caller; seq = n + 1; edits = c.inverse_of-edits.result } ∷ [])) c.count-seq.ensures.count c.in-Ok.ensures.entered in
    last_back core c.apply.new.self c.args.caller c.args.number c.inverse_of-edits.result past c.inverse_of-edits.ensures.inverse grows is)

pub returns-in-Err-Illegal-clause-refused : goal.returns-in-Err-Illegal-clause-refused
returns-in-Err-Illegal-clause-refused c =
    let core = c.args.core.now in
    let past = past_of core (subst AreAccepted c.points.ensures.points c.len-count.ensures.accepted) c.points.ensures.core in
    let commit : Commit = record { caller = c.args.caller; seq = c.count-seq.result + 1; edits = c.inverse_of-edits.result } in
    let refused = subst (λ (f : ApplyFault). IsRefused core commit f) c.in-Err-Illegal.field-0-is c.in-Err-Illegal.ensures.refused in (
      c.inverse_of-edits.result,
      c.inverse_of-edits.ensures.inverse,
      refused.1,
      λ is. last_never core c.args.number c.in-Err-Illegal.at c.inverse_of-edits.result past c.inverse_of-edits.ensures.inverse refused.1.first is,
    )
