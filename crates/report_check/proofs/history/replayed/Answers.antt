use Rattle.std.proofs.Common.{◌≡◌, ◌∙◌, get_or, sym, subst, refl}
use Rattle.journal_defs.specs.declared.commit.Commit.{Commit}
use Rattle.replay.specs.declared.fault.ApplyFault.{ApplyFault}
use Rattle.replay.specs.Applied.{IsRefused}
use Rattle.report_check.proofs.Journals.{first_bad, other_number, illegal_edit}
use Rattle.report_check.proofs.history.replayed.Goals as goal

pub loop-k-init : goal.loop-k-init
loop-k-init c =
    let u = c.in_ok-room.ensures.unchanged in
    record { of = record { points = u.points; start = u.start }; core = c.in_ok-room.ensures.core; journal = u.journal ∙ c.requires.fresh }

pub returns-in-Err-WrongSeq-clause-answer : goal.returns-in-Err-WrongSeq-clause-answer
returns-in-Err-WrongSeq-clause-answer c =
    let mid = c.loop-k.core in
    let commit = c.copy_commit.result in
    let is : commit ≡ get_or c.args.commits.now c.loop-k.k commit = subst (λ (x : Commit). x ≡ get_or c.args.commits.now c.loop-k.k x) (sym c.copy_commit.ensures) c.index-commits-k.is in
    let refused = subst (λ (f : ApplyFault). IsRefused mid commit f) c.in-Err-WrongSeq.field-0-is c.in-Err-WrongSeq.ensures.refused in
    first_bad c.args.core.now mid c.args.commits.now c.loop-k.k _ commit c.loop-k-test.true is refl c.loop-k.invariant (other_number mid.points mid.start mid.journal commit _ refused.0 refused.1)

pub returns-in-Err-Illegal-clause-answer : goal.returns-in-Err-Illegal-clause-answer
returns-in-Err-Illegal-clause-answer c =
    let mid = c.loop-k.core in
    let commit = c.copy_commit.result in
    let is : commit ≡ get_or c.args.commits.now c.loop-k.k commit = subst (λ (x : Commit). x ≡ get_or c.args.commits.now c.loop-k.k x) (sym c.copy_commit.ensures) c.index-commits-k.is in
    let refused = subst (λ (f : ApplyFault). IsRefused mid commit f) c.in-Err-Illegal.field-0-is c.in-Err-Illegal.ensures.refused in
    first_bad c.args.core.now mid c.args.commits.now c.loop-k.k _ commit c.loop-k-test.true is refl c.loop-k.invariant (illegal_edit mid.points mid.start mid.journal commit _ refused.1.first)
