use Rattle.std.proofs.Common.{◌≡◌, Some, None, List, length, sym, ◌∙◌, ap, subst, arith}
use Rattle.plane.specs.declared.segment.Pair.{Pair}
use Rattle.journal_defs.specs.declared.commit.Commit.{Commit}
use Rattle.report_defs.specs.Verdicts.{IsFirstToGo}
use Rattle.replay.specs.Replayed.{state_of}
use Rattle.report_check.specs.Replays.{drop_of}
use Rattle.report_check.proofs.Sweeps.{none_to_go, some_gone, read_drop}
use Rattle.report_check.proofs.history.first_to_go.Goals as goal

pub returns-then-branch-eq0 : goal.returns-then-branch-eq0
returns-then-branch-eq0 c = none_to_go c.args.core.now c.sweep.new.self c.in_ok-sweep.field-0 c.in_ok-sweep.ensures.swept c.if-branch-eq0.true

pub bounds-journal-before : goal.bounds-journal-before
bounds-journal-before c =
    let gone = some_gone c.args.core.now c.sweep.new.self c.in_ok-sweep.field-0 c.journal-before.ensures.core.sound.kept_ascending c.in_ok-sweep.ensures.swept c.if-branch-eq0.false in
    let longer = gone.longer in
    omega (arith, ap (λ (J : List Commit). length J) c.journal-before.ensures.journal, ap (λ (J : List Commit). length J) c.journal.ensures.journal, longer)

pub unreachable-requires : goal.unreachable-requires
unreachable-requires c =
    let gone = some_gone c.args.core.now c.sweep.new.self c.in_ok-sweep.field-0 c.journal-before.ensures.core.sound.kept_ascending c.in_ok-sweep.ensures.swept c.if-branch-eq0.false in
    let e = read_drop c.args.core.now c.sweep.new.self gone c.journal-before.result.now c.journal.result.now c.index-journal-before.result c.as_slice.result.now c.index-as_slice-0.result
    c.journal-before.ensures.journal c.journal.ensures.journal c.as_slice.ensures.edits c.index-as_slice-0.is in
    let some : None ≡ Some gone.gone = sym c.in-None.is ∙ c.dropped.ensures ∙ ap drop_of e in
    cc

pub returns : goal.returns
returns c =
    let gone = some_gone c.args.core.now c.sweep.new.self c.in_ok-sweep.field-0 c.journal-before.ensures.core.sound.kept_ascending c.in_ok-sweep.ensures.swept c.if-branch-eq0.false in
    let e = read_drop c.args.core.now c.sweep.new.self gone c.journal-before.result.now c.journal.result.now c.index-journal-before.result c.as_slice.result.now c.index-as_slice-0.result
    c.journal-before.ensures.journal c.journal.ensures.journal c.as_slice.ensures.edits c.index-as_slice-0.is in
    let some : Some c.in-Some.e ≡ Some gone.gone = sym c.in-Some.is ∙ c.dropped.ensures ∙ ap drop_of e in
    let same : gone.gone ≡ c.in-Some.e = cc in
    subst (λ (d : Pair). IsFirstToGo c.args.core.now.points (state_of c.args.core.now).kept d) same gone.first
