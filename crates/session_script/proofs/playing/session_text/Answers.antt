use Rattle.std.proofs.Common.{◌≡◌, ◌≤◌, ℕ, ◌++◌, List, All, length, sym, ◌∙◌, ap, subst, arith}
use Rattle.plane.specs.declared.coordinates.Point.{Point}
use Rattle.edit_session.specs.declared.command.EditCommand.{EditCommand}
use Rattle.edit_session.specs.Sessions.{IsCommandOf, HasPlayed}
use Rattle.replay.specs.Replayed.{state_of}
use Rattle.weave_script.specs.Lines.{end_line}
use Rattle.session_script.specs.Lines.{replies_text}
use Rattle.session_script.proofs.Played.{played}
use Rattle.session_script.proofs.playing.session_text.Goals as goal

pub session-requires-clause-commands : goal.session-requires-clause-commands
session-requires-clause-commands c =
    subst (λ (l : List EditCommand). All (IsCommandOf (length c.in_ok-core.core.points)) l) (sym c.deref.ensures.value)
    (subst (λ (P : List Point). All (IsCommandOf (length P)) c.args.script.commands.items) (sym c.in_ok-core.ensures.points) c.requires.commands)

pub returns-in-Ok : goal.returns-in-Ok
returns-in-Ok c =
    let script = c.args.script in
    let old = c.in_ok-core.core in
    let new = c.in-Ok.played.core in
    let replies = c.in-Ok.played.replies in
    let so : HasPlayed old new script.costs script.commands.items replies = subst (λ (l : List EditCommand). HasPlayed old new script.costs l replies) c.deref.ensures.value c.in-Ok.ensures.played in
    let lines = c.in_ok-text-in-Ok.ensures ∙ ap replies_text c.as_slice.ensures in
    played script.points script.costs old new script.commands.items replies c.push_end.new.text.items c.in_ok-core.ensures.points
    c.in_ok-core.ensures.start so
    (c.in_ok-push_end-in-Ok.ensures ∙ ap (λ (l : List ℕ). l ++ end_line (length new.journal) (length (state_of new).kept)) lines)
