use Rattle.replay.specs.Replayed.{IsCore}
use Rattle.edit_session.specs.Desks.{IsPlaying}
use Rattle.edit_session.proofs.sessions.play.Given as goal

abbrev pub invariant-loop-command : goal.invariant-loop-command
invariant-loop-command l = IsPlaying l.initial.core l.core l.costs l.desk l.commands l.replies.items l.command-index × IsCore l.core
