use Rattle.std.proofs.Common.{◌+◌, List, [], ◌∷◌, ◌++◌, sym, subst}
use Rattle.edit_session.specs.declared.command.Reply.{Reply}
use Rattle.edit_session.specs.Desks.{IsPlaying}
use Rattle.edit_session.proofs.Plays.{playing_more, played_part, played_none, as_before, on_err}
use Rattle.edit_session.proofs.sessions.play.Goals as goal

pub returns-in_err-replies-clause-stopped : goal.returns-in_err-replies-clause-stopped
returns-in_err-replies-clause-stopped c =
    on_err c.from_residual-in_err-replies.result (played_none c.args.core.now c.args.core.now c.args.costs.now c.args.commands.now c.requires.empty (as_before c.args.core.now))

pub returns-in_err-reply-clause-stopped : goal.returns-in_err-reply-clause-stopped
returns-in_err-reply-clause-stopped c =
    on_err c.from_residual-in_err-reply.result
    (played_part c.args.core.now c.loop-command.core c.answer.new.core c.args.costs.now c.loop-command.desk c.args.commands.now c.loop-command.replies.items c.loop-command.command-index
    c.loop-command.invariant.0 c.in_err-reply.ensures.stopped)

pub returns-in_err-push-clause-stopped : goal.returns-in_err-push-clause-stopped
returns-in_err-push-clause-stopped c =
    on_err c.from_residual-in_err-push.result
    (played_part c.args.core.now c.answer.new.core c.answer.new.core c.args.costs.now c.answer.new.desk c.args.commands.now (c.loop-command.replies.items ++ c.in_ok-reply.reply ∷ []) (c.loop-command.command-index + 1)
    (playing_more c.args.core.now c.loop-command.core c.answer.new.core c.args.costs.now c.loop-command.desk c.answer.new.desk c.args.commands.now c.loop-command.replies.items c.loop-command.command-index
    c.command-item.result c.in_ok-reply.reply c.loop-command-test.true c.command-item.is c.loop-command.invariant.0 c.in_ok-reply.ensures.replied)
    (as_before c.answer.new.core))

pub loop-command-preserved : goal.loop-command-preserved
loop-command-preserved c =
    let more : IsPlaying c.args.core.now c.answer.new.core c.args.costs.now c.answer.new.desk c.args.commands.now (c.loop-command.replies.items ++ c.in_ok-reply.reply ∷ []) (c.loop-command.command-index + 1) =
    playing_more c.args.core.now c.loop-command.core c.answer.new.core c.args.costs.now c.loop-command.desk c.answer.new.desk c.args.commands.now c.loop-command.replies.items c.loop-command.command-index
    c.command-item.result c.in_ok-reply.reply c.loop-command-test.true c.command-item.is c.loop-command.invariant.0 c.in_ok-reply.ensures.replied in (
      subst (λ (l : List Reply). IsPlaying c.args.core.now c.answer.new.core c.args.costs.now c.answer.new.desk c.args.commands.now l (c.loop-command.command-index + 1)) (sym c.in_ok-push.ensures.items) more,
      c.in_ok-reply.ensures.core,
    )
