use Rattle.std.proofs.Common.{◌≡◌, take}
use Rattle.session_script.specs.Lines.{replies_text}
use Rattle.session_script.proofs.playing.reply_lines.Given as goal

abbrev pub invariant-loop-reply : goal.invariant-loop-reply
invariant-loop-reply l = l.text.items ≡ replies_text (take l.reply-index l.replies)
