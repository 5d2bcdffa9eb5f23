use Rattle.std.proofs.Common.{◌≡◌, take}
use Rattle.weave_script.specs.Lines.{answers_text}
use Rattle.weave_script.proofs.playing.answer_lines.Given as goal

abbrev pub invariant-loop-answer : goal.invariant-loop-answer
invariant-loop-answer l = l.text.items ≡ answers_text (take l.answer-index l.answers)
