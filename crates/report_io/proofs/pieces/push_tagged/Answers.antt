use Rattle.std.proofs.Common.{◌++◌, ◌∙◌, refl, ap, append_assoc, arith}
use Rattle.report_io.specs.Answers.{numbers_text}
use Rattle.report_io.proofs.Written.{next_number, last_number}
use Rattle.report_io.proofs.pieces.push_tagged.Goals as goal

pub loop-number-preserved : goal.loop-number-preserved
loop-number-preserved c =
    next_number c.args.numbers.now c.loop-number.number-index _ c.loop-number.text.items c.push.new.self.items c.push_natural.new.text.items _ (omega arith) refl c.loop-number.invariant c.in_ok-push.ensures.items c.in_ok-push_natural.ensures

pub returns : goal.returns
returns c =
    last_number c.args.numbers.now c.loop-number.number-index c.extend_from_slice.new.self.items c.loop-number.text.items c.push-2.new.self.items (omega arith) c.loop-number.invariant c.in_ok-push-2.ensures.items
    ∙ (ap (λ xs. xs ++ numbers_text c.args.numbers.now) c.in_ok-extend_from_slice.ensures.items ∙ append_assoc c.args.text.now.items c.args.head.now (numbers_text c.args.numbers.now))
