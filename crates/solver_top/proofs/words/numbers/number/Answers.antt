use Rattle.std.proofs.Common.{arith, sym, ◌∙◌, ap}
use Rattle.std.specs.Fmt.{decimal}
use Rattle.solver_top.proofs.Numbers.{reads_as, reads_always}
use Rattle.solver_top.proofs.words.numbers.number.Goals as goal
use Rattle.solver_top.proofs.words.numbers.number.Goals.{then-n-least-via-then-n-least, then-n-least-via-else-n-least+then-n-most}

pub returns-in_default : goal.returns-in_default
returns-in_default c = λ n low h e. reads_always c.args.word.now n c.in_default.field-0 c.parse.result (omega arith) e c.parse.ensures.value.0 c.in_default.is

pub returns-then-n-least : goal.returns-then-n-least
returns-then-n-least c = λ n low h e.
    let same = reads_as c.args.word.now n c.in-Ok.n c.parse.result (omega arith) e c.parse.ensures.value.0 c.in-Ok.is in
    elim c.then-n-least.branch [
      | then-n-least-via-then-n-least w ↦ omega (arith, w.if-n-least.true, same)
      | then-n-least-via-else-n-least+then-n-most w ↦ omega (arith, w.if-n-most.true, same)
    ]

pub returns-else-is_decimal : goal.returns-else-is_decimal
returns-else-is_decimal c = λ n low h e.
    let same = reads_as c.args.word.now n c.in-Ok.n c.parse.result (omega arith) e c.parse.ensures.value.0 c.in-Ok.is in
    let t = c.is_decimal.ensures.1 (e ∙ ap decimal (sym same)) in let f = c.if-is_decimal.false in cc
