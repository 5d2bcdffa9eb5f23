use Rattle.std.proofs.lemmas.Bool.{false≢true}
use Rattle.plan_defs.proofs.laws.Legal.{not_all_legal}
use Rattle.plan_defs.proofs.plain.are_legal.Goals as goal

pub returns-in-Some : goal.returns-in-Some
returns-in-Some c =
    let first = rw c.in-Some.is at c.in_ok-first_illegal.ensures in
    (λ t. absurd (false≢true t), λ legal. absurd (not_all_legal c.args.points.now c.args.state.now c.args.edits.now c.in-Some.field-0 first legal))
