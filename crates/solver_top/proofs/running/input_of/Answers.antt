use Rattle.std.proofs.Common.{List, ℕ, length, ◌≤◌, subst}
use Rattle.solver_top.specs.Answers.{most_input}
use Rattle.solver_top.proofs.Results.{if_ok_three, if_some_at}
use Rattle.solver_top.proofs.running.input_of.Goals as goal

pub returns-then-reads_input-clause-whole : goal.returns-then-reads_input-clause-whole
returns-then-reads_input-clause-whole g c = λ reads xs told.
    if_ok_three c.read_all.result _ _ _ _
    (if_some_at _ xs _ told c.read_all.ensures.all)
    (if_some_at _ xs _ told c.read_all.ensures.end)
    c.read_all.ensures.within
    (λ bytes same at_end few. (same, subst (λ (ys : List ℕ). length ys ≤ most_input) same few, at_end))
