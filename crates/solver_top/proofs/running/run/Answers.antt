use Rattle.std.proofs.Common.{inl, inr, refl}
use Rattle.solver_top.specs.declared.words.Command.TheVariants.{Judge, Start, Solve, Check, Part, Weave, Rewind, EditSession, Gen, GenSolve}
use Rattle.solver_top.specs.declared.status.Verdict.TheVariants.{Done}
use Rattle.solver_top.proofs.Written.{verdict_same, status_of_no_fault, written_same, answer_same}
use Rattle.solver_top.proofs.Complete.{is_answered, done_or_no}
use Rattle.solver_top.proofs.Headline.{solved_done, reports_history, reports_last, reports_bound, reports_optimal}
use Rattle.solver_top.proofs.Reports.{checked_done}
use Rattle.solver_top.proofs.running.run.Goals as goal

pub returns-in-Ok-clause-complete : goal.returns-in-Ok-clause-complete
returns-in-Ok-clause-complete g c = λ xs command told line has kept firm memory.
    done_or_no c.in-Ok.answer.verdict c.deliver.result
    (is_answered _ command xs _ _ _ line has (c.in-Ok.ensures.answer xs told))
    (elim c.deliver.ensures.status [ inl e ↦ e | inr e ↦ absurd (firm (c.deliver.ensures.fault e)) ])

pub returns-in-Ok-clause-answered : goal.returns-in-Ok-clause-answered
returns-in-Ok-clause-answered g c = λ xs verdict told is.
    let same = verdict_same c.deliver.result c.in-Ok.answer.verdict verdict c.deliver.ensures.status is in (
      c.in-Ok.answer.text.items,
      answer_same _ _ _ _ _ _ same (c.in-Ok.ensures.answer xs told),
      c.deliver.ensures.whole (status_of_no_fault c.deliver.result verdict is),
    )

pub returns-in-Ok-clause-prefix : goal.returns-in-Ok-clause-prefix
returns-in-Ok-clause-prefix g c = λ xs told is.
    (c.in-Ok.answer.verdict, c.in-Ok.answer.text.items, c.in-Ok.ensures.answer xs told, c.deliver.ensures.prefix is)

pub returns-in-Ok-clause-judge : goal.returns-in-Ok-clause-judge
returns-in-Ok-clause-judge g c = λ xs line told has.
    (c.in-Ok.answer.verdict, c.in-Ok.answer.text.items, c.in-Ok.ensures.command Judge xs line told, c.deliver.ensures.written)

pub returns-in-Ok-clause-start : goal.returns-in-Ok-clause-start
returns-in-Ok-clause-start g c = λ xs line told has.
    (c.in-Ok.answer.verdict, c.in-Ok.answer.text.items, c.in-Ok.ensures.command Start xs line told, c.deliver.ensures.written)

pub returns-in-Ok-clause-generated : goal.returns-in-Ok-clause-generated
returns-in-Ok-clause-generated g c = λ kind n seed line.
    let (same, (done, made)) = c.in-Ok.ensures.alone (Gen kind n seed) line refl in (
      same,
      λ has. (
        c.in-Ok.answer.text.items,
        made,
        written_same c.deliver.result _ _ c.in-Ok.answer.text.items (g.O.Sink.contents c.args.out.now) (g.O.Sink.contents c.deliver.new.out) done c.deliver.ensures.written,
      ),
    )

pub returns-in-Err-ReadFault-clause-generated : goal.returns-in-Err-ReadFault-clause-generated
returns-in-Err-ReadFault-clause-generated g c = λ kind n seed line.
    ((c.answer.ensures.alone (Gen kind n seed) line refl).0, λ has. absurd has)

pub returns-in-Err-NoMemory-clause-generated : goal.returns-in-Err-NoMemory-clause-generated
returns-in-Err-NoMemory-clause-generated g c = λ kind n seed line.
    ((c.answer.ensures.alone (Gen kind n seed) line refl).0, λ has. absurd has)

pub returns-in-Ok-clause-solve : goal.returns-in-Ok-clause-solve
returns-in-Ok-clause-solve g c = λ xs E B rounds seed line told has.
    (c.in-Ok.answer.verdict, c.in-Ok.answer.text.items, c.in-Ok.ensures.command (Solve E B rounds seed) xs line told, c.deliver.ensures.written)

pub returns-in-Ok-clause-headline : goal.returns-in-Ok-clause-headline
returns-in-Ok-clause-headline g c = λ xs E B rounds seed told line is.
    solved_done E B rounds seed xs _ c.in-Ok.answer.verdict c.in-Ok.answer.text.items _ _
    (verdict_same c.deliver.result c.in-Ok.answer.verdict Done c.deliver.ensures.status is)
    (c.in-Ok.ensures.command (Solve E B rounds seed) xs line told)
    (c.deliver.ensures.whole (status_of_no_fault c.deliver.result Done is))

pub returns-in-Ok-clause-history : goal.returns-in-Ok-clause-history
returns-in-Ok-clause-history g c = λ xs E B rounds seed told line is.
    reports_history E B rounds seed xs _ _ (returns-in-Ok-clause-headline g c xs E B rounds seed told line is).1

pub returns-in-Ok-clause-last : goal.returns-in-Ok-clause-last
returns-in-Ok-clause-last g c = λ xs E B rounds seed told line is.
    reports_last E B rounds seed xs _ _ (returns-in-Ok-clause-headline g c xs E B rounds seed told line is).1

pub returns-in-Ok-clause-bound : goal.returns-in-Ok-clause-bound
returns-in-Ok-clause-bound g c = λ xs E B rounds seed told line is.
    reports_bound E B rounds seed xs _ _ (returns-in-Ok-clause-headline g c xs E B rounds seed told line is).1

pub returns-in-Ok-clause-optimal : goal.returns-in-Ok-clause-optimal
returns-in-Ok-clause-optimal g c = λ xs E B rounds seed told line is.
    reports_optimal E B rounds seed xs _ _ (returns-in-Ok-clause-headline g c xs E B rounds seed told line is).1

pub returns-in-Ok-clause-check : goal.returns-in-Ok-clause-check
returns-in-Ok-clause-check g c = λ xs line told has.
    (c.in-Ok.answer.verdict, c.in-Ok.answer.text.items, c.in-Ok.ensures.command Check xs line told, c.deliver.ensures.written)

pub returns-in-Ok-clause-part : goal.returns-in-Ok-clause-part
returns-in-Ok-clause-part g c = λ xs part line told has.
    (c.in-Ok.answer.verdict, c.in-Ok.answer.text.items, c.in-Ok.ensures.command (Part part) xs line told, c.deliver.ensures.written)

pub returns-in-Ok-clause-weave : goal.returns-in-Ok-clause-weave
returns-in-Ok-clause-weave g c = λ xs line told has.
    (c.in-Ok.answer.verdict, c.in-Ok.answer.text.items, c.in-Ok.ensures.command Weave xs line told, c.deliver.ensures.written)

pub returns-in-Ok-clause-rewind : goal.returns-in-Ok-clause-rewind
returns-in-Ok-clause-rewind g c = λ xs k line told has.
    (c.in-Ok.answer.verdict, c.in-Ok.answer.text.items, c.in-Ok.ensures.command (Rewind k) xs line told, c.deliver.ensures.written)

pub returns-in-Ok-clause-edit : goal.returns-in-Ok-clause-edit
returns-in-Ok-clause-edit g c = λ xs line told has.
    (c.in-Ok.answer.verdict, c.in-Ok.answer.text.items, c.in-Ok.ensures.command EditSession xs line told, c.deliver.ensures.written)

pub returns-in-Ok-clause-told : goal.returns-in-Ok-clause-told
returns-in-Ok-clause-told g c = λ xs told line is.
    checked_done xs _ c.in-Ok.answer.verdict c.in-Ok.answer.text.items _ _
    (verdict_same c.deliver.result c.in-Ok.answer.verdict Done c.deliver.ensures.status is)
    (c.in-Ok.ensures.command Check xs line told)
    (c.deliver.ensures.whole (status_of_no_fault c.deliver.result Done is))

pub returns-in-Ok-clause-generated_solved : goal.returns-in-Ok-clause-generated_solved
returns-in-Ok-clause-generated_solved g c = λ kind n seed line.
    let (same, (done, made)) = c.in-Ok.ensures.alone (GenSolve kind n seed) line refl in (
      same,
      λ has. (
        c.in-Ok.answer.text.items,
        made,
        written_same c.deliver.result _ _ c.in-Ok.answer.text.items (g.O.Sink.contents c.args.out.now) (g.O.Sink.contents c.deliver.new.out) done c.deliver.ensures.written,
      ),
    )

pub returns-in-Err-ReadFault-clause-generated_solved : goal.returns-in-Err-ReadFault-clause-generated_solved
returns-in-Err-ReadFault-clause-generated_solved g c = λ kind n seed line.
    ((c.answer.ensures.alone (GenSolve kind n seed) line refl).0, λ has. absurd has)

pub returns-in-Err-NoMemory-clause-generated_solved : goal.returns-in-Err-NoMemory-clause-generated_solved
returns-in-Err-NoMemory-clause-generated_solved g c = λ kind n seed line.
    ((c.answer.ensures.alone (GenSolve kind n seed) line refl).0, λ has. absurd has)
