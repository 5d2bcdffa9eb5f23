use Rattle.std.proofs.Common.{◌≡◌, List, length, All, subst, sym, ◌∙◌}
use Rattle.workers.specs.declared.jobs.Job.{Job}
use Rattle.workers.specs.Worked.{HaveWorked, ArePriced}
use Rattle.workers.specs.Jobs.{IsReady}
use Rattle.workers.proofs.Done.{all_ready, lent_come}
use Rattle.workers.proofs.working.work_all.Goals as goal

pub run_jobs-requires-clause-ready : goal.run_jobs-requires-clause-ready
run_jobs-requires-clause-ready g c κs within =
    subst (λ (js : List Job). All (IsReady c.args.board.now) js) (sym (c.as_mut_slice.ensures.value ∙ c.in_ok-jobs.ensures))
    (all_ready c.args.board.now c.args.passes.items c.args.bound_workers c.requires.bound_workers c.requires.of)

pub returns-clause-passes : goal.returns-clause-passes
returns-clause-passes g c =
    let came =
    lent_come c.args.board.now c.args.costs.now c.args.start.now c.args.rounds c.args.seed c.args.bound_workers c.in_ok-jobs.jobs.len c.args.passes.items
    c.in_ok-jobs.jobs.items c.as_mut_slice.result.now c.run_jobs.new.jobs c.in_ok-jobs.ensures c.as_mut_slice.ensures.value c.run_jobs.ensures.len c.as_mut_slice.ensures.len c.run_jobs.ensures.done
    c.in_ok-results.ensures.ended in
    subst (HaveWorked c.args.board.now c.args.costs.now c.args.rounds c.args.seed c.args.passes.items) (sym c.in_ok-results.ensures.passes) came.0

pub returns-clause-found : goal.returns-clause-found
returns-clause-found g c =
    let came =
    lent_come c.args.board.now c.args.costs.now c.args.start.now c.args.rounds c.args.seed c.args.bound_workers c.in_ok-jobs.jobs.len c.args.passes.items
    c.in_ok-jobs.jobs.items c.as_mut_slice.result.now c.run_jobs.new.jobs c.in_ok-jobs.ensures c.as_mut_slice.ensures.value c.run_jobs.ensures.len c.as_mut_slice.ensures.len c.run_jobs.ensures.done
    c.in_ok-results.ensures.ended in
    subst (λ xs. length xs ≡ c.args.bound_workers) (sym c.in_ok-results.ensures.found) came.1

pub returns-clause-priced : goal.returns-clause-priced
returns-clause-priced g c =
    let came =
    lent_come c.args.board.now c.args.costs.now c.args.start.now c.args.rounds c.args.seed c.args.bound_workers c.in_ok-jobs.jobs.len c.args.passes.items
    c.in_ok-jobs.jobs.items c.as_mut_slice.result.now c.run_jobs.new.jobs c.in_ok-jobs.ensures c.as_mut_slice.ensures.value c.run_jobs.ensures.len c.as_mut_slice.ensures.len c.run_jobs.ensures.done
    c.in_ok-results.ensures.ended in
    subst (ArePriced c.args.board.now.root.points c.args.costs.now c.args.start.now c.args.rounds c.args.seed 1) (sym c.in_ok-results.ensures.found) came.2
