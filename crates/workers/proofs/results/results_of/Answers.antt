use Rattle.std.proofs.Common.{◌≡◌, List, [], ◌∷◌, ◌++◌, Some, None, sym, ◌∙◌, ap, refl}
use Rattle.std.specs.List.{AllByRecursion}
use Rattle.price_defs.specs.declared.row.Certificate.{Certificate}
use Rattle.seats.specs.Seats.{SeatSeen}
use Rattle.workers.specs.declared.jobs.Job.{Job}
use Rattle.workers.specs.declared.jobs.Job.TheVariants.{Edit, Bound}
use Rattle.workers.specs.Jobs.{HasEnded, passes_in, found_in}
use Rattle.workers.proofs.results.results_of.Goals as goal

all_ended : (js : List Job) (j : Job) → AllByRecursion HasEnded js → HasEnded j → AllByRecursion HasEnded (js ++ j ∷ [])
all_ended [] j all one = (one, tt)
all_ended (i ∷ js) j all one = (all.0, all_ended js j all.1 one)

passes_append : (js : List Job) (j : Job) → passes_in (js ++ j ∷ []) ≡ passes_in js ++ passes_in (j ∷ [])
passes_append [] j = refl
passes_append (Edit p e ∷ js) j = ap (λ (ps : List SeatSeen). p ∷ ps) (passes_append js j)
passes_append (Bound w o ∷ js) j = passes_append js j

found_append : (js : List Job) (j : Job) → found_in (js ++ j ∷ []) ≡ found_in js ++ found_in (j ∷ [])
found_append [] j = refl
found_append (Edit p e ∷ js) j = found_append js j
found_append (Bound w None ∷ js) j = found_append js j
found_append (Bound w (Some C) ∷ js) j = ap (λ (cs : List Certificate). C ∷ cs) (found_append js j)

pub loop-job-preserved : goal.loop-job-preserved
loop-job-preserved c = (
  all_ended c.loop-job.yielded c.in-Some.job c.loop-job.invariant.0 c.in_ok-take_result.ensures.ended,
  c.in_ok-take_result.ensures.passes
      ∙ ap (λ (ps : List SeatSeen). ps ++ passes_in (c.in-Some.job ∷ [])) c.loop-job.invariant.1
      ∙ sym (passes_append c.loop-job.yielded c.in-Some.job),
  c.in_ok-take_result.ensures.found
      ∙ ap (λ (cs : List Certificate). cs ++ found_in (c.in-Some.job ∷ [])) c.loop-job.invariant.2
      ∙ sym (found_append c.loop-job.yielded c.in-Some.job),
)
