use Rattle.std.proofs.Common.{◌≡◌, ◌≤◌, List, length, subst, sym, ◌∙◌}
use Rattle.plane.specs.declared.coordinates.Point.{Point}
use Rattle.plane.specs.declared.segment.Pair.{Pair}
use Rattle.lower_bounds.specs.Bounds.{IsLowerBound}
use Rattle.solver.proofs.Runs.{start_few, sweep_few, work_few, worked_journal, worked_run, parts_solved}
use Rattle.solver.proofs.solving.worked.Goals as goal

pub swept_core-requires-clause-few : goal.swept_core-requires-clause-few
swept_core-requires-clause-few g c =
    start_few c.args.points c.args.costs.now c.args.all.all c.in_ok-basis.basis.border c.len-count.ensures.accepted c.requires.start.count c.in_ok-basis.ensures.border

pub work_on-requires-clause-few : goal.work_on-requires-clause-few
work_on-requires-clause-few g c κs within =
    sweep_few c.args.points c.args.all.all c.in_ok-core.core.journal
    (start_few c.args.points c.args.costs.now c.args.all.all c.in_ok-basis.basis.border c.len-count.ensures.accepted c.requires.start.count c.in_ok-basis.ensures.border)
    c.in_ok-core.ensures.journal

pub swept_again-requires-clause-start : goal.swept_again-requires-clause-start
swept_again-requires-clause-start g c =
    subst (λ (T : List Pair). length T ≤ 15000) (sym (c.in_ok-core-2.ensures.worked.start ∙ c.in_ok-core.ensures.start))
    (start_few c.args.points c.args.costs.now c.args.all.all c.in_ok-basis.basis.border c.len-count.ensures.accepted c.requires.start.count c.in_ok-basis.ensures.border)

pub swept_again-requires-clause-few : goal.swept_again-requires-clause-few
swept_again-requires-clause-few g c =
    work_few c.args.costs.now c.args.edit_workers c.args.search c.in_ok-core.core c.in_ok-core-2.core
    (sweep_few c.args.points c.args.all.all c.in_ok-core.core.journal
    (start_few c.args.points c.args.costs.now c.args.all.all c.in_ok-basis.basis.border c.len-count.ensures.accepted c.requires.start.count c.in_ok-basis.ensures.border)
    c.in_ok-core.ensures.journal)
    c.requires.some.1 c.requires.rounds.1 c.in_ok-core-2.ensures.worked

pub returns : goal.returns
returns g c =
    let points : c.in_ok-core-3.core.points ≡ c.args.points = c.in_ok-core-3.ensures.points ∙ c.in_ok-core-2.ensures.worked.points ∙ c.in_ok-core.ensures.points in
    let start : c.in_ok-core-3.core.start ≡ c.args.all.all = c.in_ok-core-3.ensures.start ∙ c.in_ok-core-2.ensures.worked.start ∙ c.in_ok-core.ensures.start in
    let few : length c.args.all.all ≤ 15000 =
    start_few c.args.points c.args.costs.now c.args.all.all c.in_ok-basis.basis.border c.len-count.ensures.accepted c.requires.start.count c.in_ok-basis.ensures.border in
    let low : IsLowerBound c.args.points c.args.costs.now c.args.search c.in_ok-found.found =
    subst (λ (S : List Point). IsLowerBound S c.args.costs.now c.args.search c.in_ok-found.found) (c.points-2.ensures.points ∙ points) c.in_ok-found.ensures in
    parts_solved c.args.points c.args.costs.now c.args.edit_workers c.args.search c.args.all.all c.in_ok-core-3.core c.in_ok-found.found c.parts_of.result
    c.len-count.ensures.accepted c.requires.start few low points start
    (worked_run c.args.points c.args.costs.now c.args.edit_workers c.args.search c.args.all.all c.in_ok-core-3.core.journal c.in_ok-found.found c.len-count.ensures.accepted
    c.requires.ascending c.requires.start few c.requires.some c.requires.rounds
    (worked_journal c.args.points c.args.costs.now c.args.edit_workers c.args.search c.args.all.all c.in_ok-core.core c.in_ok-core-2.core c.in_ok-core-3.core
    c.in_ok-core.ensures.points c.in_ok-core.ensures.start c.in_ok-core.ensures.journal c.in_ok-core-2.ensures.worked c.in_ok-core-3.ensures)
    low)
    c.parts_of.ensures.points c.parts_of.ensures.start c.parts_of.ensures.journal c.parts_of.ensures.kept c.parts_of.ensures.certificate c.parts_of.ensures.bound
