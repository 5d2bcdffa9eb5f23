use Rattle.std.proofs.Common.{length, refl, subst}
use Rattle.std.proofs.lemmas.Bool.{false≢true}
use Rattle.plane.specs.Accepted.{IsFault}
use Rattle.instance_io.proofs.Parts.{by_name, by_points, gives_points, name_fails, points_fail}
use Rattle.json_text.proofs.Laws.{err_same, ok_err}
use Rattle.instance_io.proofs.Exact.{exact_text, exact_ok, exact_bad, exact_costs, told_costs}
use Rattle.instance_io.proofs.instance.instance_of.Goals as goal

pub returns-in-Err-clause-answer : goal.returns-in-Err-clause-answer
returns-in-Err-clause-answer c = by_name _ _ c.in-Err.ensures

pub returns-in-Err-points_in-clause-answer : goal.returns-in-Err-points_in-clause-answer
returns-in-Err-points_in-clause-answer c = by_points _ _ _ c.in-Ok.ensures c.in-Err-points_in.ensures.answer

pub returns-in-Err-clause-exact : goal.returns-in-Err-clause-exact
returns-in-Err-clause-exact c = exact_text _ _ (name_fails _ _ c.in-Err.ensures)

pub returns-in-Err-points_in-clause-exact : goal.returns-in-Err-points_in-clause-exact
returns-in-Err-points_in-clause-exact c = exact_text _ _ (points_fail _ _ _ c.in-Ok.ensures c.in-Err-points_in.ensures.answer)

pub returns-in-Err-make-clause-answer : goal.returns-in-Err-make-clause-answer
returns-in-Err-make-clause-answer c =
    let S = c.in-Ok-points_in.list.items in
    (c.in-Ok.name, S, _, gives_points _ _ S S (length S) _ c.in-Ok.ensures c.in-Ok-points_in.ensures.answer refl refl refl, (c.in-Err-make.ensures.fault c.in-Err-make.bad).0 refl)

pub returns-in-Err-make-clause-exact : goal.returns-in-Err-make-clause-exact
returns-in-Err-make-clause-exact c =
    let S = c.in-Ok-points_in.list.items in
    exact_bad _ c.in-Ok.name S _ c.in-Err-make.bad (gives_points _ _ S S (length S) _ c.in-Ok.ensures c.in-Ok-points_in.ensures.answer refl refl refl)
    ((c.in-Err-make.ensures.fault c.in-Err-make.bad).0 refl) (λ b f. err_same ((c.in-Err-make.ensures.fault b).1 f)) (λ ok. false≢true (c.in-Err-make.ensures.accepted.1 ok))

pub returns-in-Ok-costs_in-clause-answer : goal.returns-in-Ok-costs_in-clause-answer
returns-in-Ok-costs_in-clause-answer c =
    let costs = c.in-Ok-costs_in.ensures in
    (costs.0, gives_points _ _ _ c.in-Ok-make.points _ _ c.in-Ok.ensures c.in-Ok-points_in.ensures.answer c.in-Ok-make.ensures.list c.len.ensures.count costs.1, costs.2)

pub returns-in-Ok-costs_in-clause-exact : goal.returns-in-Ok-costs_in-clause-exact
returns-in-Ok-costs_in-clause-exact c =
    let costs = c.in-Ok-costs_in.ensures in
    exact_ok _ c.in-Ok.name c.in-Ok-make.points costs.0 _ (gives_points _ _ _ c.in-Ok-make.points _ _ c.in-Ok.ensures c.in-Ok-points_in.ensures.answer c.in-Ok-make.ensures.list c.len.ensures.count costs.1)
    (λ b f. ok_err ((c.in-Ok-make.ensures.fault b).1 (subst (λ S. IsFault S b) c.in-Ok-make.ensures.list f)))

pub returns-in-Err-costs_in-clause-answer : goal.returns-in-Err-costs_in-clause-answer
returns-in-Err-costs_in-clause-answer c =
    told_costs _ c.in-Ok.name c.in-Ok-make.points _ c.in-Err-costs_in.fault (gives_points _ _ _ c.in-Ok-make.points _ _ c.in-Ok.ensures c.in-Ok-points_in.ensures.answer c.in-Ok-make.ensures.list c.len.ensures.count refl)
    c.len.ensures.accepted c.in-Err-costs_in.ensures

pub returns-in-Err-costs_in-clause-exact : goal.returns-in-Err-costs_in-clause-exact
returns-in-Err-costs_in-clause-exact c =
    exact_costs _ c.in-Ok.name c.in-Ok-make.points _ c.in-Err-costs_in.fault (gives_points _ _ _ c.in-Ok-make.points _ _ c.in-Ok.ensures c.in-Ok-points_in.ensures.answer c.in-Ok-make.ensures.list c.len.ensures.count refl)
    c.len.ensures.accepted (λ b f. ok_err ((c.in-Ok-make.ensures.fault b).1 (subst (λ S. IsFault S b) c.in-Ok-make.ensures.list f))) c.in-Err-costs_in.ensures
