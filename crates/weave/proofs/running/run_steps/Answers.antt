use Rattle.std.proofs.Common.{ℕ, List, Option, ◌≡◌, ◌+◌, ◌∷◌, [], ◌++◌, length, take, drop, subst, sym, arith, rules}
use Rattle.plane.specs.Accepted.{AreAccepted}
use Rattle.weave.specs.declared.step.StepAnswer.{StepAnswer}
use Rattle.weave.specs.Woven.{IsWovenInPart}
use Rattle.weave.specs.Owned.{HasStepped, IsWeaving}
use Rattle.weave.proofs.Stepping.{given_back, weaving_more, woven_none, woven_part, woven_still, woven_whole, law_kept}
use Rattle.weave.proofs.running.run_steps.Goals as goal

pub returns-in_err-owners-clause-stopped : goal.returns-in_err-owners-clause-stopped
returns-in_err-owners-clause-stopped c =
    let part : IsWovenInPart c.args.core.now c.args.core.now c.args.steps.now =
    woven_none c.args.core.now c.args.steps.now (subst AreAccepted c.points.ensures.points c.len.ensures.accepted) c.points.ensures.core in
    search rules

pub returns-in_err-answers-clause-stopped : goal.returns-in_err-answers-clause-stopped
returns-in_err-answers-clause-stopped c =
    let part : IsWovenInPart c.args.core.now c.args.core.now c.args.steps.now =
    woven_none c.args.core.now c.args.steps.now (subst AreAccepted c.points.ensures.points c.len.ensures.accepted) c.points.ensures.core in
    search rules

pub returns-in_err-answer-clause-stopped : goal.returns-in_err-answer-clause-stopped
returns-in_err-answer-clause-stopped c =
    let part : IsWovenInPart c.args.core.now c.make_step.new.core c.args.steps.now =
    woven_part c.args.core.now c.loop-step.core c.make_step.new.core c.loop-step.owners.items c.args.steps.now c.loop-step.answers.items c.loop-step.step-index
    (subst AreAccepted c.points.ensures.points c.len.ensures.accepted) c.points.ensures.core c.loop-step.invariant.0 c.in_err-answer.ensures.stopped in
    search rules

pub returns-in_err-push-clause-stopped : goal.returns-in_err-push-clause-stopped
returns-in_err-push-clause-stopped c =
    let stepped : HasStepped c.loop-step.core c.make_step.new.core c.loop-step.owners.items c.make_step.new.owners c.step-item.result c.in_ok-answer.answer =
    subst (λ (xs : List (Option ℕ)). HasStepped c.loop-step.core c.make_step.new.core xs c.make_step.new.owners c.step-item.result c.in_ok-answer.answer) c.deref_mut.ensures.value c.in_ok-answer.ensures.stepped in
    let so : IsWeaving c.args.core.now c.make_step.new.core c.make_step.new.owners c.args.steps.now (c.loop-step.answers.items ++ c.in_ok-answer.answer ∷ []) (c.loop-step.step-index + 1) =
    weaving_more c.args.core.now c.loop-step.core c.make_step.new.core c.loop-step.owners.items c.make_step.new.owners c.args.steps.now c.loop-step.answers.items c.loop-step.step-index c.step-item.result
    c.in_ok-answer.answer c.loop-step-test.true c.step-item.is c.loop-step.invariant.0 stepped in
    let part : IsWovenInPart c.args.core.now c.make_step.new.core c.args.steps.now =
    woven_still c.args.core.now c.make_step.new.core c.make_step.new.owners c.args.steps.now (c.loop-step.answers.items ++ c.in_ok-answer.answer ∷ []) (c.loop-step.step-index + 1)
    (subst AreAccepted c.points.ensures.points c.len.ensures.accepted) c.points.ensures.core so in
    search rules

pub loop-step-preserved : goal.loop-step-preserved
loop-step-preserved c =
    let owners : List (Option ℕ) = c.loop-step.owners.items in
    let stepped : HasStepped c.loop-step.core c.make_step.new.core owners c.make_step.new.owners c.step-item.result c.in_ok-answer.answer =
    subst (λ (xs : List (Option ℕ)). HasStepped c.loop-step.core c.make_step.new.core xs c.make_step.new.owners c.step-item.result c.in_ok-answer.answer) c.deref_mut.ensures.value c.in_ok-answer.ensures.stepped in
    let so : IsWeaving c.args.core.now c.make_step.new.core c.make_step.new.owners c.args.steps.now (c.loop-step.answers.items ++ c.in_ok-answer.answer ∷ []) (c.loop-step.step-index + 1) =
    weaving_more c.args.core.now c.loop-step.core c.make_step.new.core owners c.make_step.new.owners c.args.steps.now c.loop-step.answers.items c.loop-step.step-index c.step-item.result c.in_ok-answer.answer
    c.loop-step-test.true c.step-item.is c.loop-step.invariant.0 stepped in
    let len : c.loop-step.owners.len ≡ length owners = omega (arith, c.loop-step.owners.ok.0) in
    let back = given_back owners c.make_step.new.owners c.loop-step.owners.len stepped.count len in
    let pushed : c.push.new.self.items ≡ c.loop-step.answers.items ++ c.in_ok-answer.answer ∷ [] = c.in_ok-push.ensures.items in
    let all : List (Option ℕ) = take c.loop-step.owners.len (c.make_step.new.owners ++ drop (length c.make_step.new.owners) owners) in (
      subst (λ (xs : List StepAnswer). IsWeaving c.args.core.now c.make_step.new.core all c.args.steps.now xs (c.loop-step.step-index + 1)) (sym pushed)
          (subst (λ (xs : List (Option ℕ)). IsWeaving c.args.core.now c.make_step.new.core xs c.args.steps.now (c.loop-step.answers.items ++ c.in_ok-answer.answer ∷ []) (c.loop-step.step-index + 1)) (sym back) so),
      c.in_ok-answer.ensures.core,
    )

pub returns-clause-woven : goal.returns-clause-woven
returns-clause-woven c =
    woven_whole c.args.core.now c.loop-step.core c.loop-step.owners.items c.args.steps.now c.loop-step.answers.items c.loop-step.step-index c.loop-step-test.false c.loop-step.invariant.0

pub returns-clause-lawful : goal.returns-clause-lawful
returns-clause-lawful c =
    law_kept c.args.core.now c.loop-step.core c.args.steps.now c.loop-step.answers.items (subst AreAccepted c.points.ensures.points c.len.ensures.accepted) c.points.ensures.core
    (woven_whole c.args.core.now c.loop-step.core c.loop-step.owners.items c.args.steps.now c.loop-step.answers.items c.loop-step.step-index c.loop-step-test.false c.loop-step.invariant.0)
