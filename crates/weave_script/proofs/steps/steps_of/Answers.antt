use Rattle.std.proofs.Common.{ap, ◌∙◌, arith, map, inr}
use Rattle.serde_json.specs.View.{view}
use Rattle.json_text.proofs.Laws.{none_before-next}
use Rattle.weave_script.specs.Scripts.{step_item}
use Rattle.weave_script.proofs.StepLists.{is_no_step, bad_step, is_step, one_more, all_steps}
use Rattle.weave_script.proofs.steps.steps_of.Goals as goal

pub returns-in_default-step_of : goal.returns-in_default-step_of
returns-in_default-step_of c =
    inr (
      tt,
      bad_step c.args.n c.args.items.now c.loop-place.place c.index-items-place.result c.requires (omega arith) c.index-items-place.is c.loop-place.invariant.0 c.in_default-step_of.ensures,
    )

pub loop-place-preserved : goal.loop-place-preserved
loop-place-preserved c = (
  none_before-next (is_no_step c.args.n) c.args.items.now c.loop-place.place c.index-items-place.result (omega arith) c.index-items-place.is c.loop-place.invariant.0 (is_step c.args.n (view c.index-items-place.result) c.in-Some.step c.in-Some.ensures),
  ap (map step_item) c.in-Ok-push.ensures.items ∙ one_more c.args.n c.loop-place.steps.items c.in-Some.step c.args.items.now c.loop-place.place c.index-items-place.result (omega arith) c.index-items-place.is c.loop-place.invariant.1 c.in-Some.ensures,
)

pub returns : goal.returns
returns c = all_steps c.args.n c.loop-place.steps.items c.args.items.now c.loop-place.place c.requires (omega arith) c.loop-place.invariant.0 c.loop-place.invariant.1
