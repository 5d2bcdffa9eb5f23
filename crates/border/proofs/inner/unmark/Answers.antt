use Rattle.std.proofs.Common.{get_or, set, false, refl, ◌∙◌, arith}
use Rattle.std.proofs.lemmas.List.{length-set}
use Rattle.border.proofs.Marks.{others_begin, others_more}
use Rattle.border.proofs.inner.unmark.Goals as goal

pub loop-v-init : goal.loop-v-init
loop-v-init c = (others_begin c.args.list.now c.args.marks.now.items c.requires.all, refl)

pub loop-v-preserved : goal.loop-v-preserved
loop-v-preserved c =
    let w = get_or c.args.list.now c.loop-v.v-index 0 in (
      others_more c.args.list.now c.loop-v.v-index w c.loop-v.marks.items (set c.loop-v.marks.items w false) (omega (arith, c.requires.places c.loop-v.v-index c.loop-v-test.true, c.loop-v.invariant.1)) refl refl c.loop-v.invariant.0,
      length-set c.loop-v.marks.items w false ∙ c.loop-v.invariant.1,
    )
