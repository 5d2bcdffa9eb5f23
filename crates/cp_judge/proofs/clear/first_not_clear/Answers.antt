use Rattle.std.proofs.Common.{sym}
use Rattle.cp_judge.proofs.Items.{not_clear_found, clear_more}
use Rattle.cp_judge.proofs.Placed.{corners_replicate}
use Rattle.cp_judge.proofs.clear.first_not_clear.Goals as goal

pub first_between-requires-clause-within : goal.first_between-requires-clause-within
first_between-requires-clause-within c = c.requires c.e-item.result (c.loop-e.e-index, c.loop-e-test.true, sym c.e-item.is)

pub returns-in-Some : goal.returns-in-Some
returns-in-Some c =
    not_clear_found c.args.points.now c.args.list.now c.loop-e.e-index c.e-item.result c.in-Some.p (c.loop-e-test.true, sym c.e-item.is)
    c.in-Some.ensures c.loop-e.invariant

pub set_blocks-requires-clause-corners : goal.set_blocks-requires-clause-corners
set_blocks-requires-clause-corners c = corners_replicate 157 c.around-bounds.result c.around-bounds.ensures.near

pub set_blocks-requires-clause-strip_corners : goal.set_blocks-requires-clause-strip_corners
set_blocks-requires-clause-strip_corners c = corners_replicate 18 c.around-strips.result c.around-strips.ensures.near

pub loop-e-preserved : goal.loop-e-preserved
loop-e-preserved c =
    clear_more c.args.points.now c.args.list.now c.loop-e.e-index c.e-item.result (c.loop-e-test.true, sym c.e-item.is) c.in_default.ensures c.loop-e.invariant
