use Rattle.std.proofs.lemmas.List.Sorted.{IsPermutation-trans}
use Rattle.cp_judge.proofs.blocks.arrange.Goals as goal

pub loop-i-preserved : goal.loop-i-preserved
loop-i-preserved c = IsPermutation-trans _ _ _ c.loop-i.invariant c.arrange_strip.ensures
