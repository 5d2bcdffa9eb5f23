use Rattle.std.proofs.Common.{rules}
use Rattle.std.proofs.lemmas.List.Sorted.{IsPermutation-put_mid}
use Rattle.cp_judge.proofs.blocks.arrange_strip.Goals as goal

pub returns-then-from-to : goal.returns-then-from-to
returns-then-from-to c = search (rules, IsPermutation-put_mid)
