use Rattle.std.proofs.Common.{sym, arith}
use Rattle.std.proofs.lemmas.List.Elements.{All-from_get_or}
use Rattle.partition_defs.specs.Partition.{Joins}
use Rattle.cp_judge.specs.declared.turning.End.{End}
use Rattle.cp_judge.proofs.Rounds.{two_more}
use Rattle.cp_judge.proofs.turning.copy_ends.Goals as goal

pub loop-k-preserved : goal.loop-k-preserved
loop-k-preserved c =
    two_more c.args.list.now c.loop-k.ends c.loop-k.k c.index-list-k.result _ _ _ (omega arith) (c.loop-k-test.true, sym c.index-list-k.is)
    c.lo-i.ensures c.hi-j.ensures c.hi-j.ensures c.lo-i.ensures c.loop-k.invariant

pub returns : goal.returns
returns c = All-from_get_or (λ (z : End). Joins c.args.list.now z.at z.to) c.loop-k.ends _ (λ i l. c.loop-k.invariant i (omega arith))
