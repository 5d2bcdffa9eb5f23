use Rattle.std.proofs.Common.{sym, rules, arith, ◌<◌, length}
use Rattle.partition_defs.specs.Partition.{AreWithin}
use Rattle.partition_defs.proofs.are_within.Goals as goal

pub returns-then-hi-len : goal.returns-then-hi-len
returns-then-hi-len c =
    let has : AreWithin c.args.points.now c.args.list.now → c.e-item.result.hi < length c.args.points.now =
    λ h. h c.e-item.result (c.loop-e.e-index, c.loop-e-test.true, sym c.e-item.is) in
    (search rules, λ h. absurd (omega (arith, has h)))
