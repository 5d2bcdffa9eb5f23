use Rattle.std.proofs.Common.{rules, length, take, drop, ◌-◌}
use Rattle.std.proofs.lemmas.List.Sorted.{IsPartitionPoint-from_clause, IsPartitionedBy-ltb, IsPartitionedBy-leb, IsNonDecreasingBy-drop, IsNonDecreasingBy-take}
use lib.Dec.{ltb, leb}
use Rattle.triangulation_check.specs.declared.ends.End.{End}
use Rattle.triangulation_check.proofs.Runs.{run_is}
use Rattle.triangulation_check.proofs.ends.run_of.Goals as goal

pub returns : goal.returns
returns c =
    let Z = c.args.ends.now in
    let f = c.partition_point-first.result in
    let rest = take (length Z - f) (drop f Z) in
    let kept = IsNonDecreasingBy-take (λ (z : End). z.at) (length Z - f) (drop f Z) (IsNonDecreasingBy-drop (λ (z : End). z.at) f Z c.requires) in
    let first = IsPartitionPoint-from_clause (λ (z : End). ltb z.at c.args.p) Z f c.partition_point-first.ensures.partitioned (IsPartitionedBy-ltb (λ (z : End). z.at) Z c.args.p c.requires) (λ a r q k. search rules) in
    let last = IsPartitionPoint-from_clause (λ (z : End). leb z.at c.args.p) rest c.partition_point-count.result c.partition_point-count.ensures.partitioned (IsPartitionedBy-leb (λ (z : End). z.at) rest c.args.p kept) (λ a r q k. search rules) in
    run_is Z f c.partition_point-count.result c.args.p c.partition_point-first.ensures.bound c.partition_point-count.ensures.bound first last
