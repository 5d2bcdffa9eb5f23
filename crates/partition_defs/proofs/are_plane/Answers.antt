use Rattle.std.proofs.Common.{sym, rules, arith}
use Rattle.plane.specs.declared.segment.Pair.{Pair}
use Rattle.partition_defs.specs.Partition.{CrossesNone}
use Rattle.number_laws.proofs.Loops.{more_items}
use Rattle.partition_defs.proofs.are_plane.Goals as goal

pub crosses_none-requires : goal.crosses_none-requires
crosses_none-requires c = record {
  within = c.requires;
  end = c.requires c.e-item.result (c.loop-e.e-index, c.loop-e-test.true, sym c.e-item.is);
}

pub loop-e-preserved : goal.loop-e-preserved
loop-e-preserved c =
    more_items (λ (e : Pair). CrossesNone c.args.points.now c.args.list.now e) c.args.list.now c.loop-e.e-index c.e-item.result
    c.e-item.is c.loop-e-test.true (c.crosses_none.ensures.0 (search rules)) c.loop-e.invariant

pub returns : goal.returns
returns c = (λ _ e f h. c.loop-e.invariant h.0 e (omega (arith, h.1)) h.2 f, search rules)
