use Rattle.std.proofs.Common.{sym, ◌∙◌, rules}
use Rattle.std.proofs.lemmas.Bool.{false≢true}
use Rattle.plane.specs.declared.segment.Pair.{Pair}
use Rattle.plane.specs.Geometry.{AreCrossing}
use Rattle.number_laws.proofs.Loops.{more_items}
use Rattle.tree_defs.proofs.plain.crosses_some.Goals as goal

pub cross-requires : goal.cross-requires
cross-requires c = record {
  e_in = c.requires.end;
  f_in = c.requires.within c.f-item.result (c.loop-f.f-index, c.loop-f-test.true, sym c.f-item.is);
}

pub loop-f-preserved : goal.loop-f-preserved
loop-f-preserved c =
    more_items (λ (f : Pair). ¬ AreCrossing c.args.points.now c.args.e.lo c.args.e.hi f.lo f.hi) c.args.list.now c.loop-f.f-index c.f-item.result
    c.f-item.is c.loop-f-test.true (λ h. false≢true (sym c.if-cross.false ∙ c.cross.ensures.1 h)) c.loop-f.invariant

pub returns-then-cross : goal.returns-then-cross
returns-then-cross c = (λ _. (c.f-item.result, (c.loop-f.f-index, c.loop-f-test.true, sym c.f-item.is), c.cross.ensures.0 (search rules)), search rules)
