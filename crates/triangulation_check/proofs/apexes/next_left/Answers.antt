use Rattle.std.proofs.Common.{refl, subst, sym, IfSome}
use Rattle.std.proofs.lemmas.List.Elements.{Contains-get_or}
use Rattle.triangulation_check.specs.Ends.{IsLeftEnd}
use Rattle.triangulation_check.proofs.apexes.next_left.Goals as goal
use Rattle.triangulation_check.proofs.apexes.next_left.Goals.{then-is_better, else-is_better}

pub is_better-requires-clause-s_in : goal.is_better-requires-clause-s_in
is_better-requires-clause-s_in c = c.requires.within _ (Contains-get_or c.args.run.now c.loop-end.end-index _ c.loop-end-test.true)

pub loop-end-preserved : goal.loop-end-preserved
loop-end-preserved c = elim c.if-is_better.branch [
  | then-is_better w ↦ subst (λ b. IfSome b (IsLeftEnd c.args.points.now c.args.run.now c.args.p c.args.q)) (sym w.best-is)
      (let has = Contains-get_or c.args.run.now c.loop-end.end-index _ c.loop-end-test.true in (c.requires.within _ has, (_, has, refl), c.is_better.ensures w.if-is_better.true))
  | else-is_better w ↦ subst (λ b. IfSome b (IsLeftEnd c.args.points.now c.args.run.now c.args.p c.args.q)) (sym w.best-is) c.loop-end.invariant
]
