use Rattle.std.proofs.Common.{arith, ℕ, ◌<◌, ◌+◌}
use borrow.Author.Count.{below_more}
use Rattle.crossings.specs.Crossings.{DoCrossAt}
use Rattle.number_laws.proofs.Tests.{refused}
use Rattle.cp_judge.proofs.crossing.first_crossed.Goals as goal

pub returns-then-cross_at : goal.returns-then-cross_at
returns-then-cross_at c = (omega arith, c.loop-b-test.true, c.cross_at.ensures.0 c.if-cross_at.true, c.loop-b.invariant)

pub loop-b-preserved : goal.loop-b-preserved
loop-b-preserved c =
    let P : ℕ → Type 0 = λ m. c.args.a < m → ¬ DoCrossAt c.args.points.now c.args.list.now c.args.a m in
    let more : (m : ℕ) → m < c.loop-b.b + 1 → P m =
    below_more P c.loop-b.b (λ m l o. c.loop-b.invariant m o l) (λ _. refused _ _ c.if-cross_at.false c.cross_at.ensures.1) in
    λ m o l. more m l o

pub returns : goal.returns
returns c = λ k l m. c.loop-b.invariant k l (omega arith)
