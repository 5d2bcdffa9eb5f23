use Rattle.std.proofs.Common.{sym, arith, ℕ, ◌<◌, ◌+◌, length}
use borrow.Author.Count.{below_more}
use Rattle.crossings.specs.Crossings.{DoCrossAt}
use Rattle.cp_judge.proofs.Items.{crossing_found, plane_from}
use Rattle.cp_judge.proofs.crossing.first_crossing.Goals as goal

pub returns-in-Some : goal.returns-in-Some
returns-in-Some c =
    crossing_found c.args.points.now c.args.list.now c.loop-a.a c.in-Some.b c.index-list-a.result c.index-list-b.result
    (c.loop-a-test.true, sym c.index-list-a.is) (c.in-Some.ensures.1, sym c.index-list-b.is) c.in-Some.ensures.0 c.in-Some.ensures.2
    c.loop-a.invariant c.in-Some.ensures.3

pub loop-a-preserved : goal.loop-a-preserved
loop-a-preserved c =
    let P : ℕ → Type 0 = λ k. (m : ℕ) → k < m → m < length c.args.list.now → ¬ DoCrossAt c.args.points.now c.args.list.now k m in
    let more : (k : ℕ) → k < c.loop-a.a + 1 → P k =
    below_more P c.loop-a.a (λ k l m. c.loop-a.invariant k m l) (λ m. c.in_default.ensures m) in
    λ k m l. more k l m

pub returns : goal.returns
returns c = plane_from c.args.points.now c.args.list.now (λ k m l n. c.loop-a.invariant k m (omega arith) l n)
