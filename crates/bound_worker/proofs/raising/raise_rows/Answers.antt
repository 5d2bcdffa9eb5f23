use Rattle.std.proofs.Common.{◌≡◌, ℕ, length, ◌∙◌, ap, subst, arith}
use Rattle.dual_prices.proofs.laws.InPlace.{raising_more, raised_length}
use Rattle.bound_worker.specs.Ends.{AreSettled}
use Rattle.bound_worker.proofs.Settled.{settled_all}
use Rattle.bound_worker.proofs.raising.raise_rows.Goals as goal

pub loop-k-preserved : goal.loop-k-preserved
loop-k-preserved c = record {
  raising = raising_more c.args.points.now c.args.costs.now c.args.q _ c.loop-k.kept.rows c.settle_row.new.kept.rows c.loop-k.k c.requires.small c.list-listed.ensures.costs.within c.settle_row.ensures.rows c.loop-k.invariant.raising;
  points = c.settle_row.ensures.points ∙ c.loop-k.invariant.points;
  count = raised_length c.args.points.now c.args.costs.now c.args.q c.loop-k.kept.rows c.loop-k.k c.settle_row.new.kept.rows c.settle_row.ensures.rows ∙ c.loop-k.invariant.count;
  settled = c.settle_row.ensures.settled;
}

pub returns-clause-ends : goal.returns-clause-ends
returns-clause-ends c =
    settled_all c.args.points.now c.args.costs.now c.args.q c.args.p c.loop-k.kept.rows c.loop-k.ends.items
    (subst (λ (n : ℕ). AreSettled c.args.points.now c.args.costs.now c.args.q c.args.p n c.loop-k.kept.rows c.loop-k.ends.items) (let e : c.loop-k.k ≡ length c.loop-k.kept.rows = omega (arith, ap length c.rows.ensures.rows, c.loop-k.invariant.count) in e) c.loop-k.invariant.settled)
