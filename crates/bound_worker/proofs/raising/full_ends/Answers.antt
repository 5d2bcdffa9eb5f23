use Rattle.std.proofs.Common.{◌≡◌, ◌+◌, ℕ, List, length, sym, ap, subst, arith}
use Rattle.bound_worker.proofs.Settled.{AreNoted, noted_more, noted_all}
use Rattle.bound_worker.proofs.raising.full_ends.Goals as goal

pub loop-k-preserved : goal.loop-k-preserved
loop-k-preserved c =
    subst (λ (x : List ℕ). AreNoted c.args.points.now c.args.costs.now c.args.q (c.loop-k.k + 1) c.args.kept.now.rows x) (sym c.in_ok-push.ensures.items)
    (noted_more c.args.points.now c.args.costs.now c.args.q c.loop-k.k c.full_end.result c.args.kept.now.rows c.loop-k.ends.items c.full_end.ensures c.loop-k.invariant)

pub returns : goal.returns
returns c =
    noted_all c.args.points.now c.args.costs.now c.args.q c.loop-k.k c.args.kept.now.rows c.loop-k.ends.items (let e : c.loop-k.k ≡ length c.args.kept.now.rows = omega (arith, ap length c.rows.ensures.rows) in e) c.loop-k.invariant
