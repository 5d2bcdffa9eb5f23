use Rattle.std.proofs.Common.{◌≡◌, ◌≤◌, ◌*◌, ◌+◌, ℕ, List, take, sym, subst}
use Rattle.std.specs.List.{sum_by}
use Rattle.plane.specs.declared.segment.Pair.{Pair}
use Rattle.price_defs.specs.Loads.{takes}
use Rattle.price_defs.specs.Rows.{weight}
use Rattle.point_rows.specs.Takers.{taken, all_taken}
use Rattle.point_rows.proofs.Taking.{taken_more, all_more}
use Rattle.point_rows.proofs.takers.listed.Goals as goal

pub loop-row-preserved : goal.loop-row-preserved
loop-row-preserved c =
    subst (λ (T : List (Pair × ℕ)). ((i j : ℕ) → taken T i j ≡ takes (take (c.loop-row.row-index + 1) c.args.rows.now) i j) × (all_taken T ≤ 2 * sum_by weight (take (c.loop-row.row-index + 1) c.args.rows.now)))
    (sym c.in_ok-push_takings.ensures) (
      taken_more c.loop-row.list.items c.args.rows.now c.loop-row.row-index c.row-item.result c.row-item.is c.loop-row-test.true c.loop-row.invariant.0,
      all_more c.loop-row.list.items c.args.rows.now c.loop-row.row-index c.row-item.result c.row-item.is c.loop-row-test.true c.loop-row.invariant.1,
    )
