use Rattle.std.proofs.Common.{◌≡◌, ◌≤◌, ◌+◌, ℕ, List, length, take, sym, subst, arith}
use Rattle.price_defs.specs.declared.row.Row.{Row}
use Rattle.price_defs.specs.Limits.{AreLight}
use Rattle.given_sums.specs.Sums.{AreSums, AreBelow, IsAdded}
use Rattle.given_sums.proofs.Added.{sums_more, sums_room, written_back}
use Rattle.given_sums.proofs.strip.sums_of.Goals as goal

pub add_row-requires-clause-room : goal.add_row-requires-clause-room
add_row-requires-clause-room c =
    let rows : c.as_slice-rows.result.now ≡ c.args.rows.now = c.as_slice-rows.ensures in
    let few : length c.as_slice-rows.result.now ≤ 200000 = subst (λ (x : List Row). length x ≤ 200000) (sym rows) c.requires.few in
    let light : AreLight c.as_slice-rows.result.now = subst AreLight (sym rows) c.requires.light in
    subst (λ (x : List ℕ). AreBelow 200000000000000000 c.args.width x) (sym c.as_mut_slice.ensures.value)
    (sums_room c.args.points.now c.as_slice-rows.result.now c.loop-k.k c.args.first c.args.width c.loop-k.sums.items few light c.loop-k.invariant)

pub loop-k-preserved : goal.loop-k-preserved
loop-k-preserved c =
    let len : c.loop-k.sums.len ≡ length c.add_row.new.sums = omega (arith, c.add_row.ensures.count, c.as_mut_slice.ensures.len) in
    subst (λ (x : List ℕ). AreSums c.args.points.now (take (c.loop-k.k + 1) c.as_slice-rows.result.now) c.args.first c.args.width x) (sym (written_back c.loop-k.sums.len c.add_row.new.sums _ len))
    (sums_more c.args.points.now c.as_slice-rows.result.now c.loop-k.k c.index-rows-k.result c.args.first c.args.width c.loop-k.sums.items c.add_row.new.sums c.loop-k-test.true c.index-rows-k.is c.loop-k.invariant
    (subst (λ (x : List ℕ). IsAdded c.args.points.now c.index-rows-k.result c.args.first c.args.width x c.add_row.new.sums) c.as_mut_slice.ensures.value c.add_row.ensures))
