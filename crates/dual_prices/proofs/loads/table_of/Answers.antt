use Rattle.std.proofs.Common.{◌≡◌, ◌≤◌, ℤ, pos, to_z, w64, sym, subst, arith}
use Rattle.std.proofs.lemmas.Int.{ints}
use Rattle.std.proofs.lemmas.List.Elements.{All-contains}
use Rattle.price_defs.specs.declared.row.Row.{Row}
use Rattle.price_defs.specs.Rows.{weight}
use Rattle.dual_prices.specs.Tables.{IsRowAdded}
use Rattle.dual_prices.proofs.Tables.{take_small, table_step}
use Rattle.dual_prices.proofs.loads.table_of.Goals as goal

pub add_row-requires-clause-small : goal.add_row-requires-clause-small
add_row-requires-clause-small c = take_small c.args.points.now c.args.rows.now c.loop-k.k c.loop-k.table.items c.requires.few c.requires.light c.loop-k.invariant

pub loop-k-preserved : goal.loop-k-preserved
loop-k-preserved c =
    let w : weight c.index-rows-k.result ≤ 1000000000000 = All-contains (λ (row : Row). weight row ≤ 1000000000000) c.args.rows.now c.index-rows-k.result c.requires.light (c.loop-k.k, c.loop-k-test.true, sym c.index-rows-k.is) in
    let b : to_z w64 c.weight_of.result ≡ pos (weight c.index-rows-k.result) = omega (arith, ints, c.weight_of.ensures, w) in
    table_step c.args.points.now c.args.rows.now c.loop-k.k c.index-rows-k.result c.loop-k.table.items c.add_row.new.table.items c.loop-k-test.true c.index-rows-k.is c.loop-k.invariant
    (subst (λ (z : ℤ). IsRowAdded c.args.points.now c.index-rows-k.result z c.loop-k.table.items c.add_row.new.table.items) b c.add_row.ensures)
