use Rattle.std.proofs.Common.{length, subst, sym, arith, ◌≡◌}
use Rattle.subdivision.specs.Listing.{HasRows}
use Rattle.subdivision.proofs.Collected.{rows_begin, rows_step, rows_apart}
use Rattle.subdivision.proofs.Tidy.{tidy_at, star_read, sorted_rows}
use Rattle.subdivision.proofs.listing.listed.Goals as goal

pub loop-v-init : goal.loop-v-init
loop-v-init c = subst (λ xs. HasRows c.args.kept_only c.args.stars.now xs 0) (sym c.new-list.ensures.items) (rows_begin c.args.kept_only c.args.stars.now)

pub add_row-requires-clause-none : goal.add_row-requires-clause-none
add_row-requires-clause-none c = rows_apart c.args.kept_only c.args.stars.now c.loop-v.list.items c.loop-v.v _ c.loop-v.invariant (tidy_at c.args.stars.now c.loop-v.v _ c.requires c.loop-v-test.true c.index-stars-v.is).0

pub add_row-requires-clause-tidy : goal.add_row-requires-clause-tidy
add_row-requires-clause-tidy c = (length c.args.stars.now, (tidy_at c.args.stars.now c.loop-v.v _ c.requires c.loop-v-test.true c.index-stars-v.is).1)

pub loop-v-preserved : goal.loop-v-preserved
loop-v-preserved c =
    rows_step c.args.kept_only c.args.stars.now c.loop-v.list.items c.add_row.new.list.items c.loop-v.v _ c.index-stars-v.result c.loop-v.invariant c.loop-v-test.true
    (star_read c.args.stars.now c.loop-v.v c.index-stars-v.result c.loop-v-test.true c.index-stars-v.is) (tidy_at c.args.stars.now c.loop-v.v _ c.requires c.loop-v-test.true c.index-stars-v.is).0 c.in_ok-add_row.ensures

pub returns : goal.returns
returns c =
    let end : c.loop-v.v ≡ length c.args.stars.now = omega arith in
    sorted_rows c.args.kept_only c.args.stars.now c.loop-v.list.items c.sort.new.list.items c.requires (subst (HasRows c.args.kept_only c.args.stars.now c.loop-v.list.items) end c.loop-v.invariant) c.in_ok-sort.ensures
