use Rattle.std.proofs.Common.{sym, subst, arith}
use Rattle.subdivision.specs.Listing.{Collects}
use Rattle.subdivision.proofs.Collected.{row_begins, row_step}
use Rattle.subdivision.proofs.listing.add_row.Goals as goal

pub loop-k-init : goal.loop-k-init
loop-k-init c = row_begins _ _ _ _ c.requires.distinct

pub loop-k-preserved : goal.loop-k-preserved
loop-k-preserved c =
    row_step c.args.kept_only c.args.list.now.items c.loop-k.list.items c.add_one.new.list.items c.args.star.now.centre c.args.star.now c.loop-k.k c.at-w.result.0 c.at-w.result.1 c.is_wanted.result c.requires.tidy.0
    c.loop-k.invariant c.requires.none c.requires.tidy.1 (omega arith) (sym c.at-w.ensures.entry) c.is_wanted.ensures
    (subst (λ v. Collects c.loop-k.list.items c.add_one.new.list.items v c.at-w.result.0 c.is_wanted.result) c.centre.ensures.centre c.in_ok-add_one.ensures)
