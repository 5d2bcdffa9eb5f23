use Rattle.std.proofs.Common.{List, get_or, ◌∙◌, ap}
use Rattle.price_defs.specs.declared.row.Row.{Row}
use Rattle.bound_worker.proofs.Settled.{elsewhere_settled, raised_settled}
use Rattle.bound_worker.proofs.raising.settle_row.Goals as goal

pub returns-then-is_elsewhere-clause-rows : goal.returns-then-is_elsewhere-clause-rows
returns-then-is_elsewhere-clause-rows c =
    (elsewhere_settled c.args.points.now c.args.costs.now c.args.q c.args.p c.args.k c.args.kept.now.rows c.index-rows-k.result c.args.ends.now.items c.as_slice.result.now c.requires.place
    (c.index-rows-k.is ∙ ap (λ (x : List Row). get_or x c.args.k c.index-rows-k.result) c.rows.ensures.rows) (c.is_elsewhere.ensures c.if-is_elsewhere.true) c.as_slice.ensures.value c.requires.valid c.requires.settled).0

pub returns-then-is_elsewhere-clause-settled : goal.returns-then-is_elsewhere-clause-settled
returns-then-is_elsewhere-clause-settled c =
    (elsewhere_settled c.args.points.now c.args.costs.now c.args.q c.args.p c.args.k c.args.kept.now.rows c.index-rows-k.result c.args.ends.now.items c.as_slice.result.now c.requires.place
    (c.index-rows-k.is ∙ ap (λ (x : List Row). get_or x c.args.k c.index-rows-k.result) c.rows.ensures.rows) (c.is_elsewhere.ensures c.if-is_elsewhere.true) c.as_slice.ensures.value c.requires.valid c.requires.settled).1

pub returns-clause-settled : goal.returns-clause-settled
returns-clause-settled c =
    raised_settled c.args.points.now c.args.costs.now c.args.q c.args.p c.args.k c.args.kept.now.rows c.fill_row.new.kept.rows c.args.ends.now.items c.fill_row.new.ends.items c.fill_row.ensures.rows c.fill_row.ensures.ends c.requires.valid c.requires.settled
