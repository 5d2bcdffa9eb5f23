use Rattle.std.proofs.Common.{ℕ, List, get_or, sym, ◌∙◌, ap}
use Rattle.price_defs.specs.declared.row.Row.{Row}
use Rattle.dual_prices.proofs.Standing.{IsStanding, none_there, full_end_of}
use Rattle.dual_prices.proofs.raising.full_end.Goals as goal

pub unreachable-requires : goal.unreachable-requires
unreachable-requires c =
    let at : IsStanding c.args.points.now c.args.kept.now.rows c.args.k c.in-Some.p c.index-rows-k.result = record { place = c.requires.place; is = c.index-rows-k.is ∙ ap (λ (x : List Row). get_or x c.args.k c.index-rows-k.result) c.rows.ensures.rows; stands = sym c.in-Some.ensures } in
    none_there c.args.points.now c.args.costs.now c.args.q c.args.kept.now.rows c.args.k c.in-Some.p c.index-rows-k.result c.len-count.ensures.accepted at c.requires.valid c.in-None.ensures

pub returns : goal.returns
returns c =
    let at : IsStanding c.args.points.now c.args.kept.now.rows c.args.k c.in-Some.p c.index-rows-k.result = record { place = c.requires.place; is = c.index-rows-k.is ∙ ap (λ (x : List Row). get_or x c.args.k c.index-rows-k.result) c.rows.ensures.rows; stands = sym c.in-Some.ensures } in
    full_end_of c.args.points.now c.args.costs.now c.args.q c.args.k c.in-Some.p c.args.kept.now.rows c.index-rows-k.result c.in-Some-least_room.room c.requires.place at.is at.stands c.requires.tight c.in-Some-least_room.ensures
