use Rattle.std.proofs.Common.{◌≡◌, ◌≤◌, ◌<◌, ◌+◌, List, length, get_or, sym, ◌∙◌, ap, refl, arith}
use Rattle.std.proofs.lemmas.List.{get_or_default}
use Rattle.price_defs.specs.declared.row.Row.{Row}
use Rattle.price_defs.specs.declared.row.Row.TheVariants.{Three}
use Rattle.price_defs.specs.Rows.{weight, row_at, stand}
use Rattle.dual_prices.proofs.Standing.{IsStanding, small_there, none_there, raised_there, raised_set, full_after}
use Rattle.dual_prices.proofs.raising.raise_row.Goals as goal

pub overflow_add-weight_of : goal.overflow_add-weight_of
overflow_add-weight_of c =
    let at : IsStanding c.args.points.now c.args.kept.now.rows c.args.k c.in-Some.p c.index-rows-k.result = record { place = c.requires.place; is = c.index-rows-k.is ∙ ap (λ (x : List Row). get_or x c.args.k c.index-rows-k.result) c.rows.ensures.rows; stands = sym c.in-Some.ensures } in
    let s : weight c.index-rows-k.result + c.in-Some-least_room.room.more ≤ 101000000000 =
    small_there c.args.points.now c.args.costs.now c.args.q c.args.kept.now.rows c.args.k c.in-Some.p c.index-rows-k.result c.in-Some-least_room.room at c.requires.valid c.requires.takers c.requires.small c.list-listed.ensures.costs.within c.in-Some-least_room.ensures in
    omega (arith, s, c.weight_of.ensures)

pub set_weight-requires-clause-weight : goal.set_weight-requires-clause-weight
set_weight-requires-clause-weight c =
    let at : IsStanding c.args.points.now c.args.kept.now.rows c.args.k c.in-Some.p c.index-rows-k.result = record { place = c.requires.place; is = c.index-rows-k.is ∙ ap (λ (x : List Row). get_or x c.args.k c.index-rows-k.result) c.rows.ensures.rows; stands = sym c.in-Some.ensures } in
    let s : weight c.index-rows-k.result + c.in-Some-least_room.room.more ≤ 101000000000 =
    small_there c.args.points.now c.args.costs.now c.args.q c.args.kept.now.rows c.args.k c.in-Some.p c.index-rows-k.result c.in-Some-least_room.room at c.requires.valid c.requires.takers c.requires.small c.list-listed.ensures.costs.within c.in-Some-least_room.ensures in
    omega (arith, s, c.weight_of.ensures)

pub unreachable-requires : goal.unreachable-requires
unreachable-requires c =
    let at : IsStanding c.args.points.now c.args.kept.now.rows c.args.k c.in-Some.p c.index-rows-k.result = record { place = c.requires.place; is = c.index-rows-k.is ∙ ap (λ (x : List Row). get_or x c.args.k c.index-rows-k.result) c.rows.ensures.rows; stands = sym c.in-Some.ensures } in
    none_there c.args.points.now c.args.costs.now c.args.q c.args.kept.now.rows c.args.k c.in-Some.p c.index-rows-k.result c.len-count.ensures.accepted at c.requires.valid c.in-None.ensures

pub returns-clause-rows : goal.returns-clause-rows
returns-clause-rows c =
    let at : IsStanding c.args.points.now c.args.kept.now.rows c.args.k c.in-Some.p c.index-rows-k.result = record { place = c.requires.place; is = c.index-rows-k.is ∙ ap (λ (x : List Row). get_or x c.args.k c.index-rows-k.result) c.rows.ensures.rows; stands = sym c.in-Some.ensures } in
    raised_there c.args.points.now c.args.costs.now c.args.q c.args.kept.now.rows _ c.args.k c.in-Some.p c.index-rows-k.result c.in-Some-least_room.room c.weight_of.result at c.requires.valid c.in-Some-least_room.ensures c.weight_of.ensures c.set_weight.ensures.rows

pub returns-in_default-clause-end : goal.returns-in_default-clause-end
returns-in_default-clause-end c =
    let is : c.index-rows-k.result ≡ get_or c.args.kept.now.rows c.args.k c.index-rows-k.result = c.index-rows-k.is ∙ ap (λ (x : List Row). get_or x c.args.k c.index-rows-k.result) c.rows.ensures.rows in
    let here : row_at c.args.kept.now.rows c.args.k ≡ c.index-rows-k.result = sym (is ∙ get_or_default c.args.kept.now.rows c.args.k c.index-rows-k.result (Three 0 0) c.requires.place) in
    ap stand here ∙ sym c.in_default.ensures

pub returns-clause-end : goal.returns-clause-end
returns-clause-end c =
    let at : IsStanding c.args.points.now c.args.kept.now.rows c.args.k c.in-Some.p c.index-rows-k.result = record { place = c.requires.place; is = c.index-rows-k.is ∙ ap (λ (x : List Row). get_or x c.args.k c.index-rows-k.result) c.rows.ensures.rows; stands = sym c.in-Some.ensures } in
    full_after c.args.points.now c.args.costs.now c.args.q c.args.k c.in-Some.p c.args.kept.now.rows c.set_weight.new.self.rows c.index-rows-k.result c.in-Some-least_room.room c.requires.place at.is at.stands c.in-Some-least_room.ensures
    (raised_set c.args.points.now c.args.kept.now.rows c.set_weight.new.self.rows c.args.k c.in-Some.p c.index-rows-k.result c.weight_of.result c.in-Some-least_room.room.more at c.weight_of.ensures c.set_weight.ensures.rows)
