use Rattle.std.proofs.Common.{rules, arith, ◌≡◌, ◌<◌, length, sym, ap, ◌∙◌, subst}
use mathlib.Core.Option.{some-injective}
use Rattle.core.specs.Mem.Slots.{slots_items, slots_counts}
use Rattle.index_sets.proofs.Laws.{get_elem?-inside}
use Rattle.vertex_claims.specs.Holding.{ClaimsSeen}
use Rattle.vertex_claims.proofs.Lists.{slice_get-is_there}
use Rattle.vertex_claims.proofs.Moves.{closed_cells}
use Rattle.vertex_claims.proofs.holding.Claims.close.Goals as goal

pub unpack-requires-clause-filled : goal.unpack-requires-clause-filled
unpack-requires-clause-filled g c i lt =
    let seat = c.join_all-seat.result in
    let has_all = c.join_all-seat.ensures.all in
    let values = c.close_with.ensures.values in
    let k = closed_cells g.C.Held.fits c.self.inside.table.shared.key _ _ _ _ values.2 (search rules) has_all.bare i (let z = (slots_counts c.close_with.result.slots).0 in omega arith) in
    (k.0, k.1)

pub returns-clause-cells : goal.returns-clause-cells
returns-clause-cells g c i x is =
    let at = slice_get-is_there c.unpack.result.items i x is in
    let has_all = c.join_all-seat.ensures.all in
    let values = c.close_with.ensures.values in
    let out = c.unpack.ensures in
    let inside : i < length (slots_items c.close_with.result.slots) = let z = get_elem?-inside c.unpack.result.items i x at in let y = out.count in let w = (slots_counts c.close_with.result.slots).0 in search rules in
    let k = closed_cells g.C.Held.fits c.self.inside.table.shared.key _ _ _ _ values.2 (search rules) has_all.bare i inside in
    let same : k.0 ≡ x = some-injective _ _ (sym (out.each i k.0 k.1) ∙ at) in
    subst (λ (r : g.row.C-Root.Denot). g.C.Held.fits r i x) (ap (λ (z : ClaimsSeen g.row.C-Root.Denot). z.root) c.self.view_is) (subst (g.C.Held.fits c.self.inside.table.shared.key.root.value i) same k.2)
