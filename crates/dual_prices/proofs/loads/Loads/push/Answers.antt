use Rattle.std.proofs.Common.{◌≡◌, ℤ, pos, List, length, to_z, w64, sym, ◌∙◌, ap, subst, arith}
use Rattle.std.proofs.lemmas.Int.{ints}
use Rattle.plane.specs.declared.coordinates.Point.{Point}
use Rattle.price_defs.specs.declared.row.Row.{Row}
use Rattle.price_defs.specs.Rows.{IsRight, weight}
use Rattle.dual_prices.specs.Kept.{Loaded}
use Rattle.dual_prices.specs.Tables.{AreSmall, IsRowAdded, IsLoaded}
use Rattle.dual_prices.proofs.Tables.{loaded_small, loaded_push}
use Rattle.dual_prices.proofs.loads.Loads.push.Goals as goal

pub add_row-requires-clause-small : goal.add_row-requires-clause-small
add_row-requires-clause-small c =
    let s : c.self.inside.points.value ≡ c.args.points.now = ap (λ (z : Loaded). z.points) c.self.view_is ∙ sym c.requires.points in
    subst (λ (S : List Point). AreSmall (length S) c.self.inside.table.items) s (loaded_small c.self.inside.points.value c.self.inside.certificate.rows c.self.inside.table.items c.self.invariant)

pub invariant_of-self : goal.invariant_of-self
invariant_of-self c =
    let s : c.self.inside.points.value ≡ c.args.points.now = ap (λ (z : Loaded). z.points) c.self.view_is ∙ sym c.requires.points in
    let rows : c.self.inside.certificate.rows ≡ c.args.self.now.certificate.rows = ap (λ (z : Loaded). z.certificate.rows) c.self.view_is in
    let b : to_z w64 c.weight_of.result ≡ pos (weight c.args.row) = omega (arith, ints, c.weight_of.ensures, c.requires.weight) in
    let added : IsRowAdded c.self.inside.points.value c.args.row (pos (weight c.args.row)) c.self.inside.table.items c.add_row.new.table.items =
    subst (λ (S : List Point). IsRowAdded S c.args.row (pos (weight c.args.row)) c.self.inside.table.items c.add_row.new.table.items) (sym s)
    (subst (λ (z : ℤ). IsRowAdded c.args.points.now c.args.row z c.self.inside.table.items c.add_row.new.table.items) b c.add_row.ensures) in
    subst (λ (x : List Row). IsLoaded c.self.inside.points.value x c.add_row.new.table.items) (sym c.in-Ok.ensures.added)
    (loaded_push c.self.inside.points.value c.self.inside.certificate.rows c.args.row c.self.inside.table.items c.add_row.new.table.items (omega (arith, ap (λ (x : List Row). length x) rows, c.requires.room))
    (subst (λ (S : List Point). IsRight S c.args.row) (sym s) c.requires.right) c.requires.weight c.self.invariant added)
