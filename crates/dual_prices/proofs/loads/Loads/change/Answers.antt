use Rattle.std.proofs.Common.{◌≡◌, ◌<◌, ℤ, pos, List, length, get_or, set, to_z, of_z, w64, sym, ◌∙◌, ap, subst, arith}
use Rattle.std.specs.Prelude.{◌+ℤ◌}
use Rattle.std.proofs.lemmas.Int.{ints}
use Rattle.std.proofs.lemmas.List.{get_or_default}
use Rattle.plane.specs.declared.coordinates.Point.{Point}
use Rattle.price_defs.specs.declared.row.Row.{Row}
use Rattle.price_defs.specs.declared.row.Row.TheVariants.{Three}
use Rattle.price_defs.specs.Rows.{row_at, weight}
use Rattle.price_defs.specs.Raising.{reweigh}
use Rattle.dual_prices.specs.Kept.{Loaded}
use Rattle.dual_prices.specs.Tables.{AreSmall, IsStep, IsRowAdded, IsLoaded}
use Rattle.dual_prices.proofs.Tables.{loaded_small, loaded_set, step_between, weight_at}
use Rattle.dual_prices.proofs.loads.Loads.change.Goals as goal

pub add_row-requires-clause-small : goal.add_row-requires-clause-small
add_row-requires-clause-small c =
    let s : c.self.inside.points.value ≡ c.args.points.now = ap (λ (z : Loaded). z.points) c.self.view_is ∙ sym c.requires.points in
    subst (λ (S : List Point). AreSmall (length S) c.self.inside.table.items) s (loaded_small c.self.inside.points.value c.self.inside.certificate.rows c.self.inside.table.items c.self.invariant)

pub invariant_of-self : goal.invariant_of-self
invariant_of-self c =
    let s : c.self.inside.points.value ≡ c.args.points.now = ap (λ (z : Loaded). z.points) c.self.view_is ∙ sym c.requires.points in
    let rows : c.self.inside.certificate.rows ≡ c.args.self.now.certificate.rows = ap (λ (z : Loaded). z.certificate.rows) c.self.view_is in
    let l : c.args.k < length c.self.inside.certificate.rows = omega (arith, ap (λ (x : List Row). length x) rows, c.requires.place) in
    let r : c.index-as_slice-k.result ≡ row_at c.self.inside.certificate.rows c.args.k =
    c.index-as_slice-k.is ∙ ap (λ (x : List Row). get_or x c.args.k c.index-as_slice-k.result) c.as_slice.ensures ∙ get_or_default c.self.inside.certificate.rows c.args.k c.index-as_slice-k.result (Three 0 0) l in
    let by : pos c.args.w ≡ (pos (weight (row_at c.self.inside.certificate.rows c.args.k)) +ℤ c.args.by) =
    subst (λ (x : List Row). pos c.args.w ≡ (pos (weight (row_at x c.args.k)) +ℤ c.args.by)) (sym rows) c.requires.by in
    let step : IsStep c.args.by = step_between (weight (row_at c.self.inside.certificate.rows c.args.k)) c.args.w c.args.by (weight_at c.self.inside.certificate.rows c.args.k l c.self.invariant.light) c.requires.weight by in
    let b : to_z w64 (of_z w64 c.args.by) ≡ c.args.by = omega (arith, ints, step.0, step.1) in
    let added : IsRowAdded c.self.inside.points.value (row_at c.self.inside.certificate.rows c.args.k) c.args.by c.self.inside.table.items c.add_row.new.table.items =
    subst (λ (S : List Point). IsRowAdded S (row_at c.self.inside.certificate.rows c.args.k) c.args.by c.self.inside.table.items c.add_row.new.table.items) (sym s)
    (subst (λ (x : Row). IsRowAdded c.args.points.now x c.args.by c.self.inside.table.items c.add_row.new.table.items) r
    (subst (λ (z : ℤ). IsRowAdded c.args.points.now c.index-as_slice-k.result z c.self.inside.table.items c.add_row.new.table.items) b c.add_row.ensures)) in
    let e : c.set.new.self ≡ set c.self.inside.certificate.rows c.args.k (reweigh (row_at c.self.inside.certificate.rows c.args.k) c.args.w) =
    c.set.ensures ∙ ap (λ (x : Row). set c.self.inside.certificate.rows c.args.k x) (c.reweighed.ensures ∙ ap (λ (x : Row). reweigh x c.args.w) r) in
    subst (λ (x : List Row). IsLoaded c.self.inside.points.value x c.add_row.new.table.items) (sym e)
    (loaded_set c.self.inside.points.value c.self.inside.certificate.rows c.args.k c.args.w c.args.by c.self.inside.table.items c.add_row.new.table.items l c.requires.weight by c.self.invariant added)
