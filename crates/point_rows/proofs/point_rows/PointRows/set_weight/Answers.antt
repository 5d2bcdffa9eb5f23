use Rattle.std.proofs.Common.{◌≡◌, ◌<◌, List, length, set, sym, ◌∙◌, ap, subst, arith}
use Rattle.price_defs.specs.declared.row.Row.{Row}
use Rattle.price_defs.specs.Raising.{reweigh}
use Rattle.price_defs.specs.Tight.{IsAtPoint}
use Rattle.price_defs.specs.Rows.{row_at}
use Rattle.point_rows.specs.Placed.{Placed, IsKept}
use Rattle.point_rows.proofs.Chains.{row_read}
use Rattle.point_rows.proofs.Kept.{kept_set}
use Rattle.point_rows.proofs.point_rows.PointRows.set_weight.Goals as goal

pub invariant_of-self : goal.invariant_of-self
invariant_of-self c =
    let rows : c.self.inside.rows.items ≡ c.args.self.now.rows = ap (λ (z : Placed). z.rows) c.self.view_is in
    let l : c.args.k < length c.self.inside.rows.items = omega (arith, ap (λ (x : List Row). length x) rows, c.requires.place) in
    let r : c.index.result.now ≡ row_at c.self.inside.rows.items c.args.k = row_read c.self.inside.rows.items c.args.k c.index.result.now l c.index.ensures in
    let a : IsAtPoint (row_at c.self.inside.rows.items c.args.k) = subst (λ (x : List Row). IsAtPoint (row_at x c.args.k)) (sym rows) c.requires.at_point in
    let e : c.reweighed-row.result ≡ reweigh (row_at c.self.inside.rows.items c.args.k) c.args.w = c.reweighed-row.ensures ∙ ap (λ (x : Row). reweigh x c.args.w) r in
    subst (λ (x : Row). IsKept c.self.inside.points.value (set c.self.inside.rows.items c.args.k x) c.self.inside.last.items c.self.inside.before.items c.self.inside.takers) (sym e)
    (kept_set c.self.inside.points.value c.self.inside.rows.items c.self.inside.last.items c.self.inside.before.items c.self.inside.takers c.args.k c.args.w l a c.requires.weight c.self.invariant)
