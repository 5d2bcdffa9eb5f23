use Rattle.std.proofs.Common.{◌≡◌, List, get_or, sym, ◌∙◌, ap}
use Rattle.std.proofs.lemmas.Bool.{false≢true}
use Rattle.price_defs.specs.declared.row.Row.{Row}
use Rattle.price_defs.specs.Loads.{given}
use Rattle.price_defs.proofs.laws.Counted.{given_yes, given_no}
use Rattle.price_defs.specs.Rows.{row_at}
use Rattle.point_rows.specs.Placed.{Placed}
use Rattle.point_rows.proofs.Chains.{row_read}
use Rattle.point_rows.proofs.point_rows.PointRows.given.Goals as goal

pub returns-then-is_counted : goal.returns-then-is_counted
returns-then-is_counted c =
    let rows : c.self.inside.rows.items ≡ c.args.self.now.rows = ap (λ (z : Placed). z.rows) c.self.view_is in
    let r : c.index-row.result.now ≡ row_at c.args.self.now.rows c.args.k = row_read c.args.self.now.rows c.args.k c.index-row.result.now c.requires.place (c.index-row.ensures ∙ ap (λ (xs : List Row). get_or xs c.args.k c.index-row.result.now) rows) in
    c.weight_of.ensures ∙ sym (given_yes c.args.points.now c.index-row.result.now c.args.p c.args.r (c.is_counted.ensures.0 c.if-is_counted.true)) ∙ ap (given c.args.points.now c.args.p c.args.r) r

pub returns-else-is_counted : goal.returns-else-is_counted
returns-else-is_counted c =
    let rows : c.self.inside.rows.items ≡ c.args.self.now.rows = ap (λ (z : Placed). z.rows) c.self.view_is in
    let r : c.index-row.result.now ≡ row_at c.args.self.now.rows c.args.k = row_read c.args.self.now.rows c.args.k c.index-row.result.now c.requires.place (c.index-row.ensures ∙ ap (λ (xs : List Row). get_or xs c.args.k c.index-row.result.now) rows) in
    sym (given_no c.args.points.now c.index-row.result.now c.args.p c.args.r (λ h. false≢true (sym c.if-is_counted.false ∙ c.is_counted.ensures.1 h))) ∙ ap (given c.args.points.now c.args.p c.args.r) r
