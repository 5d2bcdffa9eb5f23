use Rattle.std.proofs.Common.{◌≡◌, ◌<◌, ◌≤◌, ◌+◌, ℕ, List, length, take, Option, Some, None, sym, ◌∙◌, ap, subst, arith}
use Rattle.std.proofs.lemmas.List.{get_or_default}
use Rattle.price_defs.specs.declared.row.Row.{Row}
use Rattle.price_defs.specs.Loads.{given}
use Rattle.price_defs.specs.Rows.{row_at}
use Rattle.point_rows.specs.Placed.{Placed, entry, IsLastAt}
use Rattle.point_rows.proofs.Chains.{IsWalking, walk_begins, walk_goes_on, walk_small, walk_at, at_small}
use Rattle.point_rows.proofs.point_rows.PointRows.gives_at.Goals as goal

pub loop-next-init : goal.loop-next-init
loop-next-init c =
    let l : c.args.p < length c.self.inside.last.items = omega (arith, c.self.invariant.points, ap length (ap (λ (z : Placed). z.points) c.self.view_is), ap length c.requires.points, c.requires.p_in) in
    let o : c.index-next.result.now ≡ entry c.self.inside.last.items c.args.p = c.index-next.ensures ∙ get_or_default c.self.inside.last.items c.args.p c.index-next.result.now None l in
    walk_begins c.args.points.now c.self.inside.rows.items c.args.p c.args.r c.index-next.result.now
    (subst (IsLastAt c.self.inside.rows.items c.args.p) (sym o) (c.self.invariant.linked.ends c.args.p l))

pub overflow_add-sum : goal.overflow_add-sum
overflow_add-sum c =
    let rows : c.self.inside.rows.items ≡ c.args.self.now.rows = ap (λ (z : Placed). z.rows) c.self.view_is in
    let w : IsWalking c.args.points.now c.self.inside.rows.items c.args.p c.args.r (Some c.in-Some.k) c.loop-next.sum =
    subst (λ (o : Option ℕ). IsWalking c.args.points.now c.self.inside.rows.items c.args.p c.args.r o c.loop-next.sum) c.in-Some.is c.loop-next.invariant in
    let g : c.given-sum.result ≡ given c.args.points.now c.args.p c.args.r (row_at c.self.inside.rows.items c.in-Some.k) =
    c.given-sum.ensures ∙ ap (λ (x : List Row). given c.args.points.now c.args.p c.args.r (row_at x c.in-Some.k)) (sym rows) in
    let s : c.loop-next.sum + c.given-sum.result ≤ 200000000000000000 =
    walk_small c.args.points.now c.self.inside.rows.items c.args.p c.args.r c.in-Some.k c.loop-next.sum c.given-sum.result c.self.invariant.few c.self.invariant.light w g in
    omega (arith, s)

pub loop-next-preserved : goal.loop-next-preserved
loop-next-preserved c =
    let rows : c.self.inside.rows.items ≡ c.args.self.now.rows = ap (λ (z : Placed). z.rows) c.self.view_is in
    let w : IsWalking c.args.points.now c.self.inside.rows.items c.args.p c.args.r (Some c.in-Some.k) c.loop-next.sum =
    subst (λ (o : Option ℕ). IsWalking c.args.points.now c.self.inside.rows.items c.args.p c.args.r o c.loop-next.sum) c.in-Some.is c.loop-next.invariant in
    let g : c.given-sum.result ≡ given c.args.points.now c.args.p c.args.r (row_at c.self.inside.rows.items c.in-Some.k) =
    c.given-sum.ensures ∙ ap (λ (x : List Row). given c.args.points.now c.args.p c.args.r (row_at x c.in-Some.k)) (sym rows) in
    let a = walk_at c.args.points.now c.self.inside.rows.items c.args.p c.args.r c.in-Some.k c.loop-next.sum w in
    let b : c.in-Some.k < length c.self.inside.before.items = omega (arith, c.self.invariant.linked.count, a.0) in
    let o : c.index-next-in-Some.result.now ≡ entry c.self.inside.before.items c.in-Some.k =
    c.index-next-in-Some.ensures ∙ get_or_default c.self.inside.before.items c.in-Some.k c.index-next-in-Some.result.now None b in
    walk_goes_on c.args.points.now c.self.inside.rows.items c.args.p c.args.r c.in-Some.k c.loop-next.sum c.given-sum.result c.index-next-in-Some.result.now w g
    (subst (IsLastAt (take c.in-Some.k c.self.inside.rows.items) c.args.p) (sym o) (c.self.invariant.linked.links c.in-Some.k c.args.p a.0 a.1))

pub returns-clause-small : goal.returns-clause-small
returns-clause-small c =
    omega (arith, c.loop-next.invariant.2, at_small c.args.points.now c.self.inside.rows.items c.args.p c.args.r c.self.invariant.few c.self.invariant.light)
