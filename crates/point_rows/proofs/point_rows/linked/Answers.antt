use Rattle.std.proofs.Common.{◌∙◌, ◌++◌, ◌∷◌, [], ℕ, List, Option, ap, sym, subst, arith}
use Rattle.std.proofs.lemmas.List.Elements.{All-contains, Contains-get_or}
use Rattle.price_defs.specs.declared.row.Row.{Row}
use Rattle.price_defs.specs.Rows.{IsRight, stand}
use Rattle.point_rows.specs.Placed.{at_stand}
use Rattle.point_rows.proofs.Links.{stand_within, linked_step}
use Rattle.point_rows.proofs.point_rows.linked.Goals as goal

pub loop-k-preserved : goal.loop-k-preserved
loop-k-preserved c =
    let row : Row = c.index-rows-k.result in
    let right : IsRight c.args.points.now c.index-rows-k.result =
    subst (IsRight c.args.points.now) (sym c.index-rows-k.is) (All-contains (IsRight c.args.points.now) c.args.rows.now _ c.requires.right (Contains-get_or c.args.rows.now c.loop-k.k c.index-rows-k.result c.loop-k-test.true)) in
    linked_step c.args.points.now c.args.rows.now c.loop-k.k c.index-rows-k.result c.loop-k.last.items c.loop-k.before.items _ _ (omega (arith, c.loop-k-test.true)) c.index-rows-k.is
    (stand_within c.args.points.now c.index-rows-k.result c.loop-k.last.items right c.loop-k.invariant.1)
    c.note.ensures
    (c.in_ok-push.ensures.items ∙ ap (λ (o : Option ℕ). c.loop-k.before.items ++ o ∷ []) (c.last_at.ensures ∙ ap (λ (x : List (Option ℕ)). at_stand x (stand c.index-rows-k.result)) c.as_slice.ensures.value))
    c.loop-k.invariant
