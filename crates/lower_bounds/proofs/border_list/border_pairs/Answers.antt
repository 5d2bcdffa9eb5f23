use Rattle.std.proofs.Common.{◌≡◌, ◌+◌, ◌<◌, ◌≤◌, ℕ, List, [], ◌∷◌, ◌++◌, length, true, false, sym, ◌∙◌, ap, subst, arith}
use Rattle.std.specs.Prelude.{take}
use Rattle.std.proofs.lemmas.List.{take_more, take_all}
use Rattle.std.proofs.lemmas.Bool.{false≢true}
use Rattle.plane.specs.declared.coordinates.Point.{Point}
use Rattle.plane.specs.declared.segment.Pair.{Pair}
use Rattle.plane.specs.Geometry.{IsBorderPair}
use Rattle.lower_bounds.specs.Border.{AreBorderAmong}
use Rattle.lower_bounds.proofs.Bordered.{border_more, border_less, border_list}
use Rattle.lower_bounds.proofs.border_list.border_pairs.Goals as goal
use Rattle.lower_bounds.proofs.border_list.border_pairs.Goals.{After-is_at_border, then-is_at_border+in_ok-push, else-is_at_border}

-- the pairs gone through, with this one
one_more : (c : After-is_at_border) → take (c.loop-e.e-index + 1) c.args.pairs.now ≡ take c.loop-e.e-index c.args.pairs.now ++ c.e-item.result ∷ []
one_more c =
    take_more c.args.pairs.now c.loop-e.e-index c.e-item.result c.loop-e-test.true
    ∙ ap (λ (e : Pair). take c.loop-e.e-index c.args.pairs.now ++ e ∷ []) (sym c.e-item.is)

with_more : (S : List Point) (e : Pair) (pairs wider found more : List Pair) → wider ≡ pairs ++ e ∷ [] → more ≡ found → AreBorderAmong S (pairs ++ e ∷ []) found → AreBorderAmong S wider more
with_more S e pairs wider found more is same h = subst (λ (x : List Pair). AreBorderAmong S x more) (sym is) (subst (λ (y : List Pair). AreBorderAmong S (pairs ++ e ∷ []) y) (sym same) h)

pub loop-e-preserved : goal.loop-e-preserved
loop-e-preserved c = elim c.if-is_at_border.branch [
  | then-is_at_border+in_ok-push w ↦
      let found : c.if-is_at_border.list.items ≡ c.loop-e.list.items ++ c.e-item.result ∷ [] = ap (λ l. l.items) w.list-is ∙ w.in_ok-push.ensures.items in
      with_more c.args.points.now c.e-item.result _ _ _ _ (one_more c.before) found
      (border_more c.args.points.now (take c.loop-e.e-index c.args.pairs.now) c.loop-e.list.items c.e-item.result c.loop-e.invariant (c.is_at_border.ensures.0 w.if-is_at_border.true))
  | else-is_at_border w ↦
      let found : c.if-is_at_border.list.items ≡ c.loop-e.list.items = ap (λ l. l.items) w.list-is in
      with_more c.args.points.now c.e-item.result _ _ _ _ (one_more c.before) found
      (border_less c.args.points.now (take c.loop-e.e-index c.args.pairs.now) c.loop-e.list.items c.e-item.result c.loop-e.invariant
      (λ at. false≢true (sym w.if-is_at_border.false ∙ c.is_at_border.ensures.1 at)))
]

pub returns : goal.returns
returns c =
    let all : take c.loop-e.e-index c.args.pairs.now ≡ c.args.pairs.now = take_all c.loop-e.e-index c.args.pairs.now (omega (arith, c.loop-e-test.false)) in
    let found : AreBorderAmong c.args.points.now c.args.pairs.now c.loop-e.list.items =
    subst (λ (pairs : List Pair). AreBorderAmong c.args.points.now pairs c.loop-e.list.items) all c.loop-e.invariant in
    border_list c.args.points.now c.args.all.now.all c.loop-e.list.items c.requires.triangulation c.requires.ascending
    (subst (λ (pairs : List Pair). AreBorderAmong c.args.points.now pairs c.loop-e.list.items) c.requires.pairs found)
