use Rattle.std.proofs.Common.{◌≡◌, ℕ, List, true, false, sym, ◌∙◌, ap, refl, subst}
use Rattle.std.specs.Prelude.{Option, is_some, not, IsTrue, Bool}
use Rattle.plane.specs.declared.coordinates.Point.{Point}
use Rattle.plane.specs.declared.segment.Pair.{Pair}
use Rattle.plane.specs.Geometry.{IsBorderPair}
use Rattle.subdivision.specs.Layout.{IsApexOrNone}
use Rattle.lower_bounds.proofs.Bordered.{HasApexes, left_border, right_border, no_border}
use Rattle.lower_bounds.proofs.border_list.is_at_border.Goals as goal
use Rattle.lower_bounds.proofs.border_list.is_at_border.Goals.{After-is_none-is_right_free}

-- an answer of `apex` at the segment's own ends
told : (S P : List Point) (T : List Pair) (p q u v : ℕ) (r : Option ℕ) → P ≡ S → u ≡ p → v ≡ q → IsApexOrNone P T u v r → IsApexOrNone S T p q r
told S P T p q u v r s a b h =
    subst (λ (X : List Point). IsApexOrNone X T p q r) s (subst (λ (x : ℕ). IsApexOrNone P T x q r) a (subst (λ (y : ℕ). IsApexOrNone P T u y r) b h))

known : (c : After-is_none-is_right_free) → HasApexes c.args.points.now c.args.all.now.all c.args.e c.apex.result c.apex-2.result
known c = record {
  triangulation = c.requires.triangulation;
  there = c.requires.there;
  left = told c.args.points.now c.args.all.now.points c.args.all.now.all c.args.e.lo c.args.e.hi c.lo.result c.hi.result c.apex.result c.requires.points c.lo.ensures c.hi.ensures c.apex.ensures;
  right = told c.args.points.now c.args.all.now.points c.args.all.now.all c.args.e.hi c.args.e.lo c.hi-2.result c.lo-2.result c.apex-2.result c.requires.points c.hi-2.ensures c.lo-2.ensures c.apex-2.ensures;
}

pub returns-then-is_left_free : goal.returns-then-is_left_free
returns-then-is_left_free c = (
  λ _. left_border c.args.points.now c.args.all.now.all c.args.e c.apex.result c.apex-2.result (known c.before) c.if-is_left_free.ensures,
  λ _. c.if-is_left_free.true,
)

pub returns-else-is_left_free : goal.returns-else-is_left_free
returns-else-is_left_free c = (
  λ free. right_border c.args.points.now c.args.all.now.all c.args.e c.apex.result c.apex-2.result (known c.before) (c.is_none-is_right_free.ensures ∙ ap not free),
  λ at. by_cases c.is_none-is_right_free.result (λ own. own) (λ free. absurd (no_border c.args.points.now c.args.all.now.all c.args.e c.apex.result c.apex-2.result (known c.before) c.if-is_left_free.ensures (c.is_none-is_right_free.ensures ∙ ap not free) at)),
)
  where
    by_cases : {P : Type 0} (b : Bool) → (b ≡ true → P) → (b ≡ false → P) → P
    by_cases true f g = f refl
    by_cases false f g = g refl
