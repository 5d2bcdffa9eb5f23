-- Why a walk over all points, twice, finds the next point on the border.
use Rattle.std.proofs.Common.{◌≡◌, ◌≢◌, ◌<◌, ◌≤◌, ℕ, ◌+◌, List, length, pos, ◌⊎◌, inl, inr, arith, sym, ◌∙◌, subst, ◌↔◌, Option, Some, None, Bool, true, false, not, true≢false, IsTrue, rules}
use Rattle.std.proofs.lemmas.Int.{ints}
use Rattle.plane.specs.declared.coordinates.Point.{Point}
use Rattle.plane.specs.declared.coordinates.Turn.{Turn}
use Rattle.plane.specs.declared.coordinates.Turn.TheVariants.{Left, Straight, Right}
use Rattle.plane.specs.Geometry.{point, LiesBetween, area, orientation, IsBetween, IsInner}
use Rattle.plane.specs.Accepted.{AreAccepted}
use Rattle.plane.specs.Hull.{IsBorderStep, IsStepOrNone}
use Rattle.plane.specs.Walks.{IsFurther}
use Rattle.plane.proofs.laws.Area.{area_back, area_first}
use Rattle.std.specs.Option.{is_some}
use Rattle.number_laws.proofs.Naturals.{equal_or_not, below_or_last}
use Rattle.plane.proofs.laws.Border.{further_not_opposite, step_is_further, none_is_further, opposite_is_in_line, not_all_in_line, inner_by_steps, not_inner_right}
use Rattle.plane.proofs.laws.Along.{between_or_not}

-- what a walk from start knows of b, the point furthest out from v among those below k
pub record IsOutermost (S : List Point) (side : Turn) (v start b k : ℕ) : Type 0 where
  pub within : b < length S
  pub apart : b ≢ v
  pub off : (w : ℕ) → IsBorderStep S side v w → ¬ IsBetween S v w start → ¬ IsBetween S v w b
  pub met : (w : ℕ) → IsBorderStep S side v w → ¬ IsBetween S v w start → w < k → b ≡ w
  pub line : (w : ℕ) → IsBorderStep S side v w → IsBetween S v w b → (x : ℕ) → x < k → orientation S v w x ≡ pos 0

pub begins : (S : List Point) (side : Turn) (v start : ℕ) → start < length S → start ≢ v → IsOutermost S side v start start 0
begins S side v start within apart = record {
  within = within;
  apart = apart;
  off = λ w step off. off;
  met = λ w step off h. absurd (omega arith);
  line = λ w step on x h. absurd (omega arith);
}

in_line_between : (p q r : Point) → LiesBetween p q r → area p q r ≡ pos 0
in_line_between p q r h = let e = area_back p q r in omega (arith, ints, h.0)

-- the walk goes on to a point further out
pub goes_on : (S : List Point) (side : Turn) (v start b r : ℕ) → AreAccepted S → side ≢ Straight → r < length S → r ≢ v → IsFurther S side v b r → IsOutermost S side v start b r → IsOutermost S side v start r (r + 1)
goes_on S side v start b r accepted bent hr rv further so = record {
  within = hr;
  apart = rv;
  off = λ w step off. further_not_opposite S side v w b r step so.within (so.off w step off) further;
  met = λ w step off h. elim (below_or_last w r h) [
    | inl k ↦ absurd (none_is_further S side v w r step hr (subst (λ x. IsFurther S side v x r) (so.met w step off k) further))
    | inr e ↦ sym e
  ];
  line = λ w step on x h. elim (between_or_not S v w b) [
    | inl opposite ↦ elim (below_or_last x r h) [
      | inl k ↦ so.line w step opposite x k
      | inr e ↦ subst (λ y. orientation S v w y ≡ pos 0) (sym e) (in_line_between (point S v) (point S w) (point S r) on)
    ]
    | inr off ↦ absurd (further_not_opposite S side v w b r step so.within off further on)
  ];
}

-- the walk passes a point that isn't further out
pub passes : (S : List Point) (side : Turn) (v start b r : ℕ) → AreAccepted S → side ≢ Straight → v < length S → r < length S → (r ≡ v) ⊎ ¬ IsFurther S side v b r → IsOutermost S side v start b r → IsOutermost S side v start b (r + 1)
passes S side v start b r accepted bent hv hr near so = record {
  within = so.within;
  apart = so.apart;
  off = so.off;
  met = λ w step off h. elim (below_or_last w r h) [
    | inl k ↦ so.met w step off k
    | inr e ↦ elim near [
      | inl rv ↦ absurd (step.apart (e ∙ rv))
      | inr near ↦ elim (equal_or_not b w) [
        | inl same ↦ same
        | inr ne ↦ absurd (near (subst (λ y. IsFurther S side v b y) e (step_is_further S side v w b accepted.apart bent step hv so.within so.apart ne (so.off w step off))))
      ]
    ]
  ];
  line = λ w step on x h. elim (below_or_last x r h) [
    | inl k ↦ so.line w step on x k
    | inr e ↦ elim near [
      | inl rv ↦ subst (λ y. orientation S v w y ≡ pos 0) (sym (e ∙ rv)) (area_first (point S v) (point S w))
      | inr near ↦ subst (λ y. orientation S v w y ≡ pos 0) (sym e) (opposite_is_in_line S side v w b r bent step hr on near)
    ]
  ];
}

pub never_opposite : (S : List Point) (side : Turn) (v start b k : ℕ) → AreAccepted S → v < length S → length S ≤ k → IsOutermost S side v start b k → (w : ℕ) → IsBorderStep S side v w → ¬ IsBetween S v w b
never_opposite S side v start b k accepted hv hk so w step on =
    not_all_in_line S v w accepted hv step.within (λ e. step.apart (sym e)) (λ x h. so.line w step on x (omega arith))

-- where no step begins at a point counterclockwise, it is inner exactly where none does clockwise
pub inner_by_last : (S : List Point) (v : ℕ) (last : Option ℕ) (b : Bool) → ((w : ℕ) → ¬ IsBorderStep S Left v w) → IsStepOrNone S Right v last → is_some last ≡ not b → IsTrue b ↔ IsInner S v
inner_by_last S v None true left right e = (λ _. inner_by_steps S v left right, λ _. search rules)
inner_by_last S v None false left right e = absurd (true≢false (sym e))
inner_by_last S v (Some w) true left right e = absurd (true≢false e)
inner_by_last S v (Some w) false left right e = (λ t. absurd (search rules), λ inner. absurd (not_inner_right S v w right inner))
