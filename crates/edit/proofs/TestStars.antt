-- For the tests: stars of all points, made one after the other.
use Rattle.std.proofs.Common.{◌≡◌, ℕ, ◌+◌, ◌<◌, List, [], ◌∷◌, ◌++◌, length, get_or, true, inl, inr, arith, sym, ap, subst, refl}
use Rattle.std.specs.Prelude.{slice_get, is_some, Option}
use Rattle.std.proofs.lemmas.Bool.{cases_lt}
use Rattle.std.proofs.lemmas.List.{get_or_append_left, get_or_push}
use Rattle.std.proofs.lemmas.Option.{slice_get-get_or, unwrap_or-slice_get}
use Rattle.plane.specs.declared.coordinates.Point.{Point}
use Rattle.plane.specs.Geometry.{point, IsBetween}
use Rattle.star.specs.Turn.{IsInDirection}
use Rattle.star.specs.Stars.{Seen}
use Rattle.star.proofs.laws.Directions.{not_opposed}
use Rattle.journal_defs.specs.declared.edit.Edit.{Edit}
use Rattle.journal_defs.specs.Edits.{touches}
use Rattle.journal_defs.specs.Table.{IsAt, HasStarsFor}
use Rattle.edit.specs.Round.{bare, IsPlaced, AreRound}

pub more_round : (S : List Point) (stars new : List Seen) (v : ℕ) (s : Seen) → length stars ≡ v → ((k : ℕ) → k < v → IsPlaced S (get_or stars k bare) k) → IsPlaced S s v → new ≡ stars ++ s ∷ [] → (k : ℕ) → k < v + 1 → IsPlaced S (get_or new k bare) k
more_round S stars new v s len so here is k h =
    let P : List Seen → Type 0 = λ xs. IsPlaced S (get_or xs k bare) k in
    subst P (sym is) (elim (cases_lt k v) [
      | inl low ↦ (let R : Seen → Type 0 = λ x. IsPlaced S x k in subst R (sym (get_or_append_left stars (s ∷ []) bare k (omega arith))) (so k low))
      | inr top ↦ (let e : k ≡ length stars = omega arith in
          let Q : ℕ → Type 0 = λ x. IsPlaced S (get_or (stars ++ s ∷ []) x bare) x in
          let R : Seen → Type 0 = λ x. IsPlaced S x (length stars) in
          subst Q (sym e) (subst R (sym (get_or_push stars s bare (length stars) refl)) (let T : ℕ → Type 0 = λ x. IsPlaced S s x in subst T (sym len) here)))
    ])

-- a point between two others has them in two directions
between_apart : (S : List Point) (c r q : ℕ) → IsBetween S c r q → ¬ IsInDirection S c r q
between_apart S c r q between (half, line) = not_opposed (point S c) (point S r) (point S q) half between

pub apart_by : (S P : List Point) (c r q d s : ℕ) → S ≡ P → c ≡ d → r ≡ s → IsBetween S c r q → ¬ IsInDirection P d s q
apart_by S P c r q d s points centre name between =
    let A : List Point → Type 0 = λ X. IsBetween X d s q in
    let B : ℕ → Type 0 = λ x. IsBetween S x s q in
    let C : ℕ → Type 0 = λ x. IsBetween S c x q in
    between_apart P d s q (subst A points (subst B centre (subst C name between)))

-- the stars of all points are stars for an edit of points
pub stars_for : (S : List Point) (stars : List Seen) (e : Edit) → AreRound S stars → length stars ≡ length S → ((v : ℕ) → touches e v ≡ true → v < length S) → HasStarsFor S (λ v. slice_get stars v) e
stars_for S stars e round all within v h =
    let low : v < length stars = (let k = within v h in omega (arith, all)) in
    let R : Seen → Type 0 = λ x. IsAt S x v in (
      ap (λ (o : Option Seen). is_some o) (slice_get-get_or stars v bare low),
      subst R (sym (unwrap_or-slice_get stars v bare)) (round v low).0,
    )
