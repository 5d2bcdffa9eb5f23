-- Whether an edit fits a region, as the table says on its stars.
use Rattle.std.proofs.Common.{◌≡◌, ℕ, Bool, true, List, [], Option, sym, ap, subst, refl}
use Rattle.std.specs.Prelude.{IsSome, unwrap_or}
use Rattle.plane.specs.declared.coordinates.Point.{Point}
use Rattle.star.specs.Stars.{Seen, IsStar}
use Rattle.journal_defs.specs.declared.edit.Edit.{Edit}
use Rattle.journal_defs.specs.declared.edit.Why.{Why}
use Rattle.journal_defs.specs.Edits.{touches}
use Rattle.journal_defs.specs.Table.{Fits, Refuses, IsAt, HasStarsFor, seen_of}
use Rattle.journal_defs.proofs.laws.Same.{AreOne, same_fits, one_back}
use Rattle.edit.specs.declared.look.Look.{Look}
use Rattle.plan_defs.specs.Plans.{Sight, has_look, star_in}
use Rattle.planner.specs.Region.{sights, star_of_look}
use Rattle.planner.specs.Steps.{AreHeld}
use Rattle.planner.proofs.Looks.{IsLookOf, look_of, for_points}
use Rattle.planner.proofs.Made.{refused}

seen_is : (R : List Look) (v : ℕ) (l : Look) → IsLookOf R v l → seen_of (star_of_look R) v ≡ l.star
seen_is R v l is =
    let d : Seen = record { centre = 0; list = []; spare = 0; points = [] } in
    ap (λ (o : Option Seen). unwrap_or o d) is.star

some_star : (R : List Look) (v : ℕ) (l : Look) → IsLookOf R v l → IsSome (star_of_look R v)
some_star R v l is = subst (λ (o : Option Seen). IsSome o) (sym is.star) refl

pub stars_for : (S : List Point) (R : List Look) (e : Edit) → AreHeld S R → ((v : ℕ) → touches e v ≡ true → has_look (sights R) v ≡ true) → HasStarsFor S (star_of_look R) e
stars_for S R e held looked v h =
    let (l, is) = look_of R v (looked v h) in (
      some_star R v l is,
      subst (λ (s : Seen). IsAt S s v) (sym (seen_is R v l is)) (sym (for_points S R v l held.points is), is.centre),
    )

one_seen : (S : List Point) (R : List Look) (v : ℕ) → AreHeld S R → has_look (sights R) v ≡ true → AreOne (seen_of (star_of_look R) v) (star_in S (sights R) v)
one_seen S R v held h =
    let (l, is) = look_of R v h in
    subst (λ (s : Seen). AreOne s (star_in S (sights R) v)) (sym (seen_is R v l is))
    (is.centre, sym (ap (λ (z : Sight). z.list) is.look), for_points S R v l held.points is)

pub fits_there : (S : List Point) (R : List Look) (e : Edit) → AreHeld S R → ((v : ℕ) → touches e v ≡ true → has_look (sights R) v ≡ true) → Fits S (seen_of (star_of_look R)) e → Fits S (star_in S (sights R)) e
fits_there S R e held looked fits = same_fits S (seen_of (star_of_look R)) (star_in S (sights R)) e (λ v h. one_seen S R v held (looked v h)) fits

pub fits_not : (S : List Point) (R : List Look) (e : Edit) (why : Why) → AreHeld S R → ((v : ℕ) → touches e v ≡ true → has_look (sights R) v ≡ true) → Refuses S (seen_of (star_of_look R)) e why → ¬ Fits S (star_in S (sights R)) e
fits_not S R e why held looked refuses fits =
    refused S (seen_of (star_of_look R)) e why
    (λ v h. (let (l, is) = look_of R v (looked v h) in
    let one = one_seen S R v held (looked v h) in
    star_like S (seen_of (star_of_look R) v) (star_in S (sights R) v) one (held.stars v (looked v h)).0))
    refuses
    (same_fits S (star_in S (sights R)) (seen_of (star_of_look R)) e (λ v h. one_back (seen_of (star_of_look R) v) (star_in S (sights R) v) (one_seen S R v held (looked v h))) fits)
  where
    star_like : (S : List Point) (s t : Seen) → AreOne s t → IsStar t → IsStar s
    star_like S s t a so =
        let P : ℕ → List (ℕ × Bool) → List Point → Type 0 = λ c l p. (let u : Seen = record { centre = c; list = l; spare = 0; points = p } in IsStar u) in
        subst (λ (c : ℕ). P c s.list s.points) (sym a.0) (subst (λ (l : List (ℕ × Bool)). P t.centre l s.points) (sym a.1) (subst (λ (p : List Point). P t.centre t.list p) (sym a.2) so))
