-- Regions whose looks show one sound state.
use Rattle.std.proofs.Common.{◌≡◌, ℕ, ◌<◌, Bool, true, List, length, sym, subst}
use Rattle.plane.specs.declared.coordinates.Point.{Point}
use Rattle.plane.specs.Accepted.{AreAccepted}
use Rattle.star.specs.Stars.{Seen}
use Rattle.cost_defs.specs.Costs.{Costed}
use Rattle.journal_defs.specs.declared.edit.Edit.{Edit}
use Rattle.journal_defs.specs.Edits.{State, IsSound}
use Rattle.journal_defs.specs.Agree.{AreAgreeing}
use Rattle.journal_defs.specs.Neighbours.{star_list, star_value}
use Rattle.journal_defs.proofs.laws.Table.{IsTrueAt, stars_agree}
use Rattle.journal_defs.proofs.laws.Turned.{value_is_star}
use Rattle.journal_defs.proofs.laws.Turns.{fitting_is_legality}
use Rattle.plan_defs.specs.Plans.{Sight, has_look, look_at, star_in, AreFitting}
use Rattle.plan_defs.specs.Shown.{ShowsState, AreFine}

-- the region's star of a vertex that was looked at is the state's
pub shown_true : (S : List Point) (s : State) (R : List Sight) (v : ℕ) → AreAccepted S → IsSound S s → ShowsState S s R → has_look R v ≡ true → IsTrueAt S s (star_in S R) v
shown_true S s R v accepted so shows h =
    let (inside, same) = shows v h in
    let P : List (ℕ × Bool) → Type 0 = λ l. (let star : Seen = record { centre = v; list = l; spare = 0; points = S } in IsTrueAt S s (λ w. star) v) in
    subst P (sym same) (value_is_star S s v accepted so inside)

pub shown_agree : (S : List Point) (s : State) (R : List Sight) → AreAccepted S → IsSound S s → ShowsState S s R → AreAgreeing S (star_in S R) (λ v. has_look R v ≡ true)
shown_agree S s R accepted so shows =
    stars_agree S s (star_in S R) (λ v. has_look R v ≡ true) so (λ v h. (shows v h).0) (λ v h. shown_true S s R v accepted so shows h)

pub fitting_fine : (S : List Point) (D : List Costed) (s : State) (R : List Sight) (es : List Edit) → AreAccepted S → IsSound S s → ShowsState S s R
    → (AreFitting S D R es → AreFine S D s (λ v. has_look R v ≡ true) es) × (AreFine S D s (λ v. has_look R v ≡ true) es → AreFitting S D R es)
fitting_fine S D s R es accepted so shows = (
  λ f. record {
    looks = f.looked;
    legal = (fitting_is_legality S s (star_in S R) es accepted so (λ v h. (shows v (f.looked v h)).0) (λ v h. shown_true S s R v accepted so shows (f.looked v h))).0 f.fit;
    cheap = f.cheap;
  },
  λ f. record {
    looked = f.looks;
    fit = (fitting_is_legality S s (star_in S R) es accepted so (λ v h. (shows v (f.looks v h)).0) (λ v h. shown_true S s R v accepted so shows (f.looks v h))).1 f.legal;
    cheap = f.cheap;
  },
)
