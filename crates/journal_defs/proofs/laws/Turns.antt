-- On the stars of a sound state edits fit in turn exactly where they are legal in turn.
use Rattle.std.proofs.Common.{◌≡◌, ℕ, ◌<◌, Bool, true, List, [], ◌∷◌, length, sym, ◌∙◌, ap}
use Rattle.std.specs.List.{list_any}
use Rattle.plane.specs.declared.coordinates.Point.{Point}
use Rattle.plane.specs.Accepted.{AreAccepted}
use Rattle.star.specs.Stars.{Seen}
use Rattle.journal_defs.specs.declared.edit.Edit.{Edit}
use Rattle.journal_defs.specs.Edits.{State, after, touches, IsSound}
use Rattle.journal_defs.specs.Journal.{AreLegal}
use Rattle.journal_defs.specs.Neighbours.{star_list, star_value, list_after}
use Rattle.journal_defs.specs.Turns.{stars_after, FitInTurn}
use Rattle.std.proofs.lemmas.Bool.{or_left, or_right}
use Rattle.journal_defs.proofs.laws.Edits.{sound_after}
use Rattle.journal_defs.proofs.laws.Table.{IsTrueAt, fits_legal, legal_fits}
use Rattle.journal_defs.proofs.laws.Turned.{value_is_star, star_is_value}
use Rattle.journal_defs.proofs.laws.Same.{AreOne, same_fits, one_back}
use Rattle.journal_defs.proofs.laws.Follow.{star_follows}

-- the edits touch points alone
abbrev pub TouchPoints : List Point → List Edit → Type 0
TouchPoints S es = (v : ℕ) → list_any (λ e. touches e v) es ≡ true → v < length S

-- the stars of the touched vertices have the lists of the state
abbrev ShowState : List Point → State → (ℕ → Seen) → List Edit → Type 0
ShowState S s at es = (v : ℕ) → list_any (λ e. touches e v) es ≡ true → AreOne (at v) (star_value S s v)

by_first : (e : Edit) (es : List Edit) (v : ℕ) → touches e v ≡ true → list_any (λ f. touches f v) (e ∷ es) ≡ true
by_first e es v h = or_left (touches e v) (list_any (λ f. touches f v) es) h

by_rest : (e : Edit) (es : List Edit) (v : ℕ) → list_any (λ f. touches f v) es ≡ true → list_any (λ f. touches f v) (e ∷ es) ≡ true
by_rest e es v h = or_right (touches e v) (list_any (λ f. touches f v) es) h

-- after a legal edit the stars show the next state
show_next : (S : List Point) (s : State) (at : ℕ → Seen) (e : Edit) (es : List Edit) → TouchPoints S (e ∷ es) → ShowState S s at (e ∷ es)
    → ((v : ℕ) → v < length S → list_after S v e (star_list S s v) ≡ star_list S (after e s) v) → ShowState S (after e s) (stars_after S e at) es
show_next S s at e es inside shows follow v h =
    let one = shows v (by_rest e es v h) in
    (one.0, ap (λ (l : List (ℕ × Bool)). list_after S v e l) one.1 ∙ follow v (inside v (by_rest e es v h)), one.2)

-- the star values of the vertices that an edit touches are true
true_values : (S : List Point) (s : State) (e : Edit) (es : List Edit) → AreAccepted S → IsSound S s → TouchPoints S (e ∷ es) → (v : ℕ) → touches e v ≡ true → IsTrueAt S s (star_value S s) v
true_values S s e es accepted so inside v h = value_is_star S s v accepted so (inside v (by_first e es v h))

fit_legal : (S : List Point) (s : State) (at : ℕ → Seen) (es : List Edit) → AreAccepted S → IsSound S s → TouchPoints S es → ShowState S s at es → FitInTurn S at es → AreLegal S s es
fit_legal S s at [] accepted so inside shows fit = tt
fit_legal S s at (e ∷ es) accepted so inside shows fit =
    let legal = fits_legal S s (star_value S s) e so (true_values S s e es accepted so inside)
    (same_fits S at (star_value S s) e (λ v h. shows v (by_first e es v h)) fit.0) in (
      legal,
      fit_legal S (after e s) (stars_after S e at) es accepted (sound_after S s e so legal) (λ v h. inside v (by_rest e es v h))
          (show_next S s at e es inside shows (λ v hv. star_follows S s e v accepted so legal hv))
          fit.1,
    )

legal_fit : (S : List Point) (s : State) (at : ℕ → Seen) (es : List Edit) → AreAccepted S → IsSound S s → TouchPoints S es → ShowState S s at es → AreLegal S s es → FitInTurn S at es
legal_fit S s at [] accepted so inside shows legal = tt
legal_fit S s at (e ∷ es) accepted so inside shows legal = (
  same_fits S (star_value S s) at e (λ v h. one_back (at v) (star_value S s v) (shows v (by_first e es v h)))
      (legal_fits S s (star_value S s) e so (true_values S s e es accepted so inside) legal.0),
  legal_fit S (after e s) (stars_after S e at) es accepted (sound_after S s e so legal.0) (λ v h. inside v (by_rest e es v h))
      (show_next S s at e es inside shows (λ v hv. star_follows S s e v accepted so legal.0 hv))
      legal.1,
)

-- a true star has the list of its value
shown : (S : List Point) (s : State) (at : ℕ → Seen) (es : List Edit) → AreAccepted S → IsSound S s → TouchPoints S es → ((v : ℕ) → list_any (λ e. touches e v) es ≡ true → IsTrueAt S s at v) → ShowState S s at es
shown S s at es accepted so inside stars v h = ((stars v h).centre, star_is_value S s v (at v) accepted so (inside v h) (stars v h), (stars v h).points)

pub fitting_is_legality : (S : List Point) (s : State) (at : ℕ → Seen) (es : List Edit) → AreAccepted S → IsSound S s → TouchPoints S es → ((v : ℕ) → list_any (λ e. touches e v) es ≡ true → IsTrueAt S s at v)
    → (FitInTurn S at es → AreLegal S s es) × (AreLegal S s es → FitInTurn S at es)
fitting_is_legality S s at es accepted so inside stars =
    let shows = shown S s at es accepted so inside stars in
    (fit_legal S s at es accepted so inside shows, legal_fit S s at es accepted so inside shows)
