-- The trial of edits, one after the other.
use Rattle.std.proofs.Common.{◌≡◌, ℕ, ◌+◌, ◌-◌, ◌<◌, Bool, true, false, cond, List, [], ◌∷◌, length, sym, ◌∙◌, ap, subst, refl}
use Rattle.std.specs.Prelude.{IsTrue, ◌↔◌}
use Rattle.std.proofs.lemmas.Bool.{false≢true, or_left, or_right}
use Rattle.plane.specs.declared.coordinates.Point.{Point}
use Rattle.plane.specs.declared.segment.Pair.{Pair}
use Rattle.plane.specs.Accepted.{AreAccepted}
use Rattle.star.specs.Stars.{Seen, IsNeighbour}
use Rattle.journal_defs.specs.declared.edit.Edit.{Edit}
use Rattle.journal_defs.specs.declared.edit.Edit.TheVariants.{Flip}
use Rattle.journal_defs.specs.Edits.{is_end, touches}
use Rattle.journal_defs.specs.Agree.{AreAgreeing}
use Rattle.journal_defs.specs.Table.{Fits}
use Rattle.journal_defs.proofs.laws.Members.{is_end_lo}
use Rattle.journal_defs.specs.Turns.{FitInTurn}
use Rattle.edit.specs.declared.look.Look.{Look}
use Rattle.edit.specs.Plans.{are_touching}
use Rattle.plan_defs.specs.Plans.{Sight, has_look, star_in}
use Rattle.plan_defs.specs.Shown.{AreApart, region_after}
use Rattle.plan_defs.proofs.laws.Region.{region_back}
use Rattle.planner.specs.Region.{sights, AreFor, DoAgree}
use Rattle.planner.specs.Steps.{AreHeld, AreLooked, AreMarks, CanTry, HasMade, HasRoomFor, IsReady, IsStarFor, IsTried, room_at}
use Rattle.planner.proofs.Free.{neighbour_point}
use Rattle.planner.proofs.Made.{fit_next, mark_ready, flip_ready, flip_back_ready, still_mutual, ready_like, looked_made, inverse_touches}

pub first_looked : (R : List Look) (e : Edit) (es : List Edit) → AreLooked R (e ∷ es) → (v : ℕ) → touches e v ≡ true → has_look (sights R) v ≡ true
first_looked R e es looked v h = looked v (or_left (touches e v) (are_touching es v) h)

-- what is known of edits that begin with e
pub can_first : (S : List Point) (R : List Look) (e : Edit) (es all : List Edit) → all ≡ e ∷ es → CanTry S R all → CanTry S R (e ∷ es)
can_first S R e es all is can = subst (λ (x : List Edit). CanTry S R x) is can

pub looked_first : (S : List Point) (R : List Look) (e : Edit) (es : List Edit) → CanTry S R (e ∷ es) → (v : ℕ) → touches e v ≡ true → has_look (sights R) v ≡ true
looked_first S R e es can = first_looked R e es can.looked

pub ready_first : (S : List Point) (R : List Look) (e : Edit) (es : List Edit) → CanTry S R (e ∷ es) → Fits S (star_in S (sights R)) e → (v : ℕ) → touches e v ≡ true → IsReady S e R v
ready_first S R e es can fits v h = mark_ready S R e v can.marks.0 can.each_other (looked_first S R e es can) fits h

-- nothing was changed
pub tried_same : (S : List Point) (R : List Look) → AreHeld S R → IsTried S R R
tried_same S R held = record { held = held; told = refl; room = λ v. refl }

-- the answers
pub none_fit : (S : List Point) (at : ℕ → Seen) (all : List Edit) → all ≡ [] → IsTrue true ↔ FitInTurn S at all
none_fit S at all is = (λ t. subst (λ (x : List Edit). FitInTurn S at x) (sym is) tt, λ f. refl)

pub first_unfit : (S : List Point) (at : ℕ → Seen) (e : Edit) (es all : List Edit) → all ≡ e ∷ es → ¬ Fits S at e → IsTrue false ↔ FitInTurn S at all
first_unfit S at e es all is unfit = (λ t. absurd (false≢true t), λ f. absurd (unfit (subst (λ (x : List Edit). FitInTurn S at x) is f).0))

pub only_fit : (S : List Point) (at : ℕ → Seen) (e : Edit) (es all : List Edit) → all ≡ e ∷ es → es ≡ [] → Fits S at e → IsTrue true ↔ FitInTurn S at all
only_fit S at e es all is none fits =
    let rest : FitInTurn S at (e ∷ []) = (fits, tt) in
    (λ t. subst (λ (x : List Edit). FitInTurn S at x) (sym is) (subst (λ (x : List Edit). FitInTurn S at (e ∷ x)) (sym none) rest), λ f. refl)

pub rest_fit : (S : List Point) (e : Edit) (es all : List Edit) (R R' : List Look) (b : Bool) → all ≡ e ∷ es → AreLooked R (e ∷ es) → Fits S (star_in S (sights R)) e → HasMade S e R R'
    → IsTrue b ↔ FitInTurn S (star_in S (sights R')) es → IsTrue b ↔ FitInTurn S (star_in S (sights R)) all
rest_fit S e es all R R' b is looked fits made both =
    let next = fit_next S e es R R' looked made.told in (
      λ t. subst (λ (x : List Edit). FitInTurn S (star_in S (sights R)) x) (sym is) (fits, next.0 (both.0 t)),
      λ f. both.1 (next.1 (subst (λ (x : List Edit). FitInTurn S (star_in S (sights R)) x) is f).1),
    )

-- A flip, and then edits of marks.
pub flip_can : (S : List Point) (e f : Pair) (es : List Edit) (R R' : List Look) → DoAgree S R → AreLooked R (Flip e f ∷ es) → AreMarks es → HasMade S (Flip e f) R R' → CanTry S R' es
flip_can S e f es R R' agree looked marks made = record {
  held = made.held;
  each_other = still_mutual S (Flip e f) R R' made.told agree.marked;
  looked = λ v h. looked_made S (Flip e f) R R' v made.told ∙ looked v (or_right (touches (Flip e f) v) (are_touching es v) h);
  marks = marks;
}

-- a region that only has more room
abbrev AgreeOn : List Point → List Sight → Type 0
AgreeOn S T = AreAgreeing S (star_in S T) (λ v. has_look T v ≡ true)

pub same_agree : (S : List Point) (R R' : List Look) → sights R' ≡ sights R → DoAgree S R → DoAgree S R'
same_agree S R R' is agree = subst (λ (T : List Sight). AgreeOn S T) (sym is) agree

pub same_held : (S : List Point) (R R' : List Look) → sights R' ≡ sights R → AreFor S R' → AreHeld S R → AreHeld S R'
same_held S R R' is points held =
    let P : List Sight → Type 0 = λ T. (v : ℕ) → has_look T v ≡ true → IsStarFor S (star_in S T v) v in
    record { points = points; stars = subst P (sym is) held.stars; apart = subst AreApart (sym is) held.apart }

pub same_looked : (R R' : List Look) (es : List Edit) → sights R' ≡ sights R → AreLooked R es → AreLooked R' es
same_looked R R' es is looked v h = ap (λ (T : List Sight). has_look T v) is ∙ looked v h

pub same_fits : (S : List Point) (R R' : List Look) (e : Edit) → sights R' ≡ sights R → Fits S (star_in S (sights R)) e → Fits S (star_in S (sights R')) e
same_fits S R R' e is fits = subst (λ (T : List Sight). Fits S (star_in S T) e) (sym is) fits

-- what is made of the roomier region, tried and taken back
pub flip_back : (S : List Point) (e f : Pair) (es : List Edit) (R R' T : List Look) (v : ℕ) → AreHeld S R → DoAgree S R → AreLooked R (Flip e f ∷ es) → HasRoomFor f R → Fits S (star_in S (sights R)) (Flip e f) → HasMade S (Flip e f) R R' → IsTried S R' T
    → touches (Flip f e) v ≡ true → IsReady S (Flip f e) T v
flip_back S e f es R R' T v held agree looked room fits made tried h =
    let touched : (u : ℕ) → touches (Flip e f) u ≡ true → has_look (sights R) u ≡ true = first_looked R (Flip e f) es looked in
    let own : touches (Flip e f) v ≡ true = inverse_touches (Flip e f) v h in
    let there : IsNeighbour (star_in S (sights R) e.lo) e.hi = fits.there in
    let within : e.hi < length S = neighbour_point S (star_in S (sights R) e.lo) e.hi (agree.stars e.lo (touched e.lo (or_left (is_end e e.lo) (is_end f e.lo) (is_end_lo e)))).0 refl there in
    ready_like S (Flip f e) R' T v tried.told (tried.room v)
    (flip_back_ready S R R' e f v held within made.told
    (λ t. made.room v (touched v own) own ∙ ap (λ (b : Bool). cond b (room_at R v + 1) (room_at R v - 1)) t)
    (flip_ready S R e f v agree touched room fits own))

pub flip_undone : (S : List Point) (e f : Pair) (es : List Edit) (R R' T U : List Look) → AreAccepted S → AreHeld S R → DoAgree S R → AreLooked R (Flip e f ∷ es) → Fits S (star_in S (sights R)) (Flip e f) → HasMade S (Flip e f) R R' → IsTried S R' T → HasMade S (Flip f e) T U
    → sights U ≡ sights R
flip_undone S e f es R R' T U accepted held agree looked fits made tried back =
    back.told ∙ ap (λ (X : List Sight). region_after S (Flip f e) X) (tried.told ∙ made.told)
    ∙ region_back S (sights R) (Flip e f) accepted held.apart held.stars agree.marked (first_looked R (Flip e f) es looked) fits
