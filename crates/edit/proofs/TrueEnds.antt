-- What the stars of a state's pair say of its border and of needs.
use Rattle.std.proofs.Common.{◌≡◌, ◌<◌, ℕ, List, length, ◌⊎◌, inl, inr, arith, refl, sym, subst, Option, None, Some}
use Rattle.std.specs.Prelude.{IfSome}
use Rattle.std.proofs.lemmas.Int.{ints}
use Rattle.plane.specs.declared.coordinates.Point.{Point}
use Rattle.plane.specs.declared.segment.Pair.{Pair}
use Rattle.plane.specs.Geometry.{point, orientation, IsBorderPair, IsInner, HasAllLeft}
use Rattle.plane.proofs.laws.Area.{area_back}
use Rattle.plane_laws.proofs.Field.{by_high}
use Rattle.partition_defs.specs.Partition.{Joins}
use Rattle.partition_defs.specs.Triangulation.{HasLeft}
use Rattle.partition_defs.proofs.laws.Joined.{join_back, contains_joins, among_joins}
use Rattle.star.specs.Stars.{Seen}
use Rattle.star.specs.StarOf.{IsStarOf}
use Rattle.star.specs.Gaps.{MeetsAll}
use Rattle.star.proofs.laws.Needs.{needs_of_star}
use Rattle.journal_defs.specs.Edits.{State, IsSound}
use Rattle.journal_defs.specs.Table.{Shows, ShowsApex, seen_of}
use Rattle.journal_defs.proofs.laws.Table.{shows_there, apex_shows}
use Rattle.edit.specs.Shown.{IsShownApex, IsMetInside}
use Rattle.edit.specs.TrueStars.{AreTrueStars}
use Rattle.journal_defs.specs.declared.edit.Edit.TheVariants.{Drop}
use Rattle.journal_defs.proofs.laws.Members.{is_end_lo, is_end_hi}
use Rattle.edit.specs.DropRow.{AreTrueEnds}
use Rattle.edit.proofs.Shown.{apexes_inside}
use Rattle.partition_defs.proofs.laws.Sides.{all_behind}

-- where the star of p shows no apex of p to q, no point is strictly left
none_left : (S : List Point) (s : State) (at : ℕ → Seen) (p q : ℕ) → IsSound S s → IsStarOf S s.all s.kept p (at p) → Joins s.all p q → ((r : ℕ) → ¬ ShowsApex S (at p) p q r) → ¬ HasLeft S p q
none_left S s at p q sound so join none left =
    let (r, apex) = sound.triangulation.apex p q join left in none r (apex_shows S s at p q r sound so join apex)

-- a pair of a state is a border pair where one of its true stars shows no apex
pub border_of_missing : (S : List Point) (low high : Seen) (e : Pair) (near far : Option ℕ) → AreTrueEnds S low high e → Shows low e → IsShownApex S low e.lo e.hi near → IsShownApex S high e.hi e.lo far
    → (near ≡ None) ⊎ (far ≡ None) → IsBorderPair S e.lo e.hi
border_of_missing S low high e near far (s, sound, so, other) there shown back missing =
    let here = shows_there S s (λ _. low) e so there in
    let join = contains_joins s.all e here in (
      sound.triangulation.clear e here,
      elim missing [
        | inl h ↦ inr (all_behind S e.lo e.hi (none_left S s (λ _. low) e.lo e.hi sound so join (subst (λ (x : Option ℕ). IsShownApex S low e.lo e.hi x) h shown)))
        | inr h ↦ inl (all_behind S e.hi e.lo (none_left S s (λ _. high) e.hi e.lo sound other (join_back s.all e.lo e.hi join) (subst (λ (x : Option ℕ). IsShownApex S high e.hi e.lo x) h back)))
      ],
    )

-- a pair of which both stars show an apex is no border pair
pub inside_of_both : (S : List Point) (low high : Seen) (e : Pair) (near far : Option ℕ) → IsShownApex S low e.lo e.hi near → IfSome near (λ r. r < length S) → IsShownApex S high e.hi e.lo far → IfSome far (λ r. r < length S)
    → ¬ ((near ≡ None) ⊎ (far ≡ None)) → ¬ IsBorderPair S e.lo e.hi
inside_of_both S low high e None far shown hk back hl both = λ b. both (inl refl)
inside_of_both S low high e (Some k) None shown hk back hl both = λ b. both (inr refl)
inside_of_both S low high e (Some k) (Some l) shown hk back hl both = apexes_inside S low high e k l shown hk back hl

-- the kept neighbours of a true star meet the needs of its centre where that is an inner point
met_inside : (S : List Point) (s : State) (v : ℕ) (star : Seen) → IsSound S s → IsStarOf S s.all s.kept v star → IsMetInside star
met_inside S s v star sound so inner =
    let P : List Point → Type 0 = λ X. MeetsAll X star.centre star.list in
    let C : ℕ → Type 0 = λ c. MeetsAll S c star.list in
    let here : IsInner S v = subst (λ (c : ℕ). IsInner S c) so.centre (subst (λ (X : List Point). IsInner X star.centre) so.points inner) in
    let within : v < length S = subst (λ (c : ℕ). c < length S) so.centre (subst (λ (X : List Point). star.centre < length X) so.points so.star.centre) in
    subst P (sym so.points) (subst C (sym so.centre)
    ((needs_of_star S s.all s.kept v star so (λ w h. among_joins s.kept s.all sound.among v w h)).0 (sound.partition.needs v within here)))

pub met_low : (S : List Point) (low high : Seen) (e : Pair) → AreTrueEnds S low high e → IsMetInside low
met_low S low high e (s, sound, so, other) = met_inside S s e.lo low sound so

pub met_high : (S : List Point) (low high : Seen) (e : Pair) → AreTrueEnds S low high e → IsMetInside high
met_high S low high e (s, sound, so, other) = met_inside S s e.hi high sound other

-- the ends of a dropped pair among the stars that its edit touches
pub ends_of_stars : (S : List Point) (star : ℕ → Option Seen) (e : Pair) (low high : Seen) → low ≡ seen_of star e.lo → high ≡ seen_of star e.hi → AreTrueStars S star (Drop e) → AreTrueEnds S low high e
ends_of_stars S star e low high a b (s, sound, so) =
    (s, sound, subst (λ (x : Seen). IsStarOf S s.all s.kept e.lo x) (sym a) (so e.lo (is_end_lo e)), subst (λ (x : Seen). IsStarOf S s.all s.kept e.hi x) (sym b) (so e.hi (is_end_hi e)))
