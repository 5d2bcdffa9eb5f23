-- What a region's star of a vertex is, and what stays ready through the planner's calls.
use Rattle.std.proofs.Common.{◌≡◌, ℕ, true, false, ◌||◌, cond, nat_eq, List, [], ◌∷◌, sym, ◌∙◌, ap, subst, refl, Some, None, Option, Bool, Bor, ◌++◌}
use Rattle.std.specs.Option.{is_some, option_copied}
use Rattle.plane.specs.declared.segment.Pair.{Pair}
use Rattle.plane.specs.declared.coordinates.Point.{Point}
use Rattle.star.specs.Stars.{Seen}
use Rattle.edit.specs.declared.look.Look.{Look}
use Rattle.journal_defs.specs.Agree.{AreAgreeing}
use Rattle.plan_defs.specs.Plans.{Sight, has_look, look_at, star_in}
use Rattle.planner.specs.Region.{sights, star_of_look, IsAsBefore}
use Rattle.round_defs.specs.Candidates.{drop_list}
use Rattle.round_plans.specs.Choices.{IsReady}
use Rattle.round_plans.specs.Listed.{marked_at}

-- what is ready stays ready where the region is as before
pub ready_on : (S : List Point) (R T : List Look) → IsReady S R → IsAsBefore S R T → IsReady S T
ready_on S R T ready same = record {
  points = same.points;
  agree = subst (λ (z : List Sight). AreAgreeing S (star_in S z) (λ v. has_look z v ≡ true)) (sym same.told) ready.agree;
}

-- a star of the region is that of the look at the vertex
abbrev pub IsSeenAt : List Look → ℕ → Seen → Type 0
IsSeenAt R v s = (has_look (sights R) v ≡ true) × ((look_at (sights R) v).list ≡ s.list)

pub star_seen : (R : List Look) (v : ℕ) (s : Seen) → star_of_look R v ≡ Some s → IsSeenAt R v s
star_seen [] v s h = absurd (let e : None ≡ Some s = h in cc)
star_seen (l ∷ R) v s h =
    elim (nat_eq l.star.centre v) as (λ b. cond b (Some l.star) (star_of_look R v) ≡ Some s
    → ((b || has_look (sights R) v) ≡ true) × ((cond b (record { vertex = l.star.centre; list = l.star.list; stamp = l.stamp }) (look_at (sights R) v)).list ≡ s.list)) [
      | true ↦ λ e. (refl, (let same : l.star ≡ s = cc in ap (λ (z : Seen). z.list) same))
      | false ↦ λ e. star_seen R v s e
    ] h

-- where the region has no star of a vertex there is no look at it
pub none_seen : (R : List Look) (v : ℕ) → star_of_look R v ≡ None → (has_look (sights R) v ≡ false) × ((look_at (sights R) v).list ≡ [])
none_seen [] v h = (refl, refl)
none_seen (l ∷ R) v h =
    elim (nat_eq l.star.centre v) as (λ b. cond b (Some l.star) (star_of_look R v) ≡ None
    → ((b || has_look (sights R) v) ≡ false) × ((cond b (record { vertex = l.star.centre; list = l.star.list; stamp = l.stamp }) (look_at (sights R) v)).list ≡ [])) [
      | true ↦ λ e. absurd (let same : Some l.star ≡ None = e in cc)
      | false ↦ λ e. none_seen R v e
    ] h

-- whether there is a look is whether there is a star
has_star : (R : List Look) (v : ℕ) → is_some (star_of_look R v) ≡ has_look (sights R) v
has_star [] v = refl
has_star (l ∷ R) v = elim (nat_eq l.star.centre v) as (λ b. is_some (cond b (Some l.star) (star_of_look R v)) ≡ (b || has_look (sights R) v)) [ true ↦ refl | false ↦ has_star R v ]

copied_is : {A : Type 0} (o : Option (Bor A)) → is_some (option_copied o) ≡ is_some o
copied_is None = refl
copied_is (Some x) = refl

pub looked_if : (R : List Look) (v : ℕ) (o : Option (Bor Seen)) (b : Bool) → option_copied o ≡ star_of_look R v → b ≡ is_some o → b ≡ has_look (sights R) v
looked_if R v o b is so = so ∙ sym (copied_is o) ∙ ap is_some is ∙ has_star R v

-- the drops for a neighbour
pub drops_there : (R : List Sight) (v q : ℕ) (b : Bool) (none first both : List Pair) → b ≡ has_look R q → b ≡ true → none ≡ [] → first ≡ none ++ marked_at true R v → both ≡ first ++ marked_at true R q → both ≡ drop_list R v q
drops_there R v q b none first both has so empty one two =
    two ∙ ap (λ (z : List Pair). z ++ marked_at true R q) (one ∙ ap (λ (z : List Pair). z ++ marked_at true R v) empty)
    ∙ sym (ap (λ (z : Bool). cond z (marked_at true R v ++ marked_at true R q) []) (sym has ∙ so))

pub drops_none : (R : List Sight) (v q : ℕ) (b : Bool) (none : List Pair) → b ≡ has_look R q → b ≡ false → none ≡ [] → none ≡ drop_list R v q
drops_none R v q b none has not empty = empty ∙ sym (ap (λ (z : Bool). cond z (marked_at true R v ++ marked_at true R q) []) (sym has ∙ not))
