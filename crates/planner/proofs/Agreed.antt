-- Agreement of a region's stars, star by star.
use Rattle.std.proofs.Common.{◌≡◌, ℕ, ◌<◌, Bool, true, cond, nat_eq, List, [], ◌∷◌, length, get_or, Some, None, inl, inr, sym, ◌∙◌, ap, subst, refl}
use Rattle.std.specs.Prelude.{IsTrue, ◌↔◌}
use Rattle.std.proofs.lemmas.Bool.{cases_Bool, or_left, or_right}
use Rattle.std.proofs.lemmas.Bool.Decides.{Decides-eqb}
use Rattle.std.proofs.lemmas.Option.{same_Some}
use Rattle.plane.specs.declared.coordinates.Point.{Point}
use Rattle.plane.specs.Geometry.{IsInner, IsInNeed}
use Rattle.star.specs.Stars.{Seen, IsStar, IsNeighbour, HasMark, IsNext, StandsAt, IsPlace, entry}
use Rattle.star.specs.Gaps.{MeetsAll, MissesSome}
use Rattle.star.proofs.laws.Marks.{one_next, mark_at}
use Rattle.star.proofs.laws.Needs.{none_missed_of_met}
use Rattle.edit.specs.declared.look.Look.{Look}
use Rattle.plan_defs.specs.Plans.{Sight, has_look, look_at, star_in}
use Rattle.plan_defs.specs.Shown.{AreApart}
use Rattle.planner.specs.Region.{sight, sights, star_of_look, AreFor, DoAgree}
use Rattle.planner.specs.Steps.{held_star}
use Rattle.planner.specs.Agreeing.{AgreesAt, AgreesWith, HasCorner, IsSide, MeetsInside}
use Rattle.planner.proofs.Looks.{look_of, look_own, held_is}

-- what one star shows
pub mark_there : (s : Seen) (p k : ℕ) (b : Bool) → IsStar s → StandsAt s k p → ((entry s.list k).1 ≡ b) ↔ HasMark s p b
mark_there s p k b so stands = (
  λ e. (k, stands.0, (let N : ℕ → ℕ × Bool = λ n. (n, (entry s.list k).1) in let M : Bool → ℕ × Bool = λ m. (p, m) in ap N stands.1 ∙ ap M e)),
  λ m. mark_at s p k b so m stands,
)

pub mark_gone : (s : Seen) (p : ℕ) (b : Bool) → IsPlace s p None → ¬ HasMark s p b
mark_gone s p b none (k, hk, at) = none k hk (ap (λ (x : ℕ × Bool). x.0) at)

pub next_told : (s : Seen) (r q p : ℕ) → IsStar s → IsNext s r (Some q) → (q ≡ p) ↔ IsNext s r (Some p)
next_told s r q p so next = (λ e. subst (λ (x : ℕ). IsNext s r (Some x)) e next, λ h. one_next s r q p so next h)

pub next_gone : (s : Seen) (r p : ℕ) → IsNext s r None → ¬ IsNext s r (Some p)
next_gone s r p none (k, stands, is) = none (k, stands)

pub corner_told : (star other : Seen) (r : ℕ) → IsStar star → IsNext star other.centre (Some r) → IsNext other r (Some star.centre) ↔ HasCorner star other
corner_told star other r so next = (
  λ h. (r, next, h),
  λ (t, first, second). subst (λ (x : ℕ). IsNext other x (Some star.centre)) (one_next star other.centre t r so first next) second,
)

pub corner_gone : (star other : Seen) → IsNext star other.centre None → ¬ HasCorner star other
corner_gone star other none (t, first, second) = next_gone star other.centre t none first

pub met_inside : (S : List Point) (s : Seen) → S ≡ s.points → MissesSome s.points s.centre s.list → IsInner S s.centre → ¬ MeetsInside S s
met_inside S s of missed inner met = none_missed_of_met S s.centre s.list (met inner) (subst (λ (P : List Point). MissesSome P s.centre s.list) (sym of) missed)

-- a star that the region has is that of a look
pub star_looked : (R : List Look) (v : ℕ) (s : Seen) → star_of_look R v ≡ Some s → has_look (sights R) v ≡ true
star_looked [] v s h = absurd (no s h)
  where
    no : (s : Seen) → ¬ (None ≡ Some s)
    no s e = cc
star_looked (l ∷ R) v s h = elim (cases_Bool (nat_eq l.star.centre v)) [
  | inl t ↦ or_left (nat_eq l.star.centre v) (has_look (sights R) v) t
  | inr f ↦ or_right (nat_eq l.star.centre v) (has_look (sights R) v) (star_looked R v s (subst (λ (b : Bool). cond b (Some l.star) (star_of_look R v) ≡ Some s) f h))
]

pub star_held : (S : List Point) (R : List Look) (v : ℕ) (s : Seen) → AreFor S R → star_of_look R v ≡ Some s → s ≡ held_star S R v
star_held S R v s of h =
    let (l, is) = look_of R v (star_looked R v s h) in
    same_Some s l.star (sym h ∙ is.star) ∙ sym (held_is S R v l of is)

pub points_there : (S : List Point) (R : List Look) (v : ℕ) (s : Seen) → AreFor S R → star_of_look R v ≡ Some s → S ≡ s.points
points_there S R v s of h = sym (ap (λ (x : Seen). x.points) (star_held S R v s of h))

pub with_some : (S : List Point) (R : List Look) (star other : Seen) (x : ℕ × Bool) (res : Bool) → AreFor S R → star_of_look R x.0 ≡ Some other
    → IsTrue res ↔ (HasMark other star.centre x.1 × IsSide S star other) → IsTrue res ↔ AgreesWith S R star x
with_some S R star other x res of h both =
    let same : other ≡ held_star S R x.0 = star_held S R x.0 other of h in
    let P : Seen → Type 0 = λ t. HasMark t star.centre x.1 × IsSide S star t in (
      λ t looked. subst P same (both.0 t),
      λ f. both.1 (subst P (sym same) (f (star_looked R x.0 other h))),
    )

pub with_none : (S : List Point) (R : List Look) (star : Seen) (x : ℕ × Bool) → star_of_look R x.0 ≡ None → AgreesWith S R star x
with_none S R star x none looked =
    let (l, is) = look_of R x.0 looked in
    absurd (let e : None ≡ Some l.star = sym none ∙ is.star in cc)

-- all stars agree with those of their neighbours
at_held : (S : List Point) (R : List Look) (v : ℕ) → AreFor S R → ((k : ℕ) (d : Look) → k < length R → IsStar (get_or R k d).star × AgreesAt S R (get_or R k d).star) → has_look (sights R) v ≡ true
    → IsStar (held_star S R v) × AgreesAt S R (held_star S R v)
at_held S R v of all h =
    let (l, is) = look_of R v h in
    let P : Seen → Type 0 = λ s. IsStar s × AgreesAt S R s in
    subst P (sym (held_is S R v l of is)) (subst (λ (m : Look). P m.star) (is.at l) (all is.place l is.within))

pub all_agree : (S : List Point) (R : List Look) → AreFor S R → ((k : ℕ) (d : Look) → k < length R → IsStar (get_or R k d).star × AgreesAt S R (get_or R k d).star) → DoAgree S R
all_agree S R of all = record {
  stars = λ v h. ((at_held S R v of all h).0, refl, refl);
  joined = λ v w hv hw (k, (hk, at)). (let (mark, side) = with_name v w k hv hk at hw in near w v (entry (look_at (sights R) v).list k).1 mark);
  marked = λ v w b hv hw (k, hk, at). (let (mark, side) = with_name v w k hv hk (ap (λ (x : ℕ × Bool). x.0) at) hw in
      subst (λ (c : Bool). HasMark (star_in S (sights R) w) v c) (ap (λ (x : ℕ × Bool). x.1) at) mark);
  needs = λ v h inner x hx ne. (let (k, kept, need) = (at_held S R v of all h).1.needs inner x hx ne in
      let l = (look_at (sights R) v).list in
      ((entry l k).0, (k, kept.0, ap (λ (b : Bool). (let p : ℕ × Bool = ((entry l k).0, b) in p)) kept.1), need));
  sides = λ p q hp hq (k, (hk, at)) left. (let (mark, side) = with_name p q k hp hk at hq in side left);
}
  where
    with_name : (v w k : ℕ) → has_look (sights R) v ≡ true → k < length (look_at (sights R) v).list → (entry (look_at (sights R) v).list k).0 ≡ w → has_look (sights R) w ≡ true
        → HasMark (star_in S (sights R) w) v (entry (look_at (sights R) v).list k).1 × IsSide S (held_star S R v) (star_in S (sights R) w)
    with_name v w k hv hk at hw =
        let x = entry (look_at (sights R) v).list k in
        let P : ℕ → Type 0 = λ n. has_look (sights R) n ≡ true → HasMark (star_in S (sights R) n) v x.1 × IsSide S (held_star S R v) (star_in S (sights R) n) in
        subst P at ((at_held S R v of all hv).1.around k hk) hw

    near : (w v : ℕ) (b : Bool) → HasMark (star_in S (sights R) w) v b → IsNeighbour (star_in S (sights R) w) v
    near w v b (k, hk, at) = (k, (hk, ap (λ (x : ℕ × Bool). x.0) at))

-- so each does where all agree
pub each_agrees : (S : List Point) (R : List Look) (k : ℕ) (l : Look) → AreFor S R → AreApart (sights R) → k < length R → ((d : Look) → l ≡ get_or R k d) → DoAgree S R → AgreesAt S R l.star
each_agrees S R k l of apart h at agree =
    let v = l.star.centre in
    let own = look_own R k l apart h in
    let V : Look → Type 0 = λ m. (has_look (sights R) m.star.centre ≡ true) × (look_at (sights R) m.star.centre ≡ sight m) in
    let (looked, look) = subst V (sym (at l)) own in
    let P : List (ℕ × Bool) → Type 0 = λ m. (let s : Seen = record { centre = v; list = m; spare = l.star.spare; points = l.star.points } in AgreesAt S R s) in
    let list = (look_at (sights R) v).list in
    let there : P list = record {
      needs = λ inner x hx ne. (let (r, (j, hj, is), need) = agree.needs v looked inner x hx ne in
          (j, (hj, ap (λ (y : ℕ × Bool). y.1) is), subst (λ (n : ℕ). IsInNeed S v x n) (sym (ap (λ (y : ℕ × Bool). y.0) is)) need));
      around = λ j hj hq. (agree.marked v (entry list j).0 (entry list j).1 looked hq (j, hj, refl), λ left. agree.sides v (entry list j).0 looked hq (j, (hj, refl)) left);
    } in
    subst P (ap (λ (z : Sight). z.list) look) there

-- the tests of one star, as the code makes them
pub met_there : (S : List Point) (s : Seen) → S ≡ s.points → MeetsAll s.points s.centre s.list → MeetsInside S s
met_there S s of met inner = subst (λ (P : List Point). MeetsAll P s.centre s.list) (sym of) met

pub corner_res : (star other : Seen) (oc sc r : ℕ) (res : Bool) → oc ≡ other.centre → sc ≡ star.centre → IsStar star → IsNext star oc (Some r) → IsTrue res ↔ IsNext other r (Some sc) → IsTrue res ↔ HasCorner star other
corner_res star other oc sc r res a b so next both =
    let told = corner_told star other r so (subst (λ (n : ℕ). IsNext star n (Some r)) a next) in (
      λ t. told.0 (subst (λ (n : ℕ). IsNext other r (Some n)) b (both.0 t)),
      λ h. both.1 (subst (λ (n : ℕ). IsNext other r (Some n)) (sym b) (told.1 h)),
    )

pub mark_res : (s : Seen) (p k : ℕ) (x : ℕ × Bool) (b res : Bool) → IsStar s → StandsAt s k p → x ≡ entry s.list k → IsTrue res ↔ (x.1 ≡ b) → IsTrue res ↔ HasMark s p b
mark_res s p k x b res so stands at both =
    let told = mark_there s p k b so stands in (
      λ t. told.0 (ap (λ (y : ℕ × Bool). y.1) (sym at) ∙ both.0 t),
      λ h. both.1 (ap (λ (y : ℕ × Bool). y.1) at ∙ told.1 h),
    )

pub next_res : (s : Seen) (r q p : ℕ) → IsStar s → IsNext s r (Some q) → IsTrue (nat_eq q p) ↔ IsNext s r (Some p)
next_res s r q p so next = let told = next_told s r q p so next in (λ t. told.0 ((Decides-eqb q p).0 t), λ h. (Decides-eqb q p).1 (told.1 h))
