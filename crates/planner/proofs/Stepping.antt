-- A region through an edit, one vertex after the other.
use Rattle.std.proofs.Common.{◌≡◌, ◌≢◌, ℕ, zero, suc, ◌<◌, Bool, true, false, ◌||◌, cond, nat_eq, List, [], ◌∷◌, length, get_or, set, Some, inl, inr, ◌⊎◌, arith, sym, ◌∙◌, ap, ap₂, subst, refl}
use Rattle.std.proofs.lemmas.Bool.{false≢true, cases_Bool, cond_both, ne_eqb, or_left, or_right, false_from_ne_true}
use Rattle.std.proofs.lemmas.Bool.Decides.{Decides-eqb}
use Rattle.plane.specs.declared.coordinates.Point.{Point}
use Rattle.plane.specs.declared.segment.Pair.{Pair}
use Rattle.star.specs.Stars.{Seen, IsOrderly}
use Rattle.journal_defs.specs.declared.edit.Edit.{Edit}
use Rattle.journal_defs.specs.declared.edit.Edit.TheVariants.{Drop, Keep, Flip}
use Rattle.journal_defs.specs.Edits.{is_end, touches}
use Rattle.journal_defs.specs.Neighbours.{list_after, at_end, mark_as, leave_out, put_in_turn}
use Rattle.journal_defs.proofs.laws.Members.{not_end, ends_apart}
use Rattle.journal_defs.proofs.laws.Follow.{at_end_cases}
use Rattle.edit.specs.declared.look.Look.{Look}
use Rattle.plan_defs.specs.Plans.{Sight, has_look, look_at, star_in}
use Rattle.plan_defs.specs.Shown.{AreApart, sight_after, region_after}
use Rattle.plan_defs.proofs.laws.Region.{look_vertex}
use Rattle.planner.specs.Region.{sight, sights}
use Rattle.planner.specs.Steps.{IsPlaceIn, room_at, held_star, room_after, CanStep, IsStarFor, AreHeld, IsReady, stepped, HaveStepped, HasMade, HasLookStepped}
use Rattle.planner.proofs.Looks.{place_look, place_room, points_set, seen_same}

same_vertex : (S : List Point) (e : Edit) (at : ℕ → Bool) (l : Sight) → (cond (at l.vertex) (sight_after S e l) l).vertex ≡ l.vertex
same_vertex S e at l = cond_both (at l.vertex) (sight_after S e l) l (λ (z : Sight). z.vertex ≡ l.vertex) (λ t. refl) (λ f. refl)

pub looked_stepped : (S : List Point) (e : Edit) (at : ℕ → Bool) (R : List Sight) (v : ℕ) → has_look (stepped S e at R) v ≡ has_look R v
looked_stepped S e at [] v = refl
looked_stepped S e at (l ∷ R) v = ap₂ (λ (n : ℕ) (b : Bool). nat_eq n v || b) (same_vertex S e at l) (looked_stepped S e at R v)

pub apart_stepped : (S : List Point) (e : Edit) (at : ℕ → Bool) (R : List Sight) → AreApart R → AreApart (stepped S e at R)
apart_stepped S e at [] h = tt
apart_stepped S e at (l ∷ R) h = (
  ap (λ (n : ℕ). has_look (stepped S e at R) n) (same_vertex S e at l) ∙ looked_stepped S e at R l.vertex ∙ h.0,
  apart_stepped S e at R h.1,
)

pub look_stepped : (S : List Point) (e : Edit) (at : ℕ → Bool) (R : List Sight) (v : ℕ) → has_look R v ≡ true → look_at (stepped S e at R) v ≡ cond (at v) (sight_after S e (look_at R v)) (look_at R v)
look_stepped S e at [] v h = absurd (false≢true h)
look_stepped S e at (l ∷ R) v h =
    elim (cases_Bool (nat_eq l.vertex v)) [
      | inl t ↦ (let head : nat_eq (cond (at l.vertex) (sight_after S e l) l).vertex v ≡ true = ap (λ (n : ℕ). nat_eq n v) (same_vertex S e at l) ∙ t in
          let is : cond (at l.vertex) (sight_after S e l) l ≡ cond (at v) (sight_after S e l) l = ap (λ (n : ℕ). cond (at n) (sight_after S e l) l) ((Decides-eqb l.vertex v).0 t) in
          ap (λ (b : Bool). cond b (cond (at l.vertex) (sight_after S e l) l) (look_at (stepped S e at R) v)) head ∙ is
          ∙ ap (λ (b : Bool). cond (at v) (sight_after S e (cond b l (look_at R v))) (cond b l (look_at R v))) (sym t))
      | inr f ↦ (let head : nat_eq (cond (at l.vertex) (sight_after S e l) l).vertex v ≡ false = ap (λ (n : ℕ). nat_eq n v) (same_vertex S e at l) ∙ f in
          ap (λ (b : Bool). cond b (cond (at l.vertex) (sight_after S e l) l) (look_at (stepped S e at R) v)) head
          ∙ look_stepped S e at R v (subst (λ (b : Bool). (b || has_look R v) ≡ true) f h)
          ∙ ap (λ (b : Bool). cond (at v) (sight_after S e (cond b l (look_at R v))) (cond b l (look_at R v))) (sym f))
    ]

-- where none of the looks is at v, nothing is changed there
none_stepped : (S : List Point) (e : Edit) (v : ℕ) (R : List Sight) → has_look R v ≡ false → stepped S e (λ w. nat_eq v w) R ≡ R
none_stepped S e v [] h = refl
none_stepped S e v (l ∷ R) h =
    elim (cases_Bool (nat_eq l.vertex v)) [
      | inl t ↦ absurd (false≢true (sym h ∙ or_left (nat_eq l.vertex v) (has_look R v) t))
      | inr f ↦ ap₂ (λ (x : Sight) (xs : List Sight). x ∷ xs)
          (ap (λ (b : Bool). cond b (sight_after S e l) l) (ne_eqb v l.vertex (λ s. false≢true (sym f ∙ (Decides-eqb l.vertex v).1 (sym s)))))
          (none_stepped S e v R (subst (λ (b : Bool). (b || has_look R v) ≡ false) f h))
    ]

-- the look at k takes the step
set_sights : (S : List Point) (e : Edit) (R : List Look) (v k : ℕ) (d m : Look) → AreApart (sights R) → k < length R → (get_or R k d).star.centre ≡ v → sight m ≡ sight_after S e (sight (get_or R k d))
    → sights (set R k m) ≡ stepped S e (λ w. nat_eq v w) (sights R)
set_sights S e [] v k d m apart h at is = absurd (omega (arith, h))
set_sights S e (l ∷ R) v zero d m apart h at is =
    ap₂ (λ (x : Sight) (xs : List Sight). x ∷ xs)
    (is ∙ sym (ap (λ (b : Bool). cond b (sight_after S e (sight l)) (sight l)) ((Decides-eqb v l.star.centre).1 (sym at))))
    (sym (none_stepped S e v (sights R) (subst (λ (n : ℕ). has_look (sights R) n ≡ false) at apart.0)))
set_sights S e (l ∷ R) v (suc k) d m apart h at is =
    let low : k < length R = omega (arith, h) in
    ap₂ (λ (x : Sight) (xs : List Sight). x ∷ xs)
    (sym (ap (λ (b : Bool). cond b (sight_after S e (sight l)) (sight l)) (ne_eqb v l.star.centre (λ s. false≢true (sym apart.0 ∙ subst (λ (n : ℕ). has_look (sights R) n ≡ true) s (there R k low at))))))
    (set_sights S e R v k d m apart.1 low at is)
  where
    there : (R : List Look) (k : ℕ) → k < length R → (get_or R k d).star.centre ≡ v → has_look (sights R) v ≡ true
    there [] k h at = absurd (omega (arith, h))
    there (n ∷ R) zero h at = or_left (nat_eq n.star.centre v) (has_look (sights R) v) ((Decides-eqb n.star.centre v).1 at)
    there (n ∷ R) (suc k) h at = or_right (nat_eq n.star.centre v) (has_look (sights R) v) (there R k (omega (arith, h)) at)

pub room_set_own : (R : List Look) (v k : ℕ) (m : Look) → IsPlaceIn R v (Some k) → m.star.centre ≡ v → room_at (set R k m) v ≡ m.star.spare
room_set_own [] v k m (h, at, before) is = absurd (omega (arith, h))
room_set_own (l ∷ R) v zero m (h, at, before) is = let t : nat_eq m.star.centre v ≡ true = (Decides-eqb m.star.centre v).1 is in rw t refl
room_set_own (l ∷ R) v (suc k) m (h, at, before) is =
    let f : nat_eq l.star.centre v ≡ false = ne_eqb l.star.centre v (before 0 l (omega arith)) in
    rw f (room_set_own R v k m (omega (arith, h), at, λ j d lt. before (suc j) d (omega (arith, lt))) is)

pub room_set_other : (R : List Look) (v w k : ℕ) (d m : Look) → k < length R → (get_or R k d).star.centre ≡ v → m.star.centre ≡ v → v ≢ w → room_at (set R k m) w ≡ room_at R w
room_set_other [] v w k d m h at is ne = refl
room_set_other (l ∷ R) v w zero d m h at is ne =
    let a : nat_eq m.star.centre w ≡ false = ne_eqb m.star.centre w (λ s. ne (sym is ∙ s)) in
    let b : nat_eq l.star.centre w ≡ false = ne_eqb l.star.centre w (λ s. ne (sym at ∙ s)) in
    ap (λ (x : Bool). cond x m.star.spare (room_at R w)) a ∙ sym (ap (λ (x : Bool). cond x l.star.spare (room_at R w)) b)
room_set_other (l ∷ R) v w (suc k) d m h at is ne =
    ap (λ (n : ℕ). cond (nat_eq l.star.centre w) l.star.spare n) (room_set_other R v w k d m (omega (arith, h)) at is ne)

-- the stars after the step of some
stars_stepped : (S : List Point) (e : Edit) (at : ℕ → Bool) (R T : List Sight) → T ≡ stepped S e at R → ((v : ℕ) → has_look R v ≡ true → IsStarFor S (star_in S R v) v)
    → ((v : ℕ) → has_look R v ≡ true → at v ≡ true → IsOrderly S v (list_after S v e (look_at R v).list)) → (v : ℕ) → has_look T v ≡ true → IsStarFor S (star_in S T v) v
stars_stepped S e at R T is stars new v h =
    let looked : has_look R v ≡ true = sym (looked_stepped S e at R v) ∙ ap (λ (x : List Sight). has_look x v) (sym is) ∙ h in
    let look : look_at T v ≡ cond (at v) (sight_after S e (look_at R v)) (look_at R v) = ap (λ (x : List Sight). look_at x v) is ∙ look_stepped S e at R v looked in
    let P : Sight → Type 0 = λ z. IsOrderly S v z.list in (
      subst P (sym look) (cond_both (at v) (sight_after S e (look_at R v)) (look_at R v) P
          (λ t. subst (λ (n : ℕ). IsOrderly S v (list_after S n e (look_at R v).list)) (sym (look_vertex R v looked)) (new v looked t))
          (λ f. (stars v looked).0)),
      refl,
      refl,
    )

-- one star is written
pub step_written : (S : List Point) (e : Edit) (R : List Look) (v k : ℕ) (l m : Look) → AreHeld S R → IsPlaceIn R v (Some k) → ((d : Look) → get_or R k d ≡ l) → HasLookStepped S e l m
    → HaveStepped S e (λ w. nat_eq v w) R (set R k m)
step_written S e R v k l m held place is step =
    let centre : l.star.centre ≡ v = subst (λ (x : Look). x.star.centre ≡ v) (is l) (place.1 l) in
    let points : l.star.points ≡ S = subst (λ (x : Look). x.star.points ≡ S) (is l) (held.points k l place.0) in
    let to_centre : m.star.centre ≡ v = step.star.place.0 ∙ centre in
    let to_points : m.star.points ≡ S = step.star.place.1 ∙ points in
    let sighted : sight m ≡ sight_after S e (sight (get_or R k l)) =
    (let V : ℕ → Sight = λ x. record { vertex = x; list = m.star.list; stamp = m.stamp } in
    let L : List (ℕ × Bool) → Sight = λ x. record { vertex = l.star.centre; list = x; stamp = m.stamp } in
    let N : ℕ → Sight = λ x. record { vertex = l.star.centre; list = list_after S l.star.centre e l.star.list; stamp = x } in
    let P : Look → Sight = λ x. sight_after S e (sight x) in
    ap V step.star.place.0 ∙ ap L step.star.list ∙ ap N step.stamp ∙ ap P (sym (is l))) in
    let told : sights (set R k m) ≡ stepped S e (λ w. nat_eq v w) (sights R) = set_sights S e R v k l m held.apart place.0 (place.1 l) sighted in
    let look : look_at (sights R) v ≡ sight l = place_look R v k l place ∙ ap sight (is l) in
    let order : IsOrderly S v (list_after S v e (look_at (sights R) v).list) =
    (let A : List Point → Type 0 = λ P. IsOrderly P m.star.centre m.star.list in
    let B : ℕ → Type 0 = λ c. IsOrderly S c m.star.list in
    let C : List (ℕ × Bool) → Type 0 = λ x. IsOrderly S v x in
    let D : ℕ → List (ℕ × Bool) = λ c. list_after S c e l.star.list in
    let E : List (ℕ × Bool) → List (ℕ × Bool) = λ x. list_after S v e x in
    subst C (step.star.list ∙ ap D centre ∙ ap E (sym (ap (λ (z : Sight). z.list) look))) (subst B to_centre (subst A to_points step.star.order))) in
    record {
      told = told;
      held = record {
        points = points_set S R k m held.points to_points;
        stars = stars_stepped S e (λ w. nat_eq v w) (sights R) (sights (set R k m)) told held.stars
            (λ w h t. (let F : ℕ → Type 0 = λ x. IsOrderly S x (list_after S x e (look_at (sights R) x).list) in subst F ((Decides-eqb v w).0 t) order));
        apart = subst AreApart (sym told) (apart_stepped S e (λ w. nat_eq v w) (sights R) held.apart);
      };
      room = λ w h t. (let F : ℕ → Type 0 = λ x. room_at (set R k m) x ≡ room_after e x (room_at R x) in
          subst F ((Decides-eqb v w).0 t)
          (room_set_own R v k m place to_centre ∙ step.star.room ∙ ap₂ (λ (x y : ℕ). room_after e x y) centre (ap (λ (x : Look). x.star.spare) (sym (is l)) ∙ sym (place_room R v k l place))));
      rest = λ w f. room_set_other R v w k l m place.0 (place.1 l) to_centre (λ s. false≢true (sym f ∙ (Decides-eqb v w).1 s));
    }

-- the steps of two sets of vertices that have none in common
stepped_both : (S : List Point) (e : Edit) (p q : ℕ → Bool) (R : List Sight) → ((v : ℕ) → p v ≡ true → q v ≡ true → ⊥) → stepped S e q (stepped S e p R) ≡ stepped S e (λ v. p v || q v) R
stepped_both S e p q [] apart = refl
stepped_both S e p q (l ∷ R) apart = ap₂ (λ (x : Sight) (xs : List Sight). x ∷ xs) (at (cases_Bool (p l.vertex)) (cases_Bool (q l.vertex))) (stepped_both S e p q R apart)
  where
    at : (p l.vertex ≡ true) ⊎ (p l.vertex ≡ false) → (q l.vertex ≡ true) ⊎ (q l.vertex ≡ false)
        → cond (q (cond (p l.vertex) (sight_after S e l) l).vertex) (sight_after S e (cond (p l.vertex) (sight_after S e l) l)) (cond (p l.vertex) (sight_after S e l) l) ≡ cond (p l.vertex || q l.vertex) (sight_after S e l) l
    at (inl a) (inl b) = absurd (apart l.vertex a b)
    at (inl a) (inr b) = rw a (ap (λ (c : Bool). cond c (sight_after S e (sight_after S e l)) (sight_after S e l)) b)
    at (inr a) (inl b) = rw a (ap (λ (c : Bool). cond c (sight_after S e l) l) refl)
    at (inr a) (inr b) = rw a refl

pub both_stepped : (S : List Point) (e : Edit) (p q : ℕ → Bool) (old mid new : List Look) → ((v : ℕ) → p v ≡ true → q v ≡ true → ⊥) → HaveStepped S e p old mid → HaveStepped S e q mid new → HaveStepped S e (λ v. p v || q v) old new
both_stepped S e p q old mid new apart first second = record {
  told = second.told ∙ ap (λ (R : List Sight). stepped S e q R) first.told ∙ stepped_both S e p q (sights old) apart;
  held = second.held;
  room = λ v h t. room v (cases_Bool (p v)) (cases_Bool (q v)) h t;
  rest = λ v f. rest v (cases_Bool (p v)) (cases_Bool (q v)) f;
}
  where
    looked : (v : ℕ) → has_look (sights old) v ≡ true → has_look (sights mid) v ≡ true
    looked v h = ap (λ (R : List Sight). has_look R v) first.told ∙ looked_stepped S e p (sights old) v ∙ h

    room : (v : ℕ) → (p v ≡ true) ⊎ (p v ≡ false) → (q v ≡ true) ⊎ (q v ≡ false) → has_look (sights old) v ≡ true → (p v || q v) ≡ true → room_at new v ≡ room_after e v (room_at old v)
    room v (inl a) (inl b) h t = absurd (apart v a b)
    room v (inl a) (inr b) h t = second.rest v b ∙ first.room v h a
    room v (inr a) (inl b) h t = second.room v (looked v h) b ∙ ap (λ (n : ℕ). room_after e v n) (first.rest v a)
    room v (inr a) (inr b) h t = absurd (false≢true (sym (ap₂ (λ (x y : Bool). x || y) a b) ∙ t))

    rest : (v : ℕ) → (p v ≡ true) ⊎ (p v ≡ false) → (q v ≡ true) ⊎ (q v ≡ false) → (p v || q v) ≡ false → room_at new v ≡ room_at old v
    rest v (inl a) b f = absurd (false≢true (sym f ∙ or_left (p v) (q v) a))
    rest v (inr a) (inl b) f = absurd (false≢true (sym f ∙ or_right (p v) (q v) b))
    rest v (inr a) (inr b) f = second.rest v b ∙ first.rest v a

-- a vertex that was left alone is still ready
pub still_ready : (S : List Point) (e : Edit) (p : ℕ → Bool) (old mid : List Look) (v : ℕ) → HaveStepped S e p old mid → p v ≡ false → IsReady S e old v → IsReady S e mid v
still_ready S e p old mid v step away ready =
    let look : look_at (sights mid) v ≡ look_at (sights old) v =
    ap (λ (R : List Sight). look_at R v) step.told ∙ look_stepped S e p (sights old) v ready.looked ∙ ap (λ (b : Bool). cond b (sight_after S e (look_at (sights old) v)) (look_at (sights old) v)) away in
    let same : held_star S mid v ≡ held_star S old v =
    seen_same (held_star S mid v) (held_star S old v) refl (ap (λ (z : Sight). z.list) look) (step.rest v away) refl in
    record {
      looked = ap (λ (R : List Sight). has_look R v) step.told ∙ looked_stepped S e p (sights old) v ∙ ready.looked;
      touched = ready.touched;
      can = subst (λ (a : Seen). CanStep S e a) (sym same) ready.can;
    }

pub ends_stepped : (S : List Point) (e : Edit) (f : Pair) (lo hi : ℕ) (old mid new : List Look) → lo ≡ f.lo → hi ≡ f.hi
    → HaveStepped S e (λ w. nat_eq lo w) old mid → HaveStepped S e (λ w. nat_eq hi w) mid new → HaveStepped S e (is_end f) old new
ends_stepped S e f lo hi old mid new lower upper first second =
    let F : ℕ → Type 0 = λ x. HaveStepped S e (λ w. nat_eq x w) old mid in
    let G : ℕ → Type 0 = λ x. HaveStepped S e (λ w. nat_eq x w) mid new in
    both_stepped S e (λ w. nat_eq f.lo w) (λ w. nat_eq f.hi w) old mid new (ends_apart f) (subst F lower first) (subst G upper second)

pub upper_ready : (S : List Point) (e : Edit) (f : Pair) (lo hi : ℕ) (old mid : List Look) → lo ≡ f.lo → hi ≡ f.hi
    → HaveStepped S e (λ w. nat_eq lo w) old mid → IsReady S e old f.hi → IsReady S e mid hi
upper_ready S e f lo hi old mid lower upper first ready =
    let R : ℕ → Type 0 = λ x. IsReady S e mid x in
    subst R (sym upper) (still_ready S e (λ w. nat_eq lo w) old mid f.hi first (false_from_ne_true (nat_eq lo f.hi) (λ is. (let same : lo ≡ f.hi = (Decides-eqb lo f.hi).0 is in let o = f.ordered in omega arith))) ready)

-- an edit leaves the lists of other vertices as they are
off_list : (S : List Point) (e : Pair) (v : ℕ) (change : ℕ → List (ℕ × Bool)) (l : List (ℕ × Bool)) → is_end e v ≡ false → at_end e v change l ≡ l
off_list S e v change l off = at_end_cases e v change l (λ m. m ≡ l) (λ w ends. absurd (not_end e v w off ends)) (λ none. refl)

pub left_or : (a b : Bool) → (a || b) ≡ false → a ≡ false
left_or a b h = false_from_ne_true a (λ t. false≢true (sym h ∙ or_left a b t))

pub right_or : (a b : Bool) → (a || b) ≡ false → b ≡ false
right_or a b h = false_from_ne_true b (λ t. false≢true (sym h ∙ or_right a b t))

pub untouched_list : (S : List Point) (e : Edit) (v : ℕ) (l : List (ℕ × Bool)) → touches e v ≡ false → list_after S v e l ≡ l
untouched_list S (Drop e) v l off = off_list S e v (λ w. mark_as w false l) l off
untouched_list S (Keep e) v l off = off_list S e v (λ w. mark_as w true l) l off
untouched_list S (Flip e f) v l off =
    let rest = at_end e v (λ w. leave_out w l) l in
    off_list S f v (λ w. put_in_turn S v (w, false) rest) rest (right_or (is_end e v) (is_end f v) off)
    ∙ off_list S e v (λ w. leave_out w l) l (left_or (is_end e v) (is_end f v) off)

touched_all : (S : List Point) (e : Edit) (R : List Sight) → stepped S e (touches e) R ≡ region_after S e R
touched_all S e [] = refl
touched_all S e (l ∷ R) = ap₂ (λ (x : Sight) (xs : List Sight). x ∷ xs) (at (cases_Bool (touches e l.vertex))) (touched_all S e R)
  where
    at : (touches e l.vertex ≡ true) ⊎ (touches e l.vertex ≡ false) → cond (touches e l.vertex) (sight_after S e l) l ≡ sight_after S e l
    at (inl t) = ap (λ (b : Bool). cond b (sight_after S e l) l) t
    at (inr f) =
        let L : List (ℕ × Bool) → Sight = λ x. record { vertex = l.vertex; list = x; stamp = l.stamp } in
        ap (λ (b : Bool). cond b (sight_after S e l) l) f ∙ ap L (sym (untouched_list S e l.vertex l.list f))

pub made_of : (S : List Point) (e : Edit) (old new : List Look) → HaveStepped S e (touches e) old new → HasMade S e old new
made_of S e old new step = record {
  told = step.told ∙ touched_all S e (sights old);
  held = step.held;
  room = step.room;
  rest = step.rest;
}
