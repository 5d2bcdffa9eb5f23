-- The looks of a region by their positions and by their vertices.
use Rattle.std.proofs.Common.{◌≡◌, ◌≢◌, ℕ, zero, suc, ◌<◌, Bool, true, false, ◌||◌, nat_eq, List, [], ◌∷◌, ◌++◌, length, get_or, set, Option, Some, None, cond, inl, inr, arith, sym, ◌∙◌, ap, subst, refl, get_or-set_same, get_or-set_other, length-set}
use Rattle.std.proofs.lemmas.List.{get_or_default}
use Rattle.std.proofs.lemmas.Option.{same_Some}
use Rattle.std.proofs.lemmas.Bool.{false≢true, cases_Bool, ne_eqb, or_left, or_right}
use Rattle.std.proofs.lemmas.Bool.Decides.{Decides-eqb}
use Rattle.number_laws.proofs.Naturals.{equal_or_not}
use Rattle.plane.specs.declared.coordinates.Point.{Point}
use Rattle.star.specs.Stars.{Seen}
use Rattle.edit.specs.declared.look.Look.{Look}
use Rattle.plan_defs.specs.Plans.{Sight, has_look, look_at}
use Rattle.plan_defs.specs.Shown.{AreApart}
use Rattle.planner.specs.Region.{held, sight, sights, star_of_look, AreFor}
use Rattle.planner.specs.Steps.{AreFilled, IsPlaceIn, room_at, held_star}

-- filled slots
pub held_length : (xs : List (Option Look)) → AreFilled xs → length (held xs) ≡ length xs
held_length [] h = refl
held_length (None ∷ xs) h = absurd h
held_length (Some l ∷ xs) h = ap suc (held_length xs h)

pub held_at : (xs : List (Option Look)) (k : ℕ) (d : Look) → AreFilled xs → k < length xs → get_or xs k None ≡ Some (get_or (held xs) k d)
held_at [] k d h lt = absurd (omega (arith, lt))
held_at (None ∷ xs) k d h lt = absurd h
held_at (Some l ∷ xs) zero d h lt = refl
held_at (Some l ∷ xs) (suc k) d h lt = held_at xs k d h (omega (arith, lt))

pub held_set : (xs : List (Option Look)) (k : ℕ) (l : Look) → AreFilled xs → held (set xs k (Some l)) ≡ set (held xs) k l
held_set [] k l h = refl
held_set (None ∷ xs) k l h = absurd h
held_set (Some m ∷ xs) zero l h = refl
held_set (Some m ∷ xs) (suc k) l h = ap (λ (R : List Look). m ∷ R) (held_set xs k l h)

pub filled_set : (xs : List (Option Look)) (k : ℕ) (l : Look) → AreFilled xs → AreFilled (set xs k (Some l))
filled_set [] k l h = tt
filled_set (None ∷ xs) k l h = absurd h
filled_set (Some m ∷ xs) zero l h = h
filled_set (Some m ∷ xs) (suc k) l h = filled_set xs k l h

pub held_push : (xs : List (Option Look)) (l : Look) → held (xs ++ Some l ∷ []) ≡ held xs ++ l ∷ []
held_push [] l = refl
held_push (None ∷ xs) l = held_push xs l
held_push (Some m ∷ xs) l = ap (λ (R : List Look). m ∷ R) (held_push xs l)

pub filled_push : (xs : List (Option Look)) (l : Look) → AreFilled xs → AreFilled (xs ++ Some l ∷ [])
filled_push [] l h = tt
filled_push (None ∷ xs) l h = absurd h
filled_push (Some m ∷ xs) l h = filled_push xs l h

-- a look more
pub looked_push : (R : List Look) (l : Look) (v : ℕ) → has_look (sights R) v ≡ false → (l.star.centre ≢ v) → has_look (sights (R ++ l ∷ [])) v ≡ false
looked_push [] l v h ne = rw (ne_eqb l.star.centre v ne) refl
looked_push (m ∷ R) l v h ne =
    elim (cases_Bool (nat_eq m.star.centre v)) [
      | inl t ↦ absurd (false≢true (sym h ∙ or_left (nat_eq m.star.centre v) (has_look (sights R) v) t))
      | inr f ↦ rw f (looked_push R l v (subst (λ (b : Bool). (b || has_look (sights R) v) ≡ false) f h) ne)
    ]

pub apart_push : (R : List Look) (l : Look) → AreApart (sights R) → has_look (sights R) l.star.centre ≡ false → AreApart (sights (R ++ l ∷ []))
apart_push [] l h none = (refl, tt)
apart_push (m ∷ R) l h none =
    elim (cases_Bool (nat_eq m.star.centre l.star.centre)) [
      | inl t ↦ absurd (false≢true (sym none ∙ or_left (nat_eq m.star.centre l.star.centre) (has_look (sights R) l.star.centre) t))
      | inr f ↦ (
        looked_push R l m.star.centre h.0 (λ e. false≢true (sym f ∙ (Decides-eqb m.star.centre l.star.centre).1 (sym e))),
        apart_push R l h.1 (subst (λ (b : Bool). (b || has_look (sights R) l.star.centre) ≡ false) f none),
      )
    ]

-- the look at a place
place_on : (l : Look) (R : List Look) (v k : ℕ) → IsPlaceIn (l ∷ R) v (Some (suc k)) → (nat_eq l.star.centre v ≡ false) × IsPlaceIn R v (Some k)
place_on l R v k (h, at, before) = (
  ne_eqb l.star.centre v (before 0 l (omega arith)),
  (omega (arith, h), at, λ j d lt. before (suc j) d (omega (arith, lt))),
)

pub place_looked : (R : List Look) (v k : ℕ) → IsPlaceIn R v (Some k) → has_look (sights R) v ≡ true
place_looked [] v k (h, at, before) = absurd (omega (arith, h))
place_looked (l ∷ R) v zero (h, at, before) = or_left (nat_eq l.star.centre v) (has_look (sights R) v) ((Decides-eqb l.star.centre v).1 (at l))
place_looked (l ∷ R) v (suc k) p = or_right (nat_eq l.star.centre v) (has_look (sights R) v) (place_looked R v k (place_on l R v k p).1)

pub place_look : (R : List Look) (v k : ℕ) (d : Look) → IsPlaceIn R v (Some k) → look_at (sights R) v ≡ sight (get_or R k d)
place_look [] v k d (h, at, before) = absurd (omega (arith, h))
place_look (l ∷ R) v zero d (h, at, before) = let t : nat_eq l.star.centre v ≡ true = (Decides-eqb l.star.centre v).1 (at l) in rw t refl
place_look (l ∷ R) v (suc k) d p = let q = place_on l R v k p in let f : nat_eq l.star.centre v ≡ false = q.0 in rw f (place_look R v k d q.1)

pub place_star : (R : List Look) (v k : ℕ) (d : Look) → IsPlaceIn R v (Some k) → star_of_look R v ≡ Some (get_or R k d).star
place_star [] v k d (h, at, before) = absurd (omega (arith, h))
place_star (l ∷ R) v zero d (h, at, before) = let t : nat_eq l.star.centre v ≡ true = (Decides-eqb l.star.centre v).1 (at l) in rw t refl
place_star (l ∷ R) v (suc k) d p = let q = place_on l R v k p in let f : nat_eq l.star.centre v ≡ false = q.0 in rw f (place_star R v k d q.1)

pub place_room : (R : List Look) (v k : ℕ) (d : Look) → IsPlaceIn R v (Some k) → room_at R v ≡ (get_or R k d).star.spare
place_room [] v k d (h, at, before) = absurd (omega (arith, h))
place_room (l ∷ R) v zero d (h, at, before) = let t : nat_eq l.star.centre v ≡ true = (Decides-eqb l.star.centre v).1 (at l) in rw t refl
place_room (l ∷ R) v (suc k) d p = let q = place_on l R v k p in let f : nat_eq l.star.centre v ≡ false = q.0 in rw f (place_room R v k d q.1)

none_on : (l : Look) (R : List Look) (v : ℕ) → IsPlaceIn (l ∷ R) v None → (nat_eq l.star.centre v ≡ false) × IsPlaceIn R v None
none_on l R v p = (ne_eqb l.star.centre v (p 0 l (omega arith)), λ k d h. p (suc k) d (omega (arith, h)))

pub none_looked : (R : List Look) (v : ℕ) → IsPlaceIn R v None → has_look (sights R) v ≡ false
none_looked [] v p = refl
none_looked (l ∷ R) v p = let q = none_on l R v p in let f : nat_eq l.star.centre v ≡ false = q.0 in rw f (none_looked R v q.1)

pub none_star : (R : List Look) (v : ℕ) → IsPlaceIn R v None → star_of_look R v ≡ None
none_star [] v p = refl
none_star (l ∷ R) v p = let q = none_on l R v p in let f : nat_eq l.star.centre v ≡ false = q.0 in rw f (none_star R v q.1)

-- a look that is there: its star, and its room
pub record IsLookOf (R : List Look) (v : ℕ) (l : Look) : Type 0 where
  pub star : star_of_look R v ≡ Some l.star
  pub look : look_at (sights R) v ≡ sight l
  pub room : room_at R v ≡ l.star.spare
  pub centre : l.star.centre ≡ v
  pub place : ℕ
  pub within : place < length R
  pub at : (d : Look) → get_or R place d ≡ l

pub look_of : (R : List Look) (v : ℕ) → has_look (sights R) v ≡ true → (l : Look) × IsLookOf R v l
look_of [] v h = absurd (false≢true h)
look_of (m ∷ R) v h =
    elim (cases_Bool (nat_eq m.star.centre v)) [
      | inl t ↦ (m, record { star = rw t refl; look = rw t refl; room = rw t refl; centre = (Decides-eqb m.star.centre v).0 t; place = 0; within = omega arith; at = λ d. refl })
      | inr f ↦ (let (l, is) = look_of R v (subst (λ (b : Bool). (b || has_look (sights R) v) ≡ true) f h) in (
        l,
        record {
          star = ap (λ (b : Bool). cond b (Some m.star) (star_of_look R v)) f ∙ is.star;
          look = ap (λ (b : Bool). cond b (sight m) (look_at (sights R) v)) f ∙ is.look;
          room = ap (λ (b : Bool). cond b m.star.spare (room_at R v)) f ∙ is.room;
          centre = is.centre;
          place = suc is.place;
          within = (let w = is.within in omega (arith, w));
          at = λ d. is.at d;
        },
      ))
    ]

pub for_points : (S : List Point) (R : List Look) (v : ℕ) (l : Look) → AreFor S R → IsLookOf R v l → l.star.points ≡ S
for_points S R v l points is = subst (λ (m : Look). m.star.points ≡ S) (is.at l) (points is.place l is.within)

-- two stars of which contracts see the same
pub seen_same : (a b : Seen) → a.centre ≡ b.centre → a.list ≡ b.list → a.spare ≡ b.spare → a.points ≡ b.points → a ≡ b
seen_same a b c l s p =
    let C : ℕ → Seen = λ x. record { centre = x; list = a.list; spare = a.spare; points = a.points } in
    let L : List (ℕ × Bool) → Seen = λ x. record { centre = b.centre; list = x; spare = a.spare; points = a.points } in
    let N : ℕ → Seen = λ x. record { centre = b.centre; list = b.list; spare = x; points = a.points } in
    let P : List Point → Seen = λ x. record { centre = b.centre; list = b.list; spare = b.spare; points = x } in
    ap C c ∙ ap L l ∙ ap N s ∙ ap P p

pub held_is : (S : List Point) (R : List Look) (v : ℕ) (l : Look) → AreFor S R → IsLookOf R v l → held_star S R v ≡ l.star
held_is S R v l points is =
    seen_same (held_star S R v) l.star (sym is.centre) (ap (λ (z : Sight). z.list) is.look) is.room (sym (for_points S R v l points is))

-- a look written at its place
pub points_set : (S : List Point) (R : List Look) (k : ℕ) (m : Look) → AreFor S R → m.star.points ≡ S → AreFor S (set R k m)
points_set S R k m all is j d h = elim (equal_or_not j k) [
  | inl e ↦ (let within : k < length R = (let len = length-set R k m in omega (arith, len, e, h)) in
      subst (λ (x : Look). x.star.points ≡ S) (sym (ap (λ (i : ℕ). get_or (set R k m) i d) e ∙ get_or-set_same R k m d within)) is)
  | inr ne ↦ (let within : j < length R = (let len = length-set R k m in omega (arith, len, h)) in
      subst (λ (x : Look). x.star.points ≡ S) (sym (get_or-set_other R k j m d ne)) (all j d within))
]

-- a filled slot
pub slot_some : (xs : List (Option Look)) (k : ℕ) (o : Option Look) → AreFilled xs → k < length xs → o ≡ get_or xs k o → ¬ (o ≡ None)
slot_some xs k o filled h at none = there xs k filled h (sym (subst (λ (x : Option Look). x ≡ get_or xs k x) none at))
  where
    there : (ys : List (Option Look)) (j : ℕ) → AreFilled ys → j < length ys → ¬ (get_or ys j None ≡ None)
    there [] j f h e = absurd (omega (arith, h))
    there (None ∷ ys) j f h e = absurd f
    there (Some l ∷ ys) zero f h e = absurd (let g : Some l ≡ None = e in cc)
    there (Some l ∷ ys) (suc j) f h e = there ys j f (omega (arith, h)) e

pub slot_look : (xs : List (Option Look)) (k : ℕ) (l d : Look) → AreFilled xs → k < length xs → Some l ≡ get_or xs k (Some l) → l ≡ get_or (held xs) k d
slot_look xs k l d filled h at = same_Some l (get_or (held xs) k d) (at ∙ get_or_default xs k (Some l) None h ∙ held_at xs k d filled h)

-- the look at k is the look of its vertex
pub look_own : (R : List Look) (k : ℕ) (d : Look) → AreApart (sights R) → k < length R → (has_look (sights R) (get_or R k d).star.centre ≡ true) × (look_at (sights R) (get_or R k d).star.centre ≡ sight (get_or R k d))
look_own [] k d apart h = absurd (omega (arith, h))
look_own (l ∷ R) zero d apart h =
    let t : nat_eq l.star.centre l.star.centre ≡ true = (Decides-eqb l.star.centre l.star.centre).1 refl in
    (or_left (nat_eq l.star.centre l.star.centre) (has_look (sights R) l.star.centre) t, ap (λ (b : Bool). cond b (sight l) (look_at (sights R) l.star.centre)) t)
look_own (l ∷ R) (suc k) d apart h =
    let (there, is) = look_own R k d apart.1 (omega (arith, h)) in
    let v = (get_or R k d).star.centre in
    let f : nat_eq l.star.centre v ≡ false = ne_eqb l.star.centre v (λ s. false≢true (sym apart.0 ∙ subst (λ (n : ℕ). has_look (sights R) n ≡ true) (sym s) there)) in
    (or_right (nat_eq l.star.centre v) (has_look (sights R) v) there, ap (λ (b : Bool). cond b (sight l) (look_at (sights R) v)) f ∙ is)
