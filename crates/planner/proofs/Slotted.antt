-- The slots of a region, of which one is written.
use Rattle.std.proofs.Common.{◌≡◌, ℕ, ◌+◌, ◌<◌, ◌≤◌, Bool, true, nat_eq, zero, suc, false, List, [], ◌∷◌, ◌++◌, length, take, drop, get_or, set, Option, Some, None, arith, sym, ◌∙◌, ap, subst, refl, length-set, length-append}
use Rattle.std.specs.Prelude.{IsTrue, ◌↔◌}
use Rattle.std.specs.List.{refill}
use Rattle.std.proofs.lemmas.Bool.{false≢true, false_from_ne_true}
use Rattle.std.proofs.lemmas.Bool.Decides.{Decides-eqb}
use Rattle.std.proofs.Math.Seq.{take-append_seam}
use Rattle.std.proofs.lemmas.Option.{same_Some}
use Rattle.plane.specs.declared.coordinates.Point.{Point}
use Rattle.star.specs.Stars.{Seen}
use Rattle.journal_defs.specs.declared.edit.Edit.{Edit}
use Rattle.journal_defs.specs.Edits.{touches}
use Rattle.edit.specs.declared.look.Look.{Look}
use Rattle.plan_defs.specs.Plans.{Sight, has_look}
use Rattle.plan_defs.specs.Shown.{AreApart}
use Rattle.planner.specs.Region.{held, sight, sights, IsRegion}
use Rattle.planner.specs.Steps.{AreFilled, IsPlaceIn, AreHeld, CanStep, HasRoomAt, HasSlotRoom, HasSlotStepped, HaveStepped, IsReady, IsSlotReady, held_star}
use Rattle.planner.proofs.Looks.{held_length, held_at, held_set, filled_set, held_push, filled_push, apart_push, place_look, place_room, look_of, seen_same, points_set}
use Rattle.planner.proofs.Stepping.{step_written, room_set_own, room_set_other}

-- a list that was lent as a slice and has come back
pub written_back : (xs ws : List (Option Look)) (n : ℕ) → n ≡ length xs → length ws ≡ length xs → refill n xs ws ≡ ws
written_back xs ws n is len = subst (λ (m : ℕ). take m (ws ++ drop (length ws) xs) ≡ ws) (len ∙ sym is) (take-append_seam ws (drop (length ws) xs))

-- the place in the slots
pub slot_within : (xs : List (Option Look)) (v k : ℕ) → AreFilled xs → IsPlaceIn (held xs) v (Some k) → k < length xs
slot_within xs v k filled place = let e = held_length xs filled in let h = place.0 in omega (arith, e, h)

slot_is : (xs : List (Option Look)) (v k : ℕ) (d : Look) → AreFilled xs → IsPlaceIn (held xs) v (Some k) → get_or xs k None ≡ Some (get_or (held xs) k d)
slot_is xs v k d filled place = held_at xs k d filled (slot_within xs v k filled place)

-- its look can take the step
pub slot_ready : (S : List Point) (e : Edit) (xs : List (Option Look)) (v k : ℕ) → AreFilled xs → AreHeld S (held xs) → IsReady S e (held xs) v → IsPlaceIn (held xs) v (Some k) → IsSlotReady S e (get_or xs k None)
slot_ready S e xs v k filled all ready place =
    let R = held xs in
    let (d, _) = look_of R v ready.looked in
    let l = get_or R k d in
    let centre : l.star.centre ≡ v = place.1 d in
    let points : l.star.points ≡ S = all.points k d place.0 in
    let same : held_star S R v ≡ l.star = seen_same (held_star S R v) l.star (sym centre) (ap (λ (z : Sight). z.list) (place_look R v k d place)) (place_room R v k d place) (sym points) in
    record {
      look = l;
      is = slot_is xs v k d filled place;
      points = sym points;
      touched = subst (λ (n : ℕ). touches e n ≡ true) (sym centre) ready.touched;
      can = subst (λ (a : Seen). CanStep S e a) same ready.can;
    }

-- what the region has become
pub record IsWritten (xs ws : List (Option Look)) (R : List Look) : Type 0 where
  pub filled : AreFilled ws
  pub held : held ws ≡ R
  pub len : length ws ≡ length xs

pub slot_stepped : (S : List Point) (e : Edit) (xs : List (Option Look)) (v k : ℕ) (slot : Option Look) → AreFilled xs → AreHeld S (held xs) → IsPlaceIn (held xs) v (Some k) → HasSlotStepped S e (get_or xs k None) slot
    → (R : List Look) × IsWritten xs (set xs k slot) R × (length R ≡ length (held xs)) × HaveStepped S e (λ w. nat_eq v w) (held xs) R
slot_stepped S e xs v k slot filled all place step =
    let m = step.next in
    let is : (d : Look) → get_or (held xs) k d ≡ step.look = λ d. same_Some (get_or (held xs) k d) step.look (sym (slot_is xs v k d filled place) ∙ step.is) in
    let P : Option Look → Type 0 = λ o. IsWritten xs (set xs k o) (set (held xs) k m) in (
      set (held xs) k m,
      subst P (sym step.becomes) (record { filled = filled_set xs k m filled; held = held_set xs k m filled; len = length-set xs k (Some m) }),
      length-set (held xs) k m,
      step_written S e (held xs) v k step.look m all place is step.stepped,
    )

-- the slots are those of a region again
pub region_again : (S : List Point) (e : Edit) (at : ℕ → Bool) (xs ws : List (Option Look)) (R : List Look) → IsRegion (held xs) → IsWritten xs ws R → length R ≡ length (held xs) → HaveStepped S e at (held xs) R → AreFilled ws × IsRegion (held ws)
region_again S e at xs ws R region written len step =
    (written.filled, subst IsRegion (sym written.held) (record { few = (let f = region.few in omega (arith, f, len)); apart = step.held.apart }))

-- room in the star of a slot
pub slot_room : (xs : List (Option Look)) (v k : ℕ) (slot : Option Look) (found : Bool) → AreFilled xs → IsRegion (held xs) → IsPlaceIn (held xs) v (Some k) → HasSlotRoom (get_or xs k None) slot found
    → (R : List Look) × IsWritten xs (set xs k slot) R × IsRegion R × HasRoomAt v found (held xs) R
slot_room xs v k slot found filled region place room =
    let R = held xs in
    let m = room.next in
    let l = room.look in
    let is : (d : Look) → get_or R k d ≡ l = λ d. same_Some (get_or R k d) l (sym (slot_is xs v k d filled place) ∙ room.is) in
    let centre : m.star.centre ≡ v = ap (λ (z : Sight). z.vertex) room.sight ∙ subst (λ (x : Look). x.star.centre ≡ v) (is l) (place.1 l) in
    let told : sights (set R k m) ≡ sights R = same_sights R k l m place.0 (room.sight ∙ ap sight (sym (is l))) in
    let P : Option Look → Type 0 = λ o. IsWritten xs (set xs k o) (set R k m) in (
      set R k m,
      subst P (sym room.becomes) (record { filled = filled_set xs k m filled; held = held_set xs k m filled; len = length-set xs k (Some m) }),
      record { few = (let f = region.few in let n = length-set R k m in omega (arith, f, n)); apart = subst AreApart (sym told) region.apart },
      record {
        told = told;
        points = λ S of. points_set S R k m of (room.points ∙ subst (λ (x : Look). x.star.points ≡ S) (is l) (of k l place.0));
        room = λ f. subst (λ (n : ℕ). 0 < n) (sym (room_set_own R v k m place centre)) (room.room f);
        rest = λ w ne. room_set_other R v w k l m place.0 (place.1 l) centre ne;
      },
    )
  where
    same_sights : (R : List Look) (k : ℕ) (d m : Look) → k < length R → sight m ≡ sight (get_or R k d) → sights (set R k m) ≡ sights R
    same_sights [] k d m h e = absurd (omega (arith, h))
    same_sights (l ∷ R) zero d m h e = ap (λ (x : Sight). x ∷ sights R) e
    same_sights (l ∷ R) (suc k) d m h e = ap (λ (xs : List Sight). sight l ∷ xs) (same_sights R k d m (omega (arith, h)) e)

-- the same, told of the region that was opened, and of its slots as they were lent
pub within_of : (xs ys : List (Option Look)) (R : List Look) (v k : ℕ) → ys ≡ xs → held xs ≡ R → AreFilled xs → IsPlaceIn R v (Some k) → k < length ys
within_of xs ys R v k lent view filled place =
    let low = slot_within xs v k filled (subst (λ (T : List Look). IsPlaceIn T v (Some k)) (sym view) place) in
    let e : length ys ≡ length xs = ap (length {A = Option Look}) lent in omega (arith, low, e)

pub ready_of : (S : List Point) (e : Edit) (xs ys : List (Option Look)) (R : List Look) (v k : ℕ) → ys ≡ xs → held xs ≡ R → AreFilled xs → AreHeld S R → IsReady S e R v → IsPlaceIn R v (Some k) → IsSlotReady S e (get_or ys k None)
ready_of S e xs ys R v k lent view filled all ready place =
    let A : List Look → Type 0 = λ T. AreHeld S T in
    let B : List Look → Type 0 = λ T. IsReady S e T v in
    let C : List Look → Type 0 = λ T. IsPlaceIn T v (Some k) in
    subst (λ (zs : List (Option Look)). IsSlotReady S e (get_or zs k None)) (sym lent)
    (slot_ready S e xs v k filled (subst A (sym view) all) (subst B (sym view) ready) (subst C (sym view) place))

pub step_done : (S : List Point) (e : Edit) (xs ys ws : List (Option Look)) (R : List Look) (v k n : ℕ) → ys ≡ xs → held xs ≡ R → AreFilled xs → IsRegion (held xs) → AreHeld S R → IsPlaceIn R v (Some k)
    → ((slot : Option Look) × (ws ≡ set ys k slot) × HasSlotStepped S e (get_or ys k None) slot) → n ≡ length xs
    → (AreFilled (refill n xs ws) × IsRegion (held (refill n xs ws))) × HaveStepped S e (λ w. nat_eq v w) R (held (refill n xs ws))
step_done S e xs ys ws R v k n lent view filled region all place (slot, is, step) size =
    let A : List Look → Type 0 = λ T. AreHeld S T in
    let C : List Look → Type 0 = λ T. IsPlaceIn T v (Some k) in
    let D : List (Option Look) → Type 0 = λ zs. HasSlotStepped S e (get_or zs k None) slot in
    let (T, written, len, done) = slot_stepped S e xs v k slot filled (subst A (sym view) all) (subst C (sym view) place) (subst D lent step) in
    let same : ws ≡ set xs k slot = is ∙ ap (λ (zs : List (Option Look)). set zs k slot) lent in
    let back : refill n xs ws ≡ set xs k slot = written_back xs ws n size (ap (length {A = Option Look}) same ∙ written.len) ∙ same in
    let P : List (Option Look) → Type 0 = λ zs. (AreFilled zs × IsRegion (held zs)) × HaveStepped S e (λ w. nat_eq v w) R (held zs) in
    let Q : List Look → List Look → Type 0 = λ X Y. HaveStepped S e (λ w. nat_eq v w) X Y in
    subst P (sym back) (
      region_again S e (λ w. nat_eq v w) xs (set xs k slot) T region written len done,
      subst (λ (Y : List Look). Q R Y) (sym written.held) (subst (λ (X : List Look). Q X T) view done),
    )

pub room_done : (xs ys ws : List (Option Look)) (R : List Look) (v k n : ℕ) (found : Bool) → ys ≡ xs → held xs ≡ R → AreFilled xs → IsRegion (held xs) → IsPlaceIn R v (Some k)
    → ((slot : Option Look) × (ws ≡ set ys k slot) × HasSlotRoom (get_or ys k None) slot found) → n ≡ length xs
    → (AreFilled (refill n xs ws) × IsRegion (held (refill n xs ws))) × HasRoomAt v found R (held (refill n xs ws))
room_done xs ys ws R v k n found lent view filled region place (slot, is, room) size =
    let C : List Look → Type 0 = λ T. IsPlaceIn T v (Some k) in
    let D : List (Option Look) → Type 0 = λ zs. HasSlotRoom (get_or zs k None) slot found in
    let (T, written, again, done) = slot_room xs v k slot found filled region (subst C (sym view) place) (subst D lent room) in
    let same : ws ≡ set xs k slot = is ∙ ap (λ (zs : List (Option Look)). set zs k slot) lent in
    let back : refill n xs ws ≡ set xs k slot = written_back xs ws n size (ap (length {A = Option Look}) same ∙ written.len) ∙ same in
    let P : List (Option Look) → Type 0 = λ zs. (AreFilled zs × IsRegion (held zs)) × HasRoomAt v found R (held zs) in
    let Q : List Look → List Look → Type 0 = λ X Y. HasRoomAt v found X Y in
    subst P (sym back) (
      (written.filled, subst IsRegion (sym written.held) again),
      subst (λ (Y : List Look). Q R Y) (sym written.held) (subst (λ (X : List Look). Q X T) view done),
    )

-- the slot has a look
pub some_of : (xs ys : List (Option Look)) (R : List Look) (v k : ℕ) → ys ≡ xs → held xs ≡ R → AreFilled xs → IsPlaceIn R v (Some k) → has_look (sights R) v ≡ true → (l : Look) × (get_or ys k None ≡ Some l)
some_of xs ys R v k lent view filled place looked =
    let (d, _) = look_of R v looked in
    (get_or (held xs) k d, ap (λ (zs : List (Option Look)). get_or zs k None) lent ∙ slot_is xs v k d filled (subst (λ (T : List Look). IsPlaceIn T v (Some k)) (sym view) place))

-- a look that comes to the end
pub pushed : (xs : List (Option Look)) (l : Look) → AreFilled xs → IsRegion (held xs) → length xs < 16 → has_look (sights (held xs)) l.star.centre ≡ false → AreFilled (xs ++ Some l ∷ []) × IsRegion (held (xs ++ Some l ∷ []))
pushed xs l filled region room new =
    let e : held (xs ++ Some l ∷ []) ≡ held xs ++ l ∷ [] = held_push xs l in
    let len : length (held xs ++ l ∷ []) ≡ length (held xs) + length (l ∷ []) = length-append (held xs) (l ∷ []) in
    let one : length (l ∷ []) ≡ 1 = refl in
    let same = held_length xs filled in (
      filled_push xs l filled,
      subst IsRegion (sym e) (record { few = omega (arith, len, one, same, room); apart = apart_push (held xs) l region.apart new }),
    )

pub full_is : (xs : List (Option Look)) (R : List Look) → held xs ≡ R → AreFilled xs → nat_eq (length xs) 16 ≡ true → length R ≡ 16
full_is xs R view filled full = ap (length {A = Look}) (sym view) ∙ held_length xs filled ∙ (Decides-eqb (length xs) 16).0 full

pub room_is : (xs : List (Option Look)) → length xs ≤ 16 → nat_eq (length xs) 16 ≡ false → length xs < 16
room_is xs most off = (let ne : ¬ (length xs ≡ 16) = λ e. false≢true (sym off ∙ (Decides-eqb (length xs) 16).1 e) in omega (arith, most, ne))

pub new_is : (xs : List (Option Look)) (R : List Look) (v c : ℕ) (b : Bool) → held xs ≡ R → v ≡ c → IsTrue b ↔ (has_look (sights R) v ≡ true) → b ≡ false → has_look (sights (held xs)) c ≡ false
new_is xs R v c b view at told off =
    subst (λ (n : ℕ). has_look (sights (held xs)) n ≡ false) at
    (subst (λ (T : List Look). has_look (sights T) v ≡ false) (sym view) (false_from_ne_true (has_look (sights R) v) (λ t. false≢true (sym off ∙ told.1 t))))

pub added_is : (xs ys : List (Option Look)) (R : List Look) (l : Look) → held xs ≡ R → ys ≡ xs ++ Some l ∷ [] → held ys ≡ R ++ l ∷ []
added_is xs ys R l view is = ap held is ∙ held_push xs l ∙ ap (λ (T : List Look). T ++ l ∷ []) view
