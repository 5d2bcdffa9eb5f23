-- Lists of looks that are gone through, one look after the other.
use Rattle.std.proofs.Common.{◌≡◌, ◌≢◌, ℕ, zero, suc, ◌+◌, ◌<◌, ◌≤◌, Bool, true, false, cond, ◌||◌, nat_eq, List, [], ◌∷◌, map, length, get_or, set, ◌⊎◌, inl, inr, arith, sym, ◌∙◌, ap, subst, refl, get_or-set_same, get_or-set_other}
use Rattle.std.proofs.lemmas.List.{length-set, get_or_default}
use Rattle.std.proofs.lemmas.Bool.{false≢true, cases_Bool}
use Rattle.number_laws.proofs.Naturals.{equal_or_not}
use Rattle.plane.specs.declared.coordinates.Point.{Point}
use Rattle.plane.specs.declared.segment.Pair.{Pair}
use Rattle.plane.specs.Accepted.{AreAccepted}
use Rattle.journal_defs.specs.declared.edit.Edit.{Edit}
use Rattle.journal_defs.specs.declared.edit.Edit.TheVariants.{Drop, Keep, Flip}
use Rattle.journal_defs.specs.Edits.{State, touches, is_end, IsSound, IsLegal}
use Rattle.journal_defs.specs.Neighbours.{list_after, at_end}
use Rattle.edit.specs.declared.look.Look.{Look}
use Rattle.edit.specs.Steps.{puts_in, IsBefore, IsAfter}
use Rattle.hands.specs.Hands.{Hand, hand_of, hands_of, is_flip, AreRight, HaveRoom}
use Rattle.hands.specs.Stars.{CanChange, HasChanged, IsRoomier}
use Rattle.hands.proofs.Laws.{star_of_right}

-- of each position so
abbrev pub EachOf : (Look → Look → Type 0) → (old new : List Look) → Type 0
EachOf R [] [] = Unit {0}
EachOf R (x ∷ xs) (y ∷ ys) = R x y × EachOf R xs ys
EachOf R _ _ = ⊥

-- the looks below i have become others, and those from i on are as before
pub record HaveGone (R : Look → Look → Type 0) (i : ℕ) (old now : List Look) : Type 0 where
  pub len : length now ≡ length old
  pub done : (k : ℕ) (d : Look) → k < i → k < length old → R (get_or old k d) (get_or now k d)
  pub rest : (k : ℕ) (d : Look) → i ≤ k → get_or now k d ≡ get_or old k d

pub gone_none : (R : Look → Look → Type 0) (old : List Look) → HaveGone R 0 old old
gone_none R old = record { len = refl; done = λ k d h w. absurd (omega (arith, h)); rest = λ k d h. refl }

-- a look more
pub gone_more : (R : Look → Look → Type 0) (i : ℕ) (old now : List Look) (x y : Look) → HaveGone R i old now → i < length now → x ≡ get_or now i x → R x y → HaveGone R (i + 1) old (set now i y)
gone_more R i old now x y h lt at r = record {
  len = length-set now i y ∙ h.len;
  done = λ k d below within. elim (equal_or_not k i) [
    | inl same ↦ (let P : ℕ → Type 0 = λ j. R (get_or old j d) (get_or (set now i y) j d) in
        subst P (sym same) (subst (λ (z : Look). R (get_or old i d) z) (sym (get_or-set_same now i y d lt)) (subst (λ (z : Look). R z y) (here d) r)))
    | inr other ↦ subst (λ (z : Look). R (get_or old k d) z) (sym (get_or-set_other now i k y d other)) (h.done k d (omega (arith, below, other)) within)
  ];
  rest = λ k d from. get_or-set_other now i k y d (λ e. (let z : i ≡ k = sym e in omega (arith, z, from))) ∙ h.rest k d (omega (arith, from));
}
  where
    here : (d : Look) → x ≡ get_or old i d
    here d = own d now lt at ∙ h.rest i d (omega arith)
      where
        own : (d : Look) (xs : List Look) → i < length xs → x ≡ get_or xs i x → x ≡ get_or xs i d
        own d xs w e = e ∙ same xs i w
          where
            same : (ys : List Look) (j : ℕ) → j < length ys → get_or ys j x ≡ get_or ys j d
            same [] j w = absurd (omega (arith, w))
            same (z ∷ ys) zero w = refl
            same (z ∷ ys) (suc j) w = same ys j (omega (arith, w))

-- all of them
pub gone_all : (R : Look → Look → Type 0) (i : ℕ) (old now : List Look) → HaveGone R i old now → length old ≤ i → EachOf R old now
gone_all R i [] [] h all = tt
gone_all R i [] (y ∷ now) h all = absurd (let z = h.len in omega (arith, z))
gone_all R i (x ∷ old) [] h all = absurd (let z = h.len in omega (arith, z))
gone_all R i (x ∷ old) (y ∷ now) h all = (
  h.done 0 x (omega (arith, all)) (omega arith),
  gone_all R (length old) old now (record {
    len = (let z = h.len in omega (arith, z));
    done = λ k d below within. h.done (suc k) d (omega (arith, below, all)) (omega (arith, within));
    rest = λ k d from. past k d from;
  }) (omega arith),
)
  where
    out : (ys : List Look) (k : ℕ) (d : Look) → length ys ≤ k → get_or ys k d ≡ d
    out [] k d w = refl
    out (z ∷ ys) zero d w = absurd (omega (arith, w))
    out (z ∷ ys) (suc k) d w = out ys k d (omega (arith, w))

    past : (k : ℕ) (d : Look) → length old ≤ k → get_or now k d ≡ get_or old k d
    past k d from = out now k d (let z = h.len in omega (arith, z, from)) ∙ sym (out old k d from)

-- what became of each is what became of all
pub mapped : (f : Hand → Hand) (R : Look → Look → Type 0) (old new : List Look) → ((x y : Look) → R x y → hand_of y ≡ f (hand_of x)) → EachOf R old new → hands_of new ≡ map f (hands_of old)
mapped f R [] [] of h = refl
mapped f R [] (y ∷ new) of h = absurd h
mapped f R (x ∷ old) [] of h = absurd h
mapped f R (x ∷ old) (y ∷ new) of h = ap (λ (z : Hand). z ∷ hands_of new) (of x y h.0) ∙ ap (λ (zs : List Hand). f (hand_of x) ∷ zs) (mapped f R old new of h.1)

pub same_hands : (R : Look → Look → Type 0) (old new : List Look) → ((x y : Look) → R x y → hand_of y ≡ hand_of x) → EachOf R old new → hands_of new ≡ hands_of old
same_hands R [] [] of h = refl
same_hands R [] (y ∷ new) of h = absurd h
same_hands R (x ∷ old) [] of h = absurd h
same_hands R (x ∷ old) (y ∷ new) of h = ap (λ (z : Hand). z ∷ hands_of new) (of x y h.0) ∙ ap (λ (zs : List Hand). hand_of x ∷ zs) (same_hands R old new of h.1)

pub roomy : (n : ℕ) (R : Look → Look → Type 0) (old new : List Look) → ((x y : Look) → R x y → n ≤ y.star.spare) → EachOf R old new → HaveRoom n new
roomy n R [] [] of h = tt
roomy n R [] (y ∷ new) of h = absurd h
roomy n R (x ∷ old) [] of h = absurd h
roomy n R (x ∷ old) (y ∷ new) of h = (of x y h.0, roomy n R old new of h.1)

pub less_room : (S : List Point) (e : Edit) (old new : List Look) (n : ℕ) → EachOf (HasChanged S e) old new → HaveRoom (n + 1) old → HaveRoom n new
less_room S e [] [] n h r = tt
less_room S e [] (y ∷ new) n h r = absurd h
less_room S e (x ∷ old) [] n h r = absurd h
less_room S e (x ∷ old) (y ∷ new) n h r = (let a = h.0.room in let b = r.0 in omega (arith, a, b), less_room S e old new n h.1 r.1)

each_same : (old now : List Look) → length now ≡ length old → ((k : ℕ) (d : Look) → k < length old → hand_of (get_or now k d) ≡ hand_of (get_or old k d)) → hands_of now ≡ hands_of old
each_same [] [] len same = refl
each_same [] (y ∷ now) len same = absurd (omega (arith, len))
each_same (x ∷ old) [] len same = absurd (omega (arith, len))
each_same (x ∷ old) (y ∷ now) len same =
    ap (λ (z : Hand). z ∷ hands_of now) (same 0 x (omega arith))
    ∙ ap (λ (zs : List Hand). hand_of x ∷ zs) (each_same old now (omega (arith, len)) (λ k d lt. same (suc k) d (omega (arith, lt))))

-- the hands are the same where the one at i stays so, and those below it did
pub stopped_same : (n i : ℕ) (old now : List Look) (y d : Look) → HaveGone (IsRoomier n) i old now → i < length old → hand_of y ≡ hand_of (get_or now i d) → hands_of (set now i y) ≡ hands_of old
stopped_same n i old now y d h lt same = each_same old (set now i y) (length-set now i y ∙ h.len) at
  where
    within : i < length now
    within = let z = h.len in omega (arith, z, lt)

    here : (e : Look) → hand_of (get_or (set now i y) i e) ≡ hand_of (get_or old i e)
    here e =
        ap hand_of (get_or-set_same now i y e within) ∙ (same ∙ (ap hand_of (get_or_default now i d e within) ∙ ap hand_of (h.rest i e (omega arith))))

    below : (k : ℕ) (e : Look) → k < length old → k ≢ i → hand_of (get_or now k e) ≡ hand_of (get_or old k e)
    below k e in_old other = by (least k i)
      where
        least : (a b : ℕ) → (a < b) ⊎ (b ≤ a)
        least a zero = inr (omega arith)
        least zero (suc b) = inl (omega arith)
        least (suc a) (suc b) = elim (least a b) [ inl lower ↦ inl (omega (arith, lower)) | inr upper ↦ inr (omega (arith, upper)) ]

        by : (k < i) ⊎ (i ≤ k) → hand_of (get_or now k e) ≡ hand_of (get_or old k e)
        by (inl lower) = (h.done k e lower in_old).hand
        by (inr upper) = ap hand_of (h.rest k e upper)

    at : (k : ℕ) (e : Look) → k < length old → hand_of (get_or (set now i y) k e) ≡ hand_of (get_or old k e)
    at k e in_old = elim (equal_or_not k i) [
      | inl eq ↦ subst (λ (j : ℕ). hand_of (get_or (set now i y) j e) ≡ hand_of (get_or old j e)) (sym eq) (here e)
      | inr other ↦ ap hand_of (get_or-set_other now i k y e other) ∙ below k e in_old other
    ]

pub room_for : (m n : ℕ) (looks : List Look) → m ≤ n → HaveRoom n looks → HaveRoom m looks
room_for m n [] lt r = tt
room_for m n (l ∷ looks) lt r = (let z = r.0 in omega (arith, z, lt), room_for m n looks lt r.1)

-- a list stays where the edit doesn't touch the vertex
aside : (e : Pair) (v : ℕ) (change : ℕ → List (ℕ × Bool)) (list : List (ℕ × Bool)) → is_end e v ≡ false → at_end e v change list ≡ list
unfolding at_end
aside e v change list h =
    elim (cases_Bool (nat_eq e.lo v)) [
      | inl t ↦ absurd (false≢true (sym h ∙ ap (λ (b : Bool). b || nat_eq e.hi v) t))
      | inr f ↦ ap (λ (b : Bool). cond b (change e.hi) (cond (nat_eq e.hi v) (change e.lo) list)) f
          ∙ ap (λ (b : Bool). cond b (change e.lo) list) (sym (ap (λ (b : Bool). b || nat_eq e.hi v) f) ∙ h)
    ]

neither : (a b : Bool) → (a || b) ≡ false → (a ≡ false) × (b ≡ false)
neither true b h = absurd (false≢true (sym h))
neither false b h = (refl, h)

pub list_aside : (S : List Point) (v : ℕ) (e : Edit) (list : List (ℕ × Bool)) → touches e v ≡ false → list_after S v e list ≡ list
list_aside S v (Drop e) list h = aside e v _ list h
list_aside S v (Keep e) list h = aside e v _ list h
list_aside S v (Flip e f) list h =
    let n = neither (is_end e v) (is_end f v) h in
    aside f v _ _ n.1 ∙ aside e v _ list n.0

-- one star that can take the step, and that has taken it
pub star_before : (S : List Point) (e : Edit) (l : Look) → AreAccepted S → CanChange S e l → IsBefore S e l.star
star_before S e l accepted h = (h.state, h.sound, h.legal, star_of_right S h.state l accepted h.sound h.right)

pub changed_by : (S : List Point) (e : Edit) (old new : Look) → new.stamp ≡ old.stamp → IsAfter S e old.star new.star → HasChanged S e old new
changed_by S e old new stamp h = record {
  hand =
      (let C : ℕ → Hand = λ x. record { vertex = x; list = new.star.list; points = new.star.points; stamp = new.stamp } in
      let L : List (ℕ × Bool) → Hand = λ x. record { vertex = old.star.centre; list = x; points = new.star.points; stamp = new.stamp } in
      let P : List Point → Hand = λ x. record { vertex = old.star.centre; list = list_after S old.star.centre e old.star.list; points = x; stamp = new.stamp } in
      let T : ℕ → Hand = λ x. record { vertex = old.star.centre; list = list_after S old.star.centre e old.star.list; points = old.star.points; stamp = x } in
      ap C h.place.0 ∙ (ap L h.list ∙ (ap P h.place.1 ∙ ap T stamp)));
  room = h.room_left;
}

pub left_aside : (S : List Point) (e : Edit) (l : Look) → touches e l.star.centre ≡ false → HasChanged S e l l
left_aside S e l h = record {
  hand = (let L : List (ℕ × Bool) → Hand = λ x. record { vertex = l.star.centre; list = x; points = l.star.points; stamp = l.stamp } in ap L (sym (list_aside S l.star.centre e l.star.list h)));
  room = omega arith;
}

-- each look that is right can take the step
puts_flips : (e : Edit) (v : ℕ) → puts_in e v ≡ true → is_flip e ≡ true
puts_flips (Drop e) v h = absurd (false≢true h)
puts_flips (Keep e) v h = absurd (false≢true h)
puts_flips (Flip e f) v h = refl

pub can_change : (S : List Point) (s : State) (e : Edit) (looks : List Look) (k : ℕ) (d : Look) → IsSound S s → IsLegal S s e → AreRight S s (hands_of looks) → (is_flip e ≡ true → HaveRoom 1 looks) → k < length looks → CanChange S e (get_or looks k d)
can_change S s e [] k d sound legal right room lt = absurd (omega (arith, lt))
can_change S s e (l ∷ looks) zero d sound legal right room lt = record {
  state = s;
  sound = sound;
  legal = legal;
  right = right.0;
  room = λ h. (let z = (room (puts_flips e l.star.centre h)).0 in omega (arith, z));
}
can_change S s e (l ∷ looks) (suc k) d sound legal right room lt = can_change S s e looks k d sound legal right.1 (λ f. (room f).1) (omega (arith, lt))

-- the look whose turn it is
pub can_change_now : (S : List Point) (s : State) (e : Edit) (old now : List Look) (i : ℕ) (d : Look) → IsSound S s → IsLegal S s e → AreRight S s (hands_of old) → (is_flip e ≡ true → HaveRoom 1 old)
    → HaveGone (HasChanged S e) i old now → i < length old → CanChange S e (get_or now i d)
can_change_now S s e old now i d sound legal right room gone lt =
    subst (CanChange S e) (sym (gone.rest i d (omega arith))) (can_change S s e old i d sound legal right room lt)
