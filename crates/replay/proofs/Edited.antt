-- A subdivision through the edits of a commit, and back.
use Rattle.std.proofs.Common.{◌≡◌, ℕ, suc, Bool, false, ◌||◌, ◌+◌, ◌*◌, ◌<◌, ◌≤◌, true, List, [], ◌∷◌, length, slice_index_or, arith, sym, ◌∙◌, ap, subst, refl, add-one, IsSome}
use Rattle.std.specs.Prelude.{is_some, Option}
use Rattle.std.specs.List.{All}
use Rattle.std.proofs.lemmas.Option.{slice_get-get_or, unwrap_or-slice_get}
use Rattle.plane.specs.declared.coordinates.Point.{Point}
use Rattle.plane.specs.Accepted.{AreAccepted}
use Rattle.star.specs.Stars.{Seen}
use Rattle.star.specs.StarOf.{IsStarOf}
use Rattle.subdivision.specs.Layout.{Layout, star_or_none}
use Rattle.journal_defs.specs.declared.edit.Edit.{Edit}
use Rattle.journal_defs.specs.declared.edit.Edit.TheVariants.{Drop, Keep, Flip}
use Rattle.journal_defs.specs.declared.edit.Why.{Why}
use Rattle.journal_defs.specs.Edits.{State, after, inverse, touches, is_end, IsLegal, IsSound}
use Rattle.journal_defs.specs.Journal.{after_all}
use Rattle.journal_defs.specs.Table.{IsAt, Refuses, seen_of, HasStarsFor}
use Rattle.journal_defs.proofs.laws.Edits.{sound_after, inverse_legal, inverse_leads}
use Rattle.journal_defs.proofs.laws.Table.{refused_illegal}
use Rattle.journal_defs.proofs.laws.Same.{true_why}
use Rattle.replay.specs.Applied.{IsWithin, IsFirstFault}
use Rattle.replay.specs.Machine.{layers}
use Rattle.replay.specs.Room.{HasRoomFor, HasRoomForAll, spare_at}
use Rattle.replay.specs.Edited.{IsSoundLayout, HasBecome, IsFault}
use Rattle.replay.proofs.Changed.{star_in, stars_count, touched_within}

-- a subdivision that has become that of a sound state is sound
pub sound_become : (S : List Point) (m : ℕ) (s : State) (a b : Layout) → IsSoundLayout S a → IsSound S s → HasBecome m s a b → IsSoundLayout S b
sound_become S m s a b so sound h = record {
  of = so.of ∙ sym h.points;
  subdivision = h.subdivision;
  sound = subst (IsSound S) (sym h.state) sound;
}

abbrev bare : Seen
bare = record { centre = 0; list = []; spare = 0; points = [] }

-- its stars are those of the touched vertices
pub stars_for : (S : List Point) (a : Layout) (e : Edit) → IsSoundLayout S a → IsWithin (length S) e → HasStarsFor S (λ v. star_or_none a.stars v) e
stars_for S a e so within v is =
    let h : v < length S = touched_within (length S) e v within is in
    let low : v < length a.stars = subst (λ n. v < n) (sym (stars_count S a so)) h in
    let star = star_in S a v so h in
    let R : Seen → Type 0 = λ x. IsAt S x v in (
      ap (λ (o : Option Seen). is_some o) (slice_get-get_or a.stars v bare low),
      subst R (sym (unwrap_or-slice_get a.stars v bare)) (sym star.points, star.centre),
    )

pub stars_true : (S : List Point) (a : Layout) (e : Edit) → IsSoundLayout S a → IsWithin (length S) e → (v : ℕ) → touches e v ≡ true
    → IsStarOf S a.all a.kept v (seen_of (λ u. star_or_none a.stars u) v)
stars_true S a e so within v is = subst (IsStarOf S a.all a.kept v) (sym (unwrap_or-slice_get a.stars v bare)) (star_in S a v so (touched_within (length S) e v within is))

-- what the table's refusal on its stars says of the state
pub refusal_says : (S : List Point) (a : Layout) (e : Edit) (why : Why) → AreAccepted S → IsSoundLayout S a → IsWithin (length S) e
    → Refuses S (seen_of (λ v. star_or_none a.stars v)) e why → IsFault S (layers a) e why
refusal_says S a e why accepted so within r =
    let at = seen_of (λ u. star_or_none a.stars u) in
    record {
      illegal = refused_illegal S (layers a) at e why so.sound (stars_true S a e so within) r;
      tells = true_why S (layers a) at e why accepted so.sound (λ v is. touched_within (length S) e v within is) (stars_true S a e so within) r;
    }

-- the inverse leads back
pub inverse_within : (n : ℕ) (e : Edit) → IsWithin n e → IsWithin n (inverse e)
inverse_within n (Drop e) h = h
inverse_within n (Keep e) h = h
inverse_within n (Flip e f) h = (h.1, h.0)

pub inverse_room : (m : ℕ) (stars : List Seen) (e : Edit) → HasRoomFor m stars e → HasRoomFor m stars (inverse e)
inverse_room m stars (Drop e) h = tt
inverse_room m stars (Keep e) h = tt
inverse_room m stars (Flip e f) h = λ v is. h v (turned (is_end e v) (is_end f v) is)
  where
    turned : (a b : Bool) → (b || a) ≡ true → (a || b) ≡ true
    turned true b k = refl
    turned false true k = refl
    turned false false k = k

pub room_less : (m n : ℕ) (old new : List Seen) (e : Edit) → ((v : ℕ) → m ≤ spare_at old v → n ≤ spare_at new v) → HasRoomFor m old e → HasRoomFor n new e
room_less m n old new (Drop e) less h = tt
room_less m n old new (Keep e) less h = tt
room_less m n old new (Flip e f) less h = λ v is. less v (h v is)

pub room_one : (m : ℕ) (stars : List Seen) (e : Edit) → 1 ≤ m → HasRoomFor m stars e → HasRoomFor 1 stars e
room_one m stars e h r = room_less m 1 stars stars e (λ v k. omega arith) r

-- the first of the edits isn't legal
pub fault_here : (S : List Point) (s : State) (e : Edit) (rest : List Edit) (why : Why) → IsFault S s e why → IsFirstFault S s (e ∷ rest) 0 why
fault_here S s e rest why h = record {
  first = record { within = omega arith; before = tt; edit = e; at = refl; illegal = h.illegal };
  tells = h.tells;
}

-- one of the rest isn't
fault_later : (S : List Point) (s : State) (e : Edit) (rest : List Edit) (k : ℕ) (why : Why) → IsLegal S s e → IsFirstFault S (after e s) rest k why → IsFirstFault S s (e ∷ rest) (suc k) why
fault_later S s e rest k why legal h = record {
  first = record { within = (let w = h.first.within in omega arith); before = (legal, h.first.before); edit = h.first.edit; at = h.first.at; illegal = h.first.illegal };
  tells = h.tells;
}

pub fault_next : (S : List Point) (s : State) (e : Edit) (rest : List Edit) (k : ℕ) (why : Why) → IsLegal S s e → IsFirstFault S (after e s) rest k why → IsFirstFault S s (e ∷ rest) (k + 1) why
fault_next S s e rest k why legal h = subst (λ n. IsFirstFault S s (e ∷ rest) n why) (sym (add-one k)) (fault_later S s e rest k why legal h)

-- the first edit and then the rest
pub made_more : (S : List Point) (e : Edit) (rest : List Edit) (a b c : Layout) → HasBecome 1 (after e (layers a)) a b → HasBecome (2 * length rest) (after_all rest (layers b)) b c
    → HasBecome (2 * length (e ∷ rest)) (after_all (e ∷ rest) (layers a)) a c
made_more S e rest a b c first others = record {
  points = others.points ∙ first.points;
  subdivision = others.subdivision;
  state = others.state ∙ ap (after_all rest) first.state;
  room = λ v. (let p = first.room v in let q = others.room v in omega arith);
}

-- the first edit, the rest in vain, and the first undone
pub made_undone : (S : List Point) (e : Edit) (rest : List Edit) (a b c d : Layout) → IsSoundLayout S a → IsLegal S (layers a) e → HasBecome 1 (after e (layers a)) a b
    → HasBecome (2 * length rest) (layers b) b c → HasBecome 1 (after (inverse e) (layers c)) c d → HasBecome (2 * length (e ∷ rest)) (layers a) a d
made_undone S e rest a b c d so legal first others back = record {
  points = back.points ∙ others.points ∙ first.points;
  subdivision = back.subdivision;
  state = back.state ∙ ap (after (inverse e)) (others.state ∙ first.state) ∙ inverse_leads S (layers a) e so.sound legal;
  room = λ v. (let p = first.room v in let q = others.room v in let r = back.room v in omega arith);
}

pub undo_legal : (S : List Point) (m : ℕ) (e : Edit) (a b c : Layout) → IsSoundLayout S a → IsLegal S (layers a) e → HasBecome 1 (after e (layers a)) a b
    → HasBecome m (layers b) b c → IsLegal S (layers c) (inverse e)
undo_legal S m e a b c so legal first others =
    subst (λ s. IsLegal S s (inverse e)) (sym (others.state ∙ first.state)) (inverse_legal S (layers a) e so.sound legal)

-- the star of a vertex that a subdivision has
pub star_there : (S : List Point) (a : Layout) (v : ℕ) → IsSoundLayout S a → v < length S → IsSome (star_or_none a.stars v)
star_there S a v so h = ap (λ (o : Option Seen). is_some o) (slice_get-get_or a.stars v bare (subst (λ n. v < n) (sym (stars_count S a so)) h))

pub star_got : (S : List Point) (a : Layout) (v : ℕ) (s : Seen) → IsSoundLayout S a → v < length S → s ≡ seen_of (λ u. star_or_none a.stars u) v → IsStarOf S a.all a.kept v s
star_got S a v s so h is = subst (IsStarOf S a.all a.kept v) (sym (is ∙ unwrap_or-slice_get a.stars v bare)) (star_in S a v so h)

-- the first of some edits, and the rest
pub head_of : (P : Edit → Type 0) (e : Edit) (rest edits : List Edit) → edits ≡ e ∷ rest → All P edits → P e
head_of P e rest edits is all = let whole : All P (e ∷ rest) = subst (All P) is all in whole 0 e (omega arith)

pub tail_of : (P : Edit → Type 0) (e : Edit) (rest edits : List Edit) → edits ≡ e ∷ rest → All P edits → All P rest
tail_of P e rest edits is all k d h = let whole : All P (e ∷ rest) = subst (All P) is all in whole (suc k) d (omega arith)

-- the first edit is made
pub sound_made : (S : List Point) (e : Edit) (a b : Layout) → IsSoundLayout S a → IsLegal S (layers a) e → HasBecome 1 (after e (layers a)) a b → IsSoundLayout S b
sound_made S e a b so legal first = sound_become S 1 (after e (layers a)) a b so (sound_after S (layers a) e so.sound legal) first

pub rooms_left : (e : Edit) (rest edits : List Edit) (s : State) (a b : Layout) → edits ≡ e ∷ rest → HasRoomForAll (2 * length edits) a.stars edits → HasBecome 1 s a b → HasRoomForAll (2 * length rest) b.stars rest
rooms_left e rest edits s a b is all first k d h =
    let len : length edits ≡ length rest + 1 = ap length is ∙ sym (add-one (length rest)) in
    room_less (2 * length edits) (2 * length rest) a.stars b.stars (slice_index_or rest k d) (λ v r. (let q = first.room v in omega (arith, len, q, r)))
    (tail_of (HasRoomFor (2 * length edits) a.stars) e rest edits is all k d h)

pub room_back : (e : Edit) (rest edits : List Edit) (s t : State) (a b c : Layout) → edits ≡ e ∷ rest → HasRoomForAll (2 * length edits) a.stars edits → HasBecome 1 s a b → HasBecome (2 * length rest) t b c
    → HasRoomFor 1 c.stars e
room_back e rest edits s t a b c is all first others =
    let len : length edits ≡ length rest + 1 = ap length is ∙ sym (add-one (length rest)) in
    room_less (2 * length edits) 1 a.stars c.stars e (λ v r. (let p = first.room v in let q = others.room v in omega (arith, len, p, q, r)))
    (head_of (HasRoomFor (2 * length edits) a.stars) e rest edits is all)

pub room_first : (e : Edit) (rest edits : List Edit) (stars : List Seen) → edits ≡ e ∷ rest → HasRoomForAll (2 * length edits) stars edits → HasRoomFor 1 stars e
room_first e rest edits stars is all =
    let len : length edits ≡ length rest + 1 = ap length is ∙ sym (add-one (length rest)) in
    room_one (2 * length edits) stars e (omega (arith, len)) (head_of (HasRoomFor (2 * length edits) stars) e rest edits is all)
