-- What a legal edit makes of the stars of all points.
use Rattle.std.proofs.Common.{◌≡◌, ℕ, ◌<◌, ◌≤◌, Bool, true, false, ◌||◌, nat_eq, List, length, inl, inr, ◌⊎◌, pos, arith, sym, ◌∙◌, ap, subst, refl}
use Rattle.std.proofs.lemmas.Int.{ints}
use Rattle.std.proofs.lemmas.Bool.{false≢true}
use Rattle.std.proofs.lemmas.Bool.Decides.{Decides-eqb, Decides-or}
use Rattle.plane.specs.declared.coordinates.Point.{Point}
use Rattle.plane.specs.declared.segment.Pair.{Pair}
use Rattle.plane.specs.Geometry.{point, area, AreCrossing}
use Rattle.plane.proofs.laws.Area.{area_first, area_second}
use Rattle.partition_defs.specs.Sets.{AreSame}
use Rattle.partition_defs.proofs.laws.Joined.{same_lists, among_joins}
use Rattle.star.specs.Stars.{Seen}
use Rattle.star.specs.StarOf.{IsStarOf}
use Rattle.subdivision.specs.Layout.{Layout, star_at, AreOf, IsSubdivision}
use Rattle.journal_defs.specs.declared.edit.Edit.{Edit}
use Rattle.journal_defs.specs.declared.edit.Edit.TheVariants.{Drop, Keep, Flip}
use Rattle.journal_defs.specs.Edits.{State, after, is_end, touches, IsLegal, IsSound}
use Rattle.journal_defs.proofs.laws.Edits.{sound_after}
use Rattle.journal_defs.proofs.laws.Members.{untouched, star_alike, end_of}
use Rattle.edit.specs.Steps.{puts_in}
use Rattle.replay.specs.Applied.{IsWithin}
use Rattle.replay.specs.Machine.{layers}
use Rattle.replay.specs.Room.{HasRoomFor, spare_at, LosesRoom}
use Rattle.replay.specs.Followed.{IsReady, HaveFollowed, AreApart}
use Rattle.replay.specs.Edited.{IsSoundLayout, HasBecome}
use Rattle.replay.proofs.Followed.{room_lost}

end_below : (n : ℕ) (e : Pair) (v : ℕ) → e.hi < n → is_end e v ≡ true → v < n
end_below n e v h is = let o = e.ordered in elim (end_of e v is) [ inl a ↦ omega arith | inr a ↦ omega arith ]

or_cases : (a b : Bool) → (a || b) ≡ true → (a ≡ true) ⊎ (b ≡ true)
or_cases true b h = inl refl
or_cases false b h = inr h

-- an edit of pairs of n points touches points alone
pub touched_within : (n : ℕ) (e : Edit) (v : ℕ) → IsWithin n e → touches e v ≡ true → v < n
touched_within n (Drop e) v h is = end_below n e v h is
touched_within n (Keep e) v h is = end_below n e v h is
touched_within n (Flip e f) v h is = elim (or_cases (is_end e v) (is_end f v) is) [ inl a ↦ end_below n e v h.0 a | inr a ↦ end_below n f v h.1 a ]

-- pairs that cross have no end in common
flat : (S : List Point) (f : Pair) (v : ℕ) → is_end f v ≡ true → area (point S f.lo) (point S f.hi) (point S v) ≡ pos 0
flat S f v is = elim (end_of f v is) [
  | inl a ↦ ap (λ (i : ℕ). area (point S f.lo) (point S f.hi) (point S i)) (sym a) ∙ area_first (point S f.lo) (point S f.hi)
  | inr a ↦ ap (λ (i : ℕ). area (point S f.lo) (point S f.hi) (point S i)) (sym a) ∙ area_second (point S f.lo) (point S f.hi)
]

crossing_apart : (S : List Point) (e f : Pair) (v : ℕ) → AreCrossing S f.lo f.hi e.lo e.hi → is_end e v ≡ true → is_end f v ≡ true → ⊥
crossing_apart S e f v h he hf = at (end_of e v he)
  where
    at : (e.lo ≡ v) ⊎ (e.hi ≡ v) → ⊥
    at (inl a) =
        let z : area (point S f.lo) (point S f.hi) (point S e.lo) ≡ pos 0 = ap (λ (i : ℕ). area (point S f.lo) (point S f.hi) (point S i)) a ∙ flat S f v hf in
        elim h.0 [ inl o ↦ omega (arith, ints, o.0) | inr o ↦ omega (arith, ints, o.0) ]
    at (inr a) =
        let z : area (point S f.lo) (point S f.hi) (point S e.hi) ≡ pos 0 = ap (λ (i : ℕ). area (point S f.lo) (point S f.hi) (point S i)) a ∙ flat S f v hf in
        elim h.0 [ inl o ↦ omega (arith, ints, o.1) | inr o ↦ omega (arith, ints, o.1) ]

pub legal_apart : (S : List Point) (s : State) (e : Edit) → IsLegal S s e → AreApart e
legal_apart S s (Drop e) h = tt
legal_apart S s (Keep e) h = tt
legal_apart S s (Flip e f) h = λ v. crossing_apart S e f v h.crosses

-- the star of a point in a sound subdivision
pub star_in : (S : List Point) (a : Layout) (v : ℕ) → IsSoundLayout S a → v < length S → IsStarOf S a.all a.kept v (star_at a.stars v)
star_in S a v so h =
    subst (λ P. IsStarOf P a.all a.kept v (star_at a.stars v)) (sym so.of) (so.subdivision.agreed.round.1 v (subst (λ P. v < length P) so.of h))

pub stars_count : (S : List Point) (a : Layout) → IsSoundLayout S a → length a.stars ≡ length S
stars_count S a so = so.subdivision.agreed.round.0 ∙ ap length (sym so.of)

puts_room : (m : ℕ) (stars : List Seen) (e : Edit) (v : ℕ) → HasRoomFor m stars e → puts_in e v ≡ true → m ≤ spare_at stars v
puts_room m stars (Drop e) v h is = absurd (false≢true is)
puts_room m stars (Keep e) v h is = absurd (false≢true is)
puts_room m stars (Flip e f) v h is = h v (right (is_end e v) (is_end f v) is)
  where
    right : (a b : Bool) → b ≡ true → (a || b) ≡ true
    right true b k = refl
    right false b k = k

-- each touched vertex is ready for a legal edit
pub ready_for : (S : List Point) (a : Layout) (e : Edit) → IsSoundLayout S a → IsLegal S (layers a) e → IsWithin (length S) e → HasRoomFor 1 a.stars e
    → (v : ℕ) → touches e v ≡ true → IsReady S e a.stars v
ready_for S a e so legal within room v is =
    let h : v < length S = touched_within (length S) e v within is in
    let star = star_in S a v so h in
    record {
      within = subst (λ n. v < n) (sym (stars_count S a so)) h;
      points = sym star.points;
      centre = star.centre;
      touched = is;
      before = (layers a, so.sound, legal, subst (λ c. IsStarOf S a.all a.kept c (star_at a.stars v)) (sym star.centre) star);
      room = puts_room 1 a.stars e v room;
    }

-- then all stars are those of the state after the edit
followed_star : (S : List Point) (a : Layout) (e : Edit) (new : List Seen) (v : ℕ) → IsSoundLayout S a → IsLegal S (layers a) e → HaveFollowed S e (touches e) a.stars new → v < length S
    → IsStarOf S (after e (layers a)).all (after e (layers a)).kept v (star_at new v)
followed_star S a e new v so legal moved h = at (touches e v) refl
  where
    star : IsStarOf S a.all a.kept v (star_at a.stars v)
    star = star_in S a v so h

    here : (c : ℕ) → c ≡ v → IsStarOf S (after e (layers a)).all (after e (layers a)).kept c (star_at new v) → IsStarOf S (after e (layers a)).all (after e (layers a)).kept v (star_at new v)
    here c same = subst (λ x. IsStarOf S (after e (layers a)).all (after e (layers a)).kept x (star_at new v)) same

    at : (b : Bool) → touches e v ≡ b → IsStarOf S (after e (layers a)).all (after e (layers a)).kept v (star_at new v)
    at true is = here (star_at a.stars v).centre star.centre ((moved.done v is).star (layers a) so.sound legal (subst (λ c. IsStarOf S a.all a.kept c (star_at a.stars v)) (sym star.centre) star))
    at false is =
        subst (IsStarOf S (after e (layers a)).all (after e (layers a)).kept v) (sym (moved.rest v is))
        (star_alike S (layers a) (after e (layers a)) v (star_at a.stars v) (untouched e (layers a) v is) star)

pub followed_of : (S : List Point) (a : Layout) (e : Edit) (new : List Seen) → IsSoundLayout S a → IsLegal S (layers a) e → HaveFollowed S e (touches e) a.stars new
    → AreOf S (after e (layers a)).all (after e (layers a)).kept new
followed_of S a e new so legal moved =
    let sound = sound_after S (layers a) e so.sound legal in
    record {
      triangulation = sound.triangulation;
      among = among_joins (after e (layers a)).kept (after e (layers a)).all sound.among;
      round = (moved.len ∙ stars_count S a so, λ v h. followed_star S a e new v so legal moved h);
    }

pub layers_one : (a : Layout) (s : State) → a.all ≡ s.all → a.kept ≡ s.kept → layers a ≡ s
layers_one a s p q =
    let F : List Pair → State = λ x. record { all = x; kept = a.kept } in
    let G : List Pair → State = λ x. record { all = s.all; kept = x } in
    ap F p ∙ ap G q

-- a subdivision of the stars of a sound state is that state
pub layers_of : (S : List Point) (a : Layout) (s : State) → IsSound S s → IsSubdivision a → AreSame a.all s.all × AreSame a.kept s.kept → layers a ≡ s
layers_of S a s sound sub same =
    layers_one a s (same_lists a.all s.all sub.ascending sound.all_ascending same.0) (same_lists a.kept s.kept sub.kept_ascending sound.kept_ascending same.1)

pub changed_becomes : (S : List Point) (a new : Layout) (e : Edit) (stars : List Seen) → IsSoundLayout S a → IsLegal S (layers a) e → HaveFollowed S e (touches e) a.stars stars
    → new.points ≡ S → new.stars ≡ stars → IsSubdivision new
    → ((T K : List Pair) → AreOf S T K stars → AreSame new.all T × AreSame new.kept K)
    → HasBecome 1 (after e (layers a)) a new
changed_becomes S a new e stars so legal moved points is sub same = record {
  points = points ∙ so.of;
  subdivision = sub;
  state = layers_of S new (after e (layers a)) (sound_after S (layers a) e so.sound legal) sub (same (after e (layers a)).all (after e (layers a)).kept (followed_of S a e stars so legal moved));
  room = subst (λ xs. LosesRoom 1 a.stars xs) (sym is) (room_lost S e (touches e) a.stars stars moved);
}

-- two subdivisions with the same segments have the same lists
pub rebuilt : (a b : Layout) → IsSubdivision a → IsSubdivision b → AreSame b.all a.all × AreSame b.kept a.kept → (b.all ≡ a.all) × (b.kept ≡ a.kept)
rebuilt a b sub new same = (same_lists b.all a.all new.ascending sub.ascending same.0, same_lists b.kept a.kept new.kept_ascending sub.kept_ascending same.1)

-- its stars are those of its segments, also as a list that was taken out
pub agreed_as : (S : List Point) (a : Layout) (stars : List Seen) → a.points ≡ S → stars ≡ a.stars → IsSubdivision a → AreOf S a.all a.kept stars
agreed_as S a stars of is sub =
    subst (λ (P : List Point). AreOf P a.all a.kept stars) of (subst (λ (xs : List Seen). AreOf a.points a.all a.kept xs) (sym is) sub.agreed)
