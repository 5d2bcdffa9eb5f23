-- What an edit does to the star of a vertex that it touches.
use Rattle.std.proofs.Common.{◌≡◌, ◌≢◌, ℕ, ◌+◌, ◌<◌, Bool, true, false, nat_eq, List, length, pos, inl, inr, arith, sym, ◌∙◌, ap, subst, refl}
use Rattle.std.specs.List.{Contains}
use Rattle.std.proofs.lemmas.Int.{ints}
use Rattle.std.proofs.lemmas.Bool.{false≢true}
use Rattle.std.proofs.lemmas.Bool.Decides.{Decides-eqb, Decides-or}
use Rattle.plane.specs.declared.coordinates.Point.{Point}
use Rattle.plane.specs.declared.segment.Pair.{Pair}
use Rattle.plane.specs.Geometry.{point, area, IsClear, AreCrossing}
use Rattle.plane.specs.Accepted.{AreAccepted}
use Rattle.plane.proofs.laws.Area.{area_first, area_second}
use Rattle.plane.proofs.laws.Border.{clear_back}
use Rattle.partition_defs.specs.Partition.{HasEnds, Joins}
use Rattle.partition_defs.specs.Sets.{without, with_one}
use Rattle.partition_defs.proofs.laws.Joined.{contains_joins, joins_contains, join_ends, join_back}
use Rattle.partition_defs.proofs.laws.Sets.{joins_without, without_joins, joins_with, with_joins, with_joins_own}
use Rattle.partition_defs.proofs.laws.Needs.{clear_joined}
use Rattle.star.specs.Stars.{Seen, entry, IsStar, IsNeighbour, HasMark, Marks, Gains, Loses, SamePlace, IsFree}
use Rattle.star.specs.Turn.{IsInDirection}
use Rattle.star.specs.StarOf.{IsStarOf}
use Rattle.star.proofs.laws.StarOf.{AreEndsOf, GainsSegment, LosesSegment, kept_segment, dropped_segment, put_segment, removed_segment, untouched}
use Rattle.journal_defs.specs.declared.edit.Edit.{Edit}
use Rattle.journal_defs.specs.declared.edit.Edit.TheVariants.{Drop, Keep, Flip}
use Rattle.journal_defs.specs.Edits.{State, after, IsLegal, IsLegalDrop, IsSpare, IsLegalFlip, IsSound, is_end}
use Rattle.journal_defs.specs.Neighbours.{list_after}
use Rattle.edit.specs.Steps.{IsBefore, IsAfter}
use Rattle.journal_defs.proofs.laws.Edits.{sound_after}
use Rattle.star.proofs.laws.Marks.{unmarked}
use Rattle.star.proofs.laws.Directions.{directions_differ}
use Rattle.journal_defs.proofs.laws.Turned.{joined_apart, star_is_value}
use Rattle.journal_defs.proofs.laws.Follow.{star_follows}
use Rattle.partition_defs.proofs.laws.Flips.{joins_in}

-- a pair with these ends is joined
pub ends_joined : (K : List Pair) (e : Pair) (v w : ℕ) → HasEnds e v w → Contains K e → Joins K v w
ends_joined K e v w ends h = join_ends K e v w ends (contains_joins K e h)

pub joined_ends : (K : List Pair) (e : Pair) (v w : ℕ) → HasEnds e v w → Joins K v w → Contains K e
joined_ends K e v w (inl (a, b)) h =
    joins_contains K e (subst (λ (x : ℕ). Joins K x e.hi) (sym a) (subst (λ (y : ℕ). Joins K v y) (sym b) h))
joined_ends K e v w (inr (a, b)) h =
    joins_contains K e (join_back_of K e v w a b h)
  where
    join_back_of : (K : List Pair) (e : Pair) (v w : ℕ) → e.lo ≡ w → e.hi ≡ v → Joins K v w → Joins K e.lo e.hi
    join_back_of K e v w a b h = subst (λ (x : ℕ). Joins K x e.hi) (sym a) (subst (λ (y : ℕ). Joins K w y) (sym b) (join_back K v w h))

ends_of : (e : Pair) (a b v w : ℕ) → HasEnds e a b → HasEnds e v w → AreEndsOf a b v w
ends_of e a b v w (inl p) (inl q) = inl (sym q.0 ∙ p.0, sym q.1 ∙ p.1)
ends_of e a b v w (inl p) (inr q) = inr (sym q.1 ∙ p.1, sym q.0 ∙ p.0)
ends_of e a b v w (inr p) (inl q) = inr (sym q.0 ∙ p.0, sym q.1 ∙ p.1)
ends_of e a b v w (inr p) (inr q) = inl (sym q.1 ∙ p.1, sym q.0 ∙ p.0)

of_ends : (e : Pair) (a b v w : ℕ) → HasEnds e a b → AreEndsOf a b v w → HasEnds e v w
of_ends e a b v w (inl p) (inl q) = inl (p.0 ∙ sym q.0, p.1 ∙ sym q.1)
of_ends e a b v w (inl p) (inr q) = inr (p.0 ∙ sym q.1, p.1 ∙ sym q.0)
of_ends e a b v w (inr p) (inl q) = inr (p.0 ∙ sym q.1, p.1 ∙ sym q.0)
of_ends e a b v w (inr p) (inr q) = inl (p.0 ∙ sym q.0, p.1 ∙ sym q.1)

with_gains : (K : List Pair) (e : Pair) (a b : ℕ) → HasEnds e a b → GainsSegment K (with_one e K) a b
with_gains K e a b ends v w = (
  λ h. elim (joins_with e K v w h) [ inl k ↦ inl k | inr own ↦ inr (ends_of e a b v w ends own) ],
  λ h. elim h [ inl k ↦ with_joins e K v w k | inr own ↦ with_joins_own e K v w (of_ends e a b v w ends own) ],
)

without_loses : (K : List Pair) (e : Pair) (a b : ℕ) → HasEnds e a b → LosesSegment K (without e K) a b
without_loses K e a b ends v w = (
  λ h. (let r = joins_without e K v w h in (r.0, λ own. r.1 (of_ends e a b v w ends own))),
  λ h. without_joins e K v w h.0 (λ own. h.1 (ends_of e a b v w ends own)),
)

-- pairs that cross have no end in common
apart : (S : List Point) (e f : Pair) (v w x : ℕ) → AreCrossing S f.lo f.hi e.lo e.hi → HasEnds e v w → HasEnds f v x → ⊥
apart S e f v w x h he hf = both he
  where
    flat : HasEnds f v x → area (point S f.lo) (point S f.hi) (point S v) ≡ pos 0
    flat (inl (a, b)) = ap (λ (i : ℕ). area (point S f.lo) (point S f.hi) (point S i)) (sym a) ∙ area_first (point S f.lo) (point S f.hi)
    flat (inr (a, b)) = ap (λ (i : ℕ). area (point S f.lo) (point S f.hi) (point S i)) (sym b) ∙ area_second (point S f.lo) (point S f.hi)

    both : HasEnds e v w → ⊥
    both (inl (a, b)) =
        let z : area (point S f.lo) (point S f.hi) (point S e.lo) ≡ pos 0 = ap (λ (i : ℕ). area (point S f.lo) (point S f.hi) (point S i)) a ∙ flat hf in
        elim h.0 [ inl o ↦ omega (arith, ints, o.0) | inr o ↦ omega (arith, ints, o.0) ]
    both (inr (a, b)) =
        let z : area (point S f.lo) (point S f.hi) (point S e.hi) ≡ pos 0 = ap (λ (i : ℕ). area (point S f.lo) (point S f.hi) (point S i)) b ∙ flat hf in
        elim h.0 [ inl o ↦ omega (arith, ints, o.1) | inr o ↦ omega (arith, ints, o.1) ]

-- the star before a legal edit has what the step wants
pub drop_marked : (S : List Point) (s : State) (e : Pair) (v w : ℕ) (a : Seen) → IsSound S s → IsLegalDrop S s e → IsStarOf S s.all s.kept v a → HasEnds e v w → HasMark a w true
drop_marked S s e v w a sound legal so ends =
    let near : IsNeighbour a w = (so.neighbours w).1 (ends_joined s.all e v w ends (sound.among e legal.kept)) in
    (so.marks w near).1 (ends_joined s.kept e v w ends legal.kept)

pub keep_unmarked : (S : List Point) (s : State) (e : Pair) (v w : ℕ) (a : Seen) → IsSpare s e → IsStarOf S s.all s.kept v a → HasEnds e v w → HasMark a w false
keep_unmarked S s e v w a legal so ends =
    let near : IsNeighbour a w = (so.neighbours w).1 (ends_joined s.all e v w ends legal.there) in
    unmarked a w near (λ m. legal.spare (joined_ends s.kept e v w ends ((so.marks w near).0 m)))

pub flip_there : (S : List Point) (s : State) (e f : Pair) (v w : ℕ) (a : Seen) → IsLegalFlip S s e f → IsStarOf S s.all s.kept v a → HasEnds e v w → IsNeighbour a w
flip_there S s e f v w a legal so ends = (so.neighbours w).1 (ends_joined s.all e v w ends legal.spare.there)

-- the end of a pair is a point, another one than the other end
pub end_within : (S : List Point) (f : Pair) (v w : ℕ) → f.hi < length S → HasEnds f v w → (v < length S) × (w < length S) × (w ≢ v)
end_within S f v w h (inl (a, b)) = let o = f.ordered in (omega (arith, a), omega (arith, b), omega (arith, a, b))
end_within S f v w h (inr (a, b)) = let o = f.ordered in (omega (arith, b), omega (arith, a), omega (arith, a, b))

clear_ends : (S : List Point) (f : Pair) (v w : ℕ) → HasEnds f v w → IsClear S f.lo f.hi → IsClear S v w
clear_ends S f v w (inl (a, b)) c = subst (λ (x : ℕ). IsClear S x w) a (subst (λ (y : ℕ). IsClear S f.lo y) b c)
clear_ends S f v w (inr (a, b)) c = clear_back S w v (subst (λ (x : ℕ). IsClear S x v) a (subst (λ (y : ℕ). IsClear S f.lo y) b c))

pub flip_free : (S : List Point) (s : State) (e f : Pair) (v w : ℕ) (a : Seen) → AreAccepted S → IsSound S s → IsLegalFlip S s e f → IsStarOf S s.all s.kept v a → HasEnds f v w → IsFree a w
flip_free S s e f v w a accepted sound legal so ends k hk together =
    let x = (entry a.list k).0 in
    let join : Joins s.all v x = (so.neighbours x).0 (k, (hk, refl)) in
    let own = end_within S f v w legal.within ends in
    let inside : x < length S = joins_in S s.all sound.triangulation x v (join_back s.all v x join) in
    let other : x ≢ w = λ same. legal.fresh (joined_ends s.all f v w ends (subst (λ (y : ℕ). Joins s.all v y) same join)) in
    directions_differ S v x w accepted own.0 inside own.1 (joined_apart s.all v x join) own.2 other (clear_joined S s.all v x sound.triangulation join) (clear_ends S f v w ends legal.clear)
    (let P : List Point → Type 0 = λ Q. IsInDirection Q a.centre x w in
    let R : ℕ → Type 0 = λ c. IsInDirection S c x w in
    subst R so.centre (subst P so.points together))

-- the star after the step is that of the state after the edit
pub drop_star : (S : List Point) (s : State) (e : Pair) (v w : ℕ) (a b : Seen) → IsStarOf S s.all s.kept v a → HasEnds e v w → Marks a b w false → IsStar b → IsStarOf S (after (Drop e) s).all (after (Drop e) s).kept v b
drop_star S s e v w a b so ends mark star = dropped_segment S s.all s.kept (without e s.kept) v w a b so mark star (without_loses s.kept e v w ends)

pub keep_star : (S : List Point) (s : State) (e : Pair) (v w : ℕ) (a b : Seen) → IsStarOf S s.all s.kept v a → HasEnds e v w → Marks a b w true → IsStar b → IsStarOf S (after (Keep e) s).all (after (Keep e) s).kept v b
keep_star S s e v w a b so ends mark star = kept_segment S s.all s.kept (with_one e s.kept) v w a b so mark star (with_gains s.kept e v w ends)

pub left_star : (S : List Point) (s : State) (e f : Pair) (v w : ℕ) (a b : Seen) → IsLegalFlip S s e f → IsStarOf S s.all s.kept v a → HasEnds e v w → Loses a b w → SamePlace a b → IsStar b
    → IsStarOf S (after (Flip e f) s).all (after (Flip e f) s).kept v b
left_star S s e f v w a b legal so ends lost place star =
    let T = without e s.all in
    untouched S T (with_one f T) s.kept s.kept v b
    (removed_segment S s.all T s.kept s.kept v w a b so lost place star (without_loses s.all e v w ends) (λ x ne. (λ h. h, λ h. h)))
    (λ x. (λ h. elim (joins_with f T v x h) [ inl k ↦ k | inr own ↦ absurd (apart S e f v w x legal.crosses ends own) ], λ h. with_joins f T v x h))
    (λ x. (λ h. h, λ h. h))

pub put_star : (S : List Point) (s : State) (e f : Pair) (v w : ℕ) (a b : Seen) → IsSound S s → IsLegalFlip S s e f → IsStarOf S s.all s.kept v a → HasEnds f v w → Gains a b w → SamePlace a b → IsStar b
    → IsStarOf S (after (Flip e f) s).all (after (Flip e f) s).kept v b
put_star S s e f v w a b sound legal so ends gained place star =
    let T = without e s.all in
    put_segment S T (with_one f T) s.kept v w a b
    (untouched S s.all T s.kept s.kept v a so
    (λ x. (λ h. (joins_without e s.all v x h).0, λ h. without_joins e s.all v x h (λ own. apart S e f v x w legal.crosses own ends)))
    (λ x. (λ h. h, λ h. h)))
    gained place star (with_gains T f v w ends)
    (λ j. legal.fresh (sound.among f (joined_ends s.kept f v w ends j)))

-- and its list is the step of the list before
pub list_step : (S : List Point) (s : State) (e : Edit) (v : ℕ) (a b : Seen) → AreAccepted S → IsSound S s → IsLegal S s e → v < length S → IsStarOf S s.all s.kept v a → IsStarOf S (after e s).all (after e s).kept v b
    → b.list ≡ list_after S v e a.list
list_step S s e v a b accepted sound legal hv so to =
    star_is_value S (after e s) v b accepted (sound_after S s e sound legal) hv to
    ∙ sym (star_follows S s e v accepted sound legal hv)
    ∙ ap (λ (l : List (ℕ × Bool)). list_after S v e l) (sym (star_is_value S s v a accepted sound hv so))

-- the centre of a star is a point
centre_in : (S : List Point) (s : State) (a : Seen) → IsStarOf S s.all s.kept a.centre a → a.centre < length S
centre_in S s a so = subst (λ (P : List Point). a.centre < length P) so.points so.star.centre

-- a change of one mark leaves the rest
marks_place : (a b : Seen) (w : ℕ) (m : Bool) → Marks a b w m → SamePlace a b × (b.spare ≡ a.spare)
marks_place a b w m (k, stands, is) = ((ap (λ (x : Seen). x.centre) is, ap (λ (x : Seen). x.points) is), ap (λ (x : Seen). x.spare) is)

pub drop_after : (S : List Point) (e : Pair) (a b : Seen) → AreAccepted S → IsBefore S (Drop e) a → (w : ℕ) × HasEnds e a.centre w × Marks a b w false → IsStar b → IsAfter S (Drop e) a b
drop_after S e a b accepted (s, sound, legal, so) (w, ends, mark) star =
    let (place, spare) = marks_place a b w false mark in
    record {
      star = λ t tsound tlegal tso. drop_star S t e a.centre w a b tso ends mark star;
      list = list_step S s (Drop e) a.centre a b accepted sound legal (centre_in S s a so) so (drop_star S s e a.centre w a b so ends mark star);
      place = place;
      order = star;
      room = λ h. omega (arith, spare);
      room_left = omega (arith, spare);
    }

pub keep_after : (S : List Point) (e : Pair) (a b : Seen) → AreAccepted S → IsBefore S (Keep e) a → (w : ℕ) × HasEnds e a.centre w × Marks a b w true → IsStar b → IsAfter S (Keep e) a b
keep_after S e a b accepted (s, sound, legal, so) (w, ends, mark) star =
    let (place, spare) = marks_place a b w true mark in
    record {
      star = λ t tsound tlegal tso. keep_star S t e a.centre w a b tso ends mark star;
      list = list_step S s (Keep e) a.centre a b accepted sound legal (centre_in S s a so) so (keep_star S s e a.centre w a b so ends mark star);
      place = place;
      order = star;
      room = λ h. omega (arith, spare);
      room_left = omega (arith, spare);
    }

pub left_after : (S : List Point) (e f : Pair) (a b : Seen) → AreAccepted S → IsBefore S (Flip e f) a → (w : ℕ) × HasEnds e a.centre w × Loses a b w → SamePlace a b → b.spare ≡ a.spare + 1 → IsStar b → IsAfter S (Flip e f) a b
left_after S e f a b accepted (s, sound, legal, so) (w, ends, lost) place spare star = record {
  star = λ t tsound tlegal tso. left_star S t e f a.centre w a b tlegal tso ends lost place star;
  list = list_step S s (Flip e f) a.centre a b accepted sound legal (centre_in S s a so) so (left_star S s e f a.centre w a b legal so ends lost place star);
  place = place;
  order = star;
  room = λ h. omega (arith, spare);
  room_left = omega (arith, spare);
}

pub put_after : (S : List Point) (e f : Pair) (a b : Seen) → AreAccepted S → IsBefore S (Flip e f) a → (w : ℕ) × HasEnds f a.centre w × Gains a b w → SamePlace a b → b.spare + 1 ≡ a.spare → IsStar b → is_end f a.centre ≡ true
    → IsAfter S (Flip e f) a b
put_after S e f a b accepted (s, sound, legal, so) (w, ends, gained) place spare star at = record {
  star = λ t tsound tlegal tso. put_star S t e f a.centre w a b tsound tlegal tso ends gained place star;
  list = list_step S s (Flip e f) a.centre a b accepted sound legal (centre_in S s a so) so (put_star S s e f a.centre w a b sound legal so ends gained place star);
  place = place;
  order = star;
  room = λ h. absurd (false≢true (sym h ∙ at));
  room_left = omega (arith, spare);
}

-- what the step at an end wants of the star before
pub before_marked : (S : List Point) (e : Pair) (a : Seen) → IsBefore S (Drop e) a → (w : ℕ) → HasEnds e a.centre w → HasMark a w true
before_marked S e a (s, sound, legal, so) w ends = drop_marked S s e a.centre w a sound legal so ends

pub before_unmarked : (S : List Point) (e : Pair) (a : Seen) → IsBefore S (Keep e) a → (w : ℕ) → HasEnds e a.centre w → HasMark a w false
before_unmarked S e a (s, sound, legal, so) w ends = keep_unmarked S s e a.centre w a legal so ends

pub before_there : (S : List Point) (e f : Pair) (a : Seen) → IsBefore S (Flip e f) a → (w : ℕ) → HasEnds e a.centre w → IsNeighbour a w
before_there S e f a (s, sound, legal, so) w ends = flip_there S s e f a.centre w a legal so ends

pub before_free : (S : List Point) (e f : Pair) (a : Seen) → AreAccepted S → IsBefore S (Flip e f) a → (w : ℕ) → HasEnds f a.centre w → IsFree a w
before_free S e f a accepted (s, sound, legal, so) w ends = flip_free S s e f a.centre w a accepted sound legal so ends

pub before_within : (S : List Point) (e f : Pair) (a : Seen) → IsBefore S (Flip e f) a → f.hi < length S
before_within S e f a (s, sound, legal, so) = legal.within
