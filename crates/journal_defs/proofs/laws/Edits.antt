-- Legal edits: when a Drop is legal, what stays true after an edit, that legality is local, and the way back.
use Rattle.std.proofs.Common.{◌≡◌, ℕ, ◌<◌, true, List, [], ◌∷◌, length, inl, inr, arith, sym, ◌∙◌, ap, subst, refl}
use Rattle.std.specs.List.{Contains}
use Rattle.number_laws.proofs.Naturals.{equal_or_not}
use Rattle.plane.specs.declared.coordinates.Point.{Point}
use Rattle.plane.specs.declared.segment.Pair.{Pair}
use Rattle.plane.specs.Geometry.{IsBorderPair, IsInner, AreCrossing}
use Rattle.partition_defs.specs.Partition.{HasEnds, AreWithin, AreClear, ArePlane, MeetsNeedsAt, IsConvexPartition}
use Rattle.partition_defs.specs.Triangulation.{IsApex}
use Rattle.partition_defs.proofs.laws.Has.{has_of, contains_of}
use Rattle.journal_defs.specs.declared.edit.Edit.{Edit}
use Rattle.journal_defs.specs.declared.edit.Edit.TheVariants.{Drop, Keep, Flip}
use Rattle.journal_defs.specs.declared.commit.Commit.{Commit}
use Rattle.partition_defs.specs.Sets.{without, with_one}
use Rattle.journal_defs.specs.Edits.{State, after, IsLegalDrop, IsSpare, IsLegalFlip, IsLegal, is_end, touches, inverse, inverse_all, IsSound, AreAlikeAt}
use Rattle.journal_defs.specs.Journal.{after_all, AreLegal, replay_from, AreLegalFrom}
use Rattle.partition_defs.proofs.laws.Sets.{ascending_without, ascending_with, without_with, with_without, contains_without, without_contains, contains_with, with_contains, with_contains_own, joins_without, without_joins}
use Rattle.partition_defs.proofs.laws.Joined.{contains_joins, joins_contains, among_joins}
use Rattle.journal_defs.proofs.laws.Members.{is_end_lo, is_end_hi}
use Rattle.partition_defs.specs.Flips.{IsFlippable, IsFlip}
use Rattle.partition_defs.proofs.laws.Flips.{flip_of_quad, quad_of_flip, triangulation_of_flip, flip_swap, flipped_set}
use Rattle.journal_defs.proofs.laws.Flips.{flip_of_legal, legal_of_flip}
use Rattle.journal_defs.proofs.laws.Journal.{legal_append, after_append}
use Rattle.std.proofs.lemmas.Bool.{or_left}

-- each pair of K is one of L
abbrev pub IsAmong : (K L : List Pair) → Type 0
IsAmong K L = (e : Pair) → Contains K e → Contains L e

-- a set between a convex partition and a plane set is a convex partition
pub partition_between : (S : List Point) (A B T : List Pair) → IsConvexPartition S A → IsAmong A B → IsAmong B T → AreWithin S T → AreClear S T → ArePlane S T → IsConvexPartition S B
partition_between S A B T part sub sup within clear plane = record {
  within = λ e h. within e (sup e h);
  clear = λ e h. clear e (sup e h);
  plane = λ e f h k. plane e f (sup e h) (sup f k);
  border = λ i j ij hj b. among_joins A B sub i j (part.border i j ij hj b);
  needs = λ p hp inner q hq ne. (let (r, hr, join, need) = part.needs p hp inner q hq ne in (r, hr, among_joins A B sub p r join, need));
}

-- what can't go now can't go later, when less is kept
pub drop_stays_illegal : (S : List Point) (K L : List Pair) (e : Pair) → IsConvexPartition S K → IsAmong L K → IsConvexPartition S (without e L) → IsConvexPartition S (without e K)
drop_stays_illegal S K L e part sub gone =
    partition_between S (without e L) (without e K) K gone
    (λ f h. (let r = contains_without e f L h in without_contains e f K (sub f r.0) r.1))
    (λ f h. (contains_without e f K h).0)
    part.within part.clear part.plane

-- the kept pairs without e meet all needs of v, where v is an inner point
abbrev pub StaysMetAt : List Point → List Pair → Pair → ℕ → Type 0
StaysMetAt S K e v = IsInner S v → MeetsNeedsAt S (without e K) v

-- e isn't on the border, and the needs at its ends stay met
pub record CanGo (S : List Point) (K : List Pair) (e : Pair) : Type 0 where
  pub inside : ¬ IsBorderPair S e.lo e.hi
  pub lower : StaysMetAt S K e e.lo
  pub upper : StaysMetAt S K e e.hi

-- a kept pair may go exactly by its two ends
pub gone_can : (S : List Point) (K : List Pair) (e : Pair) → e.hi < length S → IsConvexPartition S (without e K) → CanGo S K e
gone_can S K e hi part = record {
  inside = λ b. (joins_without e K e.lo e.hi (part.border e.lo e.hi e.ordered hi b)).1 (inl (refl, refl));
  lower = λ inner. part.needs e.lo (let o = e.ordered in omega arith) inner;
  upper = λ inner. part.needs e.hi hi inner;
}

pub can_gone : (S : List Point) (K : List Pair) (e : Pair) → IsConvexPartition S K → CanGo S K e → IsConvexPartition S (without e K)
can_gone S K e part can = record {
  within = λ f h. part.within f (contains_without e f K h).0;
  clear = λ f h. part.clear f (contains_without e f K h).0;
  plane = λ f g h k. part.plane f g (contains_without e f K h).0 (contains_without e g K k).0;
  border = λ i j ij hj b. without_joins e K i j (part.border i j ij hj b) (λ ends. off i j ij b ends);
  needs = λ p hp inner. at p hp inner;
}
  where
    off : (i j : ℕ) → i < j → IsBorderPair S i j → ¬ HasEnds e i j
    off i j ij b (inl (x, y)) =
        let P : ℕ → Type 0 = λ k. IsBorderPair S k e.hi in let Q : ℕ → Type 0 = λ k. IsBorderPair S i k in
        can.inside (subst P (sym x) (subst Q (sym y) b))
    off i j ij b (inr (x, y)) = let o = e.ordered in omega (arith, x, y)

    at : (p : ℕ) → p < length S → IsInner S p → MeetsNeedsAt S (without e K) p
    at p hp inner = elim (equal_or_not e.lo p) [
      | inl x ↦ (let P : ℕ → Type 0 = λ k. IsInner S k → MeetsNeedsAt S (without e K) k in subst P x can.lower inner)
      | inr x ↦ elim (equal_or_not e.hi p) [
        | inl y ↦ (let P : ℕ → Type 0 = λ k. IsInner S k → MeetsNeedsAt S (without e K) k in subst P y can.upper inner)
        | inr y ↦ λ q hq ne. (let (r, hr, join, need) = part.needs p hp inner q hq ne in
            (r, hr, without_joins e K p r join (λ ends. elim ends [ inl a ↦ x a.0 | inr a ↦ y a.1 ]), need))
      ]
    ]

-- a legal Keep leaves a convex partition: it lies between the old one and the triangulation
pub kept_with : (S : List Point) (s : State) (e : Pair) → IsSound S s → Contains s.all e → IsConvexPartition S (with_one e s.kept)
kept_with S s e so there =
    partition_between S s.kept (with_one e s.kept) s.all so.partition
    (λ f h. with_contains e f s.kept h)
    (λ f h. elim (contains_with e f s.kept h) [ inl k ↦ so.among f k | inr same ↦ subst (λ (z : Pair). Contains s.all z) (sym same) there ])
    so.triangulation.within so.triangulation.clear so.triangulation.plane

pub sound_drop : (S : List Point) (s : State) (e : Pair) → IsSound S s → IsLegalDrop S s e → IsSound S (after (Drop e) s)
sound_drop S s e so legal = record {
  all_ascending = so.all_ascending;
  kept_ascending = ascending_without e s.kept so.kept_ascending;
  triangulation = so.triangulation;
  partition = legal.partition;
  among = λ f h. so.among f (contains_without e f s.kept h).0;
}

pub sound_keep : (S : List Point) (s : State) (e : Pair) → IsSound S s → IsSpare s e → IsSound S (after (Keep e) s)
sound_keep S s e so legal = record {
  all_ascending = so.all_ascending;
  kept_ascending = ascending_with e s.kept so.kept_ascending;
  triangulation = so.triangulation;
  partition = kept_with S s e so legal.there;
  among = λ f h. elim (contains_with e f s.kept h) [ inl k ↦ so.among f k | inr same ↦ subst (λ (z : Pair). Contains s.all z) (sym same) legal.there ];
}

pub sound_flip : (S : List Point) (s : State) (e f : Pair) → IsSound S s → IsLegalFlip S s e f → IsSound S (after (Flip e f) s)
sound_flip S s e f so legal = record {
  all_ascending = ascending_with f (without e s.all) (ascending_without e s.all so.all_ascending);
  kept_ascending = so.kept_ascending;
  triangulation = triangulation_of_flip S s.all (with_one f (without e s.all)) so.triangulation e.lo e.hi f.lo f.hi (flip_of_legal S s e f legal) (flipped_set s.all e f);
  partition = so.partition;
  among = λ g h. with_contains f g (without e s.all) (without_contains e g s.all (so.among g h) (λ same. legal.spare.spare (subst (λ (z : Pair). Contains s.kept z) same h)));
}

pub sound_after : (S : List Point) (s : State) (e : Edit) → IsSound S s → IsLegal S s e → IsSound S (after e s)
sound_after S s (Drop e) so legal = sound_drop S s e so legal
sound_after S s (Keep e) so legal = sound_keep S s e so legal
sound_after S s (Flip e f) so legal = sound_flip S s e f so legal

pub sound_after_all : (S : List Point) (s : State) (es : List Edit) → IsSound S s → AreLegal S s es → IsSound S (after_all es s)
sound_after_all S s [] so legal = so
sound_after_all S s (e ∷ es) so legal = sound_after_all S (after e s) es (sound_after S s e so legal.0) legal.1

pub sound_replay : (S : List Point) (s : State) (J : List Commit) → IsSound S s → AreLegalFrom S s J → IsSound S (replay_from s J)
sound_replay S s [] so legal = so
sound_replay S s (c ∷ J) so legal = sound_replay S (after_all c.edits s) J (sound_after_all S s c.edits so legal.0) legal.1

-- the ends of f are the two apexes of e, and the quadrilateral of the four points is strictly convex
pub record HasQuad (S : List Point) (T : List Pair) (e f : Pair) : Type 0 where
  pub near : ℕ
  pub far : ℕ
  pub ends : HasEnds f near far
  pub quad : IsFlippable S T e.lo e.hi near far

-- a flip is legal exactly by its four points
pub legal_flippable : (S : List Point) (s : State) (e f : Pair) → IsSound S s → IsLegalFlip S s e f → HasQuad S s.all e f
legal_flippable S s e f so legal =
    elim (quad_of_flip S s.all so.triangulation e.lo e.hi f.lo f.hi (flip_of_legal S s e f legal)) [
      | inl q ↦ record { near = f.lo; far = f.hi; ends = inl (refl, refl); quad = q }
      | inr q ↦ record { near = f.hi; far = f.lo; ends = inr (refl, refl); quad = q }
    ]

pub flippable_legal : (S : List Point) (s : State) (e f : Pair) → IsSound S s → IsSpare s e → HasQuad S s.all e f → IsLegalFlip S s e f
flippable_legal S s e f so spare can = legal_of_flip S s e f spare (named can.ends (flip_of_quad S s.all so.triangulation e.lo e.hi can.near can.far can.quad))
  where
    named : HasEnds f can.near can.far → IsFlip S s.all e.lo e.hi can.near can.far → IsFlip S s.all e.lo e.hi f.lo f.hi
    named (inl (a, b)) h = subst (λ x. IsFlip S s.all e.lo e.hi x f.hi) (sym a) (subst (λ y. IsFlip S s.all e.lo e.hi can.near y) (sym b) h)
    named (inr (a, b)) h =
        subst (λ x. IsFlip S s.all e.lo e.hi x f.hi) (sym a) (subst (λ y. IsFlip S s.all e.lo e.hi can.far y) (sym b) (flip_swap S s.all e.lo e.hi can.near can.far h))

alike_all : (s t : State) (e : Pair) → AreAlikeAt s t e.lo → Contains s.all e → Contains t.all e
alike_all s t e a h = joins_contains t.all e ((a.all e.hi).0 (contains_joins s.all e h))

alike_kept : (s t : State) (e : Pair) → AreAlikeAt s t e.lo → Contains s.kept e → Contains t.kept e
alike_kept s t e a h = joins_contains t.kept e ((a.kept e.hi).0 (contains_joins s.kept e h))

alike_not_all : (s t : State) (e : Pair) → AreAlikeAt s t e.lo → ¬ Contains s.all e → ¬ Contains t.all e
alike_not_all s t e a n h = n (joins_contains s.all e ((a.all e.hi).1 (contains_joins t.all e h)))

alike_not_kept : (s t : State) (e : Pair) → AreAlikeAt s t e.lo → ¬ Contains s.kept e → ¬ Contains t.kept e
alike_not_kept s t e a n h = n (joins_contains s.kept e ((a.kept e.hi).1 (contains_joins t.kept e h)))

alike_met : (S : List Point) (s t : State) (e : Pair) (v : ℕ) → AreAlikeAt s t v → StaysMetAt S s.kept e v → StaysMetAt S t.kept e v
alike_met S s t e v a met = λ inner q hq ne.
    (let (r, hr, join, need) = met inner q hq ne in
    let own = joins_without e s.kept v r join in
    (r, hr, without_joins e t.kept v r ((a.kept r).0 own.0) own.1, need))

alike_spare : (s t : State) (e : Pair) → AreAlikeAt s t e.lo → IsSpare s e → IsSpare t e
alike_spare s t e a h = record { there = alike_all s t e a h.there; spare = alike_not_kept s t e a h.spare }

alike_apex : (S : List Point) (s t : State) (p q r : ℕ) → AreAlikeAt s t p → AreAlikeAt s t q → IsApex S s.all p q r → IsApex S t.all p q r
alike_apex S s t p q r a b apex = record { within = apex.within; first = (a.all r).0 apex.first; second = (b.all r).0 apex.second; left = apex.left; empty = apex.empty }

pub local_drop : (S : List Point) (s t : State) (e : Pair) → IsSound S s → IsSound S t → AreAlikeAt s t e.lo → AreAlikeAt s t e.hi → IsLegalDrop S s e → IsLegalDrop S t e
local_drop S s t e so to low high legal =
    let can = gone_can S s.kept e (so.partition.within e legal.kept) legal.partition in
    record {
      kept = alike_kept s t e low legal.kept;
      partition = can_gone S t.kept e to.partition (record {
        inside = can.inside;
        lower = alike_met S s t e e.lo low can.lower;
        upper = alike_met S s t e e.hi high can.upper;
      });
    }

pub local_flip : (S : List Point) (s t : State) (e f : Pair) → IsSound S s → IsSound S t → AreAlikeAt s t e.lo → AreAlikeAt s t e.hi → IsLegalFlip S s e f → IsLegalFlip S t e f
local_flip S s t e f so to low high legal =
    let can = legal_flippable S s e f so legal in
    flippable_legal S t e f to (alike_spare s t e low legal.spare) (record {
      near = can.near;
      far = can.far;
      ends = can.ends;
      quad = record {
        joined = (low.all e.hi).0 can.quad.joined;
        left = alike_apex S s t e.lo e.hi can.near low high can.quad.left;
        right = alike_apex S s t e.hi e.lo can.far high low can.quad.right;
        first_side = can.quad.first_side;
        second_side = can.quad.second_side;
      };
    })

-- legality is local: it goes by the neighbours and marks of the touched vertices
pub local : (S : List Point) (s t : State) (e : Edit) → IsSound S s → IsSound S t → ((v : ℕ) → touches e v ≡ true → AreAlikeAt s t v) → IsLegal S s e → IsLegal S t e
local S s t (Drop e) so to alike legal = local_drop S s t e so to (alike e.lo (is_end_lo e)) (alike e.hi (is_end_hi e)) legal
local S s t (Keep e) so to alike legal = alike_spare s t e (alike e.lo (is_end_lo e)) legal
local S s t (Flip e f) so to alike legal =
    local_flip S s t e f so to
    (alike e.lo (or_left (is_end e e.lo) (is_end f e.lo) (is_end_lo e)))
    (alike e.hi (or_left (is_end e e.hi) (is_end f e.hi) (is_end_hi e)))
    legal

-- the way back
pub back_drop : (S : List Point) (s : State) (e : Pair) → IsSound S s → IsLegalDrop S s e → IsSpare (after (Drop e) s) e
back_drop S s e so legal = record { there = so.among e legal.kept; spare = λ h. (contains_without e e s.kept h).1 refl }

pub back_keep : (S : List Point) (s : State) (e : Pair) → IsSound S s → IsSpare s e → IsLegalDrop S (after (Keep e) s) e
back_keep S s e so legal = record {
  kept = with_contains_own e s.kept;
  partition = subst (IsConvexPartition S) (sym (without_with e s.kept so.kept_ascending (λ h. legal.spare (contains_of s.kept e h)))) so.partition;
}

crossing_back : (S : List Point) (a b c d : ℕ) → AreCrossing S a b c d → AreCrossing S c d a b
crossing_back S a b c d h = (h.1, h.0)

pub back_flip : (S : List Point) (s : State) (e f : Pair) → IsSound S s → IsLegalFlip S s e f → IsLegalFlip S (after (Flip e f) s) f e
back_flip S s e f so legal = record {
  spare = record { there = with_contains_own f (without e s.all); spare = λ h. legal.fresh (so.among f h) };
  fresh = λ h. elim (contains_with f e (without e s.all) h) [
    | inl k ↦ (contains_without e e s.all k).1 refl
    | inr same ↦ legal.fresh (subst (λ (z : Pair). Contains s.all z) same legal.spare.there)
  ];
  within = so.triangulation.within e legal.spare.there;
  clear = so.triangulation.clear e legal.spare.there;
  crosses = crossing_back S f.lo f.hi e.lo e.hi legal.crosses;
  alone = λ g h ne. elim (contains_with f g (without e s.all) h) [
    | inl k ↦ so.triangulation.plane e g legal.spare.there (contains_without e g s.all k).0
    | inr same ↦ absurd (ne same)
  ];
}

pub inverse_legal : (S : List Point) (s : State) (e : Edit) → IsSound S s → IsLegal S s e → IsLegal S (after e s) (inverse e)
inverse_legal S s (Drop e) so legal = back_drop S s e so legal
inverse_legal S s (Keep e) so legal = back_keep S s e so legal
inverse_legal S s (Flip e f) so legal = back_flip S s e f so legal

-- it leads back to the very same lists
pub inverse_leads : (S : List Point) (s : State) (e : Edit) → IsSound S s → IsLegal S s e → after (inverse e) (after e s) ≡ s
inverse_leads S s (Drop e) so legal =
    ap (λ (K : List Pair). (let t : State = record { all = s.all; kept = K } in t)) (with_without e s.kept so.kept_ascending (has_of s.kept e legal.kept))
inverse_leads S s (Keep e) so legal =
    ap (λ (K : List Pair). (let t : State = record { all = s.all; kept = K } in t)) (without_with e s.kept so.kept_ascending (λ h. legal.spare (contains_of s.kept e h)))
inverse_leads S s (Flip e f) so legal =
    ap (λ (T : List Pair). (let t : State = record { all = T; kept = s.kept } in t))
    (ap (with_one e) (without_with f (without e s.all) (ascending_without e s.all so.all_ascending) (λ h. legal.fresh (contains_without e f s.all (contains_of (without e s.all) f h)).0))
    ∙ with_without e s.all so.all_ascending (has_of s.all e legal.spare.there))

-- the same of a list of edits: the inverses, in reverse order
pub inverses_lead : (S : List Point) (s : State) (es : List Edit) → IsSound S s → AreLegal S s es
    → AreLegal S (after_all es s) (inverse_all es) × (after_all (inverse_all es) (after_all es s) ≡ s)
inverses_lead S s [] so legal = (tt, refl)
inverses_lead S s (e ∷ es) so legal =
    let t = after e s in
    let rest = inverses_lead S t es (sound_after S s e so legal.0) legal.1 in
    let one : IsLegal S t (inverse e) = inverse_legal S s e so legal.0 in
    let back : after (inverse e) t ≡ s = inverse_leads S s e so legal.0 in (
      legal_append S (inverse_all es) (inverse e ∷ []) (after_all es t) rest.0 (subst (λ (u : State). AreLegal S u (inverse e ∷ [])) (sym rest.1) (one, tt)),
      after_append (inverse_all es) (inverse e ∷ []) (after_all es t) ∙ ap (after (inverse e)) rest.1 ∙ back,
    )

-- the ends stay points through legal edits
pub within_after : (S : List Point) (s : State) (e : Edit) → AreWithin S s.all → IsLegal S s e → AreWithin S (after e s).all
within_after S s (Drop e) inside legal = inside
within_after S s (Keep e) inside legal = inside
within_after S s (Flip e f) inside legal = λ g h. elim (contains_with f g (without e s.all) h) [
  | inl k ↦ inside g (contains_without e g s.all k).0
  | inr same ↦ subst (λ (z : Pair). z.hi < length S) (sym same) legal.within
]
