-- The inverse of an edit that fits takes the lists of stars that have each other back to what they were.
use Rattle.std.proofs.Common.{◌≡◌, ◌≢◌, ℕ, ◌<◌, Bool, true, false, List, [], ◌∷◌, length, ◌⊎◌, inl, inr, sym, ◌∙◌, ap, subst, refl}
use Rattle.std.proofs.lemmas.Bool.{cases_Bool, or_left, or_right}
use Rattle.plane.specs.declared.coordinates.Point.{Point}
use Rattle.plane.specs.declared.segment.Pair.{Pair}
use Rattle.plane.specs.Geometry.{point}
use Rattle.plane.specs.Accepted.{AreAccepted}
use Rattle.plane.proofs.laws.Border.{points_differ}
use Rattle.partition_defs.specs.Partition.{HasEnds}
use Rattle.partition_defs.proofs.laws.Joined.{one_other}
use Rattle.star.specs.Turn.{IsBeforeInTurn}
use Rattle.star.specs.Stars.{Seen, IsStar, IsOrderly, IsNeighbour, HasMark}
use Rattle.star.proofs.laws.Turning.{before_on, never_before_itself}
use Rattle.star.proofs.laws.Marks.{marked_neighbour, unmarked}
use Rattle.journal_defs.specs.declared.edit.Edit.{Edit}
use Rattle.journal_defs.specs.declared.edit.Edit.TheVariants.{Drop, Keep, Flip}
use Rattle.journal_defs.specs.Edits.{inverse, is_end, touches}
use Rattle.journal_defs.specs.Table.{Fits}
use Rattle.journal_defs.specs.Neighbours.{turns_before, mark_as, leave_out, put_in_turn, at_end, list_after}
use Rattle.journal_defs.specs.Turns.{AreMutual}
use Rattle.journal_defs.proofs.laws.Members.{is_end_lo, is_end_hi}
use Rattle.journal_defs.proofs.laws.Turned.{In, in_at, at_in, Turns, turn_in, Decides-turns}
use Rattle.journal_defs.proofs.laws.Follow.{at_end_cases, in_out}
use Rattle.journal_defs.proofs.laws.Back.{TurnsByTest, mark_back, put_back, out_and_in}

-- the star is for the points S and has the centre v
abbrev pub IsStarAt : List Point → Seen → ℕ → Type 0
IsStarAt S s v = IsStar s × (s.centre ≡ v) × (s.points ≡ S)

orderly : (S : List Point) (s : Seen) (v : ℕ) → IsStarAt S s v → IsOrderly S v s.list
orderly S s v at = subst (λ (X : List Point). IsOrderly X v s.list) at.2 (subst (λ (c : ℕ). IsOrderly s.points c s.list) at.1 at.0)

-- at an end the change, elsewhere none
pub at_end_is : (e : Pair) (v w : ℕ) (change : ℕ → List (ℕ × Bool)) (list : List (ℕ × Bool)) → HasEnds e v w → at_end e v change list ≡ change w
at_end_is e v w change list own = at_end_cases e v change list (λ m. m ≡ change w) (λ x ends. ap change (one_other e v x w ends own)) (λ off. absurd (off w own))

at_end_off : (e : Pair) (v : ℕ) (change : ℕ → List (ℕ × Bool)) (list : List (ℕ × Bool)) → ((w : ℕ) → ¬ HasEnds e v w) → at_end e v change list ≡ list
at_end_off e v change list none = at_end_cases e v change list (λ m. m ≡ list) (λ x ends. absurd (none x ends)) (λ off. refl)

-- a neighbour stands once, with one mark
once : (S : List Point) (v w : ℕ) (b c : Bool) (l : List (ℕ × Bool)) → Turns S v l → In (w, b) l → In (w, c) l → b ≡ c
once S v w b c [] t h k = absurd h
once S v w b c (x ∷ xs) t (inl h) (inl k) = ap (λ (p : ℕ × Bool). p.1) (sym h ∙ k)
once S v w b c (x ∷ xs) t (inl h) (inr k) = absurd (never_before_itself (point S v) (point S w) (subst (λ (n : ℕ). IsBeforeInTurn S v n w) (ap (λ (p : ℕ × Bool). p.0) h) (t.0 (w, c) k)))
once S v w b c (x ∷ xs) t (inr h) (inl k) = absurd (never_before_itself (point S v) (point S w) (subst (λ (n : ℕ). IsBeforeInTurn S v n w) (ap (λ (p : ℕ × Bool). p.0) k) (t.0 (w, b) h)))
once S v w b c (x ∷ xs) t (inr h) (inr k) = once S v w b c xs t.1 h k

-- a mark changed at an end and set as it was
mark_undone : (S : List Point) (e : Pair) (v : ℕ) (b c : Bool) (l : List (ℕ × Bool)) → Turns S v l → ((w : ℕ) → HasEnds e v w → In (w, b) l)
    → at_end e v (λ w. mark_as w b (at_end e v (λ x. mark_as x c l) l)) (at_end e v (λ x. mark_as x c l) l) ≡ l
mark_undone S e v b c l turns marked =
    at_end_cases e v (λ x. mark_as x c l) l (λ m. at_end e v (λ w. mark_as w b m) m ≡ l)
    (λ w ends. at_end_is e v w (λ x. mark_as x b (mark_as w c l)) (mark_as w c l) ends
    ∙ mark_back w b c l (λ z i same. once S v w z.1 b l turns (subst (λ (n : ℕ). In (n, z.1) l) same i) (marked w ends)))
    (λ off. at_end_off e v (λ w. mark_as w b l) l off)

by_test : (S : List Point) (v : ℕ) (l : List (ℕ × Bool)) → ((x : ℕ × Bool) → In x l → point S x.0 ≢ point S v) → Turns S v l → TurnsByTest S v l
by_test S v [] apart t = tt
by_test S v (x ∷ xs) apart t = (
  λ y i. (
    (Decides-turns (point S v) (point S x.0) (point S y.0) (apart x (inl refl)) (apart y (inr i))).1 (t.0 y i),
    not_back y i (cases_Bool (turns_before (point S v) (point S y.0) (point S x.0))),
    λ e. never_before_itself (point S v) (point S x.0) (subst (λ (n : ℕ). IsBeforeInTurn S v x.0 n) e (t.0 y i)),
  ),
  by_test S v xs (λ y i. apart y (inr i)) t.1,
)
  where
    not_back : (y : ℕ × Bool) → In y xs → (turns_before (point S v) (point S y.0) (point S x.0) ≡ true) ⊎ (turns_before (point S v) (point S y.0) (point S x.0) ≡ false) → turns_before (point S v) (point S y.0) (point S x.0) ≡ false
    not_back y i (inl b) =
        absurd (never_before_itself (point S v) (point S x.0)
        (before_on (point S v) (point S x.0) (point S y.0) (point S x.0) (t.0 y i)
        ((Decides-turns (point S v) (point S y.0) (point S x.0) (apart y (inr i)) (apart x (inl refl))).0 b)))
    not_back y i (inr f) = f

-- the neighbours of a star are other points than its centre
apart_of : (S : List Point) (v : ℕ) (l : List (ℕ × Bool)) → AreAccepted S → IsOrderly S v l → (x : ℕ × Bool) → In x l → point S x.0 ≢ point S v
apart_of S v l accepted o x i =
    let (k, hk, at) = at_in l x i in
    points_differ S x.0 v accepted.apart (subst (λ (z : ℕ × Bool). z.0 < length S) at (o.within k hk)) o.centre (subst (λ (z : ℕ × Bool). z.0 ≢ v) at (o.apart k hk))

-- a flip at v and the flip back: what f put in is left out, and what e took out is put in
flip_undone : (S : List Point) (e f : Pair) (v : ℕ) (l : List (ℕ × Bool)) → AreAccepted S → IsOrderly S v l → ((w : ℕ) → HasEnds e v w → In (w, false) l) → ((w : ℕ) → HasEnds f v w → (b : Bool) → ¬ In (w, b) l)
    → list_after S v (Flip f e) (list_after S v (Flip e f) l) ≡ l
flip_undone S e f v l accepted o there fresh =
    ap (λ (m : List (ℕ × Bool)). at_end e v (λ w. put_in_turn S v (w, false) m) m) inner ∙ outer
  where
    rest : List (ℕ × Bool)
    rest = at_end e v (λ w. leave_out w l) l

    kept_out : (x : ℕ × Bool) → In x rest → In x l
    kept_out x = at_end_cases e v (λ w. leave_out w l) l (λ m. In x m → In x l) (λ w ends i. (in_out w l x i).0) (λ off i. i)

    inner : at_end f v (λ w. leave_out w (at_end f v (λ x. put_in_turn S v (x, false) rest) rest)) (at_end f v (λ x. put_in_turn S v (x, false) rest) rest) ≡ rest
    inner =
        at_end_cases f v (λ x. put_in_turn S v (x, false) rest) rest (λ m. at_end f v (λ w. leave_out w m) m ≡ rest)
        (λ w ends. at_end_is f v w (λ x. leave_out x (put_in_turn S v (w, false) rest)) (put_in_turn S v (w, false) rest) ends
        ∙ put_back S v w false rest (λ x i same. fresh w ends x.1 (subst (λ (n : ℕ). In (n, x.1) l) same (kept_out x i))))
        (λ off. at_end_off f v (λ w. leave_out w rest) rest off)

    outer : at_end e v (λ w. put_in_turn S v (w, false) rest) rest ≡ l
    outer =
        at_end_cases e v (λ w. leave_out w l) l (λ m. at_end e v (λ w. put_in_turn S v (w, false) m) m ≡ l)
        (λ w ends. at_end_is e v w (λ x. put_in_turn S v (x, false) (leave_out w l)) (leave_out w l) ends
        ∙ out_and_in S v (w, false) l (by_test S v l (apart_of S v l accepted o) (turn_in S v l o.order)) (there w ends))
        (λ off. at_end_off e v (λ w. put_in_turn S v (w, false) l) l off)

pub of_mark : (s : Seen) (q : ℕ) (b : Bool) → HasMark s q b → In (q, b) s.list
of_mark s q b (k, hk, is) = subst (λ (z : ℕ × Bool). In z s.list) is (in_at s.list k hk)

pub to_mark : (s : Seen) (q : ℕ) (b : Bool) → In (q, b) s.list → HasMark s q b
to_mark s q b i = at_in s.list (q, b) i

-- what the star of the smaller end says of e stands at both ends
at_both : (at : ℕ → Seen) (V : ℕ → Type 0) (e : Pair) (v w : ℕ) (b : Bool) → AreMutual at V → V e.lo → V e.hi → HasEnds e v w → HasMark (at e.lo) e.hi b → In (w, b) (at v).list
at_both at V e v w b both low high (inl (a, c)) h =
    let P : ℕ → Type 0 = λ n. In (w, b) (at n).list in
    let Q : ℕ → Type 0 = λ n. In (n, b) (at e.lo).list in
    subst P a (subst Q c (of_mark (at e.lo) e.hi b h))
at_both at V e v w b both low high (inr (a, c)) h =
    let P : ℕ → Type 0 = λ n. In (w, b) (at n).list in
    let Q : ℕ → Type 0 = λ n. In (n, b) (at e.hi).list in
    subst P c (subst Q a (of_mark (at e.hi) e.lo b (both e.lo e.hi b low high h)))

-- and what it doesn't have stands at none
at_none : (at : ℕ → Seen) (V : ℕ → Type 0) (f : Pair) (v w : ℕ) → AreMutual at V → V f.lo → V f.hi → HasEnds f v w → ¬ IsNeighbour (at f.lo) f.hi → (b : Bool) → ¬ In (w, b) (at v).list
at_none at V f v w both low high (inl (a, c)) fresh b i =
    let P : ℕ → Type 0 = λ n. In (w, b) (at n).list in
    let Q : ℕ → Type 0 = λ n. In (n, b) (at f.lo).list in
    fresh (marked_neighbour (at f.lo) f.hi b (to_mark (at f.lo) f.hi b (subst Q (sym c) (subst P (sym a) i))))
at_none at V f v w both low high (inr (a, c)) fresh b i =
    let P : ℕ → Type 0 = λ n. In (w, b) (at n).list in
    let Q : ℕ → Type 0 = λ n. In (n, b) (at f.hi).list in
    fresh (marked_neighbour (at f.lo) f.hi b (both f.hi f.lo b high low (to_mark (at f.hi) f.lo b (subst Q (sym a) (subst P (sym c) i)))))

pub undone : (S : List Point) (at : ℕ → Seen) (V : ℕ → Type 0) (e : Edit) (v : ℕ) → AreAccepted S → ((u : ℕ) → V u → IsStarAt S (at u) u) → AreMutual at V → ((u : ℕ) → touches e u ≡ true → V u) → V v → Fits S at e
    → list_after S v (inverse e) (list_after S v e (at v).list) ≡ (at v).list
undone S at V (Drop e) v accepted stars both all here fits =
    mark_undone S e v true false (at v).list (turn_in S v (at v).list (orderly S (at v) v (stars v here)).order)
    (λ w ends. at_both at V e v w true both (all e.lo (is_end_lo e)) (all e.hi (is_end_hi e)) ends fits.kept)
undone S at V (Keep e) v accepted stars both all here fits =
    mark_undone S e v false true (at v).list (turn_in S v (at v).list (orderly S (at v) v (stars v here)).order)
    (λ w ends. at_both at V e v w false both (all e.lo (is_end_lo e)) (all e.hi (is_end_hi e)) ends (unmarked (at e.lo) e.hi fits.there fits.spare))
undone S at V (Flip e f) v accepted stars both all here fits =
    flip_undone S e f v (at v).list accepted (orderly S (at v) v (stars v here))
    (λ w ends. at_both at V e v w false both (all e.lo (or_left (is_end e e.lo) (is_end f e.lo) (is_end_lo e))) (all e.hi (or_left (is_end e e.hi) (is_end f e.hi) (is_end_hi e))) ends (unmarked (at e.lo) e.hi fits.there fits.spare))
    (λ w ends. at_none at V f v w both (all f.lo (or_right (is_end e f.lo) (is_end f f.lo) (is_end_lo f))) (all f.hi (or_right (is_end e f.hi) (is_end f f.hi) (is_end_hi f))) ends fits.fresh)
