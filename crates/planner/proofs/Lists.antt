-- A star's list after a mark, an insert and a remove: it is the step of an edit.
use Rattle.std.proofs.Common.{◌≡◌, ◌≢◌, ℕ, zero, suc, ◌<◌, ◌≤◌, Bool, true, false, cond, nat_eq, List, [], ◌∷◌, length, set, inl, inr, arith, sym, ◌∙◌, ap, ap₂, subst, refl}
use Rattle.std.specs.List.{insert, remove}
use Rattle.std.proofs.lemmas.Bool.{cases_Bool, ne_eqb}
use Rattle.std.proofs.lemmas.Bool.Decides.{Decides-eqb}
use Rattle.plane.specs.declared.coordinates.Point.{Point}
use Rattle.plane.specs.declared.segment.Pair.{Pair}
use Rattle.plane.specs.Geometry.{point}
use Rattle.plane.specs.Accepted.{AreAccepted}
use Rattle.plane.proofs.laws.Border.{points_differ}
use Rattle.partition_defs.specs.Partition.{HasEnds}
use Rattle.star.specs.Turn.{IsBeforeInTurn}
use Rattle.star.specs.Stars.{Seen, IsStar, IsOrderly, entry, Marks, Gains, Loses, SamePlace}
use Rattle.star.proofs.laws.Turning.{before_on, never_before_itself}
use Rattle.journal_defs.specs.declared.edit.Edit.TheVariants.{Flip}
use Rattle.journal_defs.specs.Neighbours.{turns_before, mark_as, leave_out, put_in_turn, at_end, list_after}
use Rattle.journal_defs.proofs.laws.Turned.{In, in_at, at_in, Turns, turn_in, Decides-turns}
use Rattle.journal_defs.proofs.laws.Follow.{at_end_cases}
use Rattle.journal_defs.proofs.laws.Back.{none_left_out}
use Rattle.partition_defs.proofs.laws.Joined.{one_other}

-- a list without w keeps its marks
none_marked : (w : ℕ) (b : Bool) (l : List (ℕ × Bool)) → ((x : ℕ × Bool) → In x l → x.0 ≢ w) → mark_as w b l ≡ l
unfolding mark_as
none_marked w b [] h = refl
none_marked w b (x ∷ xs) h =
    let head : cond (nat_eq x.0 w) b x.1 ≡ x.1 = ap (λ (z : Bool). cond z b x.1) (ne_eqb x.0 w (h x (inl refl))) in
    ap₂ (λ (c : Bool) (zs : List (ℕ × Bool)). (x.0, c) ∷ zs) head (none_marked w b xs (λ y i. h y (inr i)))

-- what comes later in turn is another neighbour
later_other : (S : List Point) (v w : ℕ) (x : ℕ × Bool) (xs : List (ℕ × Bool)) → x.0 ≡ w → Turns S v (x ∷ xs) → (y : ℕ × Bool) → In y xs → y.0 ≢ w
later_other S v w x xs is t y i same = never_before_itself (point S v) (point S x.0) (subst (λ (n : ℕ). IsBeforeInTurn S v x.0 n) (same ∙ sym is) (t.0 y i))

-- and what comes before it too
before_other : (S : List Point) (v w k : ℕ) (x : ℕ × Bool) (xs : List (ℕ × Bool)) → Turns S v (x ∷ xs) → k < length xs → (entry xs k).0 ≡ w → x.0 ≢ w
before_other S v w k x xs t h is same = never_before_itself (point S v) (point S x.0) (subst (λ (n : ℕ). IsBeforeInTurn S v x.0 n) (is ∙ sym same) (t.0 (entry xs k) (in_at xs k h)))

marked : (S : List Point) (v w : ℕ) (b : Bool) (l : List (ℕ × Bool)) (k : ℕ) → Turns S v l → k < length l → (entry l k).0 ≡ w → set l k (w, b) ≡ mark_as w b l
unfolding mark_as
marked S v w b [] k t h is = absurd (omega (arith, h))
marked S v w b (x ∷ xs) zero t h is =
    let head : cond (nat_eq x.0 w) b x.1 ≡ b = ap (λ (z : Bool). cond z b x.1) ((Decides-eqb x.0 w).1 is) in
    let P : ℕ → Bool → List (ℕ × Bool) → List (ℕ × Bool) = λ n c zs. (n, c) ∷ zs in
    ap (λ (n : ℕ). P n b xs) (sym is) ∙ ap₂ (λ (c : Bool) (zs : List (ℕ × Bool)). P x.0 c zs) (sym head) (sym (none_marked w b xs (later_other S v w x xs is t)))
marked S v w b (x ∷ xs) (suc k) t h is =
    let low : k < length xs = omega (arith, h) in
    let head : cond (nat_eq x.0 w) b x.1 ≡ x.1 = ap (λ (z : Bool). cond z b x.1) (ne_eqb x.0 w (before_other S v w k x xs t low is)) in
    ap₂ (λ (c : Bool) (zs : List (ℕ × Bool)). (x.0, c) ∷ zs) (sym head) (marked S v w b xs k t.1 low is)

left : (S : List Point) (v w : ℕ) (l : List (ℕ × Bool)) (k : ℕ) → Turns S v l → k < length l → (entry l k).0 ≡ w → remove l k ≡ leave_out w l
unfolding leave_out
left S v w [] k t h is = absurd (omega (arith, h))
left S v w (x ∷ xs) zero t h is =
    sym (ap (λ (z : Bool). cond z (leave_out w xs) (x ∷ leave_out w xs)) ((Decides-eqb x.0 w).1 is) ∙ none_left_out w xs (later_other S v w x xs is t))
left S v w (x ∷ xs) (suc k) t h is =
    let low : k < length xs = omega (arith, h) in
    ap (λ (zs : List (ℕ × Bool)). x ∷ zs) (left S v w xs k t.1 low is)
    ∙ sym (ap (λ (z : Bool). cond z (leave_out w xs) (x ∷ leave_out w xs)) (ne_eqb x.0 w (before_other S v w k x xs t low is)))

-- a point other than the centre, by its place
abbrev pub AreOff : List Point → ℕ → List (ℕ × Bool) → Type 0
AreOff S v l = (x : ℕ × Bool) → In x l → point S x.0 ≢ point S v

put : (S : List Point) (v w : ℕ) (l : List (ℕ × Bool)) (k : ℕ) → k ≤ length l → Turns S v (insert l k (w, false)) → AreOff S v (insert l k (w, false)) → insert l k (w, false) ≡ put_in_turn S v (w, false) l
unfolding put_in_turn
put S v w [] zero h t off = refl
put S v w [] (suc k) h t off = absurd (omega (arith, h))
put S v w (y ∷ ys) zero h t off =
    let before : turns_before (point S v) (point S w) (point S y.0) ≡ true = (Decides-turns (point S v) (point S w) (point S y.0) (off (w, false) (inl refl)) (off y (inr (inl refl)))).1 (t.0 y (inl refl)) in
    sym (ap (λ (z : Bool). cond z ((w, false) ∷ y ∷ ys) (y ∷ put_in_turn S v (w, false) ys)) before)
put S v w (y ∷ ys) (suc k) h t off =
    let low : k ≤ length ys = omega (arith, h) in
    let here : In (w, false) (insert ys k (w, false)) = stands ys k low in
    let after : IsBeforeInTurn S v y.0 w = t.0 (w, false) here in
    let decides = Decides-turns (point S v) (point S w) (point S y.0) (off (w, false) (inr here)) (off y (inl refl)) in
    let back : turns_before (point S v) (point S w) (point S y.0) ≡ false =
    elim (cases_Bool (turns_before (point S v) (point S w) (point S y.0))) [
      | inl b ↦ absurd (never_before_itself (point S v) (point S y.0) (before_on (point S v) (point S y.0) (point S w) (point S y.0) after (decides.0 b)))
      | inr b ↦ b
    ] in
    ap (λ (zs : List (ℕ × Bool)). y ∷ zs) (put S v w ys k low t.1 (λ x i. off x (inr i)))
    ∙ sym (ap (λ (z : Bool). cond z ((w, false) ∷ y ∷ ys) (y ∷ put_in_turn S v (w, false) ys)) back)
  where
    stands : (zs : List (ℕ × Bool)) (j : ℕ) → j ≤ length zs → In (w, false) (insert zs j (w, false))
    stands zs zero h = inl refl
    stands [] (suc j) h = absurd (omega (arith, h))
    stands (z ∷ zs) (suc j) h = inr (stands zs j (omega (arith, h)))

turns : (S : List Point) (a : Seen) → a.points ≡ S → IsStar a → Turns S a.centre a.list
turns S a of so = turn_in S a.centre a.list (subst (λ (P : List Point). IsOrderly P a.centre a.list) of so).order

at_end_is : (e : Pair) (v w : ℕ) (change : ℕ → List (ℕ × Bool)) (list : List (ℕ × Bool)) → HasEnds e v w → change w ≡ at_end e v change list
at_end_is e v w change list own = at_end_cases e v change list (λ m. change w ≡ m) (λ x ends. ap change (one_other e v w x own ends)) (λ off. absurd (off w own))

at_end_off : (e : Pair) (v : ℕ) (change : ℕ → List (ℕ × Bool)) (list : List (ℕ × Bool)) → ((w : ℕ) → ¬ HasEnds e v w) → list ≡ at_end e v change list
at_end_off e v change list none = at_end_cases e v change list (λ m. list ≡ m) (λ x ends. absurd (none x ends)) (λ off. refl)

-- a mark at an end of e
pub marked_step : (S : List Point) (e : Pair) (a b : Seen) (w : ℕ) (c : Bool) → a.points ≡ S → IsStar a → HasEnds e a.centre w → Marks a b w c → b.list ≡ at_end e a.centre (λ x. mark_as x c a.list) a.list
marked_step S e a b w c of so ends (k, (hk, at), is) =
    ap (λ (s : Seen). s.list) is ∙ marked S a.centre w c a.list k (turns S a of so) hk at ∙ at_end_is e a.centre w (λ x. mark_as x c a.list) a.list ends

-- a neighbour that goes at an end of e, which is none of f
pub left_step : (S : List Point) (e f : Pair) (a b : Seen) (w : ℕ) → a.points ≡ S → IsStar a → HasEnds e a.centre w → ((x : ℕ) → ¬ HasEnds f a.centre x) → Loses a b w → b.list ≡ list_after S a.centre (Flip e f) a.list
left_step S e f a b w of so ends off (k, (hk, at), is) =
    let rest = at_end e a.centre (λ x. leave_out x a.list) a.list in
    is ∙ left S a.centre w a.list k (turns S a of so) hk at ∙ at_end_is e a.centre w (λ x. leave_out x a.list) a.list ends
    ∙ at_end_off f a.centre (λ x. put_in_turn S a.centre (x, false) rest) rest off

-- a neighbour that comes at an end of f, which is none of e
pub put_step : (S : List Point) (e f : Pair) (a b : Seen) (w : ℕ) → AreAccepted S → a.points ≡ S → SamePlace a b → IsStar b → HasEnds f a.centre w → ((x : ℕ) → ¬ HasEnds e a.centre x) → Gains a b w → b.list ≡ list_after S a.centre (Flip e f) a.list
put_step S e f a b w accepted of place so ends off (k, hk, is) =
    let order : IsOrderly S a.centre b.list = subst (λ (c : ℕ). IsOrderly S c b.list) place.0 (subst (λ (P : List Point). IsOrderly P b.centre b.list) (place.1 ∙ of) so) in
    let new : IsOrderly S a.centre (insert a.list k (w, false)) = subst (λ (l : List (ℕ × Bool)). IsOrderly S a.centre l) is order in
    let apart : AreOff S a.centre (insert a.list k (w, false)) =
    λ x i. (let (j, hj, at) = at_in (insert a.list k (w, false)) x i in
    points_differ S x.0 a.centre accepted.apart
    (subst (λ (z : ℕ × Bool). z.0 < length S) at (new.within j hj)) new.centre (subst (λ (z : ℕ × Bool). z.0 ≢ a.centre) at (new.apart j hj))) in
    let rest = at_end e a.centre (λ x. leave_out x a.list) a.list in
    is ∙ put S a.centre w a.list k hk (turn_in S a.centre (insert a.list k (w, false)) new.order) apart
    ∙ at_end_is f a.centre w (λ x. put_in_turn S a.centre (x, false) a.list) a.list ends
    ∙ ap (λ (m : List (ℕ × Bool)). at_end f a.centre (λ x. put_in_turn S a.centre (x, false) m) m) (at_end_off e a.centre (λ x. leave_out x a.list) a.list off)
