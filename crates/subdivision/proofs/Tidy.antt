-- What is collected from tidy stars, sorted, is the list that the stars tell.
use Rattle.std.proofs.Common.{◌≡◌, ℕ, ◌<◌, Bool, true, false, List, length, get_or, arith, sym, ◌∙◌, ap, subst}
use Rattle.plane.specs.declared.segment.Pair.{Pair}
use Rattle.std.proofs.lemmas.List.{get_or_default}
use Rattle.plane.specs.declared.coordinates.Point.{Point}
use Rattle.plane.specs.Geometry.{point}
use Rattle.star.specs.Turn.{IsBeforeInTurn}
use Rattle.star.specs.Stars.{Seen, entry}
use Rattle.star.proofs.laws.Turning.{never_before_itself}
use Rattle.subdivision.specs.Layout.{star_at, has, keeps, AreAgreed}
use Rattle.subdivision.specs.Listing.{picks, picked_of, IsTidy, AreTidy, HasRows, IsSortedFrom}
use Rattle.partition_defs.proofs.laws.Has.{has_of, contains_of, one_list, rises_of}
use Rattle.subdivision.proofs.laws.Sorting.{sorted_ascends}
use Rattle.subdivision.proofs.Rows.{chosen_ascending}
use Rattle.star.proofs.laws.Marks.{marked_neighbour}
use Rattle.subdivision.proofs.Members.{neighbour_of, mark_of, chosen, choose}

high_of : (ko : Bool) (stars : List Seen) (e : Pair) → AreTidy stars → e.lo < length stars → picks ko (star_at stars e.lo) e.hi ≡ true → e.hi < length stars
high_of true stars e tidy h t = let (k, place) = marked_neighbour (star_at stars e.lo) e.hi true (mark_of (star_at stars e.lo) e.hi t) in subst (λ x. x < length stars) place.1 ((tidy e.lo h).1.1 k place.0)
high_of false stars e tidy h t = let (k, place) = neighbour_of (star_at stars e.lo) e.hi t in subst (λ x. x < length stars) place.1 ((tidy e.lo h).1.1 k place.0)

-- all rows, sorted, are the list that the stars tell
pub sorted_rows : (ko : Bool) (stars : List Seen) (list new : List Pair) → AreTidy stars → HasRows ko stars list (length stars) → IsSortedFrom list new → new ≡ picked_of ko stars
sorted_rows true stars list new tidy rows so =
    one_list new (picked_of true stars) (rises_of new (sorted_ascends list new rows.distinct so)) (rises_of (picked_of true stars) (chosen_ascending (λ e. keeps (star_at stars e.lo) e.hi) (length stars)))
    (λ e h. (let r = (rows.members e).0 ((so.members e).0 (contains_of new e h)) in choose (λ e. keeps (star_at stars e.lo) e.hi) (length stars) e (high_of true stars e tidy r.1 r.2) r.2))
    (λ e h. (let r = chosen (λ e. keeps (star_at stars e.lo) e.hi) (length stars) e h in has_of new e ((so.members e).1 ((rows.members e).1 (omega (arith, r.0, e.ordered), omega (arith, r.0, e.ordered), r.1)))))
sorted_rows false stars list new tidy rows so =
    one_list new (picked_of false stars) (rises_of new (sorted_ascends list new rows.distinct so)) (rises_of (picked_of false stars) (chosen_ascending (λ e. has (star_at stars e.lo) e.hi) (length stars)))
    (λ e h. (let r = (rows.members e).0 ((so.members e).0 (contains_of new e h)) in choose (λ e. has (star_at stars e.lo) e.hi) (length stars) e (high_of false stars e tidy r.1 r.2) r.2))
    (λ e h. (let r = chosen (λ e. has (star_at stars e.lo) e.hi) (length stars) e h in has_of new e ((so.members e).1 ((rows.members e).1 (omega (arith, r.0, e.ordered), omega (arith, r.0, e.ordered), r.1)))))

-- the stars of a subdivision are tidy
pub tidy_of : (S : List Point) (stars : List Seen) → AreAgreed S stars → AreTidy stars
tidy_of S stars (T, K, so) v hv =
    let star = so.round.1 v (omega (arith, so.round.0)) in
    let s = star_at stars v in (
      star.centre,
      (
        λ i j ij hj same. never_before_itself (point s.points s.centre) (point s.points (entry s.list j).0) (subst (λ x. IsBeforeInTurn s.points s.centre x (entry s.list j).0) same (star.star.order i j ij hj)),
        λ k h. subst (λ n. (entry s.list k).0 < n) (ap length star.points ∙ sym so.round.0) (star.star.within k h),
      ),
    )

pub tidy_at : (stars : List Seen) (v : ℕ) (s : Seen) → AreTidy stars → v < length stars → s ≡ get_or stars v s → (s.centre ≡ v) × IsTidy (length stars) s
tidy_at stars v s tidy h is = subst (λ (t : Seen). (t.centre ≡ v) × IsTidy (length stars) t) (get_or_default stars v _ s h ∙ sym is) (tidy v h)

pub star_read : (stars : List Seen) (v : ℕ) (s : Seen) → v < length stars → s ≡ get_or stars v s → s ≡ star_at stars v
star_read stars v s h is = is ∙ get_or_default stars v s _ h
