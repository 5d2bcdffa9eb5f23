-- What the stars of a triangulation tell of its pairs.
use Rattle.std.proofs.Common.{◌≡◌, ℕ, ◌<◌, Bool, true, false, ◌&&◌, nat_eq, List, length, filter, arith, sym, ◌∙◌, ap, subst, refl}
use Rattle.std.proofs.lemmas.Bool.Decides.{Decides-eqb}
use Rattle.std.proofs.lemmas.List.{get_or_default}
use Rattle.std.proofs.lemmas.List.Folds.{Any-from_list_any, list_any_at}
use Rattle.std.proofs.lemmas.Bool.{and_parts, and_from}
use Rattle.plane.specs.declared.coordinates.Point.{Point}
use Rattle.plane.specs.declared.segment.Pair.{Pair}
use Rattle.partition_defs.specs.Triangulation.{IsTriangulation}
use Rattle.partition_defs.specs.Ascending.{IsAscending}
use Rattle.partition_defs.specs.Sets.{AreSame}
use Rattle.partition_defs.proofs.laws.Has.{Has, contains_of, has_filter, filter_has}
use Rattle.partition_defs.proofs.laws.Joined.{joined, joins_of, join_own, join_ends, has_joined, triangulation_same, same_lists}
use Rattle.star.specs.Stars.{Seen, entry, IsNeighbour, HasMark}
use Rattle.star.specs.StarOf.{IsStarOf}
use Rattle.star.proofs.laws.Marks.{marked_neighbour}
use Rattle.subdivision.specs.Every.{every_pair}
use Rattle.subdivision.specs.Layout.{Layout, star_at, has, keeps, all_of, kept_of, AreStarsOf, AreOf, AreAgreed, IsSubdivision}
use Rattle.subdivision.proofs.Rows.{has_rows, rows_has, chosen_ascending}

pub neighbour_of : (s : Seen) (w : ℕ) → has s w ≡ true → IsNeighbour s w
neighbour_of s w t =
    let (k, e, h, at, same) = Any-from_list_any (λ (e : ℕ × Bool). nat_eq e.0 w) s.list t in
    (k, (h, ap (λ (p : ℕ × Bool). p.0) (get_or_default s.list k (0, false) e h ∙ at) ∙ (Decides-eqb e.0 w).0 same))

pub has_neighbour : (s : Seen) (w : ℕ) → IsNeighbour s w → has s w ≡ true
has_neighbour s w (k, (h, at)) = list_any_at (λ (e : ℕ × Bool). nat_eq e.0 w) s.list k (0, false) h ((Decides-eqb (entry s.list k).0 w).1 at)

pub mark_of : (s : Seen) (w : ℕ) → keeps s w ≡ true → HasMark s w true
mark_of s w t =
    let (k, e, h, at, same) = Any-from_list_any (λ (e : ℕ × Bool). nat_eq e.0 w && e.1) s.list t in
    let both = and_parts (nat_eq e.0 w) e.1 same in
    let name : e.0 ≡ w = (Decides-eqb e.0 w).0 both.0 in
    (k, h, get_or_default s.list k (0, false) e h ∙ at ∙ (ap (λ (n : ℕ). let p : ℕ × Bool = (n, e.1) in p) name ∙ ap (λ (b : Bool). let p : ℕ × Bool = (w, b) in p) both.1))

pub has_mark : (s : Seen) (w : ℕ) → HasMark s w true → keeps s w ≡ true
has_mark s w (k, h, at) =
    list_any_at (λ (e : ℕ × Bool). nat_eq e.0 w && e.1) s.list k (0, false) h
    (and_from (nat_eq (entry s.list k).0 w) (entry s.list k).1 ((Decides-eqb (entry s.list k).0 w).1 (ap (λ (p : ℕ × Bool). p.0) at)) (ap (λ (p : ℕ × Bool). p.1) at))

pub chosen : (p : Pair → Bool) (n : ℕ) (e : Pair) → Has e (filter p (every_pair n)) → (e.hi < n) × (p e ≡ true)
chosen p n e h = let r = has_filter p (every_pair n) e h in let s = has_rows 0 n e r.0 in (omega (arith, s.1), r.1)

pub choose : (p : Pair → Bool) (n : ℕ) (e : Pair) → e.hi < n → p e ≡ true → Has e (filter p (every_pair n))
choose p n e h t = filter_has p (every_pair n) e (rows_has 0 n e (omega arith) (omega arith)) t

-- the stars tell the segments of the triangulation
pub all_joins : (S : List Point) (T K : List Pair) (stars : List Seen) → AreOf S T K stars → AreSame (all_of stars) T
all_joins S T K stars so i j = (
  λ h. (let (e, m, ends) = joined (all_of stars) i j h in
      let r = chosen (λ e. has (star_at stars e.lo) e.hi) (length stars) e m in
      let low : e.lo < length S = omega (arith, r.0, so.round.0, e.ordered) in
      join_ends T e i j ends (((so.round.1 e.lo low).neighbours e.hi).0 (neighbour_of (star_at stars e.lo) e.hi r.1))),
  λ h. (let (e, m, ends) = joined T i j h in
      let high = so.triangulation.within e (contains_of T e m) in
      let low : e.lo < length S = omega (arith, high, e.ordered) in
      joins_of (all_of stars) e i j (choose (λ e. has (star_at stars e.lo) e.hi) (length stars) e (omega (arith, so.round.0, high))
      (has_neighbour (star_at stars e.lo) e.hi (((so.round.1 e.lo low).neighbours e.hi).1 (join_own T e m)))) ends),
)

pub kept_joins : (S : List Point) (T K : List Pair) (stars : List Seen) → AreOf S T K stars → AreSame (kept_of stars) K
kept_joins S T K stars so i j = (
  λ h. (let (e, m, ends) = joined (kept_of stars) i j h in
      let r = chosen (λ e. keeps (star_at stars e.lo) e.hi) (length stars) e m in
      let low : e.lo < length S = omega (arith, r.0, so.round.0, e.ordered) in
      let mark = mark_of (star_at stars e.lo) e.hi r.1 in
      join_ends K e i j ends (((so.round.1 e.lo low).marks e.hi (marked_neighbour (star_at stars e.lo) e.hi true mark)).0 mark)),
  λ h. (let (e, m, ends) = joined K i j h in
      let own = join_own K e m in
      let there = so.among e.lo e.hi own in
      let high = so.triangulation.within e (contains_of T e (has_joined T e there)) in
      let low : e.lo < length S = omega (arith, high, e.ordered) in
      let star = so.round.1 e.lo low in
      joins_of (kept_of stars) e i j (choose (λ e. keeps (star_at stars e.lo) e.hi) (length stars) e (omega (arith, so.round.0, high))
      (has_mark (star_at stars e.lo) e.hi ((star.marks e.hi ((star.neighbours e.hi).1 there)).1 own))) ends),
)

star_same : (S : List Point) (T K U L : List Pair) (v : ℕ) (s : Seen) → AreSame T U → AreSame K L → IsStarOf S T K v s → IsStarOf S U L v s
star_same S T K U L v s all kept so = record {
  star = so.star;
  centre = so.centre;
  points = so.points;
  neighbours = λ w. (λ h. (all v w).0 ((so.neighbours w).0 h), λ h. (so.neighbours w).1 ((all v w).1 h));
  marks = λ w n. (λ h. (kept v w).0 ((so.marks w n).0 h), λ h. (so.marks w n).1 ((kept v w).1 h));
}

turned : (T U : List Pair) → AreSame T U → AreSame U T
turned T U same i j = ((same i j).1, (same i j).0)

-- the stars are those of the segments that they tell
pub own_stars : (S : List Point) (stars : List Seen) → AreAgreed S stars → AreOf S (all_of stars) (kept_of stars) stars
own_stars S stars (T, K, so) =
    let all = turned (all_of stars) T (all_joins S T K stars so) in
    let kept = turned (kept_of stars) K (kept_joins S T K stars so) in
    record {
      triangulation = triangulation_same S T (all_of stars) all so.triangulation;
      among = λ i j h. (all i j).0 (so.among i j ((kept i j).1 h));
      round = (so.round.0, λ v h. star_same S T K (all_of stars) (kept_of stars) v (star_at stars v) all kept (so.round.1 v h));
    }

-- what is true of a subdivision, from its fields
pub subdivision_of : (s : Layout) → s.all ≡ all_of s.stars → s.kept ≡ kept_of s.stars → AreAgreed s.points s.stars → IsSubdivision s
subdivision_of s a k so =
    let own = own_stars s.points s.stars so in
    record {
      ascending = subst IsAscending (sym a) (chosen_ascending (λ e. has (star_at s.stars e.lo) e.hi) (length s.stars));
      kept_ascending = subst IsAscending (sym k) (chosen_ascending (λ e. keeps (star_at s.stars e.lo) e.hi) (length s.stars));
      agreed = (let P : List Pair → Type 0 = λ T. AreOf s.points T s.kept s.stars in let Q : List Pair → Type 0 = λ K. AreOf s.points (all_of s.stars) K s.stars in subst P (sym a) (subst Q (sym k) own));
    }

pub subdivision_own : (S : List Point) (stars : List Seen) → AreAgreed S stars → IsSubdivision (record { points = S; all = all_of stars; kept = kept_of stars; stars = stars })
subdivision_own S stars so = subdivision_of (record { points = S; all = all_of stars; kept = kept_of stars; stars = stars }) refl refl so

pub vertex_of : (s : Layout) (v : ℕ) (t : Seen) → IsSubdivision s → v < length s.points → t ≡ star_at s.stars v → IsStarOf s.points s.all s.kept v t
vertex_of s v t so h is = subst (IsStarOf s.points s.all s.kept v) (sym is) (so.agreed.round.1 v h)

-- the stars of a triangulation whose segments are all kept
pub all_kept : (S : List Point) (pairs : List Pair) (stars : List Seen) → IsTriangulation S pairs → AreStarsOf S pairs pairs stars → AreOf S pairs pairs stars
all_kept S pairs stars tri so = record { triangulation = tri; among = λ i j h. h; round = so }

pub kept_is_all : (S : List Point) (pairs : List Pair) (stars : List Seen) → AreOf S pairs pairs stars → kept_of stars ≡ all_of stars
kept_is_all S pairs stars so =
    same_lists (kept_of stars) (all_of stars) (chosen_ascending (λ e. keeps (star_at stars e.lo) e.hi) (length stars)) (chosen_ascending (λ e. has (star_at stars e.lo) e.hi) (length stars))
    (λ i j. (λ h. (all_joins S pairs pairs stars so i j).1 ((kept_joins S pairs pairs stars so i j).0 h), λ h. (kept_joins S pairs pairs stars so i j).1 ((all_joins S pairs pairs stars so i j).0 h)))
