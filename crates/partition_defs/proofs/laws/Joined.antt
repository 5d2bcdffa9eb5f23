-- The pairs of a list by their two ends.
use Rattle.std.proofs.Common.{◌≡◌, ◌<◌, ℕ, List, inl, inr, min, max, arith, sym, ◌∙◌, subst, refl}
use Rattle.std.specs.List.{Contains}
use Rattle.std.proofs.lemmas.Bool.{cases_lt}
use Rattle.plane.specs.declared.coordinates.Point.{Point}
use Rattle.plane.specs.declared.segment.Pair.{Pair}
use Rattle.plane.proofs.laws.Pairs.{pair_same}
use Rattle.partition_defs.specs.Partition.{HasEnds, Joins}
use Rattle.partition_defs.specs.Triangulation.{IsTriangulation, IsApex}
use Rattle.partition_defs.specs.Ascending.{IsAscending}
use Rattle.partition_defs.specs.Sets.{AreSame}
use Rattle.partition_defs.proofs.laws.Has.{Has, has_of, contains_of, one_list, rises_of}

-- the segment of a list with these ends
pub joined : (T : List Pair) (i j : ℕ) → Joins T i j → (e : Pair) × Has e T × HasEnds e i j
joined T i j (k, e, h, at, ends) = (e, has_of T e (k, h, at), ends)

pub joins_of : (T : List Pair) (e : Pair) (i j : ℕ) → Has e T → HasEnds e i j → Joins T i j
joins_of T e i j h ends = let (k, l, at) = contains_of T e h in (k, e, l, at, ends)

-- a pair made of two points has these ends
pub ends_of_new : (e : Pair) (i j : ℕ) → e.lo ≡ min i j → e.hi ≡ max i j → HasEnds e i j
ends_of_new e i j lo hi = elim (cases_lt i j) [ inl h ↦ inl (omega arith, omega arith) | inr h ↦ inr (omega arith, omega arith) ]

pub ends_back : (e : Pair) (i j : ℕ) → HasEnds e i j → HasEnds e j i
ends_back e i j (inl h) = inr h
ends_back e i j (inr h) = inl h

pub join_back : (T : List Pair) (i j : ℕ) → Joins T i j → Joins T j i
join_back T i j h = let (e, m, ends) = joined T i j h in joins_of T e j i m (ends_back e i j ends)

-- a segment's own ends
pub join_own : (T : List Pair) (e : Pair) → Has e T → Joins T e.lo e.hi
join_own T e h = joins_of T e e.lo e.hi h (inl (refl, refl))

-- ends that a segment has are joined where its own are
pub join_ends : (T : List Pair) (e : Pair) (i j : ℕ) → HasEnds e i j → Joins T e.lo e.hi → Joins T i j
join_ends T e i j (inl (a, b)) h = let P : ℕ → Type 0 = λ x. Joins T x j in let Q : ℕ → Type 0 = λ y. Joins T e.lo y in subst P a (subst Q b h)
join_ends T e i j (inr (a, b)) h = join_back T j i (let P : ℕ → Type 0 = λ x. Joins T x i in let Q : ℕ → Type 0 = λ y. Joins T e.lo y in subst P a (subst Q b h))

-- a segment whose ends are joined in a list is in it
pub has_joined : (T : List Pair) (e : Pair) → Joins T e.lo e.hi → Has e T
has_joined T e h = let (f, m, ends) = joined T e.lo e.hi h in
    elim ends [
      | inl w ↦ subst (λ z. Has z T) (pair_same f e w.0 w.1) m
      | inr w ↦ absurd (omega (arith, w.0, w.1, e.ordered, f.ordered))
    ]

-- a pair is in a set where its ends are joined there
pub contains_joins : (K : List Pair) (e : Pair) → Contains K e → Joins K e.lo e.hi
contains_joins K e h = join_own K e (has_of K e h)

pub joins_contains : (K : List Pair) (e : Pair) → Joins K e.lo e.hi → Contains K e
joins_contains K e h = contains_of K e (has_joined K e h)

-- two segments with the same two ends are one
pub one_pair : (e f : Pair) (i j : ℕ) → HasEnds e i j → HasEnds f i j → e ≡ f
one_pair e f i j (inl a) (inl b) = pair_same e f (a.0 ∙ sym b.0) (a.1 ∙ sym b.1)
one_pair e f i j (inl a) (inr b) = absurd (omega (arith, a.0, a.1, b.0, b.1, e.ordered, f.ordered))
one_pair e f i j (inr a) (inl b) = absurd (omega (arith, a.0, a.1, b.0, b.1, e.ordered, f.ordered))
one_pair e f i j (inr a) (inr b) = pair_same e f (a.0 ∙ sym b.0) (a.1 ∙ sym b.1)

-- and the other end is one
pub one_other : (e : Pair) (v w x : ℕ) → HasEnds e v w → HasEnds e v x → w ≡ x
one_other e v w x (inl a) (inl b) = sym a.1 ∙ b.1
one_other e v w x (inl a) (inr b) = absurd (omega (arith, a.0, a.1, b.0, b.1, e.ordered))
one_other e v w x (inr a) (inl b) = absurd (omega (arith, a.0, a.1, b.0, b.1, e.ordered))
one_other e v w x (inr a) (inr b) = sym a.0 ∙ b.0

pub among_joins : (K L : List Pair) → ((e : Pair) → Contains K e → Contains L e) → (i j : ℕ) → Joins K i j → Joins L i j
among_joins K L sub i j h = let (f, m, ends) = joined K i j h in joins_of L f i j (has_of L f (sub f (contains_of K f m))) ends

pub contains_same : (T U : List Pair) → AreSame T U → (e : Pair) → Contains T e → Contains U e
contains_same T U same e h = contains_of U e (has_joined U e ((same e.lo e.hi).0 (join_own T e (has_of T e h))))

pub apex_same : (S : List Point) (T U : List Pair) → AreSame T U → (p q r : ℕ) → IsApex S T p q r → IsApex S U p q r
apex_same S T U same p q r a = record { within = a.within; first = (same p r).0 a.first; second = (same q r).0 a.second; left = a.left; empty = a.empty }

-- being a triangulation is a matter of membership
pub triangulation_same : (S : List Point) (T U : List Pair) → AreSame T U → IsTriangulation S T → IsTriangulation S U
triangulation_same S T U same tri =
    let back : AreSame U T = λ i j. ((same i j).1, (same i j).0) in
    record {
      within = λ e h. tri.within e (contains_same U T back e h);
      clear = λ e h. tri.clear e (contains_same U T back e h);
      plane = λ e f h k. tri.plane e f (contains_same U T back e h) (contains_same U T back f k);
      border = λ i j ij hj b. (same i j).0 (tri.border i j ij hj b);
      met = λ p h. (let (q, hq, j) = tri.met p h in (q, hq, (same p q).0 j));
      apex = λ p q j l. (let (r, a) = tri.apex p q ((same p q).1 j) l in (r, apex_same S T U same p q r a));
    }

-- ascending lists of the same segments are equal
pub same_lists : (T U : List Pair) → IsAscending T → IsAscending U → AreSame T U → T ≡ U
same_lists T U a b same =
    one_list T U (rises_of T a) (rises_of U b)
    (λ e h. has_joined U e ((same e.lo e.hi).0 (join_own T e h)))
    (λ e h. has_joined T e ((same e.lo e.hi).1 (join_own U e h)))

pub joins_from : (T : List Pair) (e : Pair) (i j : ℕ) → Contains T e → HasEnds e i j → Joins T i j
joins_from T e i j c h = (c.0, e, c.1, c.2, h)

-- the pair that joins two ends is in the list
pub joins_pair : (T : List Pair) (i j : ℕ) (h : Joins T i j) → Contains T h.1
joins_pair T i j h = (h.0, h.2, h.3)

-- where a pair is within n, so is its other end
pub other_within : (f : Pair) (v w n : ℕ) → HasEnds f v w → f.hi < n → w < n
other_within f v w n (inl h) in_ = omega (arith, h.1, in_)
other_within f v w n (inr h) in_ = let o = f.ordered in omega (arith, h.0, in_, o)
