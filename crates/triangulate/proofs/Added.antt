-- Adding one point: the first joining, the two chains in turn, and the end.
use Rattle.std.proofs.Common.{◌≡◌, ◌≢◌, ℕ, ◌<◌, ◌+◌, ◌*◌, inl, inr, min, max, List, [], ◌∷◌, ◌++◌, length, sym, refl, subst, subst₂, arith, length-append}
use Rattle.std.proofs.lemmas.List.Elements.{All-cons, All-nil}
use Rattle.std.specs.List.{All}
use Rattle.plane.specs.declared.coordinates.Point.{Point}
use Rattle.plane.specs.declared.segment.Pair.{Pair}
use Rattle.plane.specs.Geometry.{orientation}
use Rattle.plane.specs.Accepted.{AreApart}
use Rattle.partition_defs.specs.Partition.{Joins, HasEnds}
use Rattle.partition_defs.specs.Sweep.{IsSweptBefore}
use Rattle.triangulate.specs.declared.sweep.Part.{Part}
use Rattle.triangulate.specs.declared.sweep.Part.TheVariants.{Lower, Upper}
use Rattle.triangulate.specs.Front.{Side, Links, Whole, Reach}
use Rattle.triangulate.specs.Swept.{opposite, turn, other_turn, other_part, Round, AreJoining, IsJoining, AreWhole, IsSwept, IsSettled, IsSweptNext}
use Rattle.triangulate.proofs.Field.{Setting, up_to_not_before}
use Rattle.triangulate.proofs.Moves.{start, turned, finish}
use Rattle.triangulate.proofs.Places.{sweep_setting, plane_laws, opposite_laws, opposite_turned}
use Rattle.triangulate.proofs.Joined.{push_adds, push_distinct, part_laws, part_turned}
use Rattle.partition_defs.proofs.laws.Joined.{ends_of_new}
use Rattle.triangulate.specs.Swept.{swept_sight}

links_in : (n : ℕ) (t : ℕ) (r : List ℕ) → t < n → ((a b : ℕ) → Links t r a b → a < n) → All (λ i. i < n) (t ∷ r)
links_in n t [] h f = All-cons (λ i. i < n) t [] h (All-nil (λ i. i < n))
links_in n t (s ∷ r) h f = All-cons (λ i. i < n) t (s ∷ r) h (links_in n s r (f s t (inl (refl, refl))) (λ a b k. f a b (inr k)))

chain_in_at : (S : List Point) (part : Part) (T : List Pair) (l l2 : List ℕ) (z last : ℕ) → AreJoining S part T l l2 z last → All (λ i. i < length S) l
chain_in_at S part T [] l2 z last h = absurd h
chain_in_at S part T (t ∷ r) [] z last h = absurd h
chain_in_at S part T (t ∷ r) (t2 ∷ r2) z last h =
    let R : Reach (swept_sight S (turn part S)) (Joins T) t r z = h.lower in
    links_in (length S) t r R.top_in (λ a b k. (let s : Side (swept_sight S (turn part S)) (Joins T) (λ s. IsSweptBefore S s z) a b = R.chain.sides a b k in s.a_in))

-- the points of a chain are indices
pub chain_in : (S : List Point) (part : Part) (T : List Pair) (l : List ℕ) (z : ℕ) (g : Round) → IsJoining S part T l z g → All (λ i. i < length S) l
chain_in S part T l z g m = chain_in_at S part T l g.others z g.last m.chains

new_in_at : (S : List Point) (part : Part) (T : List Pair) (l l2 : List ℕ) (z last : ℕ) → AreJoining S part T l l2 z last → z < length S
new_in_at S part T [] l2 z last h = absurd h
new_in_at S part T (t ∷ r) [] z last h = absurd h
new_in_at S part T (t ∷ r) (t2 ∷ r2) z last h = h.z_in

pub new_in : (S : List Point) (part : Part) (T : List Pair) (l : List ℕ) (z : ℕ) (g : Round) → IsJoining S part T l z g → z < length S
new_in S part T l z g m = new_in_at S part T l g.others z g.last m.chains

other_count : (t a b k : ℕ) → t + a + b ≡ 3 * k → t + b + a ≡ 3 * k
other_count t a b k h = omega arith

turned_chains : (S : List Point) (apart : AreApart S) (part : Part) (T : List Pair) (l l2 : List ℕ) (z last : ℕ)
    → AreJoining S part T l l2 z last → AreJoining S (other_part part) T l2 l z last
turned_chains S apart part T [] l2 z last h = absurd h
turned_chains S apart part T (t ∷ r) [] z last h = absurd h
turned_chains S apart Lower T (t ∷ r) (t2 ∷ r2) z last h =
    turned (sweep_setting S apart) (turn Lower S) (other_turn Lower S) (part_laws S apart Lower) (part_turned S Lower) (Joins T) t r t2 r2 z last h
turned_chains S apart Upper T (t ∷ r) (t2 ∷ r2) z last h =
    turned (sweep_setting S apart) (turn Upper S) (other_turn Upper S) (part_laws S apart Upper) (part_turned S Upper) (Joins T) t r t2 r2 z last h

-- the other chain in this one's place
abbrev pub turned_round : List ℕ → Round → Round
turned_round l g = record { others = l; last = g.last; count = g.count }

-- the two chains in each other's place
pub turned_joining : (S : List Point) (part : Part) (T : List Pair) (l : List ℕ) (z : ℕ) (g : Round)
    → IsJoining S part T l z g → IsJoining S (other_part part) T g.others z (turned_round l g)
turned_joining S part T l z g m = record {
  apart = m.apart;
  chains = turned_chains S m.apart part T l g.others z g.last m.chains;
  distinct = m.distinct;
  count = other_count (length T) (length l) (length g.others) g.count m.count;
}

start_chains : (S : List Point) (apart : AreApart S) (T : List Pair) (l l2 : List ℕ) (z last : ℕ) (e : Pair) → HasEnds e last z → IsSweptNext S last z
    → AreWhole S T l l2 last → AreJoining S Lower (T ++ e ∷ []) l l2 z last
start_chains S apart T [] l2 z last e he next h = absurd h
start_chains S apart T (t ∷ r) [] z last e he next h = absurd h
start_chains S apart T (t ∷ r) (t2 ∷ r2) z last e he next h =
    subst₂ (λ x y. AreJoining S Lower (T ++ e ∷ []) (x ∷ r) (y ∷ r2) z last) (sym h.0) (sym h.1)
    (start (sweep_setting S apart) (orientation S) (opposite S) (plane_laws S apart) (opposite_laws S apart) (opposite_turned S) (Joins T) (Joins (T ++ e ∷ [])) r r2 z last
    h.2 next.within next.before next.next (push_adds T e last z he))

start_unjoined : (S : List Point) (apart : AreApart S) (T : List Pair) (l l2 : List ℕ) (z last : ℕ) → IsSweptNext S last z → AreWhole S T l l2 last → ¬ Joins T last z
start_unjoined S apart T [] l2 z last next h j = h
start_unjoined S apart T (t ∷ r) [] z last next h j = h
start_unjoined S apart T (t ∷ r) (t2 ∷ r2) z last next h j =
    let W : Whole (swept_sight S (orientation S)) (swept_sight S (opposite S)) (Joins T) r r2 last = h.2 in
    up_to_not_before (sweep_setting S apart) z last (W.pairs.up_to z last (W.pairs.back last z j)) next.before

start_count : (T : List Pair) (e : Pair) (l l2 : List ℕ) (k : ℕ) → length T + length l + length l2 + 1 ≡ 3 * k → length (T ++ e ∷ []) + length l + length l2 ≡ 3 * k
start_count T e l l2 k h = omega (arith, length-append T (e ∷ []))

pub start_joining : (S : List Point) (T : List Pair) (l : List ℕ) (z : ℕ) (g : Round) (e : Pair) → e.lo ≡ min g.last z → e.hi ≡ max g.last z → IsSweptNext S g.last z
    → IsSwept S T l g.others g.last g.count → IsJoining S Lower (T ++ e ∷ []) l z g
start_joining S T l z g e hl hh next m =
    let last : ℕ = g.last in
    let he : HasEnds e last z = ends_of_new e last z hl hh in
    record {
      apart = m.apart;
      chains = start_chains S m.apart T l g.others z g.last e he next m.chains;
      distinct = push_distinct T e g.last z he (start_unjoined S m.apart T l g.others z g.last next m.chains) m.distinct;
      count = start_count T e l g.others g.count m.count;
    }

finish_chains : (S : List Point) (apart : AreApart S) (T : List Pair) (l l2 : List ℕ) (z last : ℕ) → AreJoining S Lower T l l2 z last
    → IsSettled (orientation S) l z → IsSettled (opposite S) l2 z → AreWhole S T (z ∷ l) (z ∷ l2) z
finish_chains S apart T [] l2 z last h s s2 = absurd h
finish_chains S apart T (t ∷ r) [] z last h s s2 = absurd h
finish_chains S apart T (t ∷ r) (t2 ∷ r2) z last h s s2 =
    (refl, refl, finish (sweep_setting S apart) (orientation S) (opposite S) (plane_laws S apart) (opposite_laws S apart) (opposite_turned S) (Joins T) t r t2 r2 z last h s s2)

finish_count : (T : List Pair) (l l2 : List ℕ) (z k : ℕ) → length T + length l + length l2 ≡ 3 * k → length T + length (z ∷ l) + length (z ∷ l2) + 1 ≡ 3 * (k + 1)
finish_count T l l2 z k h = omega arith

pub finish_joining : (S : List Point) (T : List Pair) (l : List ℕ) (z : ℕ) (g : Round) → IsJoining S Lower T l z g
    → IsSettled (orientation S) l z → IsSettled (opposite S) g.others z → IsSwept S T (z ∷ l) (z ∷ g.others) z (g.count + 1)
finish_joining S T l z g m s s2 = record {
  apart = m.apart;
  chains = finish_chains S m.apart T l g.others z g.last m.chains s s2;
  distinct = m.distinct;
  count = finish_count T l g.others z g.count m.count;
}

-- the new point isn't the last one
pub next_apart : (S : List Point) (T : List Pair) (l l2 : List ℕ) (z last k : ℕ) → IsSweptNext S last z → IsSwept S T l l2 last k → last ≢ z
next_apart S T l l2 z last k next m e = let E : Setting = sweep_setting S m.apart in E.irrefl z (subst (λ x. E.B x z) e next.before)
