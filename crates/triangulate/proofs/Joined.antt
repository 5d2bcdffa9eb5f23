-- Joining one more point, on the lists of pairs and of points that the code keeps.
use Rattle.std.proofs.Common.{◌≡◌, ◌≢◌, ℕ, ℤ, pos, ◌<◌, ◌+◌, ◌*◌, ◌⊎◌, inl, inr, min, max, List, [], ◌∷◌, ◌++◌, length, get_or, sym, ◌∙◌, refl, subst, arith, length-append}
use Rattle.std.specs.Prelude.{◌<ℤ◌}
use Rattle.std.specs.List.{All}
use Rattle.std.proofs.lemmas.List.Elements.{All-tail, Contains-append_left, Contains-push, Contains-push_cases, Contains-get_or}
use Rattle.std.proofs.lemmas.List.Quantifiers.{all_pairs_push}
use Rattle.plane.specs.declared.coordinates.Point.{Point}
use Rattle.plane.specs.declared.segment.Pair.{Pair}
use Rattle.plane.specs.Geometry.{orientation}
use Rattle.plane.specs.Accepted.{AreApart}
use Rattle.partition_defs.specs.Partition.{Joins, HasEnds}
use Rattle.partition_defs.specs.Triangulation.{AreDistinct}
use Rattle.partition_defs.specs.Sweep.{IsSweptBefore}
use Rattle.triangulate.specs.declared.sweep.Part.{Part}
use Rattle.triangulate.specs.declared.sweep.Part.TheVariants.{Lower, Upper}
use Rattle.triangulate.specs.Chains.{shortened}
use Rattle.triangulate.specs.Front.{Side}
use Rattle.triangulate.specs.Swept.{opposite, turn, other_turn, Round, AreJoining, IsJoining, SeesLastSide}
use Rattle.triangulate.proofs.Field.{Setting, Laws, AreTurned, turned_back}
use Rattle.triangulate.proofs.Adding.{Adds}
use Rattle.triangulate.proofs.Step.{step}
use Rattle.triangulate.proofs.Moves.{unjoined}
use Rattle.triangulate.proofs.Places.{sweep_setting, plane_laws, opposite_laws, opposite_turned}
use Rattle.partition_defs.proofs.laws.Joined.{ends_back, ends_of_new, joins_pair, joins_from}
use Rattle.triangulate.specs.Swept.{swept_sight}

same_ends : (e : Pair) (a z p q : ℕ) → HasEnds e a z → HasEnds e p q → ((p ≡ a) × (q ≡ z)) ⊎ ((p ≡ z) × (q ≡ a))
same_ends e a z p q (inl g) (inl h) = inl (sym h.0 ∙ g.0, sym h.1 ∙ g.1)
same_ends e a z p q (inl g) (inr h) = inr (sym h.1 ∙ g.1, sym h.0 ∙ g.0)
same_ends e a z p q (inr g) (inl h) = inr (sym h.0 ∙ g.0, sym h.1 ∙ g.1)
same_ends e a z p q (inr g) (inr h) = inl (sym h.1 ∙ g.1, sym h.0 ∙ g.0)

pub push_adds : (T : List Pair) (e : Pair) (a z : ℕ) → HasEnds e a z → Adds (Joins T) (Joins (T ++ e ∷ [])) a z
push_adds T e a z h = record {
  old = λ p q j. joins_from (T ++ e ∷ []) j.1 p q (Contains-append_left T (e ∷ []) j.1 (joins_pair T p q j)) j.4;
  new = joins_from (T ++ e ∷ []) e a z (Contains-push T e) h;
  back = joins_from (T ++ e ∷ []) e z a (Contains-push T e) (ends_back e a z h);
  only = λ p q j. elim (Contains-push_cases T e j.1 (joins_pair (T ++ e ∷ []) p q j)) [
    | inl c ↦ inl (joins_from T j.1 p q c j.4)
    | inr f ↦ inr (same_ends e a z p q h (subst (λ x. HasEnds x p q) (sym f) j.4))
  ];
}

pub push_distinct : (T : List Pair) (e : Pair) (a z : ℕ) → HasEnds e a z → ¬ Joins T a z → AreDistinct T → AreDistinct (T ++ e ∷ [])
push_distinct T e a z h none d =
    all_pairs_push (λ x y. x ≢ y) T e d
    (λ k x hk f. none (joins_from T (get_or T k x) a z (Contains-get_or T k x hk) (subst (λ y. HasEnds y a z) (sym f) h)))

pub part_laws : (S : List Point) (apart : AreApart S) (part : Part) → Laws (sweep_setting S apart) (turn part S)
part_laws S apart Lower = plane_laws S apart
part_laws S apart Upper = opposite_laws S apart

pub part_turned : (S : List Point) (part : Part) → AreTurned (turn part S) (other_turn part S)
part_turned S Lower = opposite_turned S
part_turned S Upper = turned_back (orientation S) (opposite S) (opposite_turned S)

first_apart : (S : List Point) (apart : AreApart S) (part : Part) (T : List Pair) (b a : ℕ) (r l2 : List ℕ) (z last : ℕ)
    → AreJoining S part T (b ∷ (a ∷ r)) l2 z last → a ≢ z
first_apart S apart part T b a r [] z last h e = h
first_apart S apart part T b a r (t2 ∷ r2) z last h e =
    let s : Side (swept_sight S (turn part S)) (Joins T) (λ s. IsSweptBefore S s z) a b = h.lower.chain.sides a b (inl (refl, refl)) in
    let E : Setting = sweep_setting S apart in
    E.irrefl z (subst (λ x. E.B x z) e (E.trans a b z s.before s.b_seen))

-- the point that is joined next isn't the new one
pub seen_apart : (S : List Point) (part : Part) (T : List Pair) (l : List ℕ) (z a : ℕ) (g : Round) → IsJoining S part T l z g → SeesLastSide (turn part S) l z a → a ≢ z
seen_apart S part T l z a g m h =
    first_apart S m.apart part T h.b a h.r g.others z g.last (subst (λ xs. AreJoining S part T xs g.others z g.last) h.is m.chains)

step_chains : (S : List Point) (apart : AreApart S) (part : Part) (T : List Pair) (b a : ℕ) (r l2 : List ℕ) (z last : ℕ) (e : Pair) → HasEnds e a z
    → AreJoining S part T (b ∷ (a ∷ r)) l2 z last → turn part S a b z <ℤ pos 0
    → AreJoining S part (T ++ e ∷ []) (a ∷ r) l2 z last
step_chains S apart part T b a r [] z last e he h p = h
step_chains S apart part T b a r (t2 ∷ r2) z last e he h p =
    step (sweep_setting S apart) (turn part S) (other_turn part S) (part_laws S apart part) (Joins T) (Joins (T ++ e ∷ [])) b a r t2 r2 z last h p (push_adds T e a z he)

step_unjoined : (S : List Point) (apart : AreApart S) (part : Part) (T : List Pair) (b a : ℕ) (r l2 : List ℕ) (z last : ℕ)
    → AreJoining S part T (b ∷ (a ∷ r)) l2 z last → turn part S a b z <ℤ pos 0 → ¬ Joins T a z
step_unjoined S apart part T b a r [] z last h p j = h
step_unjoined S apart part T b a r (t2 ∷ r2) z last h p j =
    unjoined (sweep_setting S apart) (turn part S) (other_turn part S) (part_laws S apart part) (part_turned S part) (Joins T) b a r t2 r2 z last h p j

step_count : (T : List Pair) (e : Pair) (b a : ℕ) (r l2 : List ℕ) (k : ℕ) → length T + length (b ∷ (a ∷ r)) + length l2 ≡ 3 * k → length (T ++ e ∷ []) + length (a ∷ r) + length l2 ≡ 3 * k
step_count T e b a r l2 k h = omega (arith, length-append T (e ∷ []))

pub step_joining : (S : List Point) (part : Part) (T : List Pair) (l : List ℕ) (z a : ℕ) (g : Round) (e : Pair) → e.lo ≡ min a z → e.hi ≡ max a z
    → SeesLastSide (turn part S) l z a → IsJoining S part T l z g → IsJoining S part (T ++ e ∷ []) (shortened l) z g
step_joining S part T l z a g e hl hh seen m =
    let he : HasEnds e a z = ends_of_new e a z hl hh in
    let chains : AreJoining S part T (seen.b ∷ (a ∷ seen.r)) g.others z g.last = subst (λ xs. AreJoining S part T xs g.others z g.last) seen.is m.chains in
    let count : length T + length (seen.b ∷ (a ∷ seen.r)) + length g.others ≡ 3 * g.count = subst (λ xs. length T + length xs + length g.others ≡ 3 * g.count) seen.is m.count in
    subst (λ xs. IsJoining S part (T ++ e ∷ []) (shortened xs) z g) (sym seen.is)
    (record {
      apart = m.apart;
      chains = step_chains S m.apart part T seen.b a seen.r g.others z g.last e he chains seen.right;
      distinct = push_distinct T e a z he (step_unjoined S m.apart part T seen.b a seen.r g.others z g.last chains seen.right) m.distinct;
      count = step_count T e seen.b a seen.r g.others g.count count;
    })

pub shorter : (o : ℕ → ℕ → ℕ → ℤ) (l : List ℕ) (z a : ℕ) → SeesLastSide o l z a → length (shortened l) < length l
shorter o l z a h = subst (λ xs. length (shortened xs) < length xs) (sym h.is) (omega arith)

pub shortened_in : (n : ℕ) (l : List ℕ) → All (λ i. i < n) l → All (λ i. i < n) (shortened l)
shortened_in n [] h = h
shortened_in n (t ∷ r) h = All-tail (λ i. i < n) t r h
