-- The pairs of a solution have ends that are indices of points.
use Rattle.std.proofs.Common.{◌≡◌, ℕ, zero, suc, ◌<◌, ◌≤◌, List, [], ◌∷◌, length, map, min, max, ℤ, pos, negsuc, Option, Some, None, Ok, Err, Bool, true, false, cond, slice_index_or, nat_lt, nat_le, ◌==◌, codes, option_and_then, arith, refl, subst, ◌^◌}
use Rattle.std.proofs.lemmas.List.{length-map}
use Rattle.std.proofs.lemmas.Bool.Decides.{nat_tests}
use Rattle.std.specs.List.{filter_map, AllByRecursion, cons_option}
use Rattle.serde_json.specs.Data.{Data, Items}
use Rattle.plane.specs.declared.coordinates.Point.{Point}
use Rattle.plane.specs.declared.segment.Pair.{Pair}
use Rattle.partition_defs.specs.Partition.{AreWithin}
use Rattle.text_defs.specs.Solutions.{edge_of, end_at, edges_of, edges_in, edge_fault, most_edges, Fault, no_edges, too_many_edges}
use Rattle.text_defs.specs.Steps.{◌>>=◌, or_fault, unless}
use Rattle.text_defs.specs.Fields.{below, whole_at, pair_of, list_of, array_at}
use Rattle.instance_io.specs.Refusal.{ends}
use Rattle.std.proofs.lemmas.Bool.{ltb-true}

abbrev IsSmall : ℕ → ℕ × ℕ → Type 0
IsSmall n p = p.1 < n

abbrev OfSome : {A : Type 0} → (A → Type 0) → Option A → Type 0
OfSome P None = Unit {0}
OfSome P (Some x) = P x

some_if : {A : Type 0} (P : A → Type 0) (b : Bool) (x : A) → (b ≡ true → P x) → OfSome P (cond b (Some x) None)
some_if P true x h = h refl
some_if P false x h = tt

some_unless : {A : Type 0} (P : A → Type 0) (b : Bool) (x : A) → P x → OfSome P (cond b None (Some x))
some_unless P true x h = tt
some_unless P false x h = h

and_then : {A B : Type 0} (P : A → Type 0) (Q : B → Type 0) (f : A → Option B) (o : Option A) → OfSome P o → ((x : A) → P x → OfSome Q (f x)) → OfSome Q (option_and_then f o)
and_then P Q f None h k = tt
and_then P Q f (Some x) h k = k x h

below_small : (n : ℕ) (z : ℤ) → OfSome (λ i. i < n) (below n z)
below_small n (pos k) = some_if (λ i. i < n) (nat_lt k n) k (ltb-true k n)
below_small n (negsuc k) = tt

always : {A : Type 0} (o : Option A) → OfSome (λ _. Unit {0}) o
always None = tt
always (Some x) = tt

end_small : (n : ℕ) (key : List ℕ) (d : Data) → OfSome (λ i. i < n) (end_at n key d)
end_small n key d = and_then (λ _. Unit {0}) (λ i. i < n) (below n) (whole_at key d) (always (whole_at key d)) (λ z _. below_small n z)

edge_small : (n : ℕ) (d : Data) → OfSome (IsSmall n) (edge_of n d)
edge_small n d =
    and_then (λ i. i < n) (IsSmall n) (λ i. option_and_then (pair_of i) (end_at n (codes "j") d)) (end_at n (codes "i") d) (end_small n (codes "i") d)
    (λ i hi. and_then (λ j. j < n) (IsSmall n) (pair_of i) (end_at n (codes "j") d) (end_small n (codes "j") d)
    (λ j hj. some_unless (IsSmall n) (i == j) (min i j, max i j) (omega arith)))

kept_small : (n : ℕ) (items : List Data) → AllByRecursion (IsSmall n) (filter_map (edge_of n) items)
kept_small n [] = tt
kept_small n (d ∷ ds) = one (edge_of n d) (filter_map (edge_of n) ds) (edge_small n d) (kept_small n ds)
  where
    one : (o : Option (ℕ × ℕ)) (rest : List (ℕ × ℕ)) → OfSome (IsSmall n) o → AllByRecursion (IsSmall n) rest → AllByRecursion (IsSmall n) (cons_option o rest)
    one None rest h k = k
    one (Some x) rest h k = (h, k)

fewer : (n : ℕ) (items : List Data) → length (filter_map (edge_of n) items) ≤ length items
fewer n [] = omega arith
fewer n (d ∷ ds) = one (edge_of n d) (filter_map (edge_of n) ds) (length ds) (fewer n ds)
  where
    one : (o : Option (ℕ × ℕ)) (rest : List (ℕ × ℕ)) (m : ℕ) → length rest ≤ m → length (cons_option o rest) ≤ suc m
    one None rest m h = omega arith
    one (Some x) rest m h = omega arith

-- small pairs, and few of them
abbrev AreFewSmall : ℕ → List (ℕ × ℕ) → Type 0
AreFewSmall n ps = AllByRecursion (IsSmall n) ps × (length ps ≤ most_edges)

given : (n : ℕ) (fault : Option Fault) (xs ps : List (ℕ × ℕ)) → AreFewSmall n xs → unless fault xs ≡ Ok ps → AreFewSmall n ps
given n None xs ps h e = let same : xs ≡ ps = cc in subst (AreFewSmall n) same h
given n (Some f) xs ps h e = absurd (cc)

counted : (n : ℕ) (items : List Data) (ps : List (ℕ × ℕ)) (b : Bool) → nat_le (length items) most_edges ≡ b → cond b (unless (edge_fault n items) (filter_map (edge_of n) items)) (Err (too_many_edges (length items))) ≡ Ok ps → AreFewSmall n ps
counted n items ps true few e = given n (edge_fault n items) (filter_map (edge_of n) items) ps (kept_small n items, (let h : length items ≤ most_edges = grind (arith, nat_tests) in omega (arith, fewer n items, h))) e
counted n items ps false few e = absurd (cc)

read_small : (n : ℕ) (r : Option Items) (ps : List (ℕ × ℕ)) → (or_fault no_edges r >>= λ items. edges_of n (list_of items)) ≡ Ok ps → AreFewSmall n ps
read_small n None ps e = absurd (cc)
read_small n (Some items) ps e = counted n (list_of items) ps (nat_le (length (list_of items)) most_edges) refl e

pub edges_small : (n : ℕ) (d : Data) (ps : List (ℕ × ℕ)) → edges_in n d ≡ Ok ps → AreFewSmall n ps
unfolding edges_in
edges_small n d ps e = read_small n (array_at (codes "edges") d) ps e

within_all : (n : ℕ) (K : List Pair) → AllByRecursion (IsSmall n) (map ends K) → (k : ℕ) (d : Pair) → k < length K → (slice_index_or K k d).hi < n
within_all n [] all k d h = absurd (omega arith)
within_all n (e ∷ K) all zero d h = all.0
within_all n (e ∷ K) all (suc k) d h = within_all n K all.1 k d (omega arith)

-- the pairs of a solution over the points of S are within S, and few
pub solution_within : (S : List Point) (d : Data) (K : List Pair) → edges_in (length S) d ≡ Ok (map ends K) → AreWithin S K × (length K < 2 ^ 32)
solution_within S d K read =
    let (all, few) = edges_small (length S) d (map ends K) read in (
      λ e (k, h, is). subst (λ (x : Pair). x.hi < length S) is (within_all (length S) K all k e h),
      omega (arith, few, length-map K ends),
    )
