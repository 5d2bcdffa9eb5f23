-- A sorted list of pairs without repeats is ascending.
use Rattle.std.proofs.Common.{◌≡◌, ◌≢◌, ℕ, zero, suc, ◌+◌, ◌-◌, ◌<◌, false, List, length, get_or, inl, inr, arith, sym, ◌∙◌, ap, subst, IsPermutation, nat_cmp, is_lt}
use Rattle.std.specs.declared.cmp.Ordering.TheVariants.{Less, Equal}
use Rattle.std.specs.List.{AllPairs}
use Rattle.std.specs.Cmp.{nat_cmp_is}
use Rattle.std.specs.Ordering.{ordering_then}
use Rattle.std.proofs.lemmas.Bool.{false≢true}
use Rattle.std.proofs.lemmas.List.Sorted.{Contains-permutation, IsPermutation-sym}
use Rattle.std.proofs.lemmas.Map.Keys.{IsDistinct-IsPermutation}
use Rattle.std.proofs.lemmas.Map.Made.{AllPairs-from_IsDistinct, IsDistinct-from_AllPairs}
use Rattle.std.proofs.lemmas.Bool.Decides.{same_from_decides}
use Rattle.plane.specs.declared.segment.Pair.{Pair}
use Rattle.partition_defs.specs.Ascending.{ComesFirst, IsAscending}
use Rattle.partition_defs.specs.Sets.{is_same}
use Rattle.partition_defs.proofs.laws.Sets.{Decides-same, one_way}
use Rattle.subdivision.specs.Listing.{IsSortedFrom}
use Rattle.partition_defs.proofs.laws.Sets.{first_trans}

-- what the comparison of two segments says
pub not_first : (a b : Pair) → is_lt (ordering_then (nat_cmp b.lo a.lo) (nat_cmp b.hi a.hi)) ≡ false → ¬ ComesFirst b a
not_first a b f (inl h) =
    let e : Less ≡ nat_cmp b.lo a.lo = nat_cmp_is b.lo a.lo Less h in
    false≢true (sym f ∙ ap (λ o. is_lt (ordering_then o (nat_cmp b.hi a.hi))) (sym e))
not_first a b f (inr (level, h)) =
    let e : Equal ≡ nat_cmp b.lo a.lo = nat_cmp_is b.lo a.lo Equal level in
    let g : Less ≡ nat_cmp b.hi a.hi = nat_cmp_is b.hi a.hi Less h in
    false≢true (sym f ∙ ap (λ o. is_lt (ordering_then o (nat_cmp b.hi a.hi))) (sym e) ∙ ap is_lt (sym g))

same_back : (e f : Pair) → is_same e f ≡ is_same f e
same_back e f = same_from_decides (is_same e f) (is_same f e) (Decides-same e f) (λ t. sym ((Decides-same f e).0 t), λ h. (Decides-same f e).1 (sym h))

pub distinct_permuted : (xs ys : List Pair) → IsPermutation xs ys → AllPairs (λ e f. e ≢ f) xs → AllPairs (λ e f. e ≢ f) ys
distinct_permuted xs ys p d = AllPairs-from_IsDistinct Decides-same ys (IsDistinct-IsPermutation is_same same_back xs ys p (IsDistinct-from_AllPairs Decides-same xs d))

pub sorted_from : (old new : List Pair) → IsPermutation old new → ((k : ℕ) (d : Pair) → k + 1 < length new → ¬ ComesFirst (get_or new (k + 1) d) (get_or new k d)) → IsSortedFrom old new
sorted_from old new p order = record {
  distinct = distinct_permuted old new p;
  members = λ e. (Contains-permutation new old e (IsPermutation-sym old new p), Contains-permutation old new e p);
  order = order;
}

follows : (e f : Pair) → e ≢ f → ¬ ComesFirst f e → ComesFirst e f
follows e f ne never = elim (one_way e f) [ inl h ↦ absurd (never h) | inr rest ↦ elim rest [ inl same ↦ absurd (ne (sym same)) | inr h ↦ h ] ]

-- neighbours that ascend make an ascending list
far : (xs : List Pair) → ((k : ℕ) (d : Pair) → k + 1 < length xs → ComesFirst (get_or xs k d) (get_or xs (k + 1) d)) → (m i : ℕ) (d : Pair) → i + 1 + m < length xs → ComesFirst (get_or xs i d) (get_or xs (i + 1 + m) d)
far xs near zero i d h = let e : i + 1 + 0 ≡ i + 1 = omega arith in subst (λ j. ComesFirst (get_or xs i d) (get_or xs j d)) (sym e) (near i d (omega arith))
far xs near (suc m) i d h =
    let e : i + 1 + suc m ≡ i + 1 + m + 1 = omega arith in
    subst (λ j. ComesFirst (get_or xs i d) (get_or xs j d)) (sym e) (first_trans (get_or xs i d) (get_or xs (i + 1 + m) d) (get_or xs (i + 1 + m + 1) d) (far xs near m i d (omega arith)) (near (i + 1 + m) d (omega arith)))

pub sorted_ascends : (old new : List Pair) → AllPairs (λ e f. e ≢ f) old → IsSortedFrom old new → IsAscending new
sorted_ascends old new distinct so i j d ij hj =
    let near : (k : ℕ) (d : Pair) → k + 1 < length new → ComesFirst (get_or new k d) (get_or new (k + 1) d) = λ k d h. follows (get_or new k d) (get_or new (k + 1) d) (so.distinct distinct k (k + 1) d (omega arith) h) (so.order k d h) in
    let e : i + 1 + (j - i - 1) ≡ j = omega arith in
    subst (λ m. ComesFirst (get_or new i d) (get_or new m d)) e (far new near (j - i - 1) i d (omega arith))
