-- What the ends at a point show of an apex.
use Rattle.std.proofs.Common.{◌≡◌, ℕ, ◌<◌, List, length, slice_index_or, refl, sym, ◌∙◌, ◌+◌, subst, inl, inr, arith}
use Rattle.std.proofs.lemmas.Bool.{cases_lt}
use Rattle.std.proofs.lemmas.List.{get_or_default}
use Rattle.std.specs.List.{Contains}
use Rattle.plane.specs.declared.coordinates.Point.{Point}
use Rattle.plane.specs.declared.segment.Pair.{Pair}
use Rattle.plane.specs.Accepted.{AreAccepted}
use Rattle.partition_defs.specs.Partition.{Joins, AreWithin, IsConvexPartition}
use Rattle.partition_defs.specs.Triangulation.{IsTriangulation}
use Rattle.partition_defs.proofs.laws.Has.{contains_of}
use Rattle.partition_defs.proofs.laws.Joined.{joined, join_back, contains_joins}
use Rattle.triangulation_check.specs.declared.ends.End.{End}
use Rattle.triangulation_check.specs.Apexes.{HasApex, HasApexWhereLeft, AreAllJoined, HaveApexes}
use Rattle.triangulation_check.specs.Ends.{AreEndsOf, IsRunOf, LeadWithin, LeadsTo, IsLeftEnd, HasNoneAmid}
use Rattle.triangulation_check.proofs.Inside.{seen_empty}

-- both ends are points
pub end_within : (S : List Point) (K : List Pair) → AreWithin S K → (p q : ℕ) → Joins K p q → q < length S
end_within S K within p q h =
    let (e, m, ends) = joined K p q h in
    let hi : e.hi < length S = within e (contains_of K e m) in
    elim ends [ inl w ↦ omega (arith, w.1) | inr w ↦ omega (arith, w.0, e.ordered) ]

-- an end of the run at p is a segment from p
run_joined : (K : List Pair) (Z R : List End) (p : ℕ) → AreEndsOf K Z → IsRunOf Z R p → (z : End) → Contains R z → Joins K p z.to
run_joined K Z R p all run z h = let (a, e) = run.sound z h in subst (λ x. Joins K x z.to) e (all.ends.sound z a)

pub run_within : (S : List Point) (K : List Pair) (Z R : List End) (p : ℕ) → AreWithin S K → AreEndsOf K Z → IsRunOf Z R p → LeadWithin S R
run_within S K Z R p within all run z h = end_within S K within p z.to (run_joined K Z R p all run z h)

leads_joined : (K : List Pair) (Z R : List End) (p r : ℕ) → AreEndsOf K Z → IsRunOf Z R p → LeadsTo R r → Joins K p r
leads_joined K Z R p r all run (z, h, e) = subst (λ x. Joins K p x) e (run_joined K Z R p all run z h)

pub shown : (S : List Point) (K : List Pair) (Z R Q : List End) (p q r : ℕ) → AreAccepted S → IsConvexPartition S K → AreEndsOf K Z → IsRunOf Z R p → IsRunOf Z Q q → p < length S → q < length S → Joins K p q
    → IsLeftEnd S R p q r → HasNoneAmid S R p q r → LeadsTo Q r → HasApex S K p q
shown S K Z R Q p q r accepted part all run next hp hq join left amid leads =
    let first = leads_joined K Z R p r all run left.1 in
    let second = leads_joined K Z Q q r all next leads in (
      r,
      record {
        within = left.0;
        first = first;
        second = second;
        left = left.2;
        empty = seen_empty S K p q r accepted part
            (record { p_in = hp; q_in = hq; r_in = left.0; left = left.2; first = join; second = second; third = join_back K p r first })
            (λ s h. amid (record { at = p; to = s }) (run.whole (record { at = p; to = s }) (all.ends.whole p s h) refl));
      },
    )

-- a convex partition that has an apex wherever it must is a triangulation
pub completed : (S : List Point) (K : List Pair) → IsConvexPartition S K → AreAllJoined S K → HaveApexes S K → IsTriangulation S K
completed S K part met apexes = record {
  within = part.within;
  clear = part.clear;
  plane = part.plane;
  border = part.border;
  met = λ p hp. (let (q, h) = met p hp in (q, end_within S K part.within p q h, h));
  apex = apexes;
}

pub met_of : (S : List Point) (K : List Pair) → IsTriangulation S K → AreAllJoined S K
met_of S K tri p hp = let (q, hq, h) = tri.met p hp in (q, h)

-- each pair of the list has its apexes
pub apexes_of_all : (S : List Point) (K : List Pair) → ((k : ℕ) (e : Pair) → k < length K → slice_index_or K k e ≡ e → HasApexWhereLeft S K e.lo e.hi × HasApexWhereLeft S K e.hi e.lo) → HaveApexes S K
apexes_of_all S K all p q (k, e, hk, at, inl (a, b)) left =
    subst (λ x. HasApexWhereLeft S K x q) a (subst (λ y. HasApexWhereLeft S K e.lo y) b (all k e hk at).0) left
apexes_of_all S K all p q (k, e, hk, at, inr (a, b)) left =
    subst (λ x. HasApexWhereLeft S K x q) b (subst (λ y. HasApexWhereLeft S K e.hi y) a (all k e hk at).1) left

-- a pair's own ends are joined, also where other numbers are equal to them
pub own_join : (K : List Pair) (e : Pair) (x y : ℕ) → Contains K e → x ≡ e.lo → y ≡ e.hi → Joins K x y
own_join K e x y h a b = subst (λ z. Joins K z y) (sym a) (subst (λ z. Joins K e.lo z) (sym b) (contains_joins K e h))

-- what holds of the first pairs and of the next one holds of one pair more
pub one_more : (P : Pair → Type 0) (K : List Pair) (i : ℕ) (x : Pair) → i < length K → x ≡ slice_index_or K i x → P x
    → ((k : ℕ) (e : Pair) → k < i → slice_index_or K k e ≡ e → P e) → (k : ℕ) (e : Pair) → k < i + 1 → slice_index_or K k e ≡ e → P e
one_more P K i x l is here before k e h at = elim (cases_lt k i) [
  | inl a ↦ before k e a at
  | inr a ↦ (let same : k ≡ i = omega arith in
      let there : slice_index_or K i e ≡ e = subst (λ j. slice_index_or K j e ≡ e) same at in
      subst P (is ∙ get_or_default K i x e l ∙ there) here)
]

-- both directions of a pair, told by other numbers
pub both_apexes : (S : List Point) (K : List Pair) (e : Pair) (x y : ℕ) → x ≡ e.lo → y ≡ e.hi → HasApexWhereLeft S K x y × HasApexWhereLeft S K y x → HasApexWhereLeft S K e.lo e.hi × HasApexWhereLeft S K e.hi e.lo
both_apexes S K e x y a b h =
    subst (λ z. HasApexWhereLeft S K z e.hi × HasApexWhereLeft S K e.hi z) a (subst (λ z. HasApexWhereLeft S K x z × HasApexWhereLeft S K z x) b h)
