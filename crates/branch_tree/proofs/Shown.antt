-- What a leaf's rows show beside its taken pairs, as the code computes it.
use Rattle.std.proofs.Common.{◌≡◌, ℕ, ◌+◌, ◌-◌, ◌<◌, ◌≤◌, List, sym, ◌∙◌, ap, ap₂, refl, ℤ, pos, neg_ℤ, unsigned_abs, w64, to_z, of_z, arith}
use Rattle.std.specs.Prelude.{◌-ℤ◌, ◌≤ℤ◌}
use Rattle.std.specs.List.{sum_by}
use Rattle.std.specs.Int.{div_ceil, int_max}
use Rattle.std.proofs.lemmas.Int.{ints, clamps}
use Rattle.plane.specs.declared.coordinates.Point.{Point}
use Rattle.plane.specs.declared.segment.Pair.{Pair}
use Rattle.price_defs.specs.declared.row.Row.{Row}
use Rattle.price_defs.specs.Loads.{gives, takes, added, lost}
use Rattle.price_defs.proofs.laws.Values.{ceil_small}
use Rattle.cost_defs.specs.Costs.{Costed, total}
use Rattle.tree_defs.specs.Leaves.{leaf_value}
use Rattle.branch_tree.specs.Values.{IsLoadSum}

first_plain : (a l : ℕ) → a ≤ 600000000000000000 → l ≤ 600000000000000000 → to_z w64 (of_z w64 (to_z w64 a -ℤ to_z w64 l)) ≡ pos a -ℤ pos l
first_plain a l p q = omega (arith, ints)

second_plain : (x s : ℤ) (a l : ℕ) → x ≡ pos a -ℤ pos l → a ≤ 600000000000000000 → l ≤ 600000000000000000 → neg_ℤ (pos 2000000000000000) ≤ℤ s → s ≤ℤ pos 2000000000000000
    → to_z w64 (of_z w64 (x -ℤ to_z w64 (of_z w64 s))) ≡ x -ℤ s
second_plain x s a l e p q low high = omega (arith, ints)

above : (y x s m : ℤ) (a l g t : ℕ) → y ≡ x -ℤ s → x ≡ pos a -ℤ pos l → s ≡ pos g -ℤ pos t → m ≡ int_max y (pos 0) → m ≡ pos ((a + t) - (l + g))
above y x s m a l g t e f h is = omega (arith, ints, clamps)

third_plain : (m : ℤ) (n : ℕ) → m ≡ pos n → n ≤ 700000000000000000 → to_z w64 (of_z w64 m) ≡ pos n
third_plain m n e h = omega (arith, ints)

low_rest : (a l g t : ℕ) (s : ℤ) → a ≤ 600000000000000000 → s ≡ pos g -ℤ pos t → neg_ℤ (pos 2000000000000000) ≤ℤ s → (a + t) - (l + g) ≤ 700000000000000000
low_rest a l g t s p e low = omega (arith, ints)

-- the number under the quotient, as calls show it
abbrev pub under : (a l : ℕ) → (s : ℤ) → ℤ
under a l s = int_max (to_z w64 (of_z w64 (to_z w64 (of_z w64 (to_z w64 a -ℤ to_z w64 l)) -ℤ to_z w64 (of_z w64 s)))) (pos 0)

-- what is known of its parts
pub record AreSums (a l : ℕ) (s : ℤ) : Type 0 where
  pub added : a ≤ 600000000000000000
  pub lost : l ≤ 600000000000000000
  pub low : neg_ℤ (pos 2000000000000000) ≤ℤ s
  pub high : s ≤ℤ pos 2000000000000000

pub rest_is : (a l g t : ℕ) (s m : ℤ) → AreSums a l s → s ≡ pos g -ℤ pos t → m ≡ under a l s → unsigned_abs (to_z w64 (of_z w64 m)) ≡ (a + t) - (l + g)
rest_is a l g t s m sums e is =
    let x : ℤ = to_z w64 (of_z w64 (to_z w64 a -ℤ to_z w64 l)) in
    let first : x ≡ pos a -ℤ pos l = first_plain a l sums.added sums.lost in
    let second : to_z w64 (of_z w64 (x -ℤ to_z w64 (of_z w64 s))) ≡ x -ℤ s = second_plain x s a l first sums.added sums.lost sums.low sums.high in
    let over : m ≡ pos ((a + t) - (l + g)) = above (to_z w64 (of_z w64 (x -ℤ to_z w64 (of_z w64 s)))) x s m a l g t second first e is in
    ap unsigned_abs (third_plain m ((a + t) - (l + g)) over (low_rest a l g t s sums.added e sums.low))

pub shown_small : (q a l g t v : ℕ) (s m : ℤ) → 0 < q → AreSums a l s → s ≡ pos g -ℤ pos t → m ≡ under a l s → v ≡ div_ceil (unsigned_abs (to_z w64 (of_z w64 m))) q → v ≤ 700000000000000000
shown_small q a l g t v s m some sums e is value =
    let n : ℕ = unsigned_abs (to_z w64 (of_z w64 m)) in
    omega (arith, value, ceil_small n q some, rest_is a l g t s m sums e is, low_rest a l g t s sums.added e sums.low)

pub leaf_is : (S : List Point) (D : List Costed) (h q : ℕ) (rows seen : List Row) (free list : List Pair) (a l c v : ℕ) (s m : ℤ)
    → seen ≡ rows → list ≡ free → a ≡ sum_by added seen → l ≡ sum_by lost seen → IsLoadSum S seen list s → AreSums a l s → m ≡ under a l s → c ≡ total D list
    → v ≡ div_ceil (unsigned_abs (to_z w64 (of_z w64 m))) q → h + c + v ≡ leaf_value S D h q rows free
leaf_is S D h q rows seen free list a l c v s m same_rows same_list is_a is_l is_s sums is_m is_c is_v =
    let g : ℕ = sum_by (λ (e : Pair). gives S seen e.lo e.hi) list in
    let t : ℕ = sum_by (λ (e : Pair). takes seen e.lo e.hi) list in
    let d : v ≡ div_ceil ((sum_by added seen + t) - (sum_by lost seen + g)) q =
    is_v ∙ ap (λ n. div_ceil n q) (rest_is a l g t s m sums is_s is_m) ∙ ap₂ (λ x y. div_ceil ((x + t) - (y + g)) q) is_a is_l in
    let here : h + c + v ≡ leaf_value S D h q seen list = ap₂ (λ x y. h + x + y) is_c d in
    here ∙ ap₂ (λ r f. leaf_value S D h q r f) same_rows same_list
