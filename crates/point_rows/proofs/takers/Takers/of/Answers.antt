use Rattle.std.proofs.Common.{◌≡◌, ◌<◌, ◌≤◌, ◌+◌, ℕ, List, length, get_or, sym, ◌∙◌, ap, subst, arith, rules}
use Rattle.std.specs.List.Sorted.{IsNonDecreasingBy}
use Rattle.std.proofs.lemmas.Bool.{ltb-true}
use Rattle.std.proofs.lemmas.List.Sorted.{IsPartitionPoint-from_clause, IsPartitionedBy-ltb}
use lib.Dec.{ltb}
use Rattle.plane.specs.declared.segment.Pair.{Pair}
use Rattle.partition_defs.specs.Partition.{HasEnds}
use Rattle.point_rows.specs.Takers.{key_of, taken}
use Rattle.point_rows.proofs.Taking.{none_before, none_after, part_step}
use Rattle.point_rows.proofs.takers.Takers.of.Goals as goal

pub loop-k-init : goal.loop-k-init
loop-k-init c =
    let sorted : IsNonDecreasingBy (λ (x : Pair × ℕ). key_of x.0) c.deref.result.now = subst (IsNonDecreasingBy (λ (x : Pair × ℕ). key_of x.0)) (sym c.deref.ensures.value) c.self.invariant.0 in
    let parted = IsPartitionedBy-ltb (λ (x : Pair × ℕ). key_of x.0) c.deref.result.now c.place_of-place.result sorted in
    let point = IsPartitionPoint-from_clause (λ (x : Pair × ℕ). ltb (key_of x.0) c.place_of-place.result) c.deref.result.now c.partition_point-first.result c.partition_point-first.ensures.partitioned parted (λ a r q k. search rules) in
    let len : length c.deref.result.now ≡ length c.self.inside.list.items = ap length c.deref.ensures.value in
    sym (none_before c.args.e c.self.inside.list.items (c.args.e, 0) c.partition_point-first.result (omega (arith, c.partition_point-first.ensures.bound))
    (λ k l. (let h = ltb-true _ _ (point.0 k (c.args.e, 0) (omega (arith, c.partition_point-first.ensures.bound)) l) in
    subst (λ (x : List (Pair × ℕ)). key_of (get_or x k (c.args.e, 0)).0 < key_of c.args.e) c.deref.ensures.value (omega (arith, h, c.place_of-place.ensures)))))

pub returns-then-place_of-place : goal.returns-then-place_of-place
returns-then-place_of-place c =
    let l : c.loop-k.k < length c.self.inside.list.items = omega (arith, c.loop-k-test.true) in
    let g : key_of c.args.e < key_of (get_or c.self.inside.list.items c.loop-k.k c.index.result.now).0 =
    subst (λ (x : Pair × ℕ). key_of c.args.e < key_of x.0) c.index.ensures (omega (arith, c.if-place_of-place.true, c.place_of.ensures, c.place_of-place.ensures)) in
    c.loop-k.invariant ∙ sym (none_after c.args.e c.self.inside.list.items c.index.result.now c.loop-k.k l c.self.invariant.0 g) ∙ ap (λ (T : List (Pair × ℕ)). taken T c.args.e.lo c.args.e.hi) c.self.view_is

pub overflow_add-sum : goal.overflow_add-sum
overflow_add-sum c =
    let l : c.loop-k.k < length c.self.inside.list.items = omega (arith, c.loop-k-test.true) in
    let ends : HasEnds c.index.result.now.0 c.args.e.lo c.args.e.hi =
    subst (λ n. HasEnds c.index.result.now.0 c.args.e.lo n) c.hi.ensures (subst (λ n. HasEnds c.index.result.now.0 n c.hi.result) c.lo.ensures (c.has_ends.ensures.0 c.if-has_ends.true)) in
    let s : c.loop-k.sum + c.index.result.now.1 ≤ _ = part_step c.args.e c.self.inside.list.items c.loop-k.k c.loop-k.sum c.index.result.now l c.index.ensures ends c.loop-k.invariant in
    omega (arith, s, c.self.invariant.1)
