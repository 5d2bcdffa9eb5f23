use Rattle.std.proofs.Common.{rules, arith, ◌≡◌, ℕ, zero, suc, set, ◌+◌, ◌<◌, [], ◌∷◌, List, length, length-append, false, sym, ap, ◌∙◌, Some, get_or-set_other, get_or-set_same}
use Rattle.std.specs.Prelude.{slice_index_or}
use mathlib.Core.Logic.{dite}
use mathlib.Core.Option.{some, some-injective, some-ne-none}
use native.Mathlib.Decide.{ℕ_discrete}
use lib.ListN.{get_elem?}
use Rattle.core.specs.Mem.Slots.{slots_items, slots_filled, slots_len, slots_counts}
use Rattle.atomic_table.proofs.Lists.{at_last, at_longer}
use Rattle.vertex_claims.proofs.closing.unpack.Goals as goal

pub unreachable-requires : goal.unreachable-requires
unreachable-requires g c =
    let i = c.loop-i.invariant in
    let f = c.requires.filled c.loop-i.i (search rules) in
    let v = sym c.take-slot.ensures.value ∙ (ap (λ l. get_elem? l c.loop-i.i) i.2 ∙ f.1) in
    let same = some-injective _ _ v in
    search rules

pub loop-i-preserved : goal.loop-i-preserved
loop-i-preserved g c =
    let i = c.loop-i.invariant in
    let n : ℕ = c.loop-i.i in
    let others = c.take-slot.ensures.others in
    let items = c.in-Ok.ensures.items in
    let out = i.4 in
    let near : n < slots_len c.args.closed.slots = search rules in
    let filled = slots_filled c.loop-i.closed.slots in
    let here : n < length filled = let z = (slots_counts c.loop-i.closed.slots).1 in let y = i.3 in omega arith in
    let value : get_elem? (slots_items c.args.closed.slots) n ≡ some (Some c.in-Some.cell) = ap (λ l. get_elem? l n) (sym i.2) ∙ c.in-Some.ensures.value in (
      (λ k l u. ap (λ z. slice_index_or z k false) others.1 ∙ (get_or-set_other filled n k false false (λ e. omega arith) ∙ i.0 k (omega arith) (let z = others.2 in omega arith))),
      (λ k u. ap (λ z. slice_index_or z k false) others.1 ∙ dite (ℕ_discrete k n) (λ e. ap (λ z. slice_index_or (set filled n false) z false) e ∙ get_or-set_same filled n false false here)
          (λ ne. get_or-set_other filled n k false false ne ∙ i.1 k (omega arith))),
      others.0 ∙ i.2,
      others.2 ∙ i.3,
      record {
        count = ap (λ (l : List g.row.C.Denot). length l) items ∙ (length-append c.loop-i.cells.items (c.in-Some.cell ∷ []) ∙ ap (λ z. z + 1) out.count);
        each = λ k x u at. ap (λ (l : List g.row.C.Denot). get_elem? l k) items ∙ dite (ℕ_discrete k n)
            (λ e. at_last c.loop-i.cells.items c.in-Some.cell k (out.count ∙ sym e) ∙ ap some (the_same (some-injective _ _ (sym value ∙ (ap (get_elem? (slots_items c.args.closed.slots)) (sym e) ∙ at)))))
            (λ ne. at_longer c.loop-i.cells.items (c.in-Some.cell ∷ []) k x (out.each k x (omega arith) at));
      },
      (let z = c.in-Ok.ensures.capacity in let y = i.5 in search rules),
      omega arith,
    )
  where
    the_same : {A : Type 0} {x y : A} → Some x ≡ Some y → x ≡ y
    the_same e = cc

pub returns-clause-each : goal.returns-clause-each
returns-clause-each g c i x at =
    let inv = c.loop-i.invariant in
    let inside = at_inside (slots_items c.args.closed.slots) i (Some x) at in
    let count = (slots_counts c.args.closed.slots).0 in
    let all = inv.6 in
    let most = inv.3 in
    let is = c.slot_count-count.ensures in
    let stop = c.loop-i-test.false in
    inv.4.each i x (omega arith) at
  where
    at_inside : {A : Type 0} (l : List A) (k : ℕ) (e : A) → get_elem? l k ≡ some e → k < length l
    at_inside [] k e h = absurd (some-ne-none e (sym h))
    at_inside (y ∷ ys) zero e h = omega arith
    at_inside (y ∷ ys) (suc k) e h = let r = at_inside ys k e h in omega arith
