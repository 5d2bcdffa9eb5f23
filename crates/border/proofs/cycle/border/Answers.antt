use Rattle.std.proofs.Common.{◌≡◌, List, ℕ, ◌-◌, true, false, length, ◌∙◌, sym, ap, subst, subst₂, arith}
use Rattle.std.specs.List.{ReversedBelow}
use Rattle.std.proofs.lemmas.List.{length-reverse}
use Rattle.border.specs.Cycle.{at}
use Rattle.border.specs.Walk.{HasWalked}
use Rattle.border.specs.Chain.{IsInOrder}
use Rattle.border.proofs.Ordered.{order_turned, seen_in_order}
use Rattle.border.proofs.Cycles.{cycle_of_halves}
use Rattle.border.proofs.cycle.border.Goals as goal

pub add_half-requires : goal.add_half-requires
add_half-requires c =
    let O = c.in_ok-order.order.items in
    subst (IsInOrder c.args.points.now true) (sym c.as_slice.ensures.value) (seen_in_order c.args.points.now O c.in_ok-order.ensures.order)

pub add_half-requires-2 : goal.add_half-requires-2
add_half-requires-2 c =
    let O = c.in_ok-order.order.items in let R = c.reverse.new.self.items in
    let e : c.in_ok-order.order.len ≡ length O = omega (arith, c.in_ok-order.order.ok) in
    subst (IsInOrder c.args.points.now false) (sym c.as_slice-2.ensures.value)
    (order_turned c.args.points.now O R (seen_in_order c.args.points.now O c.in_ok-order.ensures.order) (ap length c.reverse.ensures.items ∙ length-reverse O) (subst (ReversedBelow O R) e c.reverse.ensures.by_index))

pub returns : goal.returns
returns c =
    let O = c.in_ok-order.order.items in let R = c.reverse.new.self.items in
    let e : c.in_ok-order.order.len ≡ length O = omega (arith, c.in_ok-order.order.ok) in
    cycle_of_halves c.args.points.now O R c.add_half.new.list.items c.add_half-2.new.list.items c.len-count.ensures.accepted (seen_in_order c.args.points.now O c.in_ok-order.ensures.order)
    (ap length c.reverse.ensures.items ∙ length-reverse O) (subst (ReversedBelow O R) e c.reverse.ensures.by_index)
    (subst₂ (λ (xs ys : List ℕ). HasWalked c.args.points.now true (at xs 0) (at xs (length xs - 1)) ys c.add_half.new.list.items) c.as_slice.ensures.value c.new-list.ensures.items c.in_ok-add_half.ensures)
    (subst (λ (xs : List ℕ). HasWalked c.args.points.now false (at xs 0) (at xs (length xs - 1)) c.add_half.new.list.items c.add_half-2.new.list.items) c.as_slice-2.ensures.value c.in_ok-add_half-2.ensures)
