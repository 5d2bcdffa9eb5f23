use Rattle.std.proofs.Common.{◌≡◌, ◌<◌, ◌≤◌, ◌+◌, ◌-◌, ◌∷◌, [], ℕ, List, length, get_or, subst, subst₂, sym, ◌∙◌, arith}
use Rattle.plane.specs.declared.coordinates.Point.{Point}
use Rattle.plane.specs.declared.segment.Pair.{Pair}
use Rattle.plane.specs.Accepted.{AreAccepted}
use Rattle.point_order.specs.Order.{IsSweepOrder}
use Rattle.triangulate.specs.Swept.{IsSwept, IsSweptWhole}
use Rattle.triangulate.proofs.Ordered.{first_swept, next_of, all_of}
use Rattle.triangulate.proofs.sweep.sweep_through.Goals as goal

begun : (S : List Point) → AreAccepted S → (order : List ℕ) → IsSweepOrder S order → 0 < length order → (T : List Pair) (l l2 : List ℕ)
    → T ≡ [] → l ≡ get_or order 0 0 ∷ [] → l2 ≡ get_or order 0 0 ∷ [] → IsSwept S T l l2 (get_or order 0 0) 1
begun S acc order p h T l l2 eT el el2 =
    let m : IsSwept S [] (get_or order 0 0 ∷ []) (get_or order 0 0 ∷ []) (get_or order 0 0) 1 = first_swept S acc order p h in
    subst (λ x. IsSwept S x l l2 (get_or order 0 0) 1) (sym eT) (subst₂ (λ x y. IsSwept S [] x y (get_or order 0 0) 1) (sym el) (sym el2) m)

swept_at : (S : List Point) (T : List Pair) (l l2 order : List ℕ) (i j k : ℕ) → i ≡ j → IsSwept S T l l2 (get_or order i 0) k → IsSwept S T l l2 (get_or order j 0) k
swept_at S T l l2 order i j k e h = subst (λ x. IsSwept S T l l2 (get_or order x 0) k) e h

ended : (S : List Point) → AreAccepted S → (T : List Pair) (l l2 order : List ℕ) (k : ℕ) → IsSweepOrder S order → IsSwept S T l l2 (get_or order (k - 1) 0) k → k ≡ length order → 0 < k → IsSweptWhole S T l l2
ended S acc T l l2 order k p m e h = record {
  accepted = acc;
  z = get_or order (k - 1) 0;
  swept = subst (λ x. IsSwept S T l l2 (get_or order (k - 1) 0) x) (e ∙ p.count) m;
  all = all_of S order p (k - 1) (omega arith);
}

pub loop-k-init : goal.loop-k-init
loop-k-init c =
    begun c.args.points.now c.requires.accepted c.args.order.now c.requires.order
    (let a : AreAccepted c.args.points.now = c.requires.accepted in let o : IsSweepOrder c.args.points.now c.args.order.now = c.requires.order in
    let h : 3 ≤ length c.args.points.now = a.count.0 in let g : length c.args.order.now ≡ length c.args.points.now = o.count in omega arith)
    c.in_ok-sweep.sweep.pairs.items c.in_ok-sweep.sweep.lower c.in_ok-sweep.sweep.upper c.in_ok-sweep.ensures.pairs c.in_ok-sweep.ensures.lower c.in_ok-sweep.ensures.upper

pub add-requires-clause-next : goal.add-requires-clause-next
add-requires-clause-next c =
    next_of c.args.points.now (let a : AreAccepted c.args.points.now = c.requires.accepted in a.apart) c.args.order.now c.requires.order c.loop-k.k (omega arith) (omega arith)

pub loop-k-preserved : goal.loop-k-preserved
loop-k-preserved c =
    swept_at c.args.points.now c.add.new.self.pairs.items c.add.new.self.lower c.add.new.self.upper c.args.order.now c.loop-k.k (c.loop-k.k + 1 - 1) (c.loop-k.k + 1) (omega arith)
    (c.in_ok-add.ensures c.loop-k.k c.loop-k.invariant)

pub returns : goal.returns
returns c =
    ended c.args.points.now c.requires.accepted c.loop-k.sweep.pairs.items c.loop-k.sweep.lower c.loop-k.sweep.upper c.args.order.now c.loop-k.k c.requires.order c.loop-k.invariant
    (let a : AreAccepted c.args.points.now = c.requires.accepted in let o : IsSweepOrder c.args.points.now c.args.order.now = c.requires.order in
    let h : 3 ≤ length c.args.points.now = a.count.0 in let g : length c.args.order.now ≡ length c.args.points.now = o.count in omega arith)
    (omega arith)
