use Rattle.std.proofs.Common.{◌≡◌, List, ℕ, ◌-◌, length, take, subst, arith}
use Rattle.border.specs.Chain.{seen_at, TurnsRight}
use Rattle.border.proofs.Growing.{shortened}
use Rattle.border.proofs.Halves.{rising_of, turn_seen}
use Rattle.border.proofs.chain.shorten.Goals as goal

pub loop-chain-preserved : goal.loop-chain-preserved
loop-chain-preserved c =
    let right : TurnsRight c.args.points.now c.args.order.now c.loop-chain.chain.items c.args.k =
    subst (λ (xs : List ℕ). TurnsRight c.args.points.now c.args.order.now xs c.args.k) c.as_slice.ensures.value (c.turns_right.ensures.0 c.loop-chain-test.true) in
    shortened (seen_at c.args.points.now c.args.forward c.args.order.now) c.args.k c.loop-chain.chain.items c.pop.new.self.items
    (rising_of c.args.points.now c.args.forward c.args.order.now c.args.k c.requires.order c.requires.k_in) c.loop-chain.invariant
    (turn_seen c.args.points.now c.args.forward c.args.order.now c.loop-chain.chain.items c.args.k right) (subst (λ (n : ℕ). c.pop.new.self.items ≡ take (n - 1) c.loop-chain.chain.items) (let e : c.loop-chain.chain.len ≡ length c.loop-chain.chain.items = omega (arith, c.loop-chain.chain.ok) in e) c.pop.ensures.rest)
