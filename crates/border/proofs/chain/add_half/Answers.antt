use Rattle.std.proofs.Common.{List, ℕ, ◌-◌, length, subst, arith}
use Rattle.border.specs.Chain.{HasPoints}
use Rattle.border.proofs.Halves.{walked}
use Rattle.border.proofs.chain.add_half.Goals as goal

pub returns : goal.returns
returns c =
    walked c.args.points.now c.args.forward c.args.order.now c.in_ok-chain.chain.items c.args.list.now.items c.add_points.new.list.items c.requires (omega (arith, c.len-count.ensures.accepted.count.0)) c.in_ok-chain.ensures
    (subst (λ (xs : List ℕ). HasPoints c.args.order.now xs (length xs - 1) c.args.list.now.items c.add_points.new.list.items) c.as_slice.ensures.value c.in_ok-add_points.ensures)
