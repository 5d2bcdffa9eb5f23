use Rattle.std.proofs.Common.{◌≤◌, ◌*◌, refl, arith}
use Rattle.std.proofs.Math.Nat.{mul-le-mul_left}
use Rattle.given_sums.proofs.Given.{weight_turned}
use Rattle.given_sums.proofs.adding.weight_ahead.Goals as goal

pub overflow_mul-result : goal.overflow_mul-result
overflow_mul-result c = let h : c.args.w * c.one_if_left.result ≤ c.args.w * 1 = mul-le-mul_left c.args.w c.one_if_left.ensures.small in omega (arith, h)

pub returns-in_default : goal.returns-in_default
returns-in_default c =
    let t =
    weight_turned c.args.from c.args.to c.args.at c.turn_at-turn.result c.args.w c.one_if_left.result (c.args.w * c.one_if_left.result) c.turn_at-turn.ensures c.in_default.not-Straight c.one_if_left.ensures.left c.one_if_left.ensures.not_left refl in
    let h : c.args.w * c.one_if_left.result ≤ c.args.w * 1 = mul-le-mul_left c.args.w c.one_if_left.ensures.small in
    record { ahead = t.0; not_ahead = t.1; small = omega (arith, h) }
