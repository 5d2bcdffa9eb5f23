use Rattle.std.proofs.Common.{◌≤◌, ◌*◌, arith}
use Rattle.std.proofs.Math.Nat.{mul-le-mul_left}
use Rattle.given_sums.proofs.Added.{place_in}
use Rattle.given_sums.proofs.strip.place_of.Goals as goal

pub overflow_mul-result : goal.overflow_mul-result
overflow_mul-result c = let h : c.args.width * c.args.a ≤ c.args.width * 31 = mul-le-mul_left c.args.width (let s : c.args.a ≤ 31 = omega (arith, c.requires.line) in s) in omega (arith, h)

pub overflow_add-result : goal.overflow_add-result
overflow_add-result c = let h : c.args.width * c.args.a ≤ c.args.width * 31 = mul-le-mul_left c.args.width (let s : c.args.a ≤ 31 = omega (arith, c.requires.line) in s) in omega (arith, h)

pub returns-clause-within : goal.returns-clause-within
returns-clause-within c = place_in c.args.width c.args.a c.args.b c.requires.line c.requires.column
