use Rattle.std.proofs.Common.{◌≡◌, ◌∙◌, ap, arith}
use Rattle.directions.specs.Bits.{count_of_pairs}
use Rattle.directions.proofs.Tables.{half_of_pairs}
use Rattle.directions.proofs.bits.count_of.Goals as goal

pub returns : goal.returns
returns c = let e : c.from-n.result ≡ c.args.n = omega arith in half_of_pairs c.from-n.result ∙ ap count_of_pairs e
