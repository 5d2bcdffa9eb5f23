use Rattle.std.proofs.Common.{List, ℕ, subst}
use Rattle.directions.specs.Bits.{HasBit}
use Rattle.directions.proofs.Tables.{no_bit}
use Rattle.directions.proofs.bits.empty_table.Goals as goal

pub returns-clause-empty : goal.returns-clause-empty
returns-clause-empty c = λ k h.
    let P : List ℕ → Type 0 = λ l. HasBit l k in
    no_bit _ k (subst P (c.in_ok-vec.ensures.items_if_clones_equal (λ y same. same)) h)
