use Rattle.std.proofs.Common.{ℕ, sym, subst}
use Rattle.partition_defs.specs.Partition.{Joins}
use Rattle.partition_defs.proofs.laws.Joined.{joins_contains, contains_joins}
use Rattle.journal_defs.proofs.plain.has.Goals as goal

pub returns : goal.returns
returns c =
    let P : ℕ → Type 0 = λ i. Joins c.args.list.now i c.args.e.hi in
    let Q : ℕ → Type 0 = λ j. Joins c.args.list.now c.lo.result j in (
      λ t. joins_contains c.args.list.now c.args.e (subst P c.lo.ensures (subst Q c.hi.ensures (c.joins.ensures.0 t))),
      λ h. c.joins.ensures.1 (subst Q (sym c.hi.ensures) (subst P (sym c.lo.ensures) (contains_joins c.args.list.now c.args.e h))),
    )
