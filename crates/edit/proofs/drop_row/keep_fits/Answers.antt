use Rattle.edit.proofs.Shown.{spare_of}
use Rattle.edit.proofs.drop_row.keep_fits.Goals as goal

pub returns-else-kept : goal.returns-else-kept
returns-else-kept c =
    let (there, spare) = spare_of c.args.lower.now c.args.e.hi c.in-Some.kept c.in-Some.ensures.order c.in-Some.ensures.mark c.if-kept.false in
    record { there = there; spare = spare }
