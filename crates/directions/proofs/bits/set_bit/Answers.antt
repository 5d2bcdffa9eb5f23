use Rattle.std.proofs.Common.{◌/◌, ◌∙◌}
use Rattle.std.proofs.lemmas.List.{get_or_default}
use Rattle.directions.proofs.Tables.{adds_bit}
use Rattle.directions.proofs.bits.set_bit.Goals as goal

pub returns-clause-adds : goal.returns-clause-adds
returns-clause-adds c =
    adds_bit c.args.table.now.items c.args.k c.index-word.result.now c.requires
    (c.index-word.ensures ∙ get_or_default c.args.table.now.items (c.args.k / 64) c.index-word.result.now 0 c.requires)
