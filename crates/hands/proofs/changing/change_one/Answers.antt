use Rattle.std.proofs.Common.{sym, ◌∙◌, ap}
use Rattle.journal_defs.specs.Edits.{touches}
use Rattle.hands.proofs.Steps.{star_before, left_aside}
use Rattle.hands.proofs.changing.change_one.Goals as goal

pub returns-then-not-is_touched : goal.returns-then-not-is_touched
returns-then-not-is_touched c =
    left_aside c.args.points.now c.args.edit.now c.args.hand.now (ap (touches c.args.edit.now) (sym c.centre.ensures.centre) ∙ (sym c.is_touched.ensures ∙ c.if-not-is_touched.true))

pub follow-requires-clause-legal : goal.follow-requires-clause-legal
follow-requires-clause-legal c = star_before c.args.points.now c.args.edit.now c.args.hand.now c.len-count.ensures.accepted c.requires
