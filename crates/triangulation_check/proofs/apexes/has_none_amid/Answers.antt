use Rattle.std.proofs.lemmas.List.Elements.{Contains-get_or}
use Rattle.triangulation_check.proofs.apexes.has_none_amid.Goals as goal

pub is_amid-requires-clause-s_in : goal.is_amid-requires-clause-s_in
is_amid-requires-clause-s_in c = c.requires.within _ (Contains-get_or c.args.run.now c.loop-end.end-index _ c.loop-end-test.true)
