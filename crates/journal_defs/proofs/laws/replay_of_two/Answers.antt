use Rattle.journal_defs.specs.Journal.{opening}
use Rattle.journal_defs.proofs.laws.Journal.{replay_append}
use Rattle.journal_defs.proofs.laws.replay_of_two.Goals as goal

pub returns : goal.returns
returns c = λ start J L. replay_append J L (opening start)
