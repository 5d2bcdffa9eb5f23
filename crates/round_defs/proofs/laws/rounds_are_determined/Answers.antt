use Rattle.search_defs.specs.Words.{round_words}
use Rattle.round_defs.proofs.laws.Once.{one_rounds}
use Rattle.round_defs.proofs.laws.rounds_are_determined.Goals as goal

pub returns : goal.returns
returns c = record {
  rounds = λ D start J K L words rises tri legal a b. one_rounds c.args.points.now D start J K L words c.len-count.ensures.accepted rises tri legal a b;
  search = λ D start J K L rounds seed rises tri legal a b.
      one_rounds c.args.points.now D start J K L (round_words 1 seed 0 rounds) c.len-count.ensures.accepted rises tri legal a b;
}
