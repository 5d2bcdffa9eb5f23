use Rattle.solver_top.proofs.NoFirstWord.{no_first_word}
use Rattle.solver_top.proofs.words.by_first_word.Goals as goal

pub returns-in_default-clause-err : goal.returns-in_default-clause-err
returns-in_default-clause-err c =
    no_first_word c.args.words.now c.first-item.result c.as_str.result.now c.in-len1-up.len_at_least c.first-item.is c.as_str.ensures.value (record {
      judge = c.in_default.not-judge;
      start = c.in_default.not-start;
      solve = c.in_default.not-solve;
      check = c.in_default.not-check;
      part = c.in_default.not-part;
      weave = c.in_default.not-weave;
      rewind = c.in_default.not-rewind;
      edit = c.in_default.not-edit;
      gen = c.in_default.not-gen;
      gen_solve = c.in_default.not-text;
    })
