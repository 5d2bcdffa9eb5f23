use Rattle.journal_defs.proofs.laws.Table.{refused_illegal}
use Rattle.journal_defs.proofs.laws.Same.{true_why}
use Rattle.journal_defs.proofs.laws.refusal_says_why.Goals as goal

pub returns : goal.returns
returns c = record {
  illegal = λ s at e why so stars refused. refused_illegal c.args.points.now s at e why so stars refused;
  why = λ s at e why so inside stars refused. true_why c.args.points.now s at e why c.len-count.ensures.accepted so inside stars refused;
}
