use Rattle.journal_defs.proofs.laws.Journal.{last_spared, star_spared}
use Rattle.journal_defs.proofs.laws.spared_stays.Goals as goal

pub returns : goal.returns
returns c = record {
  last = λ J L v h. last_spared J L v h;
  star = λ start J L v a h so. star_spared c.args._points.now start J L v a h so;
}
