use Rattle.journal_defs.specs.Edits.{after}
use Rattle.journal_defs.proofs.laws.Members.{untouched, star_alike}
use Rattle.journal_defs.proofs.laws.untouched_stays.Goals as goal

pub returns : goal.returns
returns c = record {
  alike = λ e s v far. untouched e s v far;
  star = λ e s v a far so. star_alike c.args._points.now s (after e s) v a (untouched e s v far) so;
}
