use Rattle.std.proofs.Common.{List, sym, subst}
use Rattle.journal_defs.specs.declared.edit.Edit.{Edit}
use Rattle.journal_defs.specs.Edits.{touches}
use Rattle.edit.specs.Plans.{are_touching}
use Rattle.weave.specs.Owned.{owner_in, IsLeastLacking}
use Rattle.weave.proofs.owners.+least_lacking.Goals as goal

pub returns : goal.returns
returns t c =
    let own = owner_in c.args.owners.now in
    subst (λ (xs : List Edit). IsLeastLacking own c.args.caller (are_touching xs) c.lesser.result) (sym c.in-Some.ensures.cases.0)
    (c.lesser.ensures own c.args.caller (touches c.in-Some.first.now) (are_touching c.in-Some.rest.now) c.lacking_of.ensures c.least_lacking.ensures)
