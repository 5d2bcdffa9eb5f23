use Rattle.std.proofs.Common.{sym, subst}
use Rattle.journal_defs.specs.declared.edit.Edit.{Edit}
use Rattle.journal_defs.specs.Edits.{is_end, touches}
use Rattle.weave.specs.Owned.{owner_in, IsLeastLacking}
use Rattle.weave.proofs.owners.lacking_of.Goals as goal

pub returns-in-Flip : goal.returns-in-Flip
returns-in-Flip c =
    let own = owner_in c.args.owners.now in
    subst (λ (x : Edit). IsLeastLacking own c.args.caller (touches x) c.lesser.result) (sym c.in-Flip.is)
    (c.lesser.ensures own c.args.caller (is_end c.in-Flip.from) (is_end c.in-Flip.to) c.lacking_end-in-Flip.ensures c.lacking_end-in-Flip-2.ensures)
