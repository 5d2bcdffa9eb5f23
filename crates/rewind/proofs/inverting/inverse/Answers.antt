use Rattle.std.proofs.Common.{ap, sym, subst, ◌∙◌}
use Rattle.journal_defs.specs.declared.edit.Edit.{Edit}
use Rattle.journal_defs.specs.Edits.{after, IsLegal}
use Rattle.journal_defs.proofs.laws.Edits.{inverse_legal, inverse_leads}
use Rattle.rewind.proofs.inverting.inverse.Goals as goal

pub returns-clause-legal : goal.returns-clause-legal
returns-clause-legal c = λ S s so legal.
    subst (λ (r : Edit). IsLegal S (after c.args.edit.now s) r) (sym c.turned.ensures) (inverse_legal S s c.args.edit.now so legal)

pub returns-clause-back : goal.returns-clause-back
returns-clause-back c = λ S s so legal.
    ap (λ (r : Edit). after r (after c.args.edit.now s)) c.turned.ensures ∙ inverse_leads S s c.args.edit.now so legal
