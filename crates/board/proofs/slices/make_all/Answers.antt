use Rattle.std.proofs.Common.{ℕ, List, Result, subst}
use Rattle.std.specs.Prelude.{IfErr}
use Rattle.plane.specs.declared.coordinates.Point.{Point}
use Rattle.journal_defs.specs.declared.edit.Edit.{Edit}
use Rattle.journal_defs.specs.declared.edit.Why.{Why}
use Rattle.journal_defs.specs.Edits.{State, IsSound}
use Rattle.edit.specs.declared.look.Look.{Look}
use Rattle.hands.specs.Hands.{hands_of, AreRight}
use Rattle.hands.specs.Answers.{IsIllegalAt}
use Rattle.board.proofs.slices.make_all.Goals as goal

abbrev Illegal : List Edit → Result (Unit {0}) (ℕ × Why) → List Point → List Look → Type 0
Illegal es r S ls = IfErr r (λ (e : ℕ × Why). (s : State) → IsSound S s → AreRight S s (hands_of ls) → IsIllegalAt S s es e.0 e.1)

pub returns-clause-illegal : goal.returns-clause-illegal
returns-clause-illegal c =
    subst (λ (ls : List Look). Illegal c.args.edits.now c.make_edits.result c.args.shelf.now.root.points ls) c.as_mut_slice.ensures.value
    (subst (λ (S : List Point). Illegal c.args.edits.now c.make_edits.result S c.as_mut_slice.result.now) c.points.ensures.points c.make_edits.ensures.illegal)
