use Rattle.std.proofs.Common.{rules, length, ◌≡◌, ℕ, ◌+◌, List, [], ◌∷◌, ◌++◌, sym, ◌∙◌, ap, subst, refl}
use Rattle.journal_defs.specs.declared.edit.Edit.{Edit}
use Rattle.journal_defs.specs.Journal.{AreLegal, made}
use Rattle.journal_defs.specs.Weave.{next_commit}
use Rattle.replay.specs.Replayed.{GrowsBy, state_of}
use Rattle.std.specs.Vec.{with_items}
use Rattle.std.proofs.lemmas.List.{with_items_is, places}
use Rattle.edit_session.specs.Desks.{AreStamps}
use Rattle.edit_session.specs.declared.desk.Desk.{Desk}
use Rattle.edit_session.proofs.Answered.{committed}
use Rattle.edit_session.proofs.answering.commit.Goals as goal

pub returns-in-Ok-clause-replied : goal.returns-in-Ok-clause-replied
returns-in-Ok-clause-replied c = λ D at.
    (let core = c.args.core.now in
    let new = c.apply.new.self in
    let edits : List Edit = c.args.edits.now in
    let same : c.make-edits.result ≡ edits = c.make-edits.ensures ∙ c.as_slice.ensures.edits in
    let legal : AreLegal core.points (state_of core) edits = subst (λ (es : List Edit). AreLegal core.points (state_of core) es) same c.in-Ok.ensures.accepted.edits in
    let counted : GrowsBy core new (record { caller = 1; seq = made 1 core.journal + 1; edits = c.make-edits.result } ∷ []) =
    subst (λ (n : ℕ). GrowsBy core new (record { caller = 1; seq = n + 1; edits = c.make-edits.result } ∷ [])) c.count-seq.ensures.count c.in-Ok.ensures.entered in
    let grows : GrowsBy core new (next_commit core.journal 1 edits ∷ []) =
    subst (λ (es : List Edit). GrowsBy core new (record { caller = 1; seq = made 1 core.journal + 1; edits = es } ∷ [])) same counted in
    let desk : Desk = record { undoable = c.put_last.new.list; stamps = with_items c.args.desk.now.stamps c.stamp_last.new.stamps; value = c.args.desk.now.value } in
    let same_items : desk.stamps.items ≡ c.stamp_last.new.stamps = with_items_is c.args.desk.now.stamps c.stamp_last.new.stamps (search (rules, places)) in
    let stamps : AreStamps (length c.apply.new.self.points) c.apply.new.self.journal desk.stamps.items =
    subst (λ (l : List ℕ). AreStamps (length c.apply.new.self.points) c.apply.new.self.journal l) (sym same_items) c.stamp_last.ensures.stamps in
    committed core new D c.args.desk.now desk edits c.in-Ok.number at legal grows c.in-Ok.ensures.number
    (c.put_last.ensures ∙ ap (λ (l : List ℕ). l ++ c.in-Ok.number ∷ []) c.reserve.ensures.items) stamps refl)
