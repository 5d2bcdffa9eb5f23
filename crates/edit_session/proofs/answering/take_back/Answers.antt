use Rattle.std.proofs.Common.{rules, length, ◌≡◌, ℕ, List, sym, ◌∙◌, subst, refl}
use Rattle.plane.specs.Accepted.{AreAccepted}
use Rattle.rewind.specs.Undone.{IsUndoRefused}
use Rattle.rewind.specs.declared.undoing.UndoFault.{UndoFault}
use Rattle.rewind.proofs.laws.Earlier.{past_of}
use Rattle.std.specs.Vec.{with_items}
use Rattle.std.proofs.lemmas.List.{with_items_is, places}
use Rattle.edit_session.specs.Desks.{AreStamps}
use Rattle.edit_session.specs.declared.desk.Desk.{Desk}
use Rattle.edit_session.proofs.Answered.{nothing_back, never_illegal, taken}
use Rattle.edit_session.proofs.answering.take_back.Goals as goal

pub returns-in_default-clause-replied : goal.returns-in_default-clause-replied
returns-in_default-clause-replied c = λ D at. nothing_back c.args.core.now D c.args.desk.now at (sym c.deref.ensures.value ∙ c.in_default.ensures)

pub unreachable-requires-in-Err-Illegal : goal.unreachable-requires-in-Err-Illegal
unreachable-requires-in-Err-Illegal c =
    let core = c.args.core.now in
    let past = past_of core (subst AreAccepted c.points.ensures.points c.len-count.ensures.accepted) c.points.ensures.core in
    let (rest, is) = c.in-Some.ensures in
    let refused = subst (λ (f : UndoFault). IsUndoRefused core c.in-Some.number f) c.in-Err-Illegal.field-0-is c.in-Err-Illegal.ensures.refused in
    never_illegal core c.requires.desk.0 c.args.desk.now rest c.in-Some.number refused.0 c.in-Err-Illegal.field-0-0 c.in-Err-Illegal.field-0-1 past c.requires.desk.1
    (sym c.deref.ensures.value ∙ is) refused.1 refused.2

pub take_off-requires : goal.take_off-requires
take_off-requires c = let (rest, is) = c.in-Some.ensures in (rest, sym c.deref.ensures.value ∙ is)

pub returns-in-Ok-clause-replied : goal.returns-in-Ok-clause-replied
returns-in-Ok-clause-replied c = λ D at.
    (let core = c.args.core.now in
    let past = past_of core (subst AreAccepted c.points.ensures.points c.len-count.ensures.accepted) c.points.ensures.core in
    let desk : Desk = record { undoable = c.take_off.new.list; stamps = with_items c.args.desk.now.stamps c.stamp_last.new.stamps; value = c.args.desk.now.value } in
    let same_items : desk.stamps.items ≡ c.stamp_last.new.stamps = with_items_is c.args.desk.now.stamps c.stamp_last.new.stamps (search (rules, places)) in
    let stamps : AreStamps (length c.undo.new.core.points) c.undo.new.core.journal desk.stamps.items =
    subst (λ (l : List ℕ). AreStamps (length c.undo.new.core.points) c.undo.new.core.journal l) (sym same_items) c.stamp_last.ensures.stamps in
    taken core c.undo.new.core D c.args.desk.now desk c.in-Some.number c.in-Ok.answer past at c.take_off.ensures c.in-Ok.ensures.undone stamps refl)
