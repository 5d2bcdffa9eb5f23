use Rattle.std.proofs.Common.{rules, ◌+◌, ◌*◌, ◌≤◌, length, List, sym, subst, arith}
use Rattle.journal_defs.specs.declared.edit.Edit.{Edit}
use Rattle.journal_defs.specs.Edits.{State}
use Rattle.replay.specs.Applied.{AreWithin, IsWithin, IsFirstFault}
use Rattle.replay.specs.Edited.{IsSoundLayout, HasBecome}
use Rattle.replay.specs.Machine.{layers}
use Rattle.replay.specs.Room.{HasRoomForAll}
use Rattle.replay.proofs.Edited.{head_of, tail_of, sound_made, sound_become, rooms_left, room_back, room_first, undo_legal, fault_here, fault_next, made_undone}
use Rattle.replay.proofs.editing.+make_edits.Goals as goal

pub make_edit-requires-clause-within : goal.make_edit-requires-clause-within
make_edit-requires-clause-within t c = head_of (IsWithin (length c.args.points.now)) c.in-Some.first.now c.in-Some.rest.now c.args.edits.now c.in-Some.ensures.cases.0 c.requires.within

pub make_edit-requires-clause-room : goal.make_edit-requires-clause-room
make_edit-requires-clause-room t c = room_first c.in-Some.first.now c.in-Some.rest.now c.args.edits.now c.args.all.now.stars c.in-Some.ensures.cases.0 c.requires.room

pub returns-in-Err-clause-refused : goal.returns-in-Err-clause-refused
returns-in-Err-clause-refused t c =
    subst (λ (xs : List Edit). IsFirstFault c.args.points.now (layers c.args.all.now) xs 0 c.in-Err.why) (sym c.in-Some.ensures.cases.0)
    (fault_here c.args.points.now (layers c.args.all.now) c.in-Some.first.now c.in-Some.rest.now c.in-Err.why c.in-Err.ensures.refused)

pub make_edits-requires : goal.make_edits-requires
make_edits-requires t c =
    let sound : IsSoundLayout c.args.points.now c.make_edit.new.all =
    sound_made c.args.points.now c.in-Some.first.now c.args.all.now c.make_edit.new.all c.requires.sound c.in_default-make_edit.ensures.legal c.in_default-make_edit.ensures.made in
    let within : AreWithin (length c.args.points.now) c.in-Some.rest.now =
    tail_of (IsWithin (length c.args.points.now)) c.in-Some.first.now c.in-Some.rest.now c.args.edits.now c.in-Some.ensures.cases.0 c.requires.within in
    let few : length c.in-Some.rest.now ≤ 8 = omega (arith, c.in-Some.ensures.cases.1, c.requires.few) in
    let room : HasRoomForAll (2 * length c.in-Some.rest.now) c.make_edit.new.all.stars c.in-Some.rest.now =
    rooms_left c.in-Some.first.now c.in-Some.rest.now c.args.edits.now _ c.args.all.now c.make_edit.new.all c.in-Some.ensures.cases.0 c.requires.room c.in_default-make_edit.ensures.made in
    search rules

pub undo-requires-clause-sound : goal.undo-requires-clause-sound
undo-requires-clause-sound t c =
    let sound : IsSoundLayout c.args.points.now c.make_edit.new.all =
    sound_made c.args.points.now c.in-Some.first.now c.args.all.now c.make_edit.new.all c.requires.sound c.in_default-make_edit.ensures.legal c.in_default-make_edit.ensures.made in
    sound_become c.args.points.now _ (layers c.make_edit.new.all) c.make_edit.new.all c.make_edits.new.all sound sound.sound c.in-Err-make_edits.ensures.undone

pub undo-requires-clause-legal : goal.undo-requires-clause-legal
undo-requires-clause-legal t c =
    undo_legal c.args.points.now _ c.in-Some.first.now c.args.all.now c.make_edit.new.all c.make_edits.new.all c.requires.sound c.in_default-make_edit.ensures.legal c.in_default-make_edit.ensures.made c.in-Err-make_edits.ensures.undone

pub undo-requires-clause-within : goal.undo-requires-clause-within
undo-requires-clause-within t c = head_of (IsWithin (length c.args.points.now)) c.in-Some.first.now c.in-Some.rest.now c.args.edits.now c.in-Some.ensures.cases.0 c.requires.within

pub undo-requires-clause-room : goal.undo-requires-clause-room
undo-requires-clause-room t c =
    room_back c.in-Some.first.now c.in-Some.rest.now c.args.edits.now _ _ c.args.all.now c.make_edit.new.all c.make_edits.new.all c.in-Some.ensures.cases.0 c.requires.room c.in_default-make_edit.ensures.made c.in-Err-make_edits.ensures.undone

pub returns-in-Err-make_edits-clause-refused : goal.returns-in-Err-make_edits-clause-refused
returns-in-Err-make_edits-clause-refused t c =
    subst (λ (xs : List Edit). IsFirstFault c.args.points.now (layers c.args.all.now) xs (c.in-Err-make_edits.misfit.at + 1) c.in-Err-make_edits.misfit.why) (sym c.in-Some.ensures.cases.0)
    (fault_next c.args.points.now (layers c.args.all.now) c.in-Some.first.now c.in-Some.rest.now c.in-Err-make_edits.misfit.at c.in-Err-make_edits.misfit.why c.in_default-make_edit.ensures.legal
    (subst (λ (s : State). IsFirstFault c.args.points.now s c.in-Some.rest.now c.in-Err-make_edits.misfit.at c.in-Err-make_edits.misfit.why) c.in_default-make_edit.ensures.made.state c.in-Err-make_edits.ensures.refused))

pub returns-in-Err-make_edits-clause-undone : goal.returns-in-Err-make_edits-clause-undone
returns-in-Err-make_edits-clause-undone t c =
    subst (λ (xs : List Edit). HasBecome (2 * length xs) (layers c.args.all.now) c.args.all.now c.undo.new.all) (sym c.in-Some.ensures.cases.0)
    (made_undone c.args.points.now c.in-Some.first.now c.in-Some.rest.now c.args.all.now c.make_edit.new.all c.make_edits.new.all c.undo.new.all c.requires.sound c.in_default-make_edit.ensures.legal
    c.in_default-make_edit.ensures.made c.in-Err-make_edits.ensures.undone c.undo.ensures)
