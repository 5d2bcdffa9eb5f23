use Rattle.std.proofs.Common.{◌≡◌, ℕ, ◌-◌, ◌<◌, ◌≤◌, List, length, take, get_or, sym, ◌∙◌, ap, subst, arith}
use Rattle.plane.specs.Accepted.{AreAccepted}
use Rattle.journal_defs.specs.declared.edit.Edit.{Edit}
use Rattle.journal_defs.specs.declared.commit.Commit.{Commit}
use Rattle.journal_defs.specs.Journal.{replay}
use Rattle.replay.specs.Applied.{AreWithin}
use Rattle.rewind.proofs.laws.Earlier.{StandsAt, past_of, sound_then, legal_then, edits_within}
use Rattle.edit_session.proofs.Stamps.{stamps_last}
use Rattle.edit_session.proofs.desk.stamp_last.Goals as goal

pub stamp_all-requires : goal.stamp_all-requires
stamp_all-requires c =
    let core = c.args.core.now in
    let J = core.journal in
    let x : Commit = c.index-journal-number.result in
    let L : List Commit = c.journal-journal.result.now in
    let same : L ≡ J = c.journal-journal.ensures.journal in
    let some : 1 ≤ length L = subst (λ (l : List Commit). 1 ≤ length l) (sym same) c.requires.some in
    let low : length L - 1 < length L = omega arith in
    let here : StandsAt L (length L - 1) x = record { within = low; is = c.index-journal-number.is } in
    let at : StandsAt J (length J - 1) x = subst (λ (l : List Commit). StandsAt l (length l - 1) x) same here in
    let past = past_of core (subst AreAccepted c.points.ensures.points c.len-count.ensures.accepted) c.points.ensures.core in
    let within : AreWithin (length core.points) x.edits =
    edits_within core.points (replay core.start (take (length J - 1) J)) x.edits (sound_then core.points core.start J past (length J - 1)) (legal_then core.points core.start J past (length J - 1) x at) in
    let is : c.as_slice.result.now ≡ x.edits = c.as_slice.ensures.edits ∙ ap (λ (y : Commit). y.edits) (sym c.index-journal-number.is) in
    subst (λ (es : List Edit). AreWithin (length c.args.stamps.now) es) (sym is)
    (subst (λ (n : ℕ). AreWithin n x.edits) (sym c.requires.stamps.len) within)

pub returns-clause-stamps : goal.returns-clause-stamps
returns-clause-stamps c =
    let core = c.args.core.now in
    let x : Commit = c.index-journal-number.result in
    let L : List Commit = c.journal-journal.result.now in
    let same : L ≡ core.journal = c.journal-journal.ensures.journal in
    let at : x ≡ get_or core.journal (length core.journal - 1) x = subst (λ (l : List Commit). x ≡ get_or l (length l - 1) x) same c.index-journal-number.is in
    let is : c.as_slice.result.now ≡ x.edits = c.as_slice.ensures.edits ∙ ap (λ (y : Commit). y.edits) (sym c.index-journal-number.is) in
    stamps_last (length core.points) core.journal x c.as_slice.result.now (length L) c.args.stamps.now c.stamp_all.new.stamps c.requires.some at is (ap length same) c.requires.stamps c.stamp_all.ensures
