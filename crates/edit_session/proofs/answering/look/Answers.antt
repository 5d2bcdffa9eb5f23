use Rattle.std.proofs.Common.{◌≡◌, ℕ, ◌<◌, List, length, slice_index_or, sym, ◌∙◌, ap, subst}
use Rattle.plane.specs.Accepted.{AreAccepted}
use Rattle.journal_defs.specs.Journal.{last}
use Rattle.edit_session.proofs.Answered.{looked}
use Rattle.edit_session.proofs.Sights.{sight}
use Rattle.edit_session.proofs.answering.look.Goals as goal

pub stamp_of-stamp-requires : goal.stamp_of-stamp-requires
stamp_of-stamp-requires c =
    let at = c.requires.desk.1 in
    subst (λ (l : List ℕ). c.args.v < length l) (sym c.deref.ensures.value) (subst (λ (n : ℕ). c.args.v < n) (sym at.stamps.len) c.requires.vertex)

pub returns : goal.returns
returns c = λ D at.
    (let core = c.args.core.now in
    let accepted : AreAccepted core.points = subst AreAccepted c.points.ensures.points c.len-count.ensures.accepted in
    let stamp : c.stamp_of-stamp.result ≡ last core.journal c.args.v =
    c.stamp_of-stamp.ensures ∙ ap (λ (l : List ℕ). slice_index_or l c.args.v 0) c.deref.ensures.value ∙ at.stamps.is c.args.v c.requires.vertex in
    looked core D c.args.desk.now c.args.v c.in_ok-star.star c.stamp_of-stamp.result at
    (sight core c.args.v c.star.result.now c.in_ok-star.star c.stamp_of-stamp.result accepted c.points.ensures.core c.requires.vertex c.star.ensures.star
    c.in_ok-star.ensures.list c.in_ok-star.ensures.place c.in_ok-star.ensures.order stamp))
