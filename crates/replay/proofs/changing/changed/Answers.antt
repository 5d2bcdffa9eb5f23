use Rattle.std.proofs.Common.{List, sym, ◌∙◌, subst}
use Rattle.star.specs.Stars.{Seen}
use Rattle.subdivision.specs.Layout.{AreOf}
use Rattle.journal_defs.specs.Edits.{after, touches}
use Rattle.replay.specs.Followed.{HaveFollowed, IsReady}
use Rattle.replay.specs.Machine.{layers}
use Rattle.replay.proofs.Changed.{ready_for, legal_apart, followed_of, changed_becomes}
use Rattle.replay.proofs.Written.{written_back}
use Rattle.replay.proofs.changing.changed.Goals as goal

pub follow_all-requires-clause-ready : goal.follow_all-requires-clause-ready
follow_all-requires-clause-ready c =
    λ v is. subst (λ (xs : List Seen). IsReady c.args.points.now c.args.edit.now xs v) (sym (c.deref_mut.ensures.value ∙ c.into_stars-stars.ensures.stars))
    (ready_for c.args.points.now c.args.all c.args.edit.now c.requires.sound c.requires.legal c.requires.within c.requires.room v is)

pub follow_all-requires-clause-apart : goal.follow_all-requires-clause-apart
follow_all-requires-clause-apart c = legal_apart c.args.points.now (layers c.args.all) c.args.edit.now c.requires.legal

pub from_stars-requires : goal.from_stars-requires
from_stars-requires c = (
  (after c.args.edit.now (layers c.args.all)).all,
  (after c.args.edit.now (layers c.args.all)).kept,
  subst (λ (xs : List Seen). AreOf c.args.points.now (after c.args.edit.now (layers c.args.all)).all (after c.args.edit.now (layers c.args.all)).kept xs)
      (sym (written_back c.follow_all.new.stars _ _ (c.follow_all.ensures.len ∙ c.deref_mut.ensures.len)))
      (followed_of c.args.points.now c.args.all c.args.edit.now c.follow_all.new.stars c.requires.sound c.requires.legal
      (subst (λ (xs : List Seen). HaveFollowed c.args.points.now c.args.edit.now (touches c.args.edit.now) xs c.follow_all.new.stars) (c.deref_mut.ensures.value ∙ c.into_stars-stars.ensures.stars) c.follow_all.ensures)),
)

pub returns : goal.returns
returns c =
    let back = written_back c.follow_all.new.stars _ _ (c.follow_all.ensures.len ∙ c.deref_mut.ensures.len) in
    changed_becomes c.args.points.now c.args.all c.from_stars.result c.args.edit.now c.follow_all.new.stars c.requires.sound c.requires.legal
    (subst (λ (xs : List Seen). HaveFollowed c.args.points.now c.args.edit.now (touches c.args.edit.now) xs c.follow_all.new.stars) (c.deref_mut.ensures.value ∙ c.into_stars-stars.ensures.stars) c.follow_all.ensures)
    c.from_stars.ensures.points (c.from_stars.ensures.stars ∙ back) c.from_stars.ensures.subdivision
    (λ T K so. c.from_stars.ensures.same T K (subst (λ (xs : List Seen). AreOf c.args.points.now T K xs) (sym back) so))
