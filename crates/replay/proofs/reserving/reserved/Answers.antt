use Rattle.std.proofs.Common.{List, sym, ◌∙◌, subst}
use Rattle.star.specs.Stars.{Seen}
use Rattle.subdivision.specs.Layout.{AreOf}
use Rattle.replay.specs.declared.reserving.TheConstants.{ROOM}
use Rattle.replay.specs.Room.{HaveMoreRoom}
use Rattle.replay.proofs.Written.{written_back}
use Rattle.replay.proofs.Roomy.{roomy_of, roomy_same}
use Rattle.replay.proofs.reserving.reserved.Goals as goal

pub from_stars-requires : goal.from_stars-requires
from_stars-requires c = (
  c.args.all.all,
  c.args.all.kept,
  subst (λ (xs : List Seen). AreOf c.args.points.now c.args.all.all c.args.all.kept xs)
      (sym (written_back c.reserve_all-found.new.stars _ _ (c.reserve_all-found.ensures.same.len ∙ c.deref_mut.ensures.len)))
      (roomy_of c.args.points.now ROOM c.args.all c.reserve_all-found.new.stars c.requires.sound
      (subst (λ (xs : List Seen). HaveMoreRoom ROOM xs c.reserve_all-found.new.stars) (c.deref_mut.ensures.value ∙ c.into_stars-stars.ensures.stars) c.reserve_all-found.ensures.same)),
)

pub returns-clause-same : goal.returns-clause-same
returns-clause-same c =
    let back = written_back c.reserve_all-found.new.stars _ _ (c.reserve_all-found.ensures.same.len ∙ c.deref_mut.ensures.len) in
    roomy_same c.args.points.now ROOM c.args.all c.from_stars.result c.reserve_all-found.new.stars c.requires.sound
    (subst (λ (xs : List Seen). HaveMoreRoom ROOM xs c.reserve_all-found.new.stars) (c.deref_mut.ensures.value ∙ c.into_stars-stars.ensures.stars) c.reserve_all-found.ensures.same)
    c.from_stars.ensures.points c.from_stars.ensures.subdivision
    (λ T K so. c.from_stars.ensures.same T K (subst (λ (xs : List Seen). AreOf c.args.points.now T K xs) (sym back) so))
