use Rattle.std.proofs.Common.{subst, sym, length, ◌<◌}
use Rattle.star.specs.StarOf.{IsStarOf}
use Rattle.replay.specs.Replayed.{Replayed, IsCore, state_of}
use Rattle.replay.proofs.Cores.{core_of, machine_layout, star_now}
use Rattle.replay.proofs.Edited.{star_there}
use Rattle.replay.proofs.machine.Core.star.Goals as goal

pub star_in-requires : goal.star_in-requires
star_in-requires c =
    star_there _ _ _ (machine_layout _ _ _ _ _ c.len-count.ensures.accepted c.self.invariant) (subst (λ (x : Replayed). c.args.v < length x.points) (sym c.self.view_is) c.requires)

pub returns-clause-star : goal.returns-clause-star
returns-clause-star c =
    subst (λ (x : Replayed). IsStarOf x.points (state_of x).all (state_of x).kept c.args.v c.star_in.result.now) c.self.view_is
    (star_now _ _ _ _ _ _ _ c.len-count.ensures.accepted c.self.invariant (subst (λ (x : Replayed). c.args.v < length x.points) (sym c.self.view_is) c.requires) c.star_in.ensures)

pub returns-clause-core : goal.returns-clause-core
returns-clause-core c = subst IsCore c.self.view_is (core_of _ _ _ _ _ _ c.len-count.ensures.accepted c.self.invariant)
