use Rattle.std.proofs.Common.{ℕ, sym, subst}
use Rattle.journal_defs.proofs.laws.Members.{is_end_lo, is_end_hi}
use Rattle.replay.specs.Followed.{IsReady}
use Rattle.replay.proofs.Followed.{ends_followed, upper_ready}
use Rattle.replay.proofs.changing.follow_ends.Goals as goal

pub follow_at-requires : goal.follow_at-requires
follow_at-requires c =
    let R : ℕ → Type 0 = λ x. IsReady c.args.points.now c.args.edit.now c.args.stars.now x in
    subst R (sym c.lo.ensures) (c.requires c.args.e.lo (is_end_lo c.args.e))

pub follow_at-requires-2 : goal.follow_at-requires-2
follow_at-requires-2 c =
    upper_ready _ _ c.args.e c.lo.result c.hi.result _ _ c.lo.ensures c.hi.ensures c.follow_at.ensures (c.requires c.args.e.hi (is_end_hi c.args.e))

pub returns : goal.returns
returns c = ends_followed _ _ c.args.e c.lo.result c.hi.result _ _ _ c.lo.ensures c.hi.ensures c.follow_at.ensures c.follow_at-2.ensures
