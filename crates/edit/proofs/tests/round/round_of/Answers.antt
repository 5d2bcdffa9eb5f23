use Rattle.std.proofs.Common.{ap, length, arith}
use Rattle.std.proofs.lemmas.List.{length_push}
use Rattle.edit.proofs.TestStars.{more_round}
use Rattle.edit.proofs.tests.round.round_of.Goals as goal

pub loop-v-preserved : goal.loop-v-preserved
loop-v-preserved c = (
  omega (arith, ap length c.in_ok-push.ensures.items, length_push c.loop-v.stars.items c.in_ok-star_of.field-0, c.loop-v.invariant.0),
  more_round c.args.points.now c.loop-v.stars.items c.push.new.self.items c.loop-v.v c.in_ok-star_of.field-0 c.loop-v.invariant.0 c.loop-v.invariant.1 c.in_ok-star_of.ensures c.in_ok-push.ensures.items,
)
