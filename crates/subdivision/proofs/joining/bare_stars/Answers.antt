use Rattle.std.proofs.Common.{ap, length, arith}
use Rattle.std.proofs.lemmas.List.{length_push}
use Rattle.subdivision.proofs.Growing.{bare_more}
use Rattle.subdivision.proofs.joining.bare_stars.Goals as goal

pub loop-v-preserved : goal.loop-v-preserved
loop-v-preserved c = (
  omega (arith, ap length c.in_ok-push.ensures.items, length_push c.loop-v.stars.items c.bare_star.result, c.loop-v.invariant.0),
  bare_more c.args.points.now c.loop-v.stars.items c.push.new.self.items c.loop-v.v c.bare_star.result c.loop-v.invariant.0 c.loop-v.invariant.1 c.bare_star.ensures c.in_ok-push.ensures.items,
)
