use Rattle.std.proofs.Common.{◌+◌, ◌-◌, ◌/◌, ◌<◌, length, arith, sym, ◌∙◌}
use Rattle.std.proofs.lemmas.Bool.{false≢true}
use Rattle.star.proofs.Halving.{passed_more, ahead_more}
use Rattle.star.proofs.seek.seat.Goals as goal

pub loop-low-preserved-then-is_before : goal.loop-low-preserved-then-is_before
loop-low-preserved-then-is_before c =
    let mid = c.loop-low.low + (c.loop-low.high - c.loop-low.low) / 2 in
    let below : mid < length c.args.list.now = omega arith in
    record {
      order = omega arith;
      within = c.loop-low.invariant.within;
      passed = λ j h. passed_more c.args.points.now c.args.centre c.args.list.now c.args.q mid j c.requires.order below (c.is_before.ensures.0 c.if-is_before.true) h;
      ahead = c.loop-low.invariant.ahead;
    }

pub loop-low-preserved : goal.loop-low-preserved
loop-low-preserved c =
    let mid = c.loop-low.low + (c.loop-low.high - c.loop-low.low) / 2 in
    let below : mid < length c.args.list.now = omega arith in
    record {
      order = omega arith;
      within = omega arith;
      passed = c.loop-low.invariant.passed;
      ahead = λ j h hj. ahead_more c.args.points.now c.args.centre c.args.list.now c.args.q mid j c.requires.order below (λ b. false≢true (sym c.if-is_before.false ∙ c.is_before.ensures.1 b)) h hj;
    }
