use Rattle.std.proofs.Common.{arith, sym, ◌∙◌}
use Rattle.hands.proofs.Held.{found_at, found_none}
use Rattle.hands.proofs.fitting.InHandStars.star.Goals as goal

pub returns-then-centre-v-clause-star : goal.returns-then-centre-v-clause-star
returns-then-centre-v-clause-star c =
    sym (found_at c.args.self.now.hands.now c.args.v c.loop-k.k c.index-self-k.result (omega arith) (sym c.centre.ensures.centre ∙ c.if-centre-v.true) c.loop-k.invariant)

pub returns-clause-star : goal.returns-clause-star
returns-clause-star c = sym (found_none c.args.self.now.hands.now c.args.v (λ j f lt. c.loop-k.invariant j f (omega (arith, lt))))
