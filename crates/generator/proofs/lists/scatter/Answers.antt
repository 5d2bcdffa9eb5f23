use Rattle.std.proofs.Common.{◌+◌, arith, ap, ◌∙◌, refl}
use Rattle.plane.specs.Geometry.{point}
use Rattle.generator.specs.Kinds.{scatter_point}
use Rattle.generator.proofs.Accepting.{accepted, scatter_sound}
use Rattle.generator.proofs.Positions.{at_begin, two_words, corner_points, strip, one_more}
use Rattle.generator.proofs.lists.scatter.Goals as goal

pub loop-j-init : goal.loop-j-init
loop-j-init c = record {
  count = omega (arith, c.in_ok-list.ensures.count);
  words = c.new-words.ensures ∙ at_begin c.args.seed;
  each = λ k h. corner_points c.args.n c.args.seed k c.in_ok-list.list.items c.in_ok-list.ensures.corners h;
}

pub loop-j-preserved : goal.loop-j-preserved
loop-j-preserved c =
    let drawn = two_words c.args.seed c.loop-j.j c.next_word-across.result c.next_word-upward.result c.loop-j.words c.next_word-across.new.self c.next_word-upward.new.self c.loop-j.invariant.words c.next_word-across.ensures c.next_word-upward.ensures in
    record {
      count = omega (arith, c.in_ok-push.ensures.len, c.loop-j.invariant.count);
      words = drawn.2;
      each = λ k h. ap (λ s. point s k) c.in_ok-push.ensures.items
          ∙ one_more (scatter_point c.args.n c.args.seed) c.loop-j.list.items c.strip_point.result (c.loop-j.j + 3) (omega (arith, c.loop-j.invariant.count, c.loop-j.list.ok)) c.loop-j.invariant.each
          (strip c.args.n c.args.seed c.loop-j.j (c.loop-j.j + 3) c.strip_point.result c.next_word-across.result c.next_word-upward.result refl drawn.0 drawn.1 c.strip_point.ensures) k (omega (arith, h));
    }

pub returns-clause-accepted : goal.returns-clause-accepted
returns-clause-accepted c = accepted c.args.n (scatter_point c.args.n c.args.seed) c.loop-j.list.items c.requires.least c.requires.most (omega (arith, c.loop-j.list.ok, c.loop-j.invariant.count)) (λ k h. c.loop-j.invariant.each k (omega arith)) (scatter_sound c.args.n c.args.seed c.requires.least c.requires.most)
