use Rattle.std.proofs.Common.{◌≡◌, ◌≤◌, ◌<◌, ◌+◌, ◌-◌, ◌*◌, ℕ, List, sym, ◌∙◌, ap, subst, arith}
use Rattle.std.specs.List.{sum_by}
use Rattle.price_defs.specs.declared.row.Row.{Row}
use Rattle.price_defs.specs.Loads.{IsValid, lost}
use Rattle.search_defs.specs.Priced.{AreRounds}
use Rattle.search_defs.specs.Words.{round_words}
use Rattle.search_defs.proofs.laws.Words.{at_begin, two_words}
use Rattle.bound_worker.proofs.Rounds.{round_keeps, rounds_more, rounds_end}
use Rattle.bound_worker.proofs.pricing.rounds_of.Goals as goal

pub loop-k-init : goal.loop-k-init
loop-k-init c = record {
  leads = λ out h. subst (λ (n : ℕ). AreRounds c.args.points.now c.args.costs.now c.args.q c.args.inner.now (round_words c.args.stream c.args.seed 0 n) c.in_ok-present.present.rows.items out) (let e : c.args.rounds - 0 ≡ c.args.rounds = omega arith in e) h;
  words = c.new-words.ensures ∙ at_begin c.args.stream c.args.seed;
  valid = subst (IsValid c.args.points.now c.args.costs.now c.args.q) (sym c.in_ok-present.ensures.rows) c.requires.valid;
  ends = c.in_ok-present.ensures.ends;
  takers = omega (arith, ap (sum_by lost) c.in_ok-present.ensures.rows, c.requires.takers);
}

pub loop-k-preserved : goal.loop-k-preserved
loop-k-preserved c =
    let drawn = two_words c.args.stream c.args.seed c.loop-k.k c.next_word-a.result c.next_word-b.result c.loop-k.words c.next_word-a.new.self c.next_word-b.new.self c.loop-k.invariant.words c.next_word-a.ensures c.next_word-b.ensures in
    let keeps = round_keeps c.args.points.now c.args.costs.now c.args.q c.args.inner.now c.next_word-a.result c.next_word-b.result c.loop-k.present.rows.items c.in_ok-present-2.present.rows.items c.len-count.ensures.accepted.count.0 c.requires.inner c.requires.some c.in_ok-present-2.ensures.round c.loop-k.invariant.valid in
    record {
      leads = λ out h. c.loop-k.invariant.leads out (rounds_more c.args.points.now c.args.costs.now c.args.q c.args.inner.now c.args.stream c.args.seed c.loop-k.k c.args.rounds c.next_word-a.result c.next_word-b.result c.loop-k.present.rows.items c.in_ok-present-2.present.rows.items out
          (let l : c.loop-k.k < c.args.rounds = omega arith in l) drawn.0 drawn.1 c.in_ok-present-2.ensures.round h);
      words = drawn.2;
      valid = keeps.0;
      ends = c.in_ok-present-2.ensures.ends;
      takers = omega (arith, keeps.1, c.loop-k.invariant.takers);
    }

pub returns-clause-rounds : goal.returns-clause-rounds
returns-clause-rounds c =
    subst (λ (x : List Row). AreRounds c.args.points.now c.args.costs.now c.args.q c.args.inner.now (round_words c.args.stream c.args.seed 0 c.args.rounds) x c.loop-k.present.rows.items) c.in_ok-present.ensures.rows
    (c.loop-k.invariant.leads c.loop-k.present.rows.items (rounds_end c.args.points.now c.args.costs.now c.args.q c.args.inner.now c.args.stream c.args.seed c.loop-k.k c.args.rounds c.loop-k.present.rows.items (let l : c.args.rounds ≤ c.loop-k.k = omega arith in l)))
