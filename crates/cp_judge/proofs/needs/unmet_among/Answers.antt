use Rattle.std.proofs.Common.{◌≤◌, length, arith, rules, ℕ, get_or}
use Rattle.std.proofs.lemmas.List.Elements.{All-from_get_or}
use borrow.Author.Count.{below_more}
use Rattle.cp_judge.specs.Ends.{IsMetAmong}
use Rattle.cp_judge.proofs.Around.{none_met, met_around}
use Rattle.cp_judge.proofs.needs.unmet_among.Goals as goal

pub returns-then-p-eq0 : goal.returns-then-p-eq0
returns-then-p-eq0 c = let few : 3 ≤ length c.args.points.now = c.len-count.ensures.accepted.count.0 in (omega arith, λ e. omega arith, none_met c.args.points.now c.args.ends.now c.args.p 1 (search rules))

pub returns-else-p-eq0 : goal.returns-else-p-eq0
returns-else-p-eq0 c = (omega arith, λ e. omega arith, none_met c.args.points.now c.args.ends.now c.args.p 0 (search rules))

pub returns-then-not-is_met_among : goal.returns-then-not-is_met_among
returns-then-not-is_met_among c = let other = c.requires.others c.loop-q.q-index 0 c.loop-q-test.true in (other.0, other.1, search rules)

pub loop-q-preserved : goal.loop-q-preserved
loop-q-preserved c = below_more (λ (k : ℕ). IsMetAmong c.args.points.now c.args.ends.now c.args.p (get_or c.args.ends.now k 0)) c.loop-q.q-index c.loop-q.invariant (c.is_met_among.ensures.0 c.if-not-is_met_among.false)

pub returns : goal.returns
returns c =
    met_around c.args.points.now c.args.ends.now c.args.p c.len-count.ensures.accepted.apart c.requires.p_in c.requires.others (search rules)
    (All-from_get_or (IsMetAmong c.args.points.now c.args.ends.now c.args.p) c.args.ends.now 0 (λ k l. c.loop-q.invariant k (omega arith)))
