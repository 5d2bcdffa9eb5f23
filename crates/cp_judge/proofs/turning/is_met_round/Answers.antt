use Rattle.std.proofs.Common.{◌<◌, length, arith, rules, ℕ, get_or, below_more}
use Rattle.std.proofs.lemmas.List.Elements.{All-from_get_or, Contains-get_or}
use Rattle.cp_judge.specs.Ends.{IsMetAmong}
use Rattle.cp_judge.proofs.Around.{met_around}
use Rattle.cp_judge.proofs.turning.is_met_round.Goals as goal
use Rattle.cp_judge.proofs.turning.is_met_round.Goals.{then-k-run, else-k-run}

pub loop-k-preserved : goal.loop-k-preserved
loop-k-preserved c =
    let within : c.if-k-run.next < length c.args.run.now = elim c.if-k-run.branch [ then-k-run w ↦ omega (arith, w.next-is) | else-k-run w ↦ omega (arith, w.next-is) ] in
    below_more (λ (k : ℕ). IsMetAmong c.args.points.now c.args.run.now c.args.p (get_or c.args.run.now k 0)) c.loop-k.k c.loop-k.invariant
    (get_or c.args.run.now c.if-k-run.next 0, Contains-get_or c.args.run.now c.if-k-run.next 0 within, c.in_need.ensures.0 (search rules))

pub returns : goal.returns
returns c = λ t.
    met_around c.args.points.now c.args.run.now c.args.p c.len-count.ensures.accepted.apart c.requires.p_in c.requires.others (search rules)
    (All-from_get_or (IsMetAmong c.args.points.now c.args.run.now c.args.p) c.args.run.now 0 (λ k l. c.loop-k.invariant k (omega arith)))
