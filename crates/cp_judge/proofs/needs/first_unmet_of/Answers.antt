use Rattle.cp_judge.proofs.Gathered.{others_of_ends, met_by_ends, not_inner_at}
use Rattle.cp_judge.proofs.Marks.{unmet_inner}
use Rattle.cp_judge.proofs.needs.first_unmet_of.Goals as goal

pub unmet_among-requires-clause-others : goal.unmet_among-requires-clause-others
unmet_among-requires-clause-others c =
    others_of_ends c.args.points.now c.args.list.now c.args.p c.as_slice.result.now c.requires.within (rw c.as_slice.ensures.value (c.gather_ends.ensures.gathered c.if-gather_ends.true))

pub returns-in_err-q : goal.returns-in_err-q
returns-in_err-q c =
    let met = met_by_ends c.args.points.now c.args.list.now c.args.p c.as_slice.result.now c.requires.within (rw c.as_slice.ensures.value (c.gather_ends.ensures.gathered c.if-gather_ends.true)) c.in_err-q.ensures in
    rw c.from_residual.ensures (λ _. met)

pub returns-then-is_border : goal.returns-then-is_border
returns-then-is_border c = λ inner.
    let other = c.in_ok-q.ensures in
    absurd (not_inner_at c.args.points.now c.args.p c.in_ok-q.q c.of.result.lo c.of.result.hi other.0 other.1 c.of.ensures.lo c.of.ensures.hi (c.is_border.ensures.0 c.if-is_border.true) inner)

pub returns-then-is_inner : goal.returns-then-is_inner
returns-then-is_inner c = unmet_inner c.args.points.now c.args.list.now c.args.p c.first_unmet_at.result (c.is_inner.ensures.0 c.if-is_inner.true) c.first_unmet_at.ensures
