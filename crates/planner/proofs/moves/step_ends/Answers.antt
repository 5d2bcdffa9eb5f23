use Rattle.journal_defs.proofs.laws.Members.{is_end_hi}
use Rattle.planner.proofs.Stepping.{ends_stepped, upper_ready}
use Rattle.planner.proofs.moves.step_ends.Goals as goal

pub step_at-requires-2-clause-ready : goal.step_at-requires-2-clause-ready
step_at-requires-2-clause-ready c =
    upper_ready _ _ c.args.e c.lo.result c.hi.result _ _ c.lo.ensures c.hi.ensures c.step_at.ensures (c.requires.ready c.args.e.hi (is_end_hi c.args.e))

pub returns : goal.returns
returns c = ends_stepped _ _ c.args.e c.lo.result c.hi.result _ _ _ c.lo.ensures c.hi.ensures c.step_at.ensures c.step_at-2.ensures
