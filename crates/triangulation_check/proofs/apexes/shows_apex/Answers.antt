use Rattle.triangulation_check.proofs.Shown.{run_within, shown}
use Rattle.triangulation_check.proofs.apexes.shows_apex.Goals as goal

pub next_left-requires-clause-within : goal.next_left-requires-clause-within
next_left-requires-clause-within c = run_within c.args.points.now c.args.list.now c.args.ends.now c.run_of-run.result.now c.args.p c.requires.partition.within c.requires.ends c.run_of-run.ensures

pub has_none_amid-requires-clause-within : goal.has_none_amid-requires-clause-within
has_none_amid-requires-clause-within c = run_within c.args.points.now c.args.list.now c.args.ends.now c.run_of-run.result.now c.args.p c.requires.partition.within c.requires.ends c.run_of-run.ensures

pub returns-then-has_none_amid : goal.returns-then-has_none_amid
returns-then-has_none_amid c = λ h.
    shown c.args.points.now c.args.list.now c.args.ends.now c.run_of-run.result.now c.run_of.result.now c.args.p c.args.q c.in-Some.r c.len-count.ensures.accepted c.requires.partition c.requires.ends c.run_of-run.ensures c.run_of.ensures
    c.requires.p_in c.requires.q_in c.requires.joined c.in-Some.ensures (c.has_none_amid.ensures c.if-has_none_amid.true) (c.leads_to.ensures h)
