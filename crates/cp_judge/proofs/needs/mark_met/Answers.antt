use Rattle.std.proofs.Common.{◌≡◌, ℕ, sym, length, subst, arith}
use Rattle.cp_judge.specs.Searching.{IsMetBefore, AddsMarks}
use Rattle.cp_judge.proofs.Marks.{met_before_more}
use Rattle.cp_judge.proofs.needs.mark_met.Goals as goal

pub mark_by-requires-clause-e_in : goal.mark_by-requires-clause-e_in
mark_by-requires-clause-e_in c = c.requires.within c.e-item.result (c.loop-e.e-index, c.loop-e-test.true, sym c.e-item.is)

pub loop-e-preserved : goal.loop-e-preserved
loop-e-preserved c =
    met_before_more c.args.points.now c.args.list.now c.loop-e.e-index c.e-item.result c.args.p (length c.args.points.now) c.args.marks.now c.loop-e.marks c.mark_by.new.marks
    (c.loop-e-test.true, sym c.e-item.is) c.loop-e.invariant c.mark_by.ensures

pub returns : goal.returns
returns c =
    let whole : c.loop-e.e-index ≡ length c.args.list.now = omega arith in
    let P : ℕ → Type 0 = λ i. AddsMarks (IsMetBefore c.args.points.now c.args.list.now i c.args.p) (length c.args.points.now) c.args.marks.now c.loop-e.marks in
    subst P whole c.loop-e.invariant
