use Rattle.std.proofs.Common.{refl, sym, ◌∙◌}
use Rattle.std.proofs.lemmas.Bool.{false≢true}
use Rattle.planner.proofs.Looks.{none_looked}
use Rattle.planner.proofs.Slotted.{within_of, ready_of, step_done}
use Rattle.planner.proofs.region.Region.step_at.Goals as goal

pub step_in-requires-clause-within : goal.step_in-requires-clause-within
step_in-requires-clause-within c = within_of c.self.inside.looks.items c.deref_mut.result.now c.args.self.now c.args.v c.in-Some.k c.deref_mut.ensures.value c.self.view_is c.self.invariant.0 c.in-Some.ensures

pub step_in-requires-clause-ready : goal.step_in-requires-clause-ready
step_in-requires-clause-ready c =
    ready_of c.args.points.now c.args.edit.now c.self.inside.looks.items c.deref_mut.result.now c.args.self.now c.args.v c.in-Some.k c.deref_mut.ensures.value c.self.view_is c.self.invariant.0 c.requires.held c.requires.ready c.in-Some.ensures

pub invariant_of-self : goal.invariant_of-self
invariant_of-self c =
    (step_done c.args.points.now c.args.edit.now c.self.inside.looks.items c.deref_mut.result.now c.step_in.new.slots c.args.self.now c.args.v c.in-Some.k _ c.deref_mut.ensures.value c.self.view_is c.self.invariant.0 c.self.invariant.1 c.requires.held c.in-Some.ensures
    c.step_in.ensures refl).0

pub unreachable-requires : goal.unreachable-requires
unreachable-requires c = false≢true (sym (none_looked c.args.self.now c.args.v c.in-None.ensures) ∙ c.requires.ready.looked)

pub returns : goal.returns
returns c =
    (step_done c.args.points.now c.args.edit.now c.self.inside.looks.items c.deref_mut.result.now c.step_in.new.slots c.args.self.now c.args.v c.in-Some.k _ c.deref_mut.ensures.value c.self.view_is c.self.invariant.0 c.self.invariant.1 c.requires.held c.in-Some.ensures
    c.step_in.ensures refl).1
