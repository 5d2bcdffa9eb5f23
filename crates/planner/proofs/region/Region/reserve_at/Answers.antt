use Rattle.std.proofs.Common.{refl, sym, ◌∙◌}
use Rattle.std.specs.Prelude.{is_ok}
use Rattle.std.proofs.lemmas.Bool.{false≢true}
use Rattle.planner.proofs.Looks.{none_looked}
use Rattle.planner.proofs.Slotted.{within_of, some_of, room_done}
use Rattle.planner.proofs.region.Region.reserve_at.Goals as goal

pub reserve_in-requires-clause-within : goal.reserve_in-requires-clause-within
reserve_in-requires-clause-within c = within_of c.self.inside.looks.items c.deref_mut.result.now c.args.self.now c.args.v c.in-Some.k c.deref_mut.ensures.value c.self.view_is c.self.invariant.0 c.in-Some.ensures

pub reserve_in-requires-clause-some : goal.reserve_in-requires-clause-some
reserve_in-requires-clause-some c =
    some_of c.self.inside.looks.items c.deref_mut.result.now c.args.self.now c.args.v c.in-Some.k c.deref_mut.ensures.value c.self.view_is c.self.invariant.0 c.in-Some.ensures c.requires

pub invariant_of-self : goal.invariant_of-self
invariant_of-self c =
    (room_done c.self.inside.looks.items c.deref_mut.result.now c.reserve_in.new.slots c.args.self.now c.args.v c.in-Some.k _ (is_ok c.reserve_in.result) c.deref_mut.ensures.value c.self.view_is c.self.invariant.0 c.self.invariant.1 c.in-Some.ensures
    c.reserve_in.ensures refl).0

pub unreachable-requires : goal.unreachable-requires
unreachable-requires c = false≢true (sym (none_looked c.args.self.now c.args.v c.in-None.ensures) ∙ c.requires)

pub returns : goal.returns
returns c =
    (room_done c.self.inside.looks.items c.deref_mut.result.now c.reserve_in.new.slots c.args.self.now c.args.v c.in-Some.k _ (is_ok c.reserve_in.result) c.deref_mut.ensures.value c.self.view_is c.self.invariant.0 c.self.invariant.1 c.in-Some.ensures
    c.reserve_in.ensures refl).1
