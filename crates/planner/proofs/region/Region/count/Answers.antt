use Rattle.std.proofs.Common.{length, sym, ◌∙◌, ap}
use Rattle.edit.specs.declared.look.Look.{Look}
use Rattle.planner.proofs.Looks.{held_length}
use Rattle.planner.proofs.region.Region.count.Goals as goal

pub returns-clause-count : goal.returns-clause-count
returns-clause-count c = c.len.ensures.value ∙ sym (held_length c.self.inside.looks.items c.self.invariant.0) ∙ ap (length {A = Look}) c.self.view_is
