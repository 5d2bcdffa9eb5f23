use Rattle.std.proofs.Common.{refl, sym, ◌∙◌, subst, inl, inr, List, Option, ◌≡◌, true, ℕ}
use Rattle.edit.specs.declared.look.Look.{Look}
use Rattle.plan_defs.specs.Plans.{has_look}
use Rattle.planner.specs.Region.{held, sights, IsRegion}
use Rattle.planner.specs.Steps.{AreFilled}
use Rattle.planner.proofs.Slotted.{full_is, room_is, new_is, pushed, added_is}
use Rattle.planner.proofs.region.Region.add.Goals as goal

pub returns-then-is_full-clause-refused : goal.returns-then-is_full-clause-refused
returns-then-is_full-clause-refused c = (refl, inl (full_is c.self.inside.looks.items c.args.self.now c.self.view_is c.self.invariant.0 (sym c.is_full.ensures.value ∙ c.if-is_full.true)))

pub returns-then-has-clause-refused : goal.returns-then-has-clause-refused
returns-then-has-clause-refused c = (refl, inr (subst (λ (n : ℕ). has_look (sights c.args.self.now) n ≡ true) c.centre.ensures.centre (c.has.ensures.0 c.if-has.true)))

pub invariant_of-self : goal.invariant_of-self
invariant_of-self c =
    subst (λ (xs : List (Option Look)). AreFilled xs × IsRegion (held xs)) (sym c.push.ensures.items)
    (pushed c.self.inside.looks.items c.args.look c.self.invariant.0 c.self.invariant.1 (room_is c.self.inside.looks.items c.is_full.ensures.fits (sym c.is_full.ensures.value ∙ c.if-is_full.false))
    (new_is c.self.inside.looks.items c.args.self.now c.centre.result c.args.look.star.centre c.has.result c.self.view_is c.centre.ensures.centre c.has.ensures c.if-has.false))

pub returns-clause-added : goal.returns-clause-added
returns-clause-added c = added_is c.self.inside.looks.items c.push.new.self.items c.args.self.now c.args.look c.self.view_is c.push.ensures.items

pub returns-clause-region : goal.returns-clause-region
returns-clause-region c = (invariant_of-self c).1
