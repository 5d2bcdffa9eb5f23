use Rattle.std.proofs.Common.{◌≡◌, List, length, get_or, Option, Some, sym, ◌∙◌, ap, subst, arith}
use Rattle.edit.specs.declared.look.Look.{Look}
use Rattle.planner.proofs.Looks.{held_length, slot_some, slot_look}
use Rattle.planner.proofs.region.Region.look.Goals as goal

pub bounds-as_slice-k : goal.bounds-as_slice-k
bounds-as_slice-k c =
    let e : length c.self.inside.looks.items ≡ length c.args.self.now = sym (held_length c.self.inside.looks.items c.self.invariant.0) ∙ ap (length {A = Look}) c.self.view_is in
    let f : length c.as_slice.result.now ≡ length c.self.inside.looks.items = ap (length {A = Option Look}) c.as_slice.ensures.value in
    omega (arith, e, f, c.requires)

pub unreachable-requires : goal.unreachable-requires
unreachable-requires c =
    let e : length c.self.inside.looks.items ≡ length c.args.self.now = sym (held_length c.self.inside.looks.items c.self.invariant.0) ∙ ap (length {A = Look}) c.self.view_is in
    slot_some c.self.inside.looks.items c.args.k c.index-as_slice-k.result c.self.invariant.0 (omega (arith, e, c.requires))
    (c.index-as_slice-k.is ∙ ap (λ (xs : List (Option Look)). get_or xs c.args.k c.index-as_slice-k.result) c.as_slice.ensures.value) c.in-None.is

pub returns : goal.returns
returns c = λ d.
    (let e : length c.self.inside.looks.items ≡ length c.args.self.now = sym (held_length c.self.inside.looks.items c.self.invariant.0) ∙ ap (length {A = Look}) c.self.view_is in
    let at : Some c.in-Some.look ≡ get_or c.self.inside.looks.items c.args.k (Some c.in-Some.look) =
    subst (λ (o : Option Look). o ≡ get_or c.self.inside.looks.items c.args.k o) c.in-Some.is
    (c.index-as_slice-k.is ∙ ap (λ (xs : List (Option Look)). get_or xs c.args.k c.index-as_slice-k.result) c.as_slice.ensures.value) in
    slot_look c.self.inside.looks.items c.args.k c.in-Some.look d c.self.invariant.0 (omega (arith, e, c.requires)) at
    ∙ ap (λ (R : List Look). get_or R c.args.k d) c.self.view_is)
