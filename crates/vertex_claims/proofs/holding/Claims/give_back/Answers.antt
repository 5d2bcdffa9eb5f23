use Rattle.std.proofs.Common.{sym, ap, ◌∙◌, subst}
use Rattle.index_sets.specs.Indices.{all_but, HasNoRepeat}
use Rattle.index_sets.proofs.Laws.{all_but-snoc}
use Rattle.vertex_claims.specs.Holding.{HolderSeen}
use Rattle.vertex_claims.specs.Resting.{IsResting}
use Rattle.vertex_claims.proofs.Rests.{rests_given, is_holder}
use Rattle.vertex_claims.proofs.holding.Claims.give_back.Goals as goal

pub invariant_of-by : goal.invariant_of-by
invariant_of-by g c =
    subst (λ z. IsResting z c.by.inside.root.value c.by.inside.number c.lay_back.new.seat.me) (sym c.lay_back.ensures.table)
    (rests_given c.by.inside.seat.table_id c.by.inside.root.value c.by.inside.number c.by.inside.seat.me c.lay_back.new.seat.me c.args.place c.by.invariant c.lay_back.ensures.given)

pub returns-clause-latest : goal.returns-clause-latest
returns-clause-latest g c others is =
    let was = ap (λ (z : HolderSeen g.row.C-Root.Denot). z.places) c.by.view_is ∙ is in
    ap (λ m. m.0.places) c.lay_back.ensures.given ∙ (ap (λ l. all_but l c.args.place) was ∙ all_but-snoc others c.args.place (subst HasNoRepeat was c.by.invariant.once))

pub returns-clause-valid : goal.returns-clause-valid
returns-clause-valid g c = is_holder c.lay_back.new.seat.table_id c.by.inside.root.value c.by.inside.number c.lay_back.new.seat.me (invariant_of-by g c)
