use Rattle.std.proofs.Common.{rules, ◌<◌, Some, None, ◌∷◌, sym, ap, refl, ◌∙◌, subst}
use Rattle.atomic_table.specs.Table.{rest}
use Rattle.index_sets.specs.Indices.{contains}
use Rattle.index_sets.proofs.Laws.{contains-snoc}
use Rattle.vertex_claims.specs.Holding.{ClaimsSeen, HolderSeen}
use Rattle.vertex_claims.specs.Kept.{won, at_rest}
use Rattle.vertex_claims.specs.Resting.{IsResting}
use Rattle.vertex_claims.proofs.Moves.{tries_as, lays_as}
use Rattle.vertex_claims.proofs.Rests.{rests_won, is_holder}
use Rattle.vertex_claims.proofs.holding.Claims.take.Goals as goal

pub compare_exchange-found-requires : goal.compare_exchange-found-requires
compare_exchange-found-requires g c =
    let h = c.by.inside in
    let same = ap (λ (z : HolderSeen g.row.C-Root.Denot). z.of) c.by.view_is ∙ (c.requires.of ∙ sym c.self.view_is) in
    let near = subst (λ n. c.args.place < n) (sym (ap (λ (z : ClaimsSeen g.row.C-Root.Denot). z.places) c.self.view_is)) c.requires.place in (
      ap (λ (z : ClaimsSeen g.row.C-Root.Denot). z.table) same,
      near,
      tries_as g.C.Held.fits c.self.inside.table.shared.key _ _ _ _ h.seat.me c.by.invariant.numbers (subst (λ n. c.args.place < n) (sym c.self.invariant.0) near)
          (ap (λ (z : HolderSeen g.row.C-Root.Denot). contains z.places c.args.place) c.by.view_is ∙ c.requires.free) c.by.invariant.idle,
    )

pub exchange-requires : goal.exchange-requires
exchange-requires g c =
    let same = ap (λ (z : HolderSeen g.row.C-Root.Denot). z.of) c.by.view_is ∙ (c.requires.of ∙ sym c.self.view_is) in
    let w = c.compare_exchange-found.ensures.2.0 (search rules) in
    let out = ap (λ m. m.1) w.after in
    (c.compare_exchange-found.ensures.0 ∙ ap (λ (z : ClaimsSeen g.row.C-Root.Denot). z.table) same, (_, out ∙ ap (λ cs. (c.args.place, Some w.cell) ∷ rest cs) (sym out)))

pub load-requires : goal.load-requires
load-requires g c =
    let same = ap (λ (z : HolderSeen g.row.C-Root.Denot). z.of) c.by.view_is ∙ (c.requires.of ∙ sym c.self.view_is) in
    let near = subst (λ n. c.args.place < n) (sym (ap (λ (z : ClaimsSeen g.row.C-Root.Denot). z.places) c.self.view_is)) c.requires.place in
    let w = c.compare_exchange-found.ensures.2.0 (search rules) in
    let now = c.exchange.ensures.3 in
    let out = ap (λ m. rest m.1) w.after ∙ c.by.invariant.hands in
    let view = ap (λ m. m.0) w.after in (
      c.exchange.ensures.0 ∙ (c.compare_exchange-found.ensures.0 ∙ ap (λ (z : ClaimsSeen g.row.C-Root.Denot). z.table) same),
      near,
      lays_as g.C.Held.fits c.self.inside.table.shared.key _ _ _ _ (won c.by.inside.seat.me.0 c.args.place) (now ∙ (λ i. (view i, (c.args.place, None) ∷ out i))) (contains-snoc c.by.inside.seat.me.0.places c.args.place) refl,
    )

pub invariant_of-by-2 : goal.invariant_of-by-2
invariant_of-by-2 g c =
    let same = ap (λ (z : HolderSeen g.row.C-Root.Denot). z.of) c.by.view_is ∙ c.requires.of in
    let w = c.compare_exchange-found.ensures.2.0 (search rules) in
    let out = ap (λ m. rest m.1) w.after ∙ c.by.invariant.hands in
    let view = ap (λ m. m.0) w.after in
    let bare = c.exchange.ensures.3 ∙ (λ i. (view i, (c.args.place, None) ∷ out i)) in
    let near = subst (λ n. c.args.place < n) (sym (ap (λ (z : ClaimsSeen g.row.C-Root.Denot). z.places) same)) c.requires.place in
    let free = ap (λ (z : HolderSeen g.row.C-Root.Denot). contains z.places c.args.place) c.by.view_is ∙ c.requires.free in
    let id = c.load.ensures.0 ∙ (c.exchange.ensures.0 ∙ c.compare_exchange-found.ensures.0) in
    subst (λ z. IsResting z c.by.inside.root.value c.by.inside.number c.load.new.seat.me) (sym id)
    (rests_won c.by.inside.seat.table_id c.by.inside.root.value c.by.inside.number c.by.inside.seat.me c.load.new.seat.me c.args.place c.by.invariant free near (c.load.ensures.2 ∙ (λ i. (at_rest (bare i).0, rest (bare i).1))))

pub returns-clause-valid : goal.returns-clause-valid
returns-clause-valid g c = is_holder c.load.new.seat.table_id c.by.inside.root.value c.by.inside.number c.load.new.seat.me (invariant_of-by-2 g c)
