use Rattle.std.proofs.Common.{Some, ◌∷◌, ap, refl, ◌∙◌}
use Rattle.atomic_table.specs.Table.{rest}
use Rattle.vertex_claims.proofs.Moves.{lifts_as, backs_as}
use Rattle.vertex_claims.proofs.taking.lay_back.Goals as goal

pub load-requires : goal.load-requires
load-requires g c = (
  c.requires.table.0,
  c.requires.table.1,
  lifts_as g.C.Held.fits c.args.top.now.key _ _ _ c.args.seat.now.me c.requires.rests.0 c.requires.holds c.requires.rests.1,
)

pub store-requires : goal.store-requires
store-requires g c =
    let v = c.args.seat.now.me.0 in
    let up = c.load.ensures.2 in
    let now = c.exchange-old.ensures.3 in
    let view = ap (λ m. m.0) up in
    let out = ap (λ m. rest m.1) up ∙ c.requires.rests.0 in (
      c.exchange-old.ensures.0 ∙ (c.load.ensures.0 ∙ c.requires.table.0),
      c.requires.table.1,
      backs_as g.C.Held.fits c.args.top.now.key _ _ _ _ (record v { busy = Some c.args.place }) c.args.cell (now ∙ (λ i. (view i, (c.args.place, Some c.args.cell) ∷ out i))) c.requires.holds refl c.requires.fits,
    )
