use Rattle.std.proofs.Common.{arith, List, [], ◌∷◌, ◌++◌, length, length-append, ap, ◌∙◌, subst}
use Rattle.index_sets.specs.Indices.{contains}
use Rattle.std.specs.Prelude.{slice_get}
use Rattle.vertex_claims.specs.Kept.{given}
use Rattle.vertex_claims.specs.Resting.{IsLaying}
use Rattle.vertex_claims.proofs.Lists.{slice_get-longer, slice_get-last}
use Rattle.vertex_claims.proofs.Rests.{laying_holds, laying_next}
use Rattle.vertex_claims.proofs.making.lay_all.Goals as goal

pub lay_back-requires-clause-holds : goal.lay_back-requires-clause-holds
lay_back-requires-clause-holds g c =
    let i = c.loop-cell.invariant in
    let xs = c.pop.new.self.items in
    let count = ap (λ (l : List g.row.C.Denot). length l) c.in-Some.ensures.items ∙ length-append xs (c.in-Some.cell ∷ []) in
    ap (contains c.loop-cell.seat.me.0.places) (c.len-place.ensures ∙ c.pop.new.self.ok.0) ∙ laying_holds g.C.Held.fits c.args.top.now.key c.loop-cell.seat.me (length xs) (subst (λ n. IsLaying c.args.top.now.key n c.loop-cell.seat.me) count i.1)

pub lay_back-requires-clause-fits : goal.lay_back-requires-clause-fits
lay_back-requires-clause-fits g c =
    let i = c.loop-cell.invariant in
    let xs = c.pop.new.self.items in
    i.2 c.len-place.result c.in-Some.cell (ap (λ (l : List g.row.C.Denot). slice_get l c.len-place.result) c.in-Some.ensures.items ∙ (ap (slice_get (xs ++ c.in-Some.cell ∷ [])) (c.len-place.ensures ∙ c.pop.new.self.ok.0) ∙ slice_get-last xs c.in-Some.cell))

pub loop-cell-preserved : goal.loop-cell-preserved
loop-cell-preserved g c =
    let i = c.loop-cell.invariant in
    let xs = c.pop.new.self.items in
    let count = ap (λ (l : List g.row.C.Denot). length l) c.in-Some.ensures.items ∙ length-append xs (c.in-Some.cell ∷ []) in
    let most = i.3 in (
      c.lay_back.ensures.table ∙ i.0,
      laying_next g.C.Held.fits c.args.top.now.key c.loop-cell.seat.me c.lay_back.new.seat.me (length xs) (subst (λ n. IsLaying c.args.top.now.key n c.loop-cell.seat.me) count i.1)
          (c.lay_back.ensures.given ∙ ap (λ z. (given c.loop-cell.seat.me.0 z, [])) (c.len-place.ensures ∙ c.pop.new.self.ok.0)),
      (λ place cell at. i.2 place cell (ap (λ (l : List g.row.C.Denot). slice_get l place) c.in-Some.ensures.items ∙ slice_get-longer xs (c.in-Some.cell ∷ []) place cell at)),
      omega arith,
    )
