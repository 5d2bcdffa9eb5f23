use Rattle.std.proofs.Common.{◌≡◌, ◌<◌, length, pos, ◌∙◌, ap, arith}
use Rattle.std.proofs.lemmas.Int.{ints}
use Rattle.std.proofs.lemmas.List.{get_or_default}
use Rattle.price_defs.specs.Loads.{load}
use Rattle.dual_prices.specs.Kept.{Loaded}
use Rattle.dual_prices.specs.Tables.{tri, entry}
use Rattle.dual_prices.proofs.Tables.{slot_in}
use Rattle.dual_prices.proofs.loads.Loads.at.Goals as goal

pub index-requires : goal.index-requires
index-requires c =
    let n = ap (λ (z : Loaded). length z.points) c.self.view_is in
    omega (arith, c.slot_of.ensures, slot_in c.args.e.lo c.args.e.hi (length c.args.self.now.points) c.args.e.ordered c.requires, c.self.invariant.loads.count, n, ap tri n)

pub returns : goal.returns
returns c =
    let n : length c.self.inside.points.value ≡ length c.args.self.now.points = ap (λ (z : Loaded). length z.points) c.self.view_is in
    let l : c.slot_of.result < length c.self.inside.table.items =
    omega (arith, c.slot_of.ensures, slot_in c.args.e.lo c.args.e.hi (length c.args.self.now.points) c.args.e.ordered c.requires, c.self.invariant.loads.count, n, ap tri n) in
    let h : c.index.result.now ≡ load c.args.self.now.points c.args.self.now.certificate.rows c.args.e.lo c.args.e.hi =
    c.index.ensures ∙ get_or_default c.self.inside.table.items c.slot_of.result c.index.result.now (pos 0) l ∙ ap (entry c.self.inside.table.items) c.slot_of.ensures
    ∙ c.self.invariant.loads.each c.args.e.lo c.args.e.hi c.args.e.ordered (omega (arith, n, c.requires))
    ∙ ap (λ (z : Loaded). load z.points z.certificate.rows c.args.e.lo c.args.e.hi) c.self.view_is in
    omega (arith, ints, h)
