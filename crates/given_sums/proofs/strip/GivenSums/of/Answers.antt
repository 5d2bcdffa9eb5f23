use Rattle.std.proofs.Common.{◌≡◌, ◌<◌, ◌+◌, ◌-◌, length, ◌∙◌, ap, ap₂, arith}
use Rattle.std.proofs.lemmas.List.{get_or_default}
use Rattle.price_defs.specs.Loads.{gives}
use Rattle.price_defs.proofs.laws.Values.{gives_le}
use Rattle.given_sums.specs.Sums.{Strip, entry, place}
use Rattle.given_sums.proofs.strip.GivenSums.of.Goals as goal

pub returns-clause-small : goal.returns-clause-small
returns-clause-small c =
    let f : c.self.inside.first ≡ c.args.self.now.first = ap (λ (z : Strip). z.first) c.self.view_is in
    let n : length c.self.inside.points.value ≡ length c.args.self.now.points = ap (λ (z : Strip). length z.points) c.self.view_is in
    let g : entry c.self.inside.sums.items (place c.self.inside.width (c.args.e.lo - c.self.inside.first) (c.args.e.hi - c.self.inside.first))
    ≡ gives c.self.inside.points.value c.self.inside.rows.value (c.self.inside.first + (c.args.e.lo - c.self.inside.first)) (c.self.inside.first + (c.args.e.hi - c.self.inside.first)) =
    c.self.invariant.all.each (c.args.e.lo - c.self.inside.first) (c.args.e.hi - c.self.inside.first) (omega (arith, f, c.requires.from, c.requires.within)) (omega (arith, f, c.requires.from, c.args.e.ordered))
    (omega (arith, f, n, c.requires.end, c.self.invariant.all.reach, c.requires.from, c.args.e.ordered)) in
    let s = gives_le c.self.inside.points.value c.self.inside.rows.value (c.self.inside.first + (c.args.e.lo - c.self.inside.first)) (c.self.inside.first + (c.args.e.hi - c.self.inside.first)) c.self.invariant.light c.self.invariant.few in
    let k : c.place_of.result ≡ place c.self.inside.width (c.args.e.lo - c.self.inside.first) (c.args.e.hi - c.self.inside.first) =
    c.place_of.ensures.place ∙ ap₂ (λ x y. place c.self.inside.width (x - c.self.inside.first) (y - c.self.inside.first)) c.lo.ensures c.hi.ensures in
    let l : c.place_of.result < length c.self.inside.sums.items = omega (arith, c.place_of.ensures.within, c.self.invariant.all.count) in
    let h : c.index.result.now ≡ entry c.self.inside.sums.items (place c.self.inside.width (c.args.e.lo - c.self.inside.first) (c.args.e.hi - c.self.inside.first)) =
    c.index.ensures ∙ get_or_default c.self.inside.sums.items c.place_of.result c.index.result.now 0 l ∙ ap (entry c.self.inside.sums.items) k in
    omega (arith, h, g, s)
