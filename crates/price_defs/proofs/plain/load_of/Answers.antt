use Rattle.std.proofs.Common.{arith}
use Rattle.std.proofs.lemmas.Int.{ints}
use Rattle.price_defs.proofs.laws.Values.{gives_le, takes_le}
use Rattle.price_defs.proofs.plain.load_of.Goals as goal

pub overflow_cast-result : goal.overflow_cast-result
overflow_cast-result c =
    let g = gives_le c.args.points.now c.args.rows.now c.args.i c.args.j c.requires.light c.requires.few in omega (arith, ints, g, c.gives_of.ensures)

pub overflow_cast-result-2 : goal.overflow_cast-result-2
overflow_cast-result-2 c =
    let g = takes_le c.args.rows.now c.args.i c.args.j c.requires.light c.requires.few in omega (arith, ints, g, c.takes_of.ensures)

pub overflow_sub-result : goal.overflow_sub-result
overflow_sub-result c =
    let g = gives_le c.args.points.now c.args.rows.now c.args.i c.args.j c.requires.light c.requires.few in
    let t = takes_le c.args.rows.now c.args.i c.args.j c.requires.light c.requires.few in omega (arith, ints, g, t, c.gives_of.ensures, c.takes_of.ensures)

pub returns : goal.returns
returns c =
    let g = gives_le c.args.points.now c.args.rows.now c.args.i c.args.j c.requires.light c.requires.few in
    let t = takes_le c.args.rows.now c.args.i c.args.j c.requires.light c.requires.few in omega (arith, ints, g, t, c.gives_of.ensures, c.takes_of.ensures)
