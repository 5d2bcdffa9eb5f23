use Rattle.std.proofs.Common.{rules, sym, length, arith}
use Rattle.std.specs.Prelude.{slice_index}
use Rattle.std.proofs.lemmas.List.Elements.{Contains-get_or}
use Rattle.directions.proofs.Cleared.{grown_by}
use Rattle.directions.proofs.Tables.{number_in}
use Rattle.directions.proofs.clear.mark_at.Goals as goal

pub is_upper-requires-clause-q_in : goal.is_upper-requires-clause-q_in
is_upper-requires-clause-q_in c = (c.requires.fan.part.within _ (Contains-get_or c.args.list.now c.args.i 0 c.requires.i_in)).0

pub set_pair-requires-clause-within : goal.set_pair-requires-clause-within
set_pair-requires-clause-within c =
    let q = (c.requires.fan.part.within _ (Contains-get_or c.args.list.now c.args.i 0 c.requires.i_in)).0 in
    omega (arith, c.of.ensures.hi, c.len-count.ensures.accepted.count.1, c.requires.p_in, q)

pub set_pair-requires-clause-room : goal.set_pair-requires-clause-room
set_pair-requires-clause-room c =
    let q = (c.requires.fan.part.within _ (Contains-get_or c.args.list.now c.args.i 0 c.requires.i_in)).0 in
    c.requires.room _ (number_in c.of.result.lo c.of.result.hi (length c.args.points.now) c.of.result.ordered (omega (arith, c.of.ensures.hi, c.requires.p_in, q)))

pub returns-clause-grown : goal.returns-clause-grown
returns-clause-grown c =
    grown_by c.args.points.now c.args.p (slice_index c.args.list.now c.args.i) c.of.result.lo c.of.result.hi c.args.table.now.items c.set_pair.new.table.items c.set_pair.ensures.length c.of.ensures.lo c.of.ensures.hi
    (λ e. (c.requires.fan.part.within _ (Contains-get_or c.args.list.now c.args.i 0 c.requires.i_in)).1 (sym e)) (c.is_nearest.ensures.0 (search rules)) c.set_pair.ensures.adds c.requires.room c.requires.alone
