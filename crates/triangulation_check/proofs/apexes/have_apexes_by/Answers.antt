use Rattle.std.proofs.Common.{◌≡◌, true, sym, arith, rules}
use Rattle.partition_defs.proofs.laws.Joined.{join_back}
use Rattle.triangulation_check.specs.Apexes.{HasApexWhereLeft}
use Rattle.triangulation_check.proofs.Shown.{apexes_of_all, own_join, one_more, both_apexes}
use Rattle.triangulation_check.proofs.apexes.have_apexes_by.Goals as goal

pub has_apexes_at-requires-clause-joined : goal.has_apexes_at-requires-clause-joined
has_apexes_at-requires-clause-joined c =
    own_join c.args.list.now c.e-item.result c.lo.result c.hi.result (c.loop-e.e-index, c.loop-e-test.true, sym c.e-item.is) c.lo.ensures c.hi.ensures

pub has_apexes_at-requires-clause-p_in : goal.has_apexes_at-requires-clause-p_in
has_apexes_at-requires-clause-p_in c =
    let h = c.requires.partition.within c.e-item.result (c.loop-e.e-index, c.loop-e-test.true, sym c.e-item.is) in omega (arith, h, c.lo.ensures, c.e-item.result.ordered)

pub has_apexes_at-requires-clause-q_in : goal.has_apexes_at-requires-clause-q_in
has_apexes_at-requires-clause-q_in c =
    let h = c.requires.partition.within c.e-item.result (c.loop-e.e-index, c.loop-e-test.true, sym c.e-item.is) in omega (arith, h, c.hi.ensures)

pub returns-then-not-has_apexes_at : goal.returns-then-not-has_apexes_at
returns-then-not-has_apexes_at c = (
  λ h. absurd (cc),
  λ all.
      let join = own_join c.args.list.now c.e-item.result c.lo.result c.hi.result (c.loop-e.e-index, c.loop-e-test.true, sym c.e-item.is) c.lo.ensures c.hi.ensures in
      let shown : c.has_apexes_at.result ≡ true = c.has_apexes_at.ensures.1 (all c.lo.result c.hi.result join, all c.hi.result c.lo.result (join_back c.args.list.now c.lo.result c.hi.result join)) in
      absurd (cc),
)

pub loop-e-preserved : goal.loop-e-preserved
loop-e-preserved c =
    one_more (λ e. HasApexWhereLeft c.args.points.now c.args.list.now e.lo e.hi × HasApexWhereLeft c.args.points.now c.args.list.now e.hi e.lo)
    c.args.list.now c.loop-e.e-index c.e-item.result c.loop-e-test.true c.e-item.is
    (both_apexes c.args.points.now c.args.list.now c.e-item.result c.lo.result c.hi.result c.lo.ensures c.hi.ensures (c.has_apexes_at.ensures.0 (search rules)))
    c.loop-e.invariant

pub returns : goal.returns
returns c = (λ _. apexes_of_all c.args.points.now c.args.list.now (λ k e l at. c.loop-e.invariant k e (omega (arith, l)) at), search rules)
