use Rattle.std.proofs.Common.{◌≡◌, ◌≤◌, ◌+◌, ◌-◌, set, sym, subst, arith}
use Rattle.given_sums.specs.Sums.{entry, place}
use Rattle.given_sums.proofs.Added.{column_none, column_more, column_all, before_none}
use Rattle.given_sums.proofs.adding.add_before.Goals as goal

pub loop-a-init : goal.loop-a-init
loop-a-init c = column_none c.args.points.now c.args.row c.args.p c.args.first c.args.width _ c.args.sums.now

pub add_at-requires-clause-place : goal.add_at-requires-clause-place
add_at-requires-clause-place c = omega (arith, c.place_of.ensures.within, c.loop-a.invariant.count, c.requires.room.count)

pub add_at-requires-clause-small : goal.add_at-requires-clause-small
add_at-requires-clause-small c =
    let l : entry c.loop-a.sums (place c.args.width c.loop-a.a (c.args.p - c.args.first)) ≡ entry c.args.sums.now (place c.args.width c.loop-a.a (c.args.p - c.args.first)) = c.loop-a.invariant.left c.loop-a.a (omega arith) in
    let r = c.requires.room.each c.loop-a.a (c.args.p - c.args.first) (omega (arith, c.min-a-end.ensures)) (omega (arith, c.min-a-end.ensures)) (omega arith) in
    subst (λ k. entry c.loop-a.sums k ≤ 300000000000000000) (sym c.place_of.ensures.place) (omega (arith, l, r))

pub loop-a-preserved : goal.loop-a-preserved
loop-a-preserved c =
    let e : c.place_of.result ≡ place c.args.width c.loop-a.a (c.args.p - c.args.first) = c.place_of.ensures.place in
    column_more c.args.points.now c.args.row c.args.p c.args.first c.args.width (c.args.p - c.args.first) c.loop-a.a c.given_to-more.result c.args.sums.now c.loop-a.sums c.add_at.new.sums (omega arith)
    (omega (arith, e, c.place_of.ensures.within, c.loop-a.invariant.count, c.requires.room.count))
    c.given_to-more.ensures.given
    (subst (λ k. c.add_at.new.sums ≡ set c.loop-a.sums k (entry c.loop-a.sums k + c.given_to-more.result)) e c.add_at.ensures)
    c.loop-a.invariant

pub returns-then-p-first : goal.returns-then-p-first
returns-then-p-first c = before_none c.args.points.now c.args.row c.args.p c.args.first c.args.width c.args.sums.now (omega arith)

pub returns : goal.returns
returns c =
    column_all c.args.points.now c.args.row c.args.p c.args.first c.args.width (c.args.p - c.args.first) c.loop-a.a c.args.sums.now c.loop-a.sums (omega arith)
    (λ a l b. omega (arith, c.loop-a-test.false, c.min-a-end.ensures)) c.loop-a.invariant
