use Rattle.std.proofs.Common.{◌≡◌, ◌≤◌, ◌+◌, ◌-◌, set, sym, subst, arith}
use Rattle.given_sums.specs.Sums.{entry, place, IsLine}
use Rattle.given_sums.proofs.Added.{line_none, line_more, line_all, after_none, place_in}
use Rattle.given_sums.proofs.adding.add_after.Goals as goal

pub loop-b-init : goal.loop-b-init
loop-b-init c = line_none c.args.points.now c.args.row c.args.p c.args.first c.args.width _ c.args.sums.now

pub add_at-requires-clause-place : goal.add_at-requires-clause-place
add_at-requires-clause-place c = omega (arith, c.place_of.ensures.within, c.loop-b.invariant.count, c.requires.room.count)

pub add_at-requires-clause-small : goal.add_at-requires-clause-small
add_at-requires-clause-small c =
    let l : entry c.loop-b.sums (place c.args.width (c.args.p - c.args.first) c.loop-b.b) ≡ entry c.args.sums.now (place c.args.width (c.args.p - c.args.first) c.loop-b.b) = c.loop-b.invariant.left c.loop-b.b (omega arith) c.loop-b-test.true in
    let r = c.requires.room.each (c.args.p - c.args.first) c.loop-b.b (omega arith) (omega (arith, c.loop-b.auto.b)) c.loop-b-test.true in
    subst (λ k. entry c.loop-b.sums k ≤ 300000000000000000) (sym c.place_of.ensures.place) (omega (arith, l, r))

pub loop-b-preserved : goal.loop-b-preserved
loop-b-preserved c =
    let e : c.place_of.result ≡ place c.args.width (c.args.p - c.args.first) c.loop-b.b = c.place_of.ensures.place in
    line_more c.args.points.now c.args.row c.args.p c.args.first c.args.width (c.args.p - c.args.first) c.loop-b.b c.given_to-more.result c.args.sums.now c.loop-b.sums c.add_at.new.sums c.loop-b-test.true
    (omega (arith, place_in c.args.width (c.args.p - c.args.first) c.loop-b.b (omega arith) c.loop-b-test.true, c.loop-b.invariant.count, c.requires.room.count))
    c.given_to-more.ensures.given
    (subst (λ k. c.add_at.new.sums ≡ set c.loop-b.sums k (entry c.loop-b.sums k + c.given_to-more.result)) e c.add_at.ensures)
    c.loop-b.invariant

pub returns-then-p-first : goal.returns-then-p-first
returns-then-p-first c = after_none c.args.points.now c.args.row c.args.p c.args.first c.args.width c.args.sums.now (λ a l e. absurd (omega arith))

pub returns : goal.returns
returns c =
    let e : c.loop-b.b ≡ c.args.width = omega (arith, c.loop-b-test.false, c.loop-b.auto.b-end) in
    line_all c.args.points.now c.args.row c.args.p c.args.first c.args.width (c.args.p - c.args.first) c.args.sums.now c.loop-b.sums (omega arith)
    (subst (λ n. IsLine c.args.points.now c.args.row c.args.p c.args.first c.args.width (c.args.p - c.args.first) n c.args.sums.now c.loop-b.sums) e c.loop-b.invariant)
