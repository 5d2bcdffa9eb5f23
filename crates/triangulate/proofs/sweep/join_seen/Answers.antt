use Rattle.std.proofs.Common.{◌<◌, length, subst, subst₂, sym}
use Rattle.triangulate.specs.Swept.{turn, IsJoining}
use Rattle.triangulate.proofs.Joined.{seen_apart, step_joining, shorter}
use Rattle.triangulate.proofs.Added.{chain_in, new_in}
use Rattle.triangulate.proofs.sweep.join_seen.Goals as goal

pub next_seen-requires-clause-chain_in : goal.next_seen-requires-clause-chain_in
next_seen-requires-clause-chain_in c =
    let j = c.requires.joining in
    chain_in c.args.points.now c.args.part c.loop-a.pairs.items c.loop-a.chain c.args.z j.0 (c.loop-a.invariant j.0 j.1)

pub next_seen-requires-clause-z_in : goal.next_seen-requires-clause-z_in
next_seen-requires-clause-z_in c =
    let j = c.requires.joining in
    new_in c.args.points.now c.args.part c.loop-a.pairs.items c.loop-a.chain c.args.z j.0 (c.loop-a.invariant j.0 j.1)

pub of-requires : goal.of-requires
of-requires c =
    let j = c.requires.joining in
    seen_apart c.args.points.now c.args.part c.loop-a.pairs.items c.loop-a.chain c.args.z c.in-Some.a j.0 (c.loop-a.invariant j.0 j.1) c.in-Some.ensures

pub loop-a-preserved : goal.loop-a-preserved
loop-a-preserved c = λ g h.
    subst₂ (λ T xs. IsJoining c.args.points.now c.args.part T xs c.args.z g) (sym c.in_ok-push.ensures.items) (sym c.shorten.ensures)
    (step_joining c.args.points.now c.args.part c.loop-a.pairs.items c.loop-a.chain c.args.z c.in-Some.a g c.of.result c.of.ensures.lo c.of.ensures.hi
    c.in-Some.ensures (c.loop-a.invariant g h))

pub loop-a-smaller : goal.loop-a-smaller
loop-a-smaller c = subst (λ xs. length xs < length c.loop-a.chain) (sym c.shorten.ensures) (shorter (turn c.args.part c.args.points.now) c.loop-a.chain c.args.z c.in-Some.a c.in-Some.ensures)
