use Rattle.std.proofs.Common.{◌≡◌, ◌+◌, ◌++◌, ◌∷◌, [], ℕ, List, min, max, subst, subst₂, sym}
use Rattle.plane.specs.declared.coordinates.Point.{Point}
use Rattle.plane.specs.declared.segment.Pair.{Pair}
use Rattle.triangulate.specs.declared.sweep.Part.TheVariants.{Lower, Upper}
use Rattle.triangulate.specs.Swept.{Round, IsJoining, IsSwept, IsSweptNext}
use Rattle.triangulate.proofs.Added.{start_joining, turned_round, turned_joining, finish_joining, next_apart}
use Rattle.triangulate.proofs.sweep.Sweep.add.Goals as goal

-- the pairs with the first one of the new point
started : (S : List Point) (T T2 : List Pair) (l : List ℕ) (z : ℕ) (g : Round) (e : Pair) → T2 ≡ T ++ e ∷ [] → e.lo ≡ min g.last z → e.hi ≡ max g.last z → IsSweptNext S g.last z
    → IsSwept S T l g.others g.last g.count → IsJoining S Lower T2 l z g
started S T T2 l z g e is hl hh next m = subst (λ x. IsJoining S Lower x l z g) (sym is) (start_joining S T l z g e hl hh next m)

pub of-requires : goal.of-requires
of-requires c =
    next_apart c.args.points.now c.args.self.now.pairs.items c.args.self.now.lower c.args.self.now.upper c.args.z c.args.last c.requires.swept.0 c.requires.next c.requires.swept.1

pub join_seen-requires : goal.join_seen-requires
join_seen-requires c = record {
  joining =
      (let g : Round = record { others = c.args.self.now.upper; last = c.args.last; count = c.requires.swept.0 } in (
        g,
        started c.args.points.now c.args.self.now.pairs.items c.push.new.self.items c.args.self.now.lower c.args.z g c.of.result
            c.in_ok-push.ensures.items c.of.ensures.lo c.of.ensures.hi c.requires.next c.requires.swept.1,
      ));
}

pub join_seen-requires-2 : goal.join_seen-requires-2
join_seen-requires-2 c = record {
  joining =
      (let g : Round = record { others = c.args.self.now.upper; last = c.args.last; count = c.requires.swept.0 } in
      let m : IsJoining c.args.points.now Lower c.push.new.self.items c.args.self.now.lower c.args.z g =
      started c.args.points.now c.args.self.now.pairs.items c.push.new.self.items c.args.self.now.lower c.args.z g c.of.result
      c.in_ok-push.ensures.items c.of.ensures.lo c.of.ensures.hi c.requires.next c.requires.swept.1 in (
        turned_round c.join_seen.new.chain g,
        turned_joining c.args.points.now Lower c.join_seen.new.pairs.items c.join_seen.new.chain c.args.z g (c.in_ok-join_seen.ensures.joining g m),
      ));
}

pub returns : goal.returns
returns c = λ k h.
    let S : List Point = c.args.points.now in
    let z : ℕ = c.args.z in
    let g : Round = record { others = c.args.self.now.upper; last = c.args.last; count = k } in
    let m : IsJoining S Lower c.push.new.self.items c.args.self.now.lower z g =
    started S c.args.self.now.pairs.items c.push.new.self.items c.args.self.now.lower z g c.of.result
    c.in_ok-push.ensures.items c.of.ensures.lo c.of.ensures.hi c.requires.next h in
    let g1 : Round = turned_round c.join_seen.new.chain g in
    let m1 : IsJoining S Upper c.join_seen.new.pairs.items c.args.self.now.upper z g1 =
    turned_joining S Lower c.join_seen.new.pairs.items c.join_seen.new.chain z g (c.in_ok-join_seen.ensures.joining g m) in
    let g2 : Round = turned_round c.join_seen-2.new.chain g1 in
    let m2 : IsJoining S Lower c.join_seen-2.new.pairs.items c.join_seen.new.chain z g2 =
    turned_joining S Upper c.join_seen-2.new.pairs.items c.join_seen-2.new.chain z g1 (c.in_ok-join_seen-2.ensures.joining g1 m1) in
    subst₂ (λ x y. IsSwept S c.join_seen-2.new.pairs.items x y z (k + 1)) (sym c.in_ok-push-2.ensures) (sym c.in_ok-push-3.ensures)
    (finish_joining S c.join_seen-2.new.pairs.items c.join_seen.new.chain z g2 m2 c.in_ok-join_seen.ensures.settled c.in_ok-join_seen-2.ensures.settled)
