use Rattle.std.proofs.Common.{◌≡◌, ◌≢◌, ◌<◌, ◌∙◌, ℕ, Bool, List, length, arith, ap, subst, sym}
use Rattle.plane.specs.declared.coordinates.Point.{Point}
use Rattle.star.specs.Turn.{IsInDirection}
use Rattle.star.specs.Stars.{Seen, IsFree, entry}
use Rattle.star.specs.Links.{IsSeat}
use Rattle.star.proofs.Moved.{inserted_at_seat}
use Rattle.star.proofs.star.Star.insert.Goals as goal

pub invariant_of-self : goal.invariant_of-self
invariant_of-self c =
    let S = c.self.inside.points.value in
    let v = c.self.inside.centre in
    let list = c.self.inside.list.items in
    let here : c.args.points.now ≡ S = c.requires.points ∙ sym (ap (λ (s : Seen). s.points) c.self.view_is) in
    let within : c.args.q < length S = subst (λ (P : List Point). c.args.q < length P) here c.requires.within in
    let apart : c.args.q ≢ v = subst (λ (s : Seen). c.args.q ≢ s.centre) (sym c.self.view_is) c.requires.apart in
    let free : (m : ℕ) → m < length list → ¬ IsInDirection S v (entry list m).0 c.args.q = subst (λ (s : Seen). IsFree s c.args.q) (sym c.self.view_is) c.requires.free in
    let some : 0 < c.self.inside.spare = subst (λ (s : Seen). 0 < s.spare) (sym c.self.view_is) c.requires.room in
    let seat : IsSeat S v list c.args.q c.seat-k.result = subst (λ (P : List Point). IsSeat P v list c.args.q c.seat-k.result) here (subst (λ (xs : List (ℕ × Bool)). IsSeat c.args.points.now v xs c.args.q c.seat-k.result) c.deref.ensures.value c.seat-k.ensures) in
    record {
      right = inserted_at_seat S v list _ c.self.inside.links.items _ c.self.inside.misses c.seat-k.result c.args.q c.self.invariant.right within apart free seat c.put_neighbour.ensures.list c.put_link.ensures.list;
      room = omega (arith, some, c.self.invariant.room, c.put_neighbour.ensures.len, c.put_neighbour.ensures.capacity);
      links_room = omega (arith, some, c.self.invariant.links_room, c.put_link.ensures.len, c.put_link.ensures.capacity);
    }

pub returns-clause-order : goal.returns-clause-order
returns-clause-order c = (invariant_of-self c).right.order
