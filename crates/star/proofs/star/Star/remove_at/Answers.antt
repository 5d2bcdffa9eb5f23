use Rattle.std.proofs.Common.{◌≡◌, ◌<◌, false, length, arith, subst, sym}
use Rattle.star.specs.Stars.{Seen, entry}
use Rattle.star.proofs.Moved.{remove_done}
use Rattle.star.proofs.star.Star.remove_at.Goals as goal

pub invariant_of-self : goal.invariant_of-self
invariant_of-self c =
    let list = c.self.inside.list.items in
    let placed : c.args.k < length list = subst (λ (s : Seen). c.args.k < length s.list) (sym c.self.view_is) c.requires.place in
    let unmarked : (entry list c.args.k).1 ≡ false = subst (λ (s : Seen). (entry s.list c.args.k).1 ≡ false) (sym c.self.view_is) c.requires.spare in
    record {
      right = remove_done c.self.inside.points.value c.self.inside.centre list _ c.self.inside.links.items _ c.self.inside.misses c.args.k c.self.invariant.right placed unmarked c.remove-gone.ensures.items c.remove-unlinked.ensures.items;
      room = omega (arith, c.self.invariant.room, c.remove-gone.ensures.len, c.remove-gone.ensures.capacity);
      links_room = omega (arith, c.self.invariant.links_room, c.remove-unlinked.ensures.len, c.remove-unlinked.ensures.capacity);
    }

pub returns-clause-order : goal.returns-clause-order
returns-clause-order c = (invariant_of-self c).right.order
