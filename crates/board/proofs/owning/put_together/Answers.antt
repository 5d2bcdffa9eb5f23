use Rattle.std.proofs.Common.{◌≡◌, ◌+◌, suc, List, [], ◌∷◌, length, length-append, arith, sym, ap, ◌∙◌}
use Rattle.std.specs.Vec.Iter.{into_iter_items}
use Rattle.vertex_claims.specs.Holding.{HolderSeen}
use Rattle.seats.specs.declared.cells.Root.{Root}
use Rattle.seats.specs.Seats.{SeatSeen}
use Rattle.board.proofs.Laid.{none_of}
use Rattle.board.proofs.Together.{puts_more, puts_all}
use Rattle.board.proofs.owning.put_together.Goals as goal

pub loop-holder-preserved : goal.loop-holder-preserved
loop-holder-preserved c =
    let here = c.in-Some.ensures.items in
    let done = c.in-Ok.ensures.items in
    let rest : length (into_iter_items c.loop-holder.holders) ≡ suc (length (into_iter_items c.next.new.self)) = ap (λ (l : List (HolderSeen Root)). length l) here in
    let more : length c.push-pushed.new.self.items ≡ length c.loop-holder.passes.items + 1 = ap (λ (l : List SeatSeen). length l) done ∙ length-append c.loop-holder.passes.items (c.with_holder.result ∷ []) in (
      puts_more c.args.holders.items c.args.owns.items (into_iter_items c.loop-holder.holders) (into_iter_items c.next.new.self) (into_iter_items c.loop-holder.owns) (into_iter_items c.next-next.new.self) c.loop-holder.passes.items
          c.push-pushed.new.self.items c.in-Some.holder c.in-Some-next.own c.with_holder.result c.loop-holder.invariant.0 here c.in-Some-next.ensures.items c.with_holder.ensures done,
      omega (arith, rest, more, c.loop-holder.invariant.1, c.in-Ok.ensures.capacity),
    )

pub returns : goal.returns
returns c = λ seats t.
    (puts_all c.args.holders.items c.args.owns.items (into_iter_items c.loop-holder.holders) (into_iter_items c.loop-holder.owns) c.loop-holder.passes.items c.loop-holder.invariant.0
    (none_of (into_iter_items c.loop-holder.holders) (sym c.loop-holder.holders.rest.ok.0 ∙ c.in_default.ensures.cases.0)) seats t).0
