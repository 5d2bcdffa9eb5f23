use Rattle.std.proofs.Common.{◌≡◌, ◌+◌, suc, List, [], ◌∷◌, ◌++◌, length, length-append, append_assoc, arith, sym, ap, ◌∙◌}
use Rattle.std.specs.Vec.Iter.{into_iter_items}
use Rattle.vertex_claims.specs.Holding.{HolderSeen}
use Rattle.seats.specs.declared.cells.Root.{Root}
use Rattle.seats.specs.Seats.{SeatSeen}
use Rattle.board.specs.declared.own.Own.{Own}
use Rattle.board.proofs.Together.{together_more}
use Rattle.board.proofs.owning.take_apart.Goals as goal

pub loop-pass-preserved : goal.loop-pass-preserved
loop-pass-preserved c =
    let i = c.loop-pass.invariant in
    let done = i.0.0 in
    let p = c.in-Some.pass in
    let next = into_iter_items c.next.new.self in
    let h = c.of-holder.result.0 in
    let o = c.of-holder.result.1 in
    let holders = c.in-Ok.ensures.items in
    let owns = c.in-Ok-pushed.ensures.items in
    let rest : length (into_iter_items c.loop-pass.passes) ≡ suc (length next) = ap (λ (l : List SeatSeen). length l) c.in-Some.ensures.items in
    let held : length c.push-pushed.new.self.items ≡ length c.loop-pass.holders.items + 1 = ap (λ (l : List (HolderSeen Root)). length l) holders ∙ length-append c.loop-pass.holders.items (h ∷ []) in
    let owned : length c.push-pushed-in-Some.new.self.items ≡ length c.loop-pass.owns.items + 1 = ap (λ (l : List Own). length l) owns ∙ length-append c.loop-pass.owns.items (o ∷ []) in (
      (
        done ++ p ∷ [],
        i.0.1 ∙ (ap (λ (l : List SeatSeen). done ++ l) c.in-Some.ensures.items ∙ sym (append_assoc done (p ∷ []) next)),
        together_more c.loop-pass.holders.items c.push-pushed.new.self.items c.loop-pass.owns.items c.push-pushed-in-Some.new.self.items done h o p i.0.2 holders owns c.of-holder.ensures.together c.of-holder.ensures.pass,
      ),
      omega (arith, rest, held, i.1, c.in-Ok.ensures.capacity),
      omega (arith, rest, owned, i.2, c.in-Ok-pushed.ensures.capacity),
    )
