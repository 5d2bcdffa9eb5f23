use Rattle.std.proofs.Common.{rules, arith, ◌≡◌, ℕ, ◌+◌, ◌-◌, ◌≤◌, List, length, map, sym, ap, ◌∙◌, subst}
use Rattle.std.proofs.lemmas.List.{length-map}
use Rattle.index_sets.specs.Indices.{numbers_from}
use Rattle.index_sets.proofs.Laws.{map-numbers_from-next, length-numbers_from}
use Rattle.vertex_claims.specs.Holding.{HolderSeen, new_holder}
use Rattle.vertex_claims.specs.Resting.{IsResting, named, holder_of}
use Rattle.vertex_claims.proofs.Rests.{dealing_cuts, dealing_next, dealt_rests, dealt_holder, last_rests, last_holder}
use Rattle.vertex_claims.proofs.making.deal_numbers.Goals as goal

pub split_seat-own-requires : goal.split_seat-own-requires
split_seat-own-requires g c =
    let i = c.loop-number.invariant in
    let few = c.requires.key.0 in
    let lt = c.loop-number-test.true in
    (i.0, c.requires.table.1, dealing_cuts g.C.Held.fits c.args.top.now.key c.loop-number.number c.loop-number.seat.me i.1 _ (omega arith))

pub invariant_of-push : goal.invariant_of-push
invariant_of-push g c =
    let i = c.loop-number.invariant in
    let few = c.requires.key.0 in
    let lt = c.loop-number-test.true in
    dealt_rests g.C.Held.fits c.args.top.now.key c.loop-number.number c.loop-number.seat.me i.1 c.split_seat-own.result.table_id c.of.result.value c.split_seat-own.result.me (c.of.ensures ∙ sym c.requires.key.1) i.4 (omega arith) c.split_seat-own.ensures.4

pub unreachable-requires : goal.unreachable-requires
unreachable-requires g c =
    let i = c.loop-number.invariant in
    let f : ℕ → HolderSeen g.row.C-Root.Denot = new_holder (named c.args.top.now.table_id c.args.top.now.key) in
    let count : length c.loop-number.holders.items ≡ c.loop-number.number - 1 = ap (λ (l : List (HolderSeen g.row.C-Root.Denot)). length l) i.2 ∙ (length-map (numbers_from 1 (c.loop-number.number - 1)) f ∙ length-numbers_from 1 (c.loop-number.number - 1)) in
    let room = i.3 in
    let least = i.4 in
    let full = c.in_default.ensures.full in
    let lt = c.loop-number-test.true in
    search rules

pub loop-number-preserved : goal.loop-number-preserved
loop-number-preserved g c =
    let i = c.loop-number.invariant in
    let few = c.requires.key.0 in
    let lt = c.loop-number-test.true in
    let least = i.4 in
    let n : ℕ = c.loop-number.number in
    let f : ℕ → HolderSeen g.row.C-Root.Denot = new_holder (named c.args.top.now.table_id c.args.top.now.key) in
    let here : n ≡ 1 + (n - 1) = omega arith in
    let next : n - 1 + 1 ≡ n + 1 - 1 = omega arith in
    let id = c.split_seat-own.ensures.3 ∙ i.0 in
    let same = c.of.ensures ∙ sym c.requires.key.1 in
    let le : n ≤ c.args.top.now.key.callers = omega arith in
    let holder = (λ k. holder_of (id k) c.of.result.value n c.split_seat-own.result.me.0) ∙ dealt_holder g.C.Held.fits c.args.top.now.key n c.loop-number.seat.me i.1 c.args.top.now.table_id c.of.result.value c.split_seat-own.result.me same le c.split_seat-own.ensures.4 in
    let room = i.3 in
    let more = c.in-Ok.ensures.capacity in (
      c.split_seat-own.ensures.0 ∙ i.0,
      dealing_next g.C.Held.fits c.args.top.now.key n c.loop-number.seat.me i.1 c.split_seat-own.new.seat.me le c.split_seat-own.ensures.2,
      c.in-Ok.ensures.items ∙ (map-numbers_from-next f _ _ (n - 1) i.2 (holder ∙ ap f here) ∙ ap (λ z. map f (numbers_from 1 z)) next),
      search rules,
      omega arith,
    )

pub unreachable-requires-in_default-pushed : goal.unreachable-requires-in_default-pushed
unreachable-requires-in_default-pushed g c =
    let i = c.loop-number.invariant in
    let f : ℕ → HolderSeen g.row.C-Root.Denot = new_holder (named c.args.top.now.table_id c.args.top.now.key) in
    let count : length c.loop-number.holders.items ≡ c.loop-number.number - 1 = ap (λ (l : List (HolderSeen g.row.C-Root.Denot)). length l) i.2 ∙ (length-map (numbers_from 1 (c.loop-number.number - 1)) f ∙ length-numbers_from 1 (c.loop-number.number - 1)) in
    let room = i.3 in
    let least = i.4 in
    let full = c.in_default-pushed.ensures.full in
    let end = c.loop-number.auto.number-end in
    let some_caller = c.requires.callers in
    search rules

pub invariant_of-push-2 : goal.invariant_of-push-2
invariant_of-push-2 g c =
    let i = c.loop-number.invariant in
    let few = c.requires.key.0 in
    let end = c.loop-number.auto.number-end in
    let stop = c.loop-number-test.false in
    let some_caller = c.requires.callers in
    let all : c.loop-number.number ≡ c.args.callers = omega arith in
    let key : c.loop-number.number ≡ c.args.top.now.key.callers = all ∙ sym few in
    subst (λ z. IsResting c.loop-number.seat.table_id c.of-2.result.value z c.loop-number.seat.me) all
    (last_rests g.C.Held.fits c.args.top.now.key c.loop-number.number c.loop-number.seat.me i.1 c.loop-number.seat.table_id c.of-2.result.value (c.of-2.ensures ∙ sym c.requires.key.1) i.4 key)

pub returns : goal.returns
returns g c =
    let i = c.loop-number.invariant in
    let few = c.requires.key.0 in
    let end = c.loop-number.auto.number-end in
    let stop = c.loop-number-test.false in
    let least = i.4 in
    let some_caller = c.requires.callers in
    let n : ℕ = c.loop-number.number in
    let f : ℕ → HolderSeen g.row.C-Root.Denot = new_holder (named c.args.top.now.table_id c.args.top.now.key) in
    let all : n ≡ c.args.callers = omega arith in
    let here : n ≡ 1 + (n - 1) = omega arith in
    let next : n - 1 + 1 ≡ c.args.callers = omega arith in
    let holder = (λ k. holder_of (i.0 k) c.of-2.result.value (sym all k) c.loop-number.seat.me.0)
    ∙ last_holder g.C.Held.fits c.args.top.now.key n c.loop-number.seat.me i.1 c.args.top.now.table_id c.of-2.result.value (c.of-2.ensures ∙ sym c.requires.key.1) (all ∙ sym few) in
    c.in-Ok-pushed.ensures.items ∙ (map-numbers_from-next f _ _ (n - 1) i.2 (holder ∙ ap f here) ∙ ap (λ z. map f (numbers_from 1 z)) next)
