use Rattle.std.proofs.Common.{rules, arith, ◌≡◌, ℕ, List, length, ap, ◌∙◌}
use Rattle.std.proofs.lemmas.List.{length-map}
use Rattle.index_sets.specs.Indices.{numbers_from}
use Rattle.index_sets.proofs.Laws.{map-numbers_from-next, length-numbers_from}
use Rattle.chronicle.specs.History.{ShareSeen, caller_share}
use Rattle.chronicle.specs.Settled.{named, share_of}
use Rattle.chronicle.proofs.Dealt.{dealing_cuts, dealing_next, dealt_share, dealt_settled, dealt_whole, dealt_whole_settled}
use Rattle.chronicle.proofs.calls.deal_callers.Goals as goal

pub split_seat-own-requires : goal.split_seat-own-requires
split_seat-own-requires g c =
    let i = c.loop-given.invariant in
    let one = c.requires.table.0 in
    let few = c.requires.callers in
    let lt = c.loop-given-test.true in
    (i.0, (omega arith), dealing_cuts g.T.Entry.caller g.T.Entry.touches c.args.top.now.key _ c.loop-given.given c.loop-given.seat.me i.1 _ (omega arith))

pub invariant_of-push : goal.invariant_of-push
invariant_of-push g c =
    let i = c.loop-given.invariant in
    let few = c.requires.callers in
    let lt = c.loop-given-test.true in
    dealt_settled g.T.Entry.caller g.T.Entry.touches c.args.top.now.key _ c.loop-given.given c.loop-given.seat.me i.1 c.split_seat-own.result.me (omega arith) c.split_seat-own.ensures.4

pub unreachable-requires : goal.unreachable-requires
unreachable-requires g c =
    let i = c.loop-given.invariant in
    let f : ℕ → ShareSeen g.row.T.Denot = caller_share g.T.Entry.caller (named c.args.top.now.table_id c.args.top.now.key c.args.seat.me.0.first) in
    let count : length c.loop-given.shares.items ≡ c.loop-given.given = ap (λ (l : List (ShareSeen g.row.T.Denot)). length l) i.2 ∙ (length-map (numbers_from 1 c.loop-given.given) f ∙ length-numbers_from 1 c.loop-given.given) in
    let room = i.3 in
    let full = c.in_default.ensures.full in
    let lt = c.loop-given-test.true in
    search rules

pub loop-given-preserved : goal.loop-given-preserved
loop-given-preserved g c =
    let i = c.loop-given.invariant in
    let few = c.requires.callers in
    let lt = c.loop-given-test.true in
    let id = c.split_seat-own.ensures.3 ∙ i.0 in
    let own = c.split_seat-own.result.me in
    let room = i.3 in
    let more = c.in-Ok.ensures.capacity in (
      c.split_seat-own.ensures.0 ∙ i.0,
      dealing_next g.T.Entry.caller g.T.Entry.touches c.args.top.now.key _ c.loop-given.given c.loop-given.seat.me i.1 c.split_seat-own.new.seat.me (omega arith) c.split_seat-own.ensures.2,
      c.in-Ok.ensures.items ∙ map-numbers_from-next (caller_share g.T.Entry.caller (named c.args.top.now.table_id c.args.top.now.key c.args.seat.me.0.first)) _ _ c.loop-given.given i.2
          ((λ k. share_of g.T.Entry.caller (id k) own.0) ∙ dealt_share g.T.Entry.caller g.T.Entry.touches c.args.top.now.key _ c.loop-given.given c.loop-given.seat.me i.1 c.args.top.now.table_id own (omega arith) c.split_seat-own.ensures.4),
      search rules,
    )

pub invariant_of-result : goal.invariant_of-result
invariant_of-result g c =
    let i = c.loop-given.invariant in
    let few = c.requires.callers in
    let end = c.loop-given.auto.given-end in
    let stop = c.loop-given-test.false in
    dealt_whole_settled g.T.Entry.caller g.T.Entry.touches c.args.top.now.key _ c.loop-given.given c.loop-given.seat.me i.1 (omega arith)

pub returns-clause-whole : goal.returns-clause-whole
returns-clause-whole g c =
    let i = c.loop-given.invariant in
    let few = c.requires.callers in
    let end = c.loop-given.auto.given-end in
    let stop = c.loop-given-test.false in
    (λ k. share_of g.T.Entry.caller (i.0 k) c.loop-given.seat.me.0) ∙ dealt_whole g.T.Entry.caller g.T.Entry.touches c.args.top.now.key _ c.loop-given.given c.loop-given.seat.me i.1 c.args.top.now.table_id (omega arith)
