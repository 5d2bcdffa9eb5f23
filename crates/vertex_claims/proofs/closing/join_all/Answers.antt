use Rattle.std.proofs.Common.{arith, ℕ, ◌+◌, [], ◌∷◌, List, length, length-append, refl, ap, ◌∙◌, subst}
use Rattle.std.proofs.lemmas.List.{get_or_append_left, get_or_push}
use Rattle.std.specs.Prelude.{slice_index_or}
use Rattle.vertex_claims.specs.Holding.{HolderSeen}
use Rattle.index_sets.specs.Indices.{contains}
use Rattle.vertex_claims.specs.Closing.{IsIdleAt}
use Rattle.index_sets.proofs.Laws.{contains-first, contains-left}
use Rattle.vertex_claims.proofs.Moves.{glues}
use Rattle.vertex_claims.proofs.closing.join_all.Goals as goal

pub loop-other-init : goal.loop-other-init
loop-other-init g c =
    let f = c.first.inside in
    let is = c.first.view_is in (
      c.requires.of.1,
      record {
        table = ap (λ (h : HolderSeen g.row.C-Root.Denot). h.of.table) is ∙ c.requires.of.0.0;
        hands = c.first.invariant.hands;
        count = ap (λ l. length l + length c.args.others.items) c.first.invariant.numbers ∙ (omega arith);
        bare = ap (λ (h : HolderSeen g.row.C-Root.Denot). h.places) is ∙ c.requires.of.0.1;
        some_number = (f.number, ap (λ l. contains l f.number) c.first.invariant.numbers ∙ contains-first [] f.number);
      },
    )

pub join_seat-requires : goal.join_seat-requires
join_seat-requires g c =
    let i = c.loop-other.invariant in
    let s = i.1 in
    let is = c.other.view_is in
    let xs = c.pop.new.self.items in
    let items = c.in-Some.ensures.items in
    let last = i.0 (length xs) c.in-Some.other (let z = ap (λ (l : List (HolderSeen g.row.C-Root.Denot)). length l) items in let y = length-append xs (c.in-Some.other ∷ []) in omega arith) in
    let free : IsIdleAt c.args.top.now.table_id c.in-Some.other = subst (IsIdleAt c.args.top.now.table_id) (ap (λ l. slice_index_or l (length xs) c.in-Some.other) items ∙ get_or_push xs c.in-Some.other c.in-Some.other (length xs) refl) last in (
      s.table,
      ap (λ (h : HolderSeen g.row.C-Root.Denot). h.of.table) is ∙ free.0,
      c.other.invariant.hands,
      c.requires.word,
      glues g.C.Held.fits c.args.top.now.key _ _ s.some_number.0 c.loop-other.seat.me.0 c.other.inside.seat.me.0 s.some_number.1 (ap (λ (h : HolderSeen g.row.C-Root.Denot). h.places) is ∙ free.1),
    )

pub loop-other-preserved : goal.loop-other-preserved
loop-other-preserved g c =
    let i = c.loop-other.invariant in
    let s = i.1 in
    let j = c.join_seat.ensures in
    let is = c.other.view_is in
    let xs = c.pop.new.self.items in
    let items = c.in-Some.ensures.items in
    let longer = ap (λ (l : List (HolderSeen g.row.C-Root.Denot)). length l) items ∙ length-append xs (c.in-Some.other ∷ []) in (
      λ k d l. subst (IsIdleAt c.args.top.now.table_id) (ap (λ z. slice_index_or z k d) items ∙ get_or_append_left xs (c.in-Some.other ∷ []) d k l) (i.0 k d (omega arith)),
      record {
        table = j.0 ∙ s.table;
        hands = ap (λ m. m.1) j.2 ∙ s.hands;
        count =
            (let z = ap (λ m. length m.0.numbers) j.2 in let y = length-append c.loop-other.seat.me.0.numbers c.other.inside.seat.me.0.numbers in let x = ap (λ (l : List ℕ). length l) c.other.invariant.numbers in let w = s.count in omega arith);
        bare = ap (λ m. m.0.places) j.2 ∙ s.bare;
        some_number = (s.some_number.0, ap (λ m. contains m.0.numbers s.some_number.0) j.2 ∙ contains-left c.loop-other.seat.me.0.numbers c.other.inside.seat.me.0.numbers s.some_number.0 s.some_number.1);
      },
    )
