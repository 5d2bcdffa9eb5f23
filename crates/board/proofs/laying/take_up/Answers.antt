use Rattle.std.proofs.Common.{◌≡◌, ℕ, ◌+◌, ◌≤◌, List, [], ◌∷◌, length, arith, sym, ap, subst, refl, ◌∙◌}
use Rattle.std.proofs.Common.{length-append}
use Rattle.std.specs.Vec.Iter.{into_iter_items}
use Rattle.vertex_claims.specs.Holding.{AreFitting}
use Rattle.chronicle.specs.History.{ShareSeen}
use Rattle.journal_defs.specs.declared.commit.Commit.{Commit as TheCommit}
use Rattle.journal_defs.specs.Journal.{IsLegalJournal}
use Rattle.seats.specs.declared.cells.Cell.{Cell}
use Rattle.seats.specs.declared.cells.Cell.TheVariants.{Journal}
use Rattle.seats.specs.Cells.{CellFits, VertexFits, IsPart}
use Rattle.board.proofs.Laid.{journal_fact, rest_fit, next_fact, lifts_none, lifts_more, taken_up, none_of}
use Rattle.board.proofs.laying.take_up.Goals.{In-Journal, In-Vertex, After-into_iter-rest}
use Rattle.board.proofs.laying.take_up.Goals as goal

pub unreachable-requires-in_default-cell : goal.unreachable-requires-in_default-cell
unreachable-requires-in_default-cell c =
    let r = c.args.root.now in
    let vs = c.pop-last.new.self.items in
    let f : VertexFits r (length vs) c.in_default-cell.field-0 c.in_default-cell.field-1 =
    subst (CellFits r (length vs)) c.in_default-cell.is (journal_fact r vs c.in-Some.cell c.args.cells.items c.requires.fitting c.in-Some.ensures.items) in
    let more : length c.args.cells.items ≡ length vs + 1 = ap (λ (l : List Cell). length l) c.in-Some.ensures.items ∙ length-append vs (c.in-Some.cell ∷ []) in
    let within = f.within in
    omega (arith, within, more, c.requires.count)

-- what is told of the cell with the journal
abbrev JournalFits : In-Journal → Type 0
JournalFits c = CellFits c.args.root.now (length c.pop-last.new.self.items) (Journal c.in-Journal.commits c.in-Journal.share)

fact : (c : In-Journal) → JournalFits c
fact c =
    subst (CellFits c.args.root.now (length c.pop-last.new.self.items)) c.in-Journal.is
    (journal_fact c.args.root.now c.pop-last.new.self.items c.in-Some.cell c.args.cells.items c.requires.fitting c.in-Some.ensures.items)

legal : (c : In-Journal) → IsLegalJournal c.args.root.now.points c.args.root.now.start.items c.in-Journal.commits.items
legal c = let f = fact c in subst (IsLegalJournal c.args.root.now.points c.args.root.now.start.items) (sym f.2) f.1.legal

pub look_count-count-requires : goal.look_count-count-requires
look_count-count-requires c = record { of = (fact (goal.at.look_count-count-requires c).In-Journal).1.of }

pub loop-cell-init : goal.loop-cell-init
loop-cell-init c =
    let r = c.args.root.now in
    let f = fact (goal.at.loop-cell-init c).In-Journal in
    let same = c.look_count-count.ensures.same in
    let part : IsPart r (length r.points) c.look_count-count.new.share =
    subst (IsPart r (length r.points)) (sym same) (subst (λ (n : ℕ). IsPart r n c.in-Journal.share) f.0 f.1) in (
      lifts_none r c.in-Journal.commits.items (into_iter_items c.into_iter-rest.result) (into_iter_items c.into_iter-rest.result) c.args.stars.items c.look_count-count.new.share part
          (f.2 ∙ ap (λ (s : ShareSeen TheCommit). s.seen) (sym same)) refl c.requires.empty c.look_count-count.ensures.valid,
      c.requires.room,
    )

fits : (c : After-into_iter-rest) → AreFitting CellFits c.args.root.now (into_iter_items c.into_iter-rest.result) × (length (into_iter_items c.into_iter-rest.result) ≡ length c.args.root.now.points)
fits c = rest_fit c.args.root.now c.pop-last.new.self.items (into_iter_items c.into_iter-rest.result) c.in-Some.cell c.args.cells.items c.requires.fitting c.in-Some.ensures.items c.into_iter-rest.ensures.rest c.requires.count

pub unreachable-requires-in_default-cell-2 : goal.unreachable-requires-in_default-cell-2
unreachable-requires-in_default-cell-2 c =
    let r = c.args.root.now in
    let all = fits (goal.at.unreachable-requires-in_default-cell-2 c).After-into_iter-rest in
    let t = next_fact r c.in-Journal.commits.items (into_iter_items c.into_iter-rest.result) (into_iter_items c.loop-cell.rest) _ c.in-Some-next.cell c.loop-cell.stars.items c.loop-cell.whole all.0 c.loop-cell.invariant.0
    c.in-Some-next.ensures.items in
    let f : CellFits r (length c.loop-cell.stars.items) (Journal c.in_default-cell-2.field-0 c.in_default-cell-2.field-1) = subst (CellFits r (length c.loop-cell.stars.items)) c.in_default-cell-2.is t.0 in
    let here = f.0 in
    let few = t.1 in
    let count = all.1 in
    omega (arith, here, few, count)

vertex : (c : In-Vertex) → AreFitting CellFits c.args.root.now (into_iter_items c.into_iter-rest.result) → VertexFits c.args.root.now (length c.loop-cell.stars.items) c.in-Vertex.look c.in-Vertex.share
vertex c all =
    subst (CellFits c.args.root.now (length c.loop-cell.stars.items)) c.in-Vertex.is
    (next_fact c.args.root.now c.in-Journal.commits.items (into_iter_items c.into_iter-rest.result) (into_iter_items c.loop-cell.rest) _ c.in-Some-next.cell c.loop-cell.stars.items c.loop-cell.whole all c.loop-cell.invariant.0
    c.in-Some-next.ensures.items).0

pub join_parts-requires-clause-of : goal.join_parts-requires-clause-of
join_parts-requires-clause-of c =
    let all = fits (goal.at.join_parts-requires-clause-of c).After-into_iter-rest in
    (c.loop-cell.invariant.0.of, (vertex (goal.at.join_parts-requires-clause-of c).In-Vertex all.0).part.of)

pub join_parts-requires-clause-nobody : goal.join_parts-requires-clause-nobody
join_parts-requires-clause-nobody c =
    let all = fits (goal.at.join_parts-requires-clause-nobody c).After-into_iter-rest in
    (vertex (goal.at.join_parts-requires-clause-nobody c).In-Vertex all.0).part.caller

pub loop-cell-preserved : goal.loop-cell-preserved
loop-cell-preserved c =
    let r = c.args.root.now in
    let all = fits (goal.at.loop-cell-preserved c).After-into_iter-rest in
    let next = into_iter_items c.next.new.self in (
      lifts_more r c.in-Journal.commits.items (into_iter_items c.into_iter-rest.result) (into_iter_items c.loop-cell.rest) next c.loop-cell.stars.items c.push-pushed.new.self.items c.loop-cell.whole c.join_parts.new.into
          c.in-Vertex.share c.in-Vertex.look c.requires.base all.0 c.loop-cell.invariant.0 (c.in-Some-next.ensures.items ∙ ap (λ (x : Cell). x ∷ next) c.in-Vertex.is) c.join_parts.ensures.both c.join_parts.ensures.into
          c.join_parts.ensures.from c.join_parts.ensures.valid (legal (goal.at.loop-cell-preserved c).In-Journal) c.in-Ok.ensures.items,
      omega (arith, c.loop-cell.invariant.1, c.in-Ok.ensures.capacity),
    )

pub returns-clause-taken : goal.returns-clause-taken
returns-clause-taken c =
    let r = c.args.root.now in
    let f = fact (goal.at.returns-clause-taken c).In-Journal in
    let all = fits (goal.at.returns-clause-taken c).After-into_iter-rest in
    taken_up r c.in-Journal.commits.items (into_iter_items c.into_iter-rest.result) (into_iter_items c.loop-cell.rest) c.loop-cell.stars.items c.loop-cell.whole c.loop-cell.invariant.0 (none_of (into_iter_items c.loop-cell.rest) (sym c.loop-cell.rest.rest.ok.0 ∙ c.in_default-next.ensures.cases.0)) all.1
    (legal (goal.at.returns-clause-taken c).In-Journal) (subst (λ (l : List TheCommit). length l ≤ r.room) (sym f.2) f.3)
