use Rattle.std.proofs.Common.{◌≡◌, ℕ, ◌+◌, List, [], ◌∷◌, length, map, length-append, arith, sym, ap, subst, ◌∙◌}
use Rattle.vertex_claims.specs.Holding.{ClaimsSeen, AreFitting, new_holder}
use Rattle.index_sets.specs.Indices.{numbers_from}
use Rattle.seats.specs.declared.cells.Root.{Root}
use Rattle.seats.specs.declared.cells.Cell.{Cell}
use Rattle.seats.specs.Cells.{CellFits}
use Rattle.seats.specs.Seats.{IsShelf}
use Rattle.board.specs.Made.{first_pass}
use Rattle.board.proofs.Laid.{fitting_more}
use Rattle.board.proofs.Together.{as_many_numbers}
use Rattle.board.proofs.Started.{IsRootOf, base_made, journal_made, shelf_made, made_together, got_back, as_before}
use Rattle.board.proofs.board.Board.make.Goals.{In-Ok, In-Ok-pushed, In-Ok-make}
use Rattle.board.proofs.board.Board.make.Goals as goal

abbrev root : In-Ok → Root
root c = record { points = c.into_parts-points.result.0; start = c.into_parts-points.result.1; room = c.args.room; chronicle = c.in-Ok.supplies.chronicle }

of_core : (c : In-Ok) → IsRootOf c.args.core (root c)
of_core c =
    let s = c.in-Ok.ensures.supplied in
    record {
      accepted = c.len.ensures.accepted;
      points = c.into_parts-points.ensures.points;
      start = c.into_parts-points.ensures.start;
      first = s.first ∙ c.into_parts-points.ensures.journal;
      last = s.last ∙ c.len.ensures.count;
      few = c.requires.room.1;
      fits = c.requires.room.0;
      core_is = c.into_parts-points.ensures.core;
    }

pub lay_stars-requires-clause-base : goal.lay_stars-requires-clause-base
lay_stars-requires-clause-base c = let p = (goal.at.lay_stars-requires-clause-base c).In-Ok in base_made c.args.core (root p) (of_core p)

-- all cells are laid
abbrev laid_root : In-Ok-pushed → Root
laid_root c = record { points = c.into_parts-points.result.0; start = c.into_parts-points.result.1; room = c.args.room; chronicle = c.in-Ok.supplies.chronicle }

laid : (c : In-Ok-pushed) → IsRootOf c.args.core (laid_root c) → AreFitting CellFits (laid_root c) c.push-pushed.new.self.items
laid c o =
    subst (AreFitting CellFits (laid_root c)) (sym c.in-Ok-pushed.ensures.items)
    (fitting_more (laid_root c) c.lay_stars.new.cells.items _ c.lay_stars.ensures.fitting
    (journal_made c.args.core (laid_root c) c.lay_stars.new.cells.items c.supply-supplied.new.journal c.in-Ok.supplies.whole c.lay_stars.new.whole o c.in-Ok.ensures.supplied.whole c.lay_stars.ensures.whole c.lay_stars.ensures.count
    (c.in-Ok.ensures.same ∙ c.into_parts-points.ensures.journal) c.in-Ok.ensures.room))

pub make-requires-clause-cells : goal.make-requires-clause-cells
make-requires-clause-cells c = laid (goal.at.make-requires-clause-cells c).In-Ok-pushed (of_core (goal.at.make-requires-clause-cells c).In-Ok)

-- where the claims weren't made
pub take_up-stars-requires-clause-base : goal.take_up-stars-requires-clause-base
take_up-stars-requires-clause-base c = let p = (goal.at.take_up-stars-requires-clause-base c).In-Ok in base_made c.args.core (root p) (of_core p)

pub take_up-stars-requires-clause-fitting : goal.take_up-stars-requires-clause-fitting
take_up-stars-requires-clause-fitting c =
    let p = (goal.at.take_up-stars-requires-clause-fitting c).In-Ok in
    subst (AreFitting CellFits (root p)) (sym c.in-Err.ensures.back) (laid (goal.at.take_up-stars-requires-clause-fitting c).In-Ok-pushed (of_core p))

pub core_of-requires-clause-base : goal.core_of-requires-clause-base
core_of-requires-clause-base c = let p = (goal.at.core_of-requires-clause-base c).In-Ok in base_made c.args.core (root p) (of_core p)

pub returns-in-Err-clause-back : goal.returns-in-Err-clause-back
returns-in-Err-clause-back c =
    let p = (goal.at.returns-in-Err-clause-back c).In-Ok in
    let j = c.take_up-stars.ensures.journal in
    let got = got_back c.lay_stars.new.cells.items j.0 c.supply-supplied.new.journal c.take_up-stars.result.1 c.lay_stars.new.whole j.1 c.in-Err.cells.items (c.in-Err.ensures.back ∙ c.in-Ok-pushed.ensures.items) j.2 in
    as_before c.args.core c.core_of.result (root p) c.into_parts-points.result.2 c.supply-supplied.new.journal c.take_up-stars.result.1 (of_core p) c.core_of.ensures.points c.core_of.ensures.start c.core_of.ensures.journal c.core_of.ensures.room
    got c.in-Ok.ensures.same c.into_parts-points.ensures.journal c.in-Ok.ensures.capacity c.into_parts-points.ensures.room

-- where they were
abbrev made_root : In-Ok-make → Root
made_root c = record { points = c.into_parts-points.result.0; start = c.into_parts-points.result.1; room = c.args.room; chronicle = c.in-Ok.supplies.chronicle }

shelf : (c : In-Ok-make) → IsRootOf c.args.core (made_root c) → IsShelf c.in-Ok-make.claims
shelf c o =
    let e = c.in-Ok-make.ensures.claims in
    let more : length c.push-pushed.new.self.items ≡ length c.lay_stars.new.cells.items + 1 = ap (λ (l : List Cell). length l) c.in-Ok-pushed.ensures.items ∙ length-append c.lay_stars.new.cells.items (_ ∷ []) in
    let count : c.in-Ok-make.claims.places ≡ length c.into_parts-points.result.0 + 1 = e.0 ∙ (c.push-pushed.new.self.ok.0 ∙ (more ∙ ap (λ (n : ℕ). n + 1) c.lay_stars.ensures.count)) in
    shelf_made c.in-Ok-make.claims (made_root c) (base_made c.args.core (made_root c) o) e.2 count (c.in-Ok.ensures.supplied.callers_are ∙ sym e.1)

pub put_together-passes-requires-clause-together : goal.put_together-passes-requires-clause-together
put_together-passes-requires-clause-together c =
    let p = (goal.at.put_together-passes-requires-clause-together c).In-Ok in
    let q = (goal.at.put_together-passes-requires-clause-together c).In-Ok-make in
    let e = c.in-Ok-make.ensures.claims in (
      map (first_pass c.in-Ok-make.claims c.args.core.journal) (numbers_from 1 c.args.callers),
      made_together c.args.core (root p) c.in-Ok-make.claims c.args.callers c.in-Ok-make.holders.items c.in-Ok.supplies.owns.items c.into_parts-points.result.2.items (of_core p) e.2 e.1 (shelf q (of_core p))
          c.into_parts-points.ensures.journal c.in-Ok-make.ensures.holders c.in-Ok.ensures.supplied.owns,
    )

pub put_together-passes-requires-clause-room : goal.put_together-passes-requires-clause-room
put_together-passes-requires-clause-room c =
    let many = as_many_numbers (new_holder c.in-Ok-make.claims) c.in-Ok-make.holders.items 1 c.args.callers c.in-Ok-make.ensures.holders in
    let room = c.in-Ok.ensures.supplied.passes.1 in
    omega (arith, many, room)

pub new-shelf-requires-clause-shelf : goal.new-shelf-requires-clause-shelf
new-shelf-requires-clause-shelf c = shelf (goal.at.new-shelf-requires-clause-shelf c).In-Ok-make (of_core (goal.at.new-shelf-requires-clause-shelf c).In-Ok)

pub returns-in-Ok-make-clause-passes : goal.returns-in-Ok-make-clause-passes
returns-in-Ok-make-clause-passes c =
    let p = (goal.at.returns-in-Ok-make-clause-passes c).In-Ok in
    let q = (goal.at.returns-in-Ok-make-clause-passes c).In-Ok-make in
    let e = c.in-Ok-make.ensures.claims in
    c.put_together-passes.ensures (map (first_pass c.in-Ok-make.claims c.args.core.journal) (numbers_from 1 c.args.callers))
    (made_together c.args.core (root p) c.in-Ok-make.claims c.args.callers c.in-Ok-make.holders.items c.in-Ok.supplies.owns.items c.into_parts-points.result.2.items (of_core p) e.2 e.1 (shelf q (of_core p))
    c.into_parts-points.ensures.journal c.in-Ok-make.ensures.holders c.in-Ok.ensures.supplied.owns)
    ∙ ap (λ (x : ClaimsSeen Root). map (first_pass x c.args.core.journal) (numbers_from 1 c.args.callers)) (sym c.new-shelf.ensures)
