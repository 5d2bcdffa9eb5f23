use Rattle.std.proofs.Common.{◌≡◌, ℕ, ◌+◌, ◌*◌, List, length, subst, sym, ◌∙◌, ap, arith}
use Rattle.std.specs.List.{AllByRecursion}
use Rattle.plane.specs.declared.coordinates.Point.{Point}
use Rattle.journal_defs.specs.declared.commit.Commit.{Commit}
use Rattle.seats.specs.Seats.{SeatSeen}
use Rattle.board.specs.Made.{IsBoardOf}
use Rattle.lower_bounds.specs.Found.{AreFound}
use Rattle.solver.proofs.Work.{passes_of, worked_of, passes_count, all_priced, finished_work}
use Rattle.solver.proofs.working.work_on.Goals as goal

pub work_all-requires-clause-of : goal.work_all-requires-clause-of
work_all-requires-clause-of g c κs within =
    subst (AllByRecursion (λ (p : SeatSeen). p.of ≡ c.in-Ok.board)) (sym c.in-Ok.ensures.passes) (passes_of c.in-Ok.board c.args.core.journal 1 c.args.edit_workers)

pub work_all-requires-clause-some : goal.work_all-requires-clause-some
work_all-requires-clause-some g c κs within =
    let n : length c.in-Ok.passes.items ≡ c.args.edit_workers =
    ap (λ (ps : List SeatSeen). length ps) c.in-Ok.ensures.passes ∙ passes_count c.in-Ok.board c.args.core.journal 1 c.args.edit_workers in
    omega (arith, n, c.requires.some.0)

pub work_all-requires-clause-few : goal.work_all-requires-clause-few
work_all-requires-clause-few g c κs within =
    let n : length c.in-Ok.passes.items ≡ c.args.edit_workers =
    ap (λ (ps : List SeatSeen). length ps) c.in-Ok.ensures.passes ∙ passes_count c.in-Ok.board c.args.core.journal 1 c.args.edit_workers in
    omega (arith, n, c.requires.some.1)

pub finish-requires : goal.finish-requires
finish-requires g c = record {
  of = worked_of c.in-Ok.board c.args.costs.now c.args.search.rounds c.args.search.seed c.in-Ok.passes.items c.in_ok-passes.passes.items c.in_ok-passes.ensures.passes
      (subst (AllByRecursion (λ (p : SeatSeen). p.of ≡ c.in-Ok.board)) (sym c.in-Ok.ensures.passes) (passes_of c.in-Ok.board c.args.core.journal 1 c.args.edit_workers));
}

pub returns-in-Ok-finish-clause-worked : goal.returns-in-Ok-finish-clause-worked
returns-in-Ok-finish-clause-worked g c =
    let board : IsBoardOf c.args.core c.args.edit_workers (length c.args.core.journal + 4 * c.args.edit_workers * c.args.search.rounds) c.in-Ok.board =
    record {
      points = c.in-Ok.ensures.board.points;
      start = c.in-Ok.ensures.board.start;
      first = c.in-Ok.ensures.board.first;
      callers_are = c.in-Ok.ensures.board.callers_are;
      room_is =
          c.in-Ok.ensures.board.room_is
          ∙ ap (λ (J : List Commit). length J + 4 * c.from.result * c.from-2.result) c.journal.ensures.journal
          ∙ ap (λ (n : ℕ). length c.args.core.journal + 4 * n * c.from-2.result) c.from.ensures
          ∙ ap (λ (n : ℕ). length c.args.core.journal + 4 * c.args.edit_workers * n) c.from-2.ensures;
      shelf = c.in-Ok.ensures.board.shelf;
    } in
    finished_work c.args.costs.now c.args.edit_workers c.args.search c.args.core c.in-Ok-finish.core c.in-Ok.board c.in-Ok.passes.items c.in_ok-passes.passes.items
    c.in-Ok-finish.ensures.core board c.in-Ok.ensures.passes c.in_ok-passes.ensures.passes c.in-Ok-finish.ensures.finished

pub returns-in-Ok-finish-clause-found : goal.returns-in-Ok-finish-clause-found
returns-in-Ok-finish-clause-found g c =
    subst (λ (S : List Point). AreFound S c.args.costs.now c.args.first.now c.args.search c.in_ok-passes.found.items) c.in-Ok.ensures.board.points
    (all_priced c.in-Ok.board.root.points c.args.costs.now c.args.first.now c.args.search c.in_ok-passes.found.items c.in_ok-passes.ensures.found c.in_ok-passes.ensures.priced)
