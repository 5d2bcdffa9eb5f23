use Rattle.std.proofs.Common.{◌≡◌, ℕ, List, length, arith, sym, ap, subst, ◌∙◌}
use Rattle.std.specs.Prelude.{vec_len}
use Rattle.std.specs.List.{AllByRecursion}
use Rattle.std.proofs.lemmas.List.Elements.{All-from_recursion}
use Rattle.vertex_claims.specs.Faults.{HasCause}
use Rattle.vertex_claims.specs.Holding.{ClaimsSeen, HolderSeen, IsIdle, AreFitting}
use Rattle.seats.specs.declared.cells.Root.{Root}
use Rattle.seats.specs.Cells.{CellFits}
use Rattle.board.specs.declared.own.Own.{Own}
use Rattle.board.proofs.Together.{as_many, of_passes}
use Rattle.board.proofs.Finished.{base_of, finished}
use Rattle.board.proofs.board.Board.finish.Goals.{After-into_parts-root, After-take_apart-holders}
use Rattle.board.proofs.board.Board.finish.Goals as goal

-- the root and the claims are the board's
root_is : (c : After-into_parts-root) → c.into_parts-root.result.0 ≡ c.args.self.root
root_is c = c.into_parts-root.ensures.root ∙ ap (λ (x : ClaimsSeen Root). x.root) c.self.view_is

claims_are : (c : After-into_parts-root) → c.into_parts-root.result.1 ≡ c.args.self
claims_are c = c.into_parts-root.ensures.claims ∙ c.self.view_is

-- there are as many holders as passes
many : (c : After-take_apart-holders) → length c.take_apart-holders.result.0.items ≡ length c.args.passes.items
many c = as_many c.take_apart-holders.result.0.items c.take_apart-holders.result.1.items c.args.passes.items c.take_apart-holders.ensures

pub returns-in-Err-clause-cause : goal.returns-in-Err-clause-cause
returns-in-Err-clause-cause c =
    let p = (goal.at.returns-in-Err-clause-cause c).After-into_parts-root in
    let q = (goal.at.returns-in-Err-clause-cause c).After-take_apart-holders in
    let holders = c.take_apart-holders.result.0 in
    let count : vec_len holders ≡ vec_len c.args.passes = holders.ok.0 ∙ (many q ∙ sym c.args.passes.ok.0) in
    subst (λ (n : ℕ). HasCause c.args.self.callers n c.in-Err.fault) count (subst (λ (x : ClaimsSeen Root). HasCause x.callers (vec_len holders) c.in-Err.fault) (claims_are p) c.in-Err.ensures.cause)

pub take_apart-holders-requires-clause-empty : goal.take_apart-holders-requires-clause-empty
take_apart-holders-requires-clause-empty c = (c.in-Ok.ensures.holders.0, c.in-Ok.ensures.owns.0)

pub take_apart-holders-requires-clause-room : goal.take_apart-holders-requires-clause-room
take_apart-holders-requires-clause-room c =
    let given = c.len-given.ensures ∙ c.args.passes.ok.0 in
    let holders = c.in-Ok.ensures.holders.1 in
    let owns = c.in-Ok.ensures.owns.1 in
    (omega (arith, given, holders), omega (arith, given, owns))

pub close-requires : goal.close-requires
close-requires c =
    let p = (goal.at.close-requires c).After-into_parts-root in
    let holders = c.take_apart-holders.result.0.items in
    let claims = c.into_parts-root.result.1 in
    let of = of_passes c.args.self holders c.take_apart-holders.result.1.items c.args.passes.items c.take_apart-holders.ensures c.requires.of in
    record { idle = All-from_recursion (IsIdle claims) holders (subst (λ (x : ClaimsSeen Root). AllByRecursion (IsIdle x) holders) (sym (claims_are p)) of.idle) }

pub put_together-passes-requires-clause-room : goal.put_together-passes-requires-clause-room
put_together-passes-requires-clause-room c =
    let q = (goal.at.put_together-passes-requires-clause-room c).After-take_apart-holders in
    let given = c.len-given.ensures ∙ c.args.passes.ok.0 in
    let back : length c.in-Err.holders.items ≡ length c.args.passes.items = ap (λ (l : List (HolderSeen Root)). length l) c.in-Err.ensures.back.1 ∙ many q in
    let passes = c.in-Ok.ensures.passes.1 in
    omega (arith, given, back, passes)

pub take_up-stars-requires-clause-base : goal.take_up-stars-requires-clause-base
take_up-stars-requires-clause-base c =
    base_of c.args.self c.into_parts-root.result.0 c.points.ensures.valid (root_is (goal.at.take_up-stars-requires-clause-base c).After-into_parts-root)

pub take_up-stars-requires-clause-fitting : goal.take_up-stars-requires-clause-fitting
take_up-stars-requires-clause-fitting c =
    let p = (goal.at.take_up-stars-requires-clause-fitting c).After-into_parts-root in
    subst (λ (r : Root). AreFitting CellFits r c.in-Ok-close.cells.items) (ap (λ (x : ClaimsSeen Root). x.root) (claims_are p) ∙ sym (root_is p)) c.in-Ok-close.ensures.cells

pub take_up-stars-requires-clause-room : goal.take_up-stars-requires-clause-room
take_up-stars-requires-clause-room c =
    let p = (goal.at.take_up-stars-requires-clause-room c).After-into_parts-root in
    let count : length c.into_parts-root.result.0.points ≡ c.len-count.result = ap (λ (r : Root). length r.points) (root_is p) ∙ (ap length (sym c.points.ensures.points) ∙ sym c.len-count.ensures.count) in
    let stars = c.in-Ok.ensures.stars.1 in
    omega (arith, count, stars)

pub tell_all-requires-clause-of : goal.tell_all-requires-clause-of
tell_all-requires-clause-of c =
    let p = (goal.at.tell_all-requires-clause-of c).After-into_parts-root in
    let of = of_passes c.args.self c.take_apart-holders.result.0.items c.take_apart-holders.result.1.items c.args.passes.items c.take_apart-holders.ensures c.requires.of in (
      c.take_up-stars.ensures.taken.of,
      subst (λ (r : Root). AllByRecursion (λ (o : Own). o.share.of ≡ r.chronicle) c.take_apart-holders.result.1.items) (sym (root_is p)) of.shares,
    )

pub core_of-requires-clause-base : goal.core_of-requires-clause-base
core_of-requires-clause-base c =
    base_of c.args.self c.into_parts-root.result.0 c.points.ensures.valid (root_is (goal.at.core_of-requires-clause-base c).After-into_parts-root)

pub returns-in-Ok-close-clause-finished : goal.returns-in-Ok-close-clause-finished
returns-in-Ok-close-clause-finished c =
    let p = (goal.at.returns-in-Ok-close-clause-finished c).After-into_parts-root in
    finished c.args.self c.into_parts-root.result.0 c.args.passes.items c.take_apart-holders.result.0.items c.take_apart-holders.result.1.items c.take_up-stars.result.0.items c.take_up-stars.result.1.items c.take_up-stars.result.2
    c.core_of.result (root_is p) c.take_apart-holders.ensures c.take_up-stars.ensures.taken c.tell_all.ensures.told c.core_of.ensures.points c.core_of.ensures.start c.core_of.ensures.journal
