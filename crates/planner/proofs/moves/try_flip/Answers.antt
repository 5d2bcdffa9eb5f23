use Rattle.std.proofs.Common.{List, subst, sym, ◌∙◌, ◌≡◌, ◌∷◌, true, ℕ, refl}
use Rattle.std.specs.Prelude.{IsTrue, ◌↔◌}
use Rattle.std.proofs.lemmas.Bool.{false≢true, or_left, or_right}
use Rattle.journal_defs.specs.declared.edit.Edit.{Edit}
use Rattle.journal_defs.specs.declared.edit.Edit.TheVariants.{Flip}
use Rattle.journal_defs.specs.Edits.{is_end, touches}
use Rattle.journal_defs.specs.Turns.{FitInTurn}
use Rattle.edit.specs.Plans.{are_touching}
use Rattle.plan_defs.specs.Plans.{Sight, star_in}
use Rattle.planner.specs.Region.{sights}
use Rattle.planner.specs.Steps.{HasMade, IsReady}
use Rattle.planner.proofs.Made.{flip_ready}
use Rattle.planner.proofs.Planned.{as_before}
use Rattle.planner.proofs.Tried.{first_looked, first_unfit, rest_fit, flip_can, flip_back, flip_undone, same_agree, same_held, same_looked, same_fits}
use Rattle.planner.proofs.moves.try_flip.Goals as goal

pub does_fit-requires-clause-looked : goal.does_fit-requires-clause-looked
does_fit-requires-clause-looked c = first_looked c.args.region.now (Flip c.args.from c.args.to) c.args.rest.now c.requires.looked

pub returns-then-not-does_fit-clause-fit : goal.returns-then-not-does_fit-clause-fit
returns-then-not-does_fit-clause-fit c =
    first_unfit c.args.points.now (star_in c.args.points.now (sights c.args.region.now)) (Flip c.args.from c.args.to) c.args.rest.now (Flip c.args.from c.args.to ∷ c.args.rest.now) refl (λ f. false≢true (c.if-not-does_fit.ensures.1 f))

pub returns-then-not-does_fit-clause-before : goal.returns-then-not-does_fit-clause-before
returns-then-not-does_fit-clause-before c = as_before c.args.points.now c.args.region.now c.requires.held

pub reserve_ends-requires : goal.reserve_ends-requires
reserve_ends-requires c = λ v is. c.requires.looked v (or_left (touches (Flip c.args.from c.args.to) v) (are_touching c.args.rest.now v) (or_right (is_end c.args.from v) (is_end c.args.to v) is))

pub returns-in_err-reserve_ends-clause-before : goal.returns-in_err-reserve_ends-clause-before
returns-in_err-reserve_ends-clause-before c = record { told = c.reserve_ends.ensures.sights; points = c.reserve_ends.ensures.points c.args.points.now c.requires.held.points }

pub make-requires-clause-held : goal.make-requires-clause-held
make-requires-clause-held c =
    same_held c.args.points.now c.args.region.now c.reserve_ends.new.region c.reserve_ends.ensures.sights (c.reserve_ends.ensures.points c.args.points.now c.requires.held.points) c.requires.held

pub make-requires-clause-ready : goal.make-requires-clause-ready
make-requires-clause-ready c = λ v h.
    flip_ready c.args.points.now c.reserve_ends.new.region c.args.from c.args.to v (same_agree c.args.points.now c.args.region.now c.reserve_ends.new.region c.reserve_ends.ensures.sights c.requires.agree)
    (first_looked c.reserve_ends.new.region (Flip c.args.from c.args.to) c.args.rest.now (same_looked c.args.region.now c.reserve_ends.new.region (Flip c.args.from c.args.to ∷ c.args.rest.now) c.reserve_ends.ensures.sights c.requires.looked))
    c.in_ok-reserve_ends.ensures.room
    (same_fits c.args.points.now c.args.region.now c.reserve_ends.new.region (Flip c.args.from c.args.to) c.reserve_ends.ensures.sights (c.if-not-does_fit.ensures.0 refl)) h

pub try_edits-fit-requires : goal.try_edits-fit-requires
try_edits-fit-requires c =
    flip_can c.args.points.now c.args.from c.args.to c.args.rest.now c.reserve_ends.new.region c.make.new.region (same_agree c.args.points.now c.args.region.now c.reserve_ends.new.region c.reserve_ends.ensures.sights c.requires.agree)
    (same_looked c.args.region.now c.reserve_ends.new.region (Flip c.args.from c.args.to ∷ c.args.rest.now) c.reserve_ends.ensures.sights c.requires.looked) c.requires.marks c.make.ensures

pub make-requires-2-clause-ready : goal.make-requires-2-clause-ready
make-requires-2-clause-ready c =
    subst (λ (x : Edit). (v : ℕ) → touches x v ≡ true → IsReady c.args.points.now x c.try_edits-fit.new.region v) (sym c.inverse.ensures)
    (λ v h. flip_back c.args.points.now c.args.from c.args.to c.args.rest.now c.reserve_ends.new.region c.make.new.region c.try_edits-fit.new.region v
    (same_held c.args.points.now c.args.region.now c.reserve_ends.new.region c.reserve_ends.ensures.sights (c.reserve_ends.ensures.points c.args.points.now c.requires.held.points) c.requires.held)
    (same_agree c.args.points.now c.args.region.now c.reserve_ends.new.region c.reserve_ends.ensures.sights c.requires.agree)
    (same_looked c.args.region.now c.reserve_ends.new.region (Flip c.args.from c.args.to ∷ c.args.rest.now) c.reserve_ends.ensures.sights c.requires.looked)
    c.in_ok-reserve_ends.ensures.room
    (same_fits c.args.points.now c.args.region.now c.reserve_ends.new.region (Flip c.args.from c.args.to) c.reserve_ends.ensures.sights (c.if-not-does_fit.ensures.0 refl)) c.make.ensures c.try_edits-fit.ensures.back h)

pub returns-clause-fit : goal.returns-clause-fit
returns-clause-fit c =
    let P : List Sight → Type 0 = λ T. IsTrue c.try_edits-fit.result ↔ FitInTurn c.args.points.now (star_in c.args.points.now T) (Flip c.args.from c.args.to ∷ c.args.rest.now) in
    subst P c.reserve_ends.ensures.sights
    (rest_fit c.args.points.now (Flip c.args.from c.args.to) c.args.rest.now (Flip c.args.from c.args.to ∷ c.args.rest.now) c.reserve_ends.new.region c.make.new.region c.try_edits-fit.result refl
    (same_looked c.args.region.now c.reserve_ends.new.region (Flip c.args.from c.args.to ∷ c.args.rest.now) c.reserve_ends.ensures.sights c.requires.looked)
    (same_fits c.args.points.now c.args.region.now c.reserve_ends.new.region (Flip c.args.from c.args.to) c.reserve_ends.ensures.sights (c.if-not-does_fit.ensures.0 refl)) c.make.ensures c.try_edits-fit.ensures.fit)

pub returns-clause-before : goal.returns-clause-before
returns-clause-before c = record {
  told = flip_undone c.args.points.now c.args.from c.args.to c.args.rest.now c.reserve_ends.new.region c.make.new.region c.try_edits-fit.new.region c.make-2.new.region c.len-count.ensures.accepted
      (same_held c.args.points.now c.args.region.now c.reserve_ends.new.region c.reserve_ends.ensures.sights (c.reserve_ends.ensures.points c.args.points.now c.requires.held.points) c.requires.held)
      (same_agree c.args.points.now c.args.region.now c.reserve_ends.new.region c.reserve_ends.ensures.sights c.requires.agree)
      (same_looked c.args.region.now c.reserve_ends.new.region (Flip c.args.from c.args.to ∷ c.args.rest.now) c.reserve_ends.ensures.sights c.requires.looked)
      (same_fits c.args.points.now c.args.region.now c.reserve_ends.new.region (Flip c.args.from c.args.to) c.reserve_ends.ensures.sights (c.if-not-does_fit.ensures.0 refl)) c.make.ensures c.try_edits-fit.ensures.back
      (subst (λ (x : Edit). HasMade c.args.points.now x c.try_edits-fit.new.region c.make-2.new.region) c.inverse.ensures c.make-2.ensures)
      ∙ c.reserve_ends.ensures.sights;
  points = c.make-2.ensures.held.points;
}
