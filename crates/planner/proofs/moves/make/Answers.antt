use Rattle.std.proofs.Common.{◌≡◌, ℕ, true, sym, subst}
use Rattle.std.proofs.lemmas.Bool.{or_left, or_right, false_from_ne_true}
use Rattle.journal_defs.specs.declared.edit.Edit.{Edit}
use Rattle.journal_defs.specs.Edits.{is_end, touches}
use Rattle.planner.specs.Steps.{HaveStepped, IsReady}
use Rattle.planner.proofs.Stepping.{both_stepped, made_of, still_ready}
use Rattle.planner.proofs.moves.make.Goals as goal

pub step_ends-requires-in-Flip-2-clause-ready : goal.step_ends-requires-in-Flip-2-clause-ready
step_ends-requires-in-Flip-2-clause-ready c = λ v is.
    (let touched : touches c.args.edit.now v ≡ true = subst (λ (x : Edit). touches x v ≡ true) (sym c.in-Flip.is) (or_right (is_end c.in-Flip.from v) (is_end c.in-Flip.to v) is) in
    let ready = c.requires.ready v touched in
    let turned = subst (λ (x : Edit). IsReady c.args.points.now x c.args.region.now v) c.in-Flip.is ready in
    still_ready _ _ (is_end c.in-Flip.from) _ _ v c.step_ends-in-Flip.ensures (false_from_ne_true (is_end c.in-Flip.from v) (λ a. turned.can.apart a is)) ready)

pub returns-in-Drop : goal.returns-in-Drop
returns-in-Drop c = made_of _ _ _ _ (subst (λ (x : Edit). HaveStepped c.args.points.now c.args.edit.now (touches x) c.args.region.now c.step_ends.new.region) (sym c.in-Drop.is) c.step_ends.ensures)

pub returns-in-Keep : goal.returns-in-Keep
returns-in-Keep c = made_of _ _ _ _ (subst (λ (x : Edit). HaveStepped c.args.points.now c.args.edit.now (touches x) c.args.region.now c.step_ends-in-Keep.new.region) (sym c.in-Keep.is) c.step_ends-in-Keep.ensures)

pub returns-in-Flip : goal.returns-in-Flip
returns-in-Flip c =
    let apart : (v : ℕ) → is_end c.in-Flip.from v ≡ true → is_end c.in-Flip.to v ≡ true → ⊥ = λ v a b.
    (let turned = subst (λ (x : Edit). (w : ℕ) → touches x w ≡ true → IsReady c.args.points.now x c.args.region.now w) c.in-Flip.is c.requires.ready in
    (turned v (or_left (is_end c.in-Flip.from v) (is_end c.in-Flip.to v) a)).can.apart a b) in
    made_of _ _ _ _ (subst (λ (x : Edit). HaveStepped c.args.points.now c.args.edit.now (touches x) c.args.region.now c.step_ends-in-Flip-2.new.region) (sym c.in-Flip.is)
    (both_stepped _ _ (is_end c.in-Flip.from) (is_end c.in-Flip.to) _ _ _ apart c.step_ends-in-Flip.ensures c.step_ends-in-Flip-2.ensures))
