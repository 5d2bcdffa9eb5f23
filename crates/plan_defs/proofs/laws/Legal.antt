-- The first edit that isn't legal in its turn shows that not all are.
use Rattle.std.proofs.Common.{◌≡◌, ℕ, zero, suc, ◌<◌, List, [], ◌∷◌, length, take, get_or, arith, subst}
use Rattle.plane.specs.declared.coordinates.Point.{Point}
use Rattle.journal_defs.specs.declared.edit.Edit.{Edit}
use Rattle.journal_defs.specs.Edits.{State, after, IsLegal}
use Rattle.journal_defs.specs.Journal.{after_all, AreLegal, IsFirstIllegal}

legal_at : (S : List Point) (es : List Edit) (s : State) (k : ℕ) (e : Edit) → AreLegal S s es → k < length es → get_or es k e ≡ e → IsLegal S (after_all (take k es) s) e
legal_at S [] s k e legal h at = absurd (omega (arith, h))
legal_at S (f ∷ es) s zero e legal h at = subst (λ (x : Edit). IsLegal S s x) at legal.0
legal_at S (f ∷ es) s (suc k) e legal h at = legal_at S es (after f s) k e legal.1 (omega (arith, h)) at

pub not_all_legal : (S : List Point) (s : State) (es : List Edit) (k : ℕ) → IsFirstIllegal S s es k → AreLegal S s es → ⊥
not_all_legal S s es k first legal = first.illegal (legal_at S es s k first.edit legal first.within first.at)
