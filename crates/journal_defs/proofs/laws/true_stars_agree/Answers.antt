use Rattle.std.proofs.Common.{ℕ, ◌<◌, ◌≡◌, ◌⊎◌, inl, inr, length, sym, subst}
use Rattle.journal_defs.proofs.laws.Table.{IsTrueAt, stars_agree}
use Rattle.journal_defs.proofs.laws.true_stars_agree.Goals as goal

pub returns : goal.returns
returns c = λ s at v w so hv hw a b.
    (let P : ℕ → Type 0 = λ u. u < length c.args._points.now in
    let Q : ℕ → Type 0 = λ u. IsTrueAt c.args._points.now s at u in
    stars_agree c.args._points.now s at (λ u. (u ≡ v) ⊎ (u ≡ w)) so
    (λ u h. elim h [ inl e ↦ subst P (sym e) hv | inr e ↦ subst P (sym e) hw ])
    (λ u h. elim h [ inl e ↦ subst Q (sym e) a | inr e ↦ subst Q (sym e) b ]))
