-- What a trial at p leaves as it was: the loads of pairs that don't end at p, and rows that count a full one of them.
use Rattle.std.proofs.Common.{◌≡◌, ◌≢◌, ℕ, inl, inr, List, [], ◌∷◌, true, false, cond, sym, ◌∙◌, refl, arith}
use Rattle.std.specs.Prelude.{nat_eq}
use Rattle.std.proofs.lemmas.Int.{ints}
use Rattle.std.proofs.lemmas.Bool.{eqb-true}
use Rattle.std.proofs.lemmas.List.Sums.{sum_by-cons}
use Rattle.plane.specs.declared.coordinates.Point.{Point}
use Rattle.price_defs.specs.declared.row.Row.{Row}
use Rattle.price_defs.specs.declared.row.Row.TheVariants.{Half, Three, Cross, Cap}
use Rattle.price_defs.specs.Rows.{Counts}
use Rattle.price_defs.specs.Loads.{given, gives, load}
use Rattle.price_defs.specs.Rows.{is_at}
use Rattle.search_defs.specs.Priced.{lowered}
use Rattle.price_defs.specs.Raising.{reweigh}
use Rattle.price_defs.proofs.laws.Counted.{given_no}
use Rattle.search_defs.proofs.laws.Trials.{lowered_takes}

half_not : (S : List Point) (p u r w i j : ℕ) → i ≢ p → j ≢ p → u ≡ p → ¬ Counts S (Half u r w) i j
half_not S p u r w i j ni nj e (inl h) = ni (h.0 ∙ e)
half_not S p u r w i j ni nj e (inr h) = nj (h.0 ∙ e)

three_not : (S : List Point) (p u w i j : ℕ) → i ≢ p → j ≢ p → u ≡ p → ¬ Counts S (Three u w) i j
three_not S p u w i j ni nj e (inl h) = ni (h ∙ e)
three_not S p u w i j ni nj e (inr h) = nj (h ∙ e)

low_elsewhere : (S : List Point) (p i j : ℕ) (row : Row) → i ≢ p → j ≢ p → given S i j (cond (is_at p row) (reweigh row 0) row) ≡ given S i j row
low_elsewhere S p i j (Half u r w) ni nj =
    elim (nat_eq u p) as (λ t. nat_eq u p ≡ t → given S i j (cond t (Half u r 0) (Half u r w)) ≡ given S i j (Half u r w)) [
      | true ↦ λ e. given_no S (Half u r 0) i j (half_not S p u r 0 i j ni nj (eqb-true u p e)) ∙ sym (given_no S (Half u r w) i j (half_not S p u r w i j ni nj (eqb-true u p e)))
      | false ↦ λ e. refl
    ] refl
low_elsewhere S p i j (Three u w) ni nj =
    elim (nat_eq u p) as (λ t. nat_eq u p ≡ t → given S i j (cond t (Three u 0) (Three u w)) ≡ given S i j (Three u w)) [
      | true ↦ λ e. given_no S (Three u 0) i j (three_not S p u 0 i j ni nj (eqb-true u p e)) ∙ sym (given_no S (Three u w) i j (three_not S p u w i j ni nj (eqb-true u p e)))
      | false ↦ λ e. refl
    ] refl
low_elsewhere S p i j (Cross e f w) ni nj = refl
low_elsewhere S p i j (Cap e w) ni nj = refl

gives_elsewhere : (S : List Point) (p i j : ℕ) (rows : List Row) → i ≢ p → j ≢ p → gives S (lowered p rows) i j ≡ gives S rows i j
gives_elsewhere S p i j [] ni nj = refl
gives_elsewhere S p i j (row ∷ rows) ni nj =
    omega (
      arith,
      sum_by-cons (given S i j) (cond (is_at p row) (reweigh row 0) row) (lowered p rows),
      sum_by-cons (given S i j) row rows,
      low_elsewhere S p i j row ni nj,
      gives_elsewhere S p i j rows ni nj,
    )

-- Lowering the rows at p changes no load of a pair that doesn't end at p.
pub lowered_elsewhere : (S : List Point) (p i j : ℕ) (rows : List Row) → i ≢ p → j ≢ p → load S (lowered p rows) i j ≡ load S rows i j
lowered_elsewhere S p i j rows ni nj = omega (arith, ints, gives_elsewhere S p i j rows ni nj, lowered_takes p i j rows)
