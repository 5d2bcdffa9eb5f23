-- Marks that the border takes away.
use Rattle.std.proofs.Common.{◌≡◌, ℕ, zero, suc, ◌+◌, ◌<◌, List, length, Bool, false, IsTrue, set, inl, inr, arith, sym, ◌∙◌, ap, subst}
use Rattle.std.proofs.lemmas.Bool.{false≢true}
use Rattle.std.proofs.lemmas.List.{get_or_default, get_or-set_same, get_or-set_other, length-set}
use Rattle.number_laws.proofs.Naturals.{below_or_last, equal_or_not}
use Rattle.plane.specs.declared.coordinates.Point.{Point}
use Rattle.border.specs.Cycle.{at, after, IsBorderCycle}
use Rattle.border.specs.Chain.{ArePlaces}
use Rattle.border.specs.Inner.{mark, AreInnerMarks}
use Rattle.border.specs.Marks.{AreOthers}

pub others_begin : (B : List ℕ) (M : List Bool) → ((v : ℕ) → v < length M → IsTrue (mark M v)) → AreOthers B 0 M
others_begin B M all v h = (λ t j l. absurd (omega arith), λ f. all v h)

pub others_more : (B : List ℕ) (n w : ℕ) (M N : List Bool) → w < length M → N ≡ set M w false → at B n ≡ w → AreOthers B n M → AreOthers B (n + 1) N
others_more B n w M N hw is here so v h =
    let len : length N ≡ length M = ap length is ∙ length-set M w false in
    elim (equal_or_not v w) [
      | inl e ↦ (
        λ t. absurd (false≢true (sym (ap (λ xs. mark xs v) is ∙ ap (mark (set M w false)) e ∙ get_or-set_same M w false false hw) ∙ t)),
        λ f. absurd (f n (omega arith) (here ∙ sym e)),
      )
      | inr ne ↦
          (let same : mark N v ≡ mark M v = ap (λ xs. mark xs v) is ∙ get_or-set_other M w v false false ne in
          let old = so v (omega arith) in (
            λ t j l. elim (below_or_last j n l) [
              | inl b ↦ old.0 (sym same ∙ t) j b
              | inr e ↦ (λ q. ne (sym q ∙ ap (at B) e ∙ here))
            ],
            λ f. same ∙ old.1 (λ j l. f j (omega arith)),
          ))
    ]

-- the numbers of a border are points
pub border_within : (S : List Point) (B : List ℕ) → IsBorderCycle S B → ArePlaces (length S) B
border_within S B cycle zero h = cycle.first.0
border_within S B cycle (suc i) h =
    let e : after (length B) i ≡ suc i = grind arith in
    subst (λ j. at B j < length S) e ((cycle.steps i (omega arith)).within)

pub marks_of : (S : List Point) (B : List ℕ) (M : List Bool) → IsBorderCycle S B → length M ≡ length S → AreOthers B (length B) M → AreInnerMarks S M
marks_of S B M cycle len others = record {
  count = len;
  each = λ v h. (let on = cycle.members v h in let so = others v (omega arith) in (
    λ t. (λ w hw ne pair. (let (k, hk, e) = on.1 (λ inner. inner w hw ne pair) in so.0 t k hk (get_or_default B k 0 v hk ∙ e))),
    λ inner. so.1 (λ j l e. on.0 (j, l, get_or_default B j v 0 l ∙ e) inner),
  ));
}
