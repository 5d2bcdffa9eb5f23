-- The ends of a list, copied pair by pair.
use Rattle.std.proofs.Common.{◌≡◌, ◌≢◌, ◌<◌, ◌≤◌, ◌+◌, ◌*◌, ℕ, zero, suc, List, [], ◌∷◌, length, slice_index_or, get_or, set, sym, ◌∙◌, ap, subst, refl, inl, inr, arith, get_or-set_other, get_or-set_same, below_more, ◌⊎◌}
use Rattle.std.specs.List.{Contains}
use Rattle.std.proofs.lemmas.List.{get_or_default, length-set}
use Rattle.plane.specs.declared.segment.Pair.{Pair}
use Rattle.partition_defs.specs.Partition.{Joins}
use Rattle.triangulation_check.specs.declared.ends.End.{End}
use Rattle.triangulation_check.specs.Ends.{HasEndsOf}

-- the end at a position
abbrev pub end_at : List End → ℕ → End
end_at Z i = slice_index_or Z i (record { at = 0; to = 0 })

abbrev pub IsEnd : End → (p q : ℕ) → Type 0
IsEnd z p q = (z.at ≡ p) × (z.to ≡ q)

-- the first k pairs have their ends at the positions 2k and 2k + 1
abbrev pub AreCopied : List Pair → List End → ℕ → Type 0
AreCopied K Z k = (i : ℕ) → i < k → (e : Pair) → slice_index_or K i e ≡ e → IsEnd (end_at Z (2 * i)) e.lo e.hi × IsEnd (end_at Z (2 * i + 1)) e.hi e.lo

-- one more pair
pub two_more : (K : List Pair) (Z : List End) (k : ℕ) (e : Pair) (y z : End) → 2 * k + 1 < length Z → k < length K → e ≡ get_or K k e → IsEnd y e.lo e.hi → IsEnd z e.hi e.lo
    → AreCopied K Z k → AreCopied K (set (set Z (2 * k) y) (2 * k + 1) z) (k + 1)
two_more K Z k e y z room hk is hy hz before = below_more (λ i. (f : Pair) → slice_index_or K i f ≡ f → IsEnd (end_at W (2 * i)) f.lo f.hi × IsEnd (end_at W (2 * i + 1)) f.hi f.lo) k old new
  where
    W : List End
    W = set (set Z (2 * k) y) (2 * k + 1) z

    other : (j : ℕ) → j ≢ 2 * k → j ≢ 2 * k + 1 → end_at (set (set Z (2 * k) y) (2 * k + 1) z) j ≡ end_at Z j
    other j a b = get_or-set_other (set Z (2 * k) y) (2 * k + 1) j z _ b ∙ get_or-set_other Z (2 * k) j y _ a

    old : (i : ℕ) → i < k → (f : Pair) → slice_index_or K i f ≡ f → IsEnd (end_at W (2 * i)) f.lo f.hi × IsEnd (end_at W (2 * i + 1)) f.hi f.lo
    old i l f at =
        let (a, b) = before i l f at in (
          subst (λ (x : End). IsEnd x f.lo f.hi) (sym (other (2 * i) (omega arith) (omega arith))) a,
          subst (λ (x : End). IsEnd x f.hi f.lo) (sym (other (2 * i + 1) (omega arith) (omega arith))) b,
        )

    new : (f : Pair) → slice_index_or K k f ≡ f → IsEnd (end_at W (2 * k)) f.lo f.hi × IsEnd (end_at W (2 * k + 1)) f.hi f.lo
    new f at =
        let same : e ≡ f = is ∙ get_or_default K k e f hk ∙ at in
        let first : end_at W (2 * k) ≡ y = get_or-set_other (set Z (2 * k) y) (2 * k + 1) (2 * k) z _ (omega arith) ∙ get_or-set_same Z (2 * k) y _ (omega arith) in
        let second : end_at W (2 * k + 1) ≡ z = get_or-set_same (set Z (2 * k) y) (2 * k + 1) z _ (let n = length-set Z (2 * k) y in omega arith) in (
          subst (λ (x : End). IsEnd x f.lo f.hi) (sym first) (subst (λ (g : Pair). IsEnd y g.lo g.hi) same hy),
          subst (λ (x : End). IsEnd x f.hi f.lo) (sym second) (subst (λ (g : Pair). IsEnd z g.hi g.lo) same hz),
        )

half_of : (n : ℕ) → ((k : ℕ) × (n ≡ 2 * k)) ⊎ ((k : ℕ) × (n ≡ 2 * k + 1))
half_of zero = inl (0, refl)
half_of (suc n) = elim (half_of n) [ inl h ↦ inr (h.0, (let e = h.1 in omega arith)) | inr h ↦ inl (h.0 + 1, (let e = h.1 in omega arith)) ]

pair_at : (K : List Pair) (k : ℕ) → k < length K → (e : Pair) × (slice_index_or K k e ≡ e)
pair_at [] k h = absurd (omega arith)
pair_at (x ∷ xs) zero h = (x, refl)
pair_at (x ∷ xs) (suc k) h = pair_at xs k (omega arith)

pub copied_to : (K : List Pair) (Z : List End) (k : ℕ) → length K ≤ k → AreCopied K Z k → AreCopied K Z (length K)
copied_to K Z k h all i l = all i (omega arith)

end_same : (z w : End) → z.at ≡ w.at → z.to ≡ w.to → z ≡ w
end_same z w a b = ap (λ (x : ℕ). let e : End = record { at = x; to = z.to } in e) a ∙ ap (λ (x : ℕ). let e : End = record { at = w.at; to = x } in e) b

-- all pairs
pub all_copied : (K : List Pair) (Z : List End) → length Z ≡ 2 * length K → AreCopied K Z (length K) → HasEndsOf K Z
all_copied K Z room all = record { sound = sound; whole = whole }
  where
    sound : (z : End) → Contains Z z → Joins K z.at z.to
    sound z (n, hn, at) = elim (half_of n) [
      | inl h ↦ (let (k, twice) = h in let hk : k < length K = omega arith in let (e, is) = pair_at K k hk in
          let (a, b) = (all k hk e is).0 in
          let same : end_at Z (2 * k) ≡ z = ap (λ i. end_at Z i) (sym twice) ∙ get_or_default Z n _ z hn ∙ at in
          (k, e, hk, is, inl (sym a ∙ ap (λ (w : End). w.at) same, sym b ∙ ap (λ (w : End). w.to) same)))
      | inr h ↦ (let (k, twice) = h in let hk : k < length K = omega arith in let (e, is) = pair_at K k hk in
          let (a, b) = (all k hk e is).1 in
          let same : end_at Z (2 * k + 1) ≡ z = ap (λ i. end_at Z i) (sym twice) ∙ get_or_default Z n _ z hn ∙ at in
          (k, e, hk, is, inr (sym b ∙ ap (λ (w : End). w.to) same, sym a ∙ ap (λ (w : End). w.at) same)))
    ]

    whole : (p q : ℕ) → Joins K p q → Contains Z (record { at = p; to = q })
    whole p q (k, e, hk, at, inl h) = let (a, b) = (all k hk e at).0 in
        (2 * k, omega arith, get_or_default Z (2 * k) _ _ (omega arith) ∙ end_same (end_at Z (2 * k)) (record { at = p; to = q }) (a ∙ h.0) (b ∙ h.1))
    whole p q (k, e, hk, at, inr h) = let (a, b) = (all k hk e at).1 in
        (2 * k + 1, omega arith, get_or_default Z (2 * k + 1) _ _ (omega arith) ∙ end_same (end_at Z (2 * k + 1)) (record { at = p; to = q }) (a ∙ h.1) (b ∙ h.0))
