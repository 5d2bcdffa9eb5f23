-- A call of the planner has one answer.
use Rattle.std.proofs.Common.{◌≡◌, ℕ, zero, suc, ◌+◌, ◌<◌, Bool, true, false, ◌||◌, nat_eq, List, [], ◌∷◌, length, get_or, ◌⊎◌, inl, inr, arith, sym, ◌∙◌, ap, subst, refl, Some, None, Option}
use Rattle.std.specs.List.{All}
use Rattle.std.proofs.lemmas.Bool.{false≢true, cases_Bool, cond_both, or_left, or_right}
use Rattle.std.proofs.lemmas.Bool.Decides.{Decides-eqb}
use Rattle.plane.specs.declared.coordinates.Point.{Point}
use Rattle.plane.specs.declared.segment.Pair.{Pair}
use Rattle.partition_defs.specs.Partition.{HasEnds}
use Rattle.partition_defs.proofs.laws.Joined.{one_pair}
use Rattle.star.specs.Stars.{Seen, IsStar}
use Rattle.star.proofs.laws.Marks.{one_next}
use Rattle.cost_defs.specs.Costs.{Costed}
use Rattle.journal_defs.specs.declared.edit.Edit.{Edit}
use Rattle.journal_defs.specs.declared.edit.Edit.TheVariants.{Keep, Flip}
use Rattle.journal_defs.specs.declared.edit.Claim.{Claim}
use Rattle.journal_defs.specs.Edits.{touches, is_end}
use Rattle.journal_defs.specs.Agree.{AreAgreeing}
use Rattle.journal_defs.proofs.laws.Members.{is_end_lo, is_end_hi}
use Rattle.edit.specs.Plans.{Planned, IsPlan, RisesBelow, is_claimed, are_touching}
use Rattle.plan_defs.specs.declared.moves.Move.{Move}
use Rattle.plan_defs.specs.declared.moves.Move.TheVariants.{DropOne, Swap, Trade, FlipOne, FlipSwap}
use Rattle.plan_defs.specs.Plans.{Sight, has_look, look_at, star_in, HasEdits, IsAcross, IsRightClaim, IsPlanOf, IsFound, IsPlanned, AreFitting, drops_of}

-- v is claimed, by recursion
abbrev pub Claims : ℕ → List Claim → Type 0
Claims v [] = ⊥
Claims v (c ∷ cs) = (c.vertex ≡ v) ⊎ Claims v cs

claims_of : (cs : List Claim) (v : ℕ) → is_claimed cs v ≡ true → Claims v cs
claims_of [] v h = absurd (false≢true h)
claims_of (c ∷ cs) v h =
    elim (cases_Bool (nat_eq c.vertex v)) [
      | inl t ↦ inl ((Decides-eqb c.vertex v).0 t)
      | inr f ↦ inr (claims_of cs v (subst (λ (b : Bool). (b || is_claimed cs v) ≡ true) f h))
    ]

-- ascending, by recursion
abbrev pub Rises : List Claim → Type 0
Rises [] = Unit {0}
Rises (c ∷ cs) = ((v : ℕ) → Claims v cs → c.vertex < v) × Rises cs

rises_of : (cs : List Claim) → RisesBelow cs (length cs) → Rises cs
rises_of [] up = tt
rises_of (c ∷ []) up = (λ v h. absurd h, tt)
rises_of (c ∷ d ∷ cs) up =
    let rest : Rises (d ∷ cs) = rises_of (d ∷ cs) (λ k x h. (let on : suc k + 1 ≡ suc (k + 1) = omega arith in
    subst (λ (n : ℕ). (get_or (d ∷ cs) k x).vertex < (get_or (c ∷ d ∷ cs) n x).vertex) on (up (suc k) x (omega (arith, h))))) in
    let first : c.vertex < d.vertex = up 0 c (omega arith) in (
      λ v h. elim h [ inl same ↦ subst (λ (z : ℕ). c.vertex < z) same first | inr k ↦ (let later = rest.0 v k in omega (arith, first, later)) ],
      rest,
    )

-- each claim is right, by recursion
abbrev pub AreRight : List Sight → List Edit → List Claim → Type 0
AreRight R es [] = Unit {0}
AreRight R es (c ∷ cs) = IsRightClaim R es c.vertex c.stamp × AreRight R es cs

right_of : (R : List Sight) (es : List Edit) (cs : List Claim) → All (λ c. IsRightClaim R es c.vertex c.stamp) cs → AreRight R es cs
right_of R es [] h = tt
right_of R es (c ∷ cs) h = (h 0 c (omega arith), right_of R es cs (λ k d l. h (suc k) d (omega (arith, l))))

claimed_touched : (R : List Sight) (es : List Edit) (cs : List Claim) (v : ℕ) → AreRight R es cs → Claims v cs → are_touching es v ≡ true
claimed_touched R es [] v right h = absurd h
claimed_touched R es (c ∷ cs) v right (inl h) = subst (λ (z : ℕ). are_touching es z ≡ true) h right.0.0
claimed_touched R es (c ∷ cs) v right (inr h) = claimed_touched R es cs v right.1 h

one_claim : (R : List Sight) (es : List Edit) (c d : Claim) → c.vertex ≡ d.vertex → IsRightClaim R es c.vertex c.stamp → IsRightClaim R es d.vertex d.stamp → c ≡ d
one_claim R es c d same a b =
    let stamps : c.stamp ≡ d.stamp = a.1 ∙ ap (λ (v : ℕ). (look_at R v).stamp) same ∙ sym b.1 in
    let P : ℕ → Claim = λ v. record { vertex = v; stamp = c.stamp } in
    let Q : ℕ → Claim = λ s. record { vertex = d.vertex; stamp = s } in
    ap P same ∙ ap Q stamps

-- ascending lists of right claims of the same vertices are equal
one_claims : (R : List Sight) (es : List Edit) (xs ys : List Claim) → Rises xs → Rises ys → AreRight R es xs → AreRight R es ys → ((v : ℕ) → Claims v xs → Claims v ys) → ((v : ℕ) → Claims v ys → Claims v xs) → xs ≡ ys
one_claims R es [] [] r s p q a b = refl
one_claims R es [] (y ∷ ys) r s p q a b = absurd (b y.vertex (inl refl))
one_claims R es (x ∷ xs) [] r s p q a b = absurd (a x.vertex (inl refl))
one_claims R es (x ∷ xs) (y ∷ ys) r s p q a b =
    let heads : x.vertex ≡ y.vertex = first (a x.vertex (inl refl)) (b y.vertex (inl refl)) in
    let rest : xs ≡ ys = one_claims R es xs ys r.1 s.1 p.1 q.1 (λ v h. later x y xs ys r heads v h (a v (inr h))) (λ v h. later y x ys xs s (sym heads) v h (b v (inr h))) in
    ap (λ (z : Claim). z ∷ xs) (one_claim R es x y heads p.0 q.0) ∙ ap (λ (zs : List Claim). y ∷ zs) rest
  where
    first : (y.vertex ≡ x.vertex) ⊎ Claims x.vertex ys → (x.vertex ≡ y.vertex) ⊎ Claims y.vertex xs → x.vertex ≡ y.vertex
    first (inl h) k = sym h
    first (inr h) (inl k) = k
    first (inr h) (inr k) = absurd (let one = r.0 y.vertex k in let two = s.0 x.vertex h in omega (arith, one, two))

    later : (x y : Claim) (xs ys : List Claim) → Rises (x ∷ xs) → x.vertex ≡ y.vertex → (v : ℕ) → Claims v xs → (y.vertex ≡ v) ⊎ Claims v ys → Claims v ys
    later x y xs ys r same v h (inl k) = absurd (let o = r.0 v h in omega (arith, same, k, o))
    later x y xs ys r same v h (inr k) = k

one_plan : (R : List Sight) (es : List Edit) (p q : Planned) → IsPlanOf R es p → IsPlanOf R es q → p ≡ q
one_plan R es p q a b =
    let rp = right_of R es p.claims a.claimed in
    let rq = right_of R es q.claims b.claimed in
    let claims : p.claims ≡ q.claims = one_claims R es p.claims q.claims (rises_of p.claims a.covered.rising) (rises_of q.claims b.covered.rising) rp rq
    (λ v h. claims_of q.claims v (b.covered.covered v (subst (λ (x : List Edit). are_touching x v ≡ true) (sym b.edits) (claimed_touched R es p.claims v rp h))))
    (λ v h. claims_of p.claims v (a.covered.covered v (subst (λ (x : List Edit). are_touching x v ≡ true) (sym a.edits) (claimed_touched R es q.claims v rq h)))) in
    let P : List Edit → Planned = λ x. record { edits = x; claims = p.claims } in
    let Q : List Claim → Planned = λ x. record { edits = q.edits; claims = x } in
    ap P (a.edits ∙ sym b.edits) ∙ ap Q claims

-- the pair of the apexes is one, by the stars of the ends
pub one_across : (S : List Point) (at : ℕ → Seen) (e f g : Pair) → IsStar (at e.lo) → IsStar (at e.hi) → IsAcross S at e f → IsAcross S at e g → f ≡ g
one_across S at e f g lo hi (k, l, a) (m, n, b) =
    let near : k ≡ m = one_next (at e.lo) e.hi k m lo a.near.0 b.near.0 in
    let far : l ≡ n = one_next (at e.hi) e.lo l n hi a.far.0 b.far.0 in
    one_pair f g m n (subst (λ (x : ℕ). HasEnds f m x) far (subst (λ (x : ℕ). HasEnds f x l) near a.ends)) b.ends

-- the ends of the pair of a flip that was looked at are looked at
pub lo_looked : (R : List Sight) (e f : Pair) (es : List Edit) → ((v : ℕ) → are_touching (Flip e f ∷ es) v ≡ true → has_look R v ≡ true) → has_look R e.lo ≡ true
lo_looked R e f es h = h e.lo (or_left (is_end e e.lo || is_end f e.lo) (are_touching es e.lo) (or_left (is_end e e.lo) (is_end f e.lo) (is_end_lo e)))

pub hi_looked : (R : List Sight) (e f : Pair) (es : List Edit) → ((v : ℕ) → are_touching (Flip e f ∷ es) v ≡ true → has_look R v ≡ true) → has_look R e.hi ≡ true
hi_looked R e f es h = h e.hi (or_left (is_end e e.hi || is_end f e.hi) (are_touching es e.hi) (or_left (is_end e e.hi) (is_end f e.hi) (is_end_hi e)))

-- a move has one list of edits that fits
one_edits : (S : List Point) (D : List Costed) (R : List Sight) (m : Move) (es fs : List Edit) → ((v : ℕ) → has_look R v ≡ true → IsStar (star_in S R v))
    → HasEdits S (star_in S R) m es → AreFitting S D R es → HasEdits S (star_in S R) m fs → es ≡ fs
one_edits S D R (DropOne e) es fs star a fit b = a ∙ sym b
one_edits S D R (Swap e first second) es fs star a fit b = a ∙ sym b
one_edits S D R (Trade e f first second) es fs star a fit b = a ∙ sym b
one_edits S D R (FlipOne e) es fs star (f, x, a) fit (g, y, b) =
    let looked : (v : ℕ) → are_touching (Flip e f ∷ []) v ≡ true → has_look R v ≡ true = λ v h. fit.looked v (subst (λ (z : List Edit). are_touching z v ≡ true) (sym a) h) in
    a ∙ ap (λ (z : Pair). Flip e z ∷ []) (one_across S (star_in S R) e f g (star e.lo (lo_looked R e f [] looked)) (star e.hi (hi_looked R e f [] looked)) x y) ∙ sym b
one_edits S D R (FlipSwap e first second) es fs star (f, x, a) fit (g, y, b) =
    let rest = Keep f ∷ drops_of first second in
    let looked : (v : ℕ) → are_touching (Flip e f ∷ rest) v ≡ true → has_look R v ≡ true = λ v h. fit.looked v (subst (λ (z : List Edit). are_touching z v ≡ true) (sym a) h) in
    a ∙ ap (λ (z : Pair). Flip e z ∷ Keep z ∷ drops_of first second) (one_across S (star_in S R) e f g (star e.lo (lo_looked R e f rest looked)) (star e.hi (hi_looked R e f rest looked)) x y) ∙ sym b

-- so a call has one answer
pub one_answer : (S : List Point) (D : List Costed) (R : List Sight) (m : Move) (o u : Option Planned) → ((v : ℕ) → has_look R v ≡ true → IsStar (star_in S R v)) → IsPlanned S D R m o → IsPlanned S D R m u → o ≡ u
one_answer S D R m None None star a b = refl
one_answer S D R m None (Some q) star a (es, found, is) = absurd (a es found.0 found.1)
one_answer S D R m (Some p) None star (es, found, is) b = absurd (b es found.0 found.1)
one_answer S D R m (Some p) (Some q) star (es, found, is) (fs, found', is') =
    ap (λ (x : Planned). Some x) (one_plan R es p q is (subst (λ (x : List Edit). IsPlanOf R x q) (sym (one_edits S D R m es fs star found.0 found.1 found'.0)) is'))
