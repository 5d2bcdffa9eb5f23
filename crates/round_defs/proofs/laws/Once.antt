-- Rounds are determined: each candidate has one answer, each round one end.
use Rattle.std.proofs.Common.{◌≡◌, ℕ, ◌<◌, ◌%◌, true, List, [], ◌∷◌, length, take, inl, inr, arith, sym, ◌∙◌, ap, subst, Some, None, Option}
use Rattle.plane.specs.declared.coordinates.Point.{Point}
use Rattle.plane.specs.declared.segment.Pair.{Pair}
use Rattle.plane.specs.Accepted.{AreAccepted}
use Rattle.partition_defs.specs.Ascending.{IsAscending}
use Rattle.partition_defs.specs.Triangulation.{IsTriangulation}
use Rattle.star.specs.Stars.{IsStar}
use Rattle.cost_defs.specs.Costs.{Costed}
use Rattle.journal_defs.specs.declared.edit.Edit.{Edit}
use Rattle.journal_defs.specs.declared.edit.Edit.TheVariants.{Keep, Flip}
use Rattle.journal_defs.specs.declared.commit.Commit.{Commit}
use Rattle.journal_defs.specs.Edits.{IsSound}
use Rattle.journal_defs.specs.Journal.{replay, IsLegalJournal}
use Rattle.journal_defs.specs.Neighbours.{star_list}
use Rattle.journal_defs.proofs.laws.Start.{sound_legal}
use Rattle.edit.specs.Plans.{are_touching}
use Rattle.plan_defs.specs.declared.moves.Move.{Move}
use Rattle.plan_defs.specs.declared.moves.Move.TheVariants.{DropOne, Swap, Trade, FlipOne, FlipSwap}
use Rattle.plan_defs.specs.Plans.{Sight, has_look, star_in, IsAcross, IsFound, drops_of}
use Rattle.plan_defs.proofs.laws.Once.{one_across, lo_looked, hi_looked}
use Rattle.plan_defs.proofs.laws.Showing.{shown_agree}
use Rattle.round_defs.specs.Candidates.{kinds}
use Rattle.round_defs.specs.Rounds.{looks, IsFirst, AreFirsts, ArePlans, IsHanded, AreHanded, IsRound, AreRounds}
use Rattle.round_defs.proofs.laws.Looks.{looks_show}
use Rattle.round_defs.proofs.laws.Grown.{round_grown}

-- the stars of the looks are stars
abbrev pub AreStars : List Point → List Sight → Type 0
AreStars S R = (v : ℕ) → has_look R v ≡ true → IsStar (star_in S R v)

some_none : (S : List Point) (D : List Costed) (R : List Sight) (m : Move) (es : List Edit) → IsFound S D R m (Some es) → IsFound S D R m None → ⊥
some_none S D R m es (has, fits) none = none es has fits

-- a flip that fits, with whatever follows it, goes to one pair
one_flip : (S : List Point) (R : List Sight) (e f g : Pair) (more : List Edit) → AreStars S R → ((v : ℕ) → are_touching (Flip e f ∷ more) v ≡ true → has_look R v ≡ true)
    → IsAcross S (star_in S R) e f → IsAcross S (star_in S R) e g → f ≡ g
one_flip S R e f g more star looked a b =
    one_across S (star_in S R) e f g (star e.lo (lo_looked R e f more looked)) (star e.hi (hi_looked R e f more looked)) a b

-- the edits of a move that fit the region are one list
some_some : (S : List Point) (D : List Costed) (R : List Sight) (m : Move) (es fs : List Edit) → AreStars S R → IsFound S D R m (Some es) → IsFound S D R m (Some fs) → es ≡ fs
some_some S D R (DropOne e) es fs star a b = a.0 ∙ sym b.0
some_some S D R (Swap e first second) es fs star a b = a.0 ∙ sym b.0
some_some S D R (Trade e f first second) es fs star a b = a.0 ∙ sym b.0
some_some S D R (FlipOne e) es fs star ((f, x, p), fit) ((g, y, q), other) =
    let looked : (v : ℕ) → are_touching (Flip e f ∷ []) v ≡ true → has_look R v ≡ true = λ v h. fit.looked v (subst (λ (z : List Edit). are_touching z v ≡ true) (sym p) h) in
    p ∙ ap (λ (z : Pair). Flip e z ∷ []) (one_flip S R e f g [] star looked x y) ∙ sym q
some_some S D R (FlipSwap e first second) es fs star ((f, x, p), fit) ((g, y, q), other) =
    let looked : (v : ℕ) → are_touching (Flip e f ∷ Keep f ∷ drops_of first second) v ≡ true → has_look R v ≡ true = λ v h. fit.looked v (subst (λ (z : List Edit). are_touching z v ≡ true) (sym p) h) in
    p ∙ ap (λ (z : Pair). Flip e z ∷ Keep z ∷ drops_of first second) (one_flip S R e f g (Keep f ∷ drops_of first second) star looked x y) ∙ sym q

pub one_first : (S : List Point) (D : List Costed) (R : List Sight) (ms : List Move) (o u : Option (List Edit)) → AreStars S R → IsFirst S D R ms o → IsFirst S D R ms u → o ≡ u
one_first S D R [] o u star a b = a ∙ sym b
one_first S D R (m ∷ ms) o u star (inl (p, a, x)) (inl (q, b, y)) = x ∙ ap (λ (z : List Edit). Some z) (some_some S D R m p q star a b) ∙ sym y
one_first S D R (m ∷ ms) o u star (inl (p, a, x)) (inr (b, y)) = absurd (some_none S D R m p a b)
one_first S D R (m ∷ ms) o u star (inr (a, x)) (inl (q, b, y)) = absurd (some_none S D R m q b a)
one_first S D R (m ∷ ms) o u star (inr (a, x)) (inr (b, y)) = one_first S D R ms o u star x y

pub one_firsts : (S : List Point) (D : List Costed) (R : List Sight) (ks : List (List Move)) (ps qs : List (List Edit)) → AreStars S R → AreFirsts S D R ks ps → AreFirsts S D R ks qs → ps ≡ qs
one_firsts S D R [] ps qs star a b = a ∙ sym b
one_firsts S D R (ms ∷ ks) ps qs star (inl (p, f, (rest, is, more))) (inl (q, g, (rest', is', more'))) =
    let e : Some p ≡ Some q = one_first S D R ms (Some p) (Some q) star f g in
    let heads : p ≡ q = cc in
    is ∙ ap (λ (z : List Edit). z ∷ rest) heads ∙ ap (λ (zs : List (List Edit)). q ∷ zs) (one_firsts S D R ks rest rest' star more more') ∙ sym is'
one_firsts S D R (ms ∷ ks) ps qs star (inl (p, f, (rest, is, more))) (inr (none, more')) = absurd (let e : Some p ≡ None = one_first S D R ms (Some p) None star f none in cc)
one_firsts S D R (ms ∷ ks) ps qs star (inr (none, more)) (inl (q, g, (rest', is', more'))) = absurd (let e : Some q ≡ None = one_first S D R ms (Some q) None star g none in cc)
one_firsts S D R (ms ∷ ks) ps qs star (inr (none, more)) (inr (none', more')) = one_firsts S D R ks ps qs star more more'

pub one_plans : (S : List Point) (D : List Costed) (R : List Sight) (v k : ℕ) (ps qs : List (List Edit)) → AreStars S R → ArePlans S D R v k ps → ArePlans S D R v k qs → ps ≡ qs
one_plans S D R v k ps qs star (all, a, x) (every, b, y) = x ∙ ap (λ (z : List (List Edit)). take 4 z) (one_firsts S D R (kinds R v k) all every star a b) ∙ sym y

pub one_handed : (S : List Point) (start : List Pair) (J K L : List Commit) (es : List Edit) → IsHanded S start J es K → IsHanded S start J es L → K ≡ L
one_handed S start J K L es (inl a) (inl b) = a.1 ∙ sym b.1
one_handed S start J K L es (inl a) (inr b) = absurd (b.0 a.0)
one_handed S start J K L es (inr a) (inl b) = absurd (a.0 b.0)
one_handed S start J K L es (inr a) (inr b) = a.1 ∙ sym b.1

pub one_all_handed : (S : List Point) (start : List Pair) (J K L : List Commit) (ps : List (List Edit)) → AreHanded S start J ps K → AreHanded S start J ps L → K ≡ L
one_all_handed S start J K L [] a b = a ∙ sym b
one_all_handed S start J K L (p ∷ ps) (m, a, x) (n, b, y) =
    one_all_handed S start m K L ps x (subst (λ (z : List Commit). AreHanded S start z ps L) (sym (one_handed S start J m n p a b)) y)

-- the stars of a round's looks are stars
pub looks_stars : (S : List Point) (start : List Pair) (J : List Commit) (v : ℕ) → AreAccepted S → IsSound S (replay start J) → v < length S → AreStars S (looks S start J v)
looks_stars S start J v accepted so hv u h =
    ((shown_agree S (replay start J) (looks S start J v) accepted so (looks_show S start J v hv)).stars u h).0

mod_less : (a n : ℕ) → 0 < n → a % n < n
mod_less a n h = omega arith

pub one_round : (S : List Point) (D : List Costed) (start : List Pair) (J K L : List Commit) (a b : ℕ) → AreAccepted S → IsSound S (replay start J) → IsRound S D start J a b K → IsRound S D start J a b L → K ≡ L
one_round S D start J K L a b accepted so (ps, x, y) (qs, z, w) =
    let v = a % length S in
    let hv : v < length S = mod_less a (length S) (let c = accepted.count.0 in omega (arith, c)) in
    let k = b % length (star_list S (replay start J) v) in
    let same : ps ≡ qs = one_plans S D (looks S start J v) v k ps qs (looks_stars S start J v accepted so hv) x z in
    one_all_handed S start J K L ps y (subst (λ (r : List (List Edit)). AreHanded S start J r L) (sym same) w)

pub one_rounds : (S : List Point) (D : List Costed) (start : List Pair) (J K L : List Commit) (words : List (ℕ × ℕ)) → AreAccepted S → IsAscending start → IsTriangulation S start → IsLegalJournal S start J → AreRounds S D start J words K → AreRounds S D start J words L → K ≡ L
one_rounds S D start J K L [] accepted rises tri legal a b = a ∙ sym b
one_rounds S D start J K L (w ∷ words) accepted rises tri legal (m, a, x) (n, b, y) =
    let same : m ≡ n = one_round S D start J m n w.0 w.1 accepted (sound_legal S start J accepted rises tri legal.edits) a b in
    let next = (round_grown S D start J m w.0 w.1 legal a).legal in
    one_rounds S D start m K L words accepted rises tri next x (subst (λ (z : List Commit). AreRounds S D start z words L) (sym same) y)
