-- Edits that are made one after the other, and undone in reverse order.
use Rattle.std.proofs.Common.{◌≡◌, ℕ, zero, suc, ◌+◌, ◌-◌, ◌<◌, ◌≤◌, true, List, [], ◌∷◌, ◌++◌, length, get_or, take, arith, sym, ◌∙◌, ap, subst, refl}
use Rattle.std.specs.List.{list_any}
use Rattle.std.proofs.lemmas.List.{take_more, take_all}
use Rattle.std.proofs.lemmas.List.Folds.{list_any_at}
use Rattle.plane.specs.declared.coordinates.Point.{Point}
use Rattle.plane.specs.Accepted.{AreAccepted}
use Rattle.journal_defs.specs.declared.edit.Edit.{Edit}
use Rattle.journal_defs.specs.declared.edit.Edit.TheVariants.{Drop, Keep, Flip}
use Rattle.journal_defs.specs.declared.edit.Why.{Why}
use Rattle.journal_defs.specs.Edits.{State, after, inverse, IsSound, IsLegal, touches}
use Rattle.journal_defs.specs.Journal.{after_all, AreLegal}
use Rattle.journal_defs.specs.Neighbours.{IsWhy}
use Rattle.journal_defs.proofs.laws.Journal.{legal_append, append_legal}
use Rattle.journal_defs.proofs.laws.Edits.{sound_after, inverse_legal}
use Rattle.hands.specs.Hands.{Hand, AreRight, IsInHand, hands_after, hands_after_all, is_flip, AreCovered}
use Rattle.hands.specs.Answers.{IsIllegalAt, IsMade}
use Rattle.hands.proofs.Laws.{right_after, right_after_all, sound_after_all, hands_back, hands_append, in_hand_after_all, legal_less}

-- the first k edits are made in the hands, each legal in its turn
pub record AreMade (S : List Point) (s : State) (edits : List Edit) (k : ℕ) (base hands : List Hand) : Type 0 where
  pub legal : AreLegal S s (take k edits)
  pub made : hands ≡ hands_after_all S (take k edits) base

covered_at : (hs : List Hand) (es : List Edit) (k : ℕ) (e : Edit) → k < length es → e ≡ get_or es k e → AreCovered hs es → (v : ℕ) → touches e v ≡ true → IsInHand hs v
covered_at hs [] k e lt at cov v t = absurd (let z : k < 0 = lt in omega (arith, z))
covered_at hs (x ∷ es) zero e lt at cov v t = cov.0 v (subst (λ (y : Edit). touches y v ≡ true) at t)
covered_at hs (x ∷ es) (suc k) e lt at cov v t = covered_at hs es k e (let z : suc k < length (x ∷ es) = lt in omega (arith, z)) at cov.1 v t

one_more : (es : List Edit) (k : ℕ) (e : Edit) → k < length es → e ≡ get_or es k e → take (k + 1) es ≡ take k es ++ e ∷ []
one_more es k e lt at = take_more es k e lt ∙ ap (λ (x : Edit). take k es ++ x ∷ []) (sym at)

-- so far the hands come from those at first, in every state in which these are right
abbrev pub AreMadeSo : List Point → List Edit → ℕ → (base hands : List Hand) → Type 0
AreMadeSo S es k base hands = (s : State) → IsSound S s → AreRight S s base → AreMade S s es k base hands

-- what holds before the edit at k
pub right_made : (S : List Point) (s : State) (es : List Edit) (k : ℕ) (base hs : List Hand) → AreAccepted S → IsSound S s → AreRight S s base → AreMade S s es k base hs → IsSound S (after_all (take k es) s) × AreRight S (after_all (take k es) s) hs
right_made S s es k base hs accepted sound r m = (
  sound_after_all S s (take k es) sound m.legal,
  subst (λ (xs : List Hand). AreRight S (after_all (take k es) s) xs) (sym m.made) (right_after_all S s (take k es) base accepted sound m.legal r),
)

pub state_made : (S : List Point) (s : State) (es : List Edit) (k : ℕ) (base hs : List Hand) → AreAccepted S → IsSound S s → AreRight S s base → AreMadeSo S es k base hs → (t : State) × IsSound S t × AreRight S t hs
state_made S s es k base hs accepted sound r m =
    let now = right_made S s es k base hs accepted sound r (m s sound r) in (after_all (take k es) s, now.0, now.1)

pub covered_made : (S : List Point) (s : State) (es : List Edit) (k : ℕ) (base hs : List Hand) (e : Edit) → AreMade S s es k base hs → k < length es → e ≡ get_or es k e → AreCovered base es → (v : ℕ) → touches e v ≡ true → IsInHand hs v
covered_made S s es k base hs e m lt at cov v t = subst (λ (xs : List Hand). IsInHand xs v) (sym m.made) (in_hand_after_all S (take k es) base v (covered_at base es k e lt at cov v t))

pub none_made : (S : List Point) (es : List Edit) (base : List Hand) → AreMadeSo S es 0 base base
none_made S es base s sound r = record { legal = tt; made = refl }

pub one_made : (S : List Point) (s : State) (es : List Edit) (k : ℕ) (base hs ks : List Hand) (e : Edit) → AreMade S s es k base hs → k < length es → e ≡ get_or es k e → IsLegal S (after_all (take k es) s) e → ks ≡ hands_after S e hs → AreMade S s es (k + 1) base ks
one_made S s es k base hs ks e m lt at legal is =
    let more = one_more es k e lt at in
    record {
      legal = subst (λ (xs : List Edit). AreLegal S s xs) (sym more) (legal_append S (take k es) (e ∷ []) s m.legal (legal, tt));
      made = is ∙ (ap (hands_after S e) m.made ∙ (sym (hands_append S (take k es) (e ∷ []) base) ∙ ap (λ (xs : List Edit). hands_after_all S xs base) (sym more)));
    }

pub more_made : (S : List Point) (es : List Edit) (k : ℕ) (base hs ks : List Hand) (e : Edit) → AreAccepted S → AreMadeSo S es k base hs → k < length es → e ≡ get_or es k e
    → ((s : State) → IsSound S s → AreRight S s hs → IsLegal S s e) → ks ≡ hands_after S e hs → AreMadeSo S es (k + 1) base ks
more_made S es k base hs ks e accepted m lt at legal is s sound r =
    let now = right_made S s es k base hs accepted sound r (m s sound r) in
    one_made S s es k base hs ks e (m s sound r) lt at (legal (after_all (take k es) s) now.0 now.1) is

-- the edit at k is the first that isn't legal
pub illegal_at : (S : List Point) (es : List Edit) (k : ℕ) (base hs : List Hand) (e : Edit) (why : Why) → AreAccepted S → AreMadeSo S es k base hs → k < length es → e ≡ get_or es k e
    → ((s : State) → IsSound S s → AreRight S s hs → IsWhy S s e why × ¬ IsLegal S s e) → (s : State) → IsSound S s → AreRight S s base → IsIllegalAt S s es k why
illegal_at S es k base hs e why accepted m lt at cause s sound r =
    let now = right_made S s es k base hs accepted sound r (m s sound r) in
    let told = cause (after_all (take k es) s) now.0 now.1 in
    record { within = lt; before = (m s sound r).legal; edit = e; at = sym at; cause = told.0; illegal = told.1 }

pub all_legal : (S : List Point) (es : List Edit) (k : ℕ) (base hs : List Hand) → AreMadeSo S es k base hs → length es ≤ k → (s : State) → IsSound S s → AreRight S s base → AreLegal S s es
all_legal S es k base hs m all s sound r = subst (λ (xs : List Edit). AreLegal S s xs) (take_all k es all) (m s sound r).legal

pub all_made : (S : List Point) (s : State) (es : List Edit) (k : ℕ) (base hs : List Hand) → AreMade S s es k base hs → length es ≤ k → hs ≡ hands_after_all S es base
all_made S s es k base hs m all = m.made ∙ ap (λ (xs : List Edit). hands_after_all S xs base) (take_all k es all)

-- and back: with the edit at k made, its inverse leads to the hands before it
one_undone : (S : List Point) (s : State) (es : List Edit) (k : ℕ) (base hs ks : List Hand) (e : Edit) → AreAccepted S → IsSound S s → AreRight S s base → AreLegal S s (take (k + 1) es) → k < length es → e ≡ get_or es k e
    → hs ≡ hands_after_all S (take (k + 1) es) base → ks ≡ hands_after S (inverse e) hs → ks ≡ hands_after_all S (take k es) base
one_undone S s es k base hs ks e accepted sound r legal lt at was is =
    let more = one_more es k e lt at in
    let parts = append_legal S (take k es) (e ∷ []) s (subst (λ (xs : List Edit). AreLegal S s xs) more legal) in
    let mid : List Hand = hands_after_all S (take k es) base in
    let before : hs ≡ hands_after S e mid = was ∙ (ap (λ (xs : List Edit). hands_after_all S xs base) more ∙ hands_append S (take k es) (e ∷ []) base) in
    is ∙ (ap (hands_after S (inverse e)) before ∙ hands_back S (after_all (take k es) s) e mid accepted (sound_after_all S s (take k es) sound parts.0) parts.1.0 (right_after_all S s (take k es) base accepted sound parts.0 r))

may_undo : (S : List Point) (s : State) (es : List Edit) (k : ℕ) (base hs : List Hand) (e : Edit) → AreAccepted S → IsSound S s → AreRight S s base → AreLegal S s (take (k + 1) es) → k < length es → e ≡ get_or es k e
    → hs ≡ hands_after_all S (take (k + 1) es) base → (t : State) × IsSound S t × IsLegal S t (inverse e) × AreRight S t hs
may_undo S s es k base hs e accepted sound r legal lt at was =
    let more = one_more es k e lt at in
    let parts = append_legal S (take k es) (e ∷ []) s (subst (λ (xs : List Edit). AreLegal S s xs) more legal) in
    let st : State = after_all (take k es) s in
    let so = sound_after_all S s (take k es) sound parts.0 in (
      after e st,
      sound_after S st e so parts.1.0,
      inverse_legal S st e so parts.1.0,
      subst (λ (xs : List Hand). AreRight S (after e st) xs) (sym (was ∙ (ap (λ (xs : List Edit). hands_after_all S xs base) more ∙ hands_append S (take k es) (e ∷ []) base)))
          (right_after S st e (hands_after_all S (take k es) base) accepted so parts.1.0 (right_after_all S s (take k es) base accepted sound parts.0 r)),
    )

-- the hands come from every list of hands at first that they came from before
abbrev pub AreUndoneSo : List Point → List Edit → (n k : ℕ) → (old hands : List Hand) → Type 0
AreUndoneSo S es n k old hands = (s : State) (hs : List Hand) → IsSound S s → AreLegal S s (take n es) → AreRight S s hs → old ≡ hands_after_all S (take n es) hs → hands ≡ hands_after_all S (take k es) hs

pub none_undone : (S : List Point) (es : List Edit) (n : ℕ) (old : List Hand) → AreUndoneSo S es n n old old
none_undone S es n old s hs sound legal r is = is

pub more_undone : (S : List Point) (es : List Edit) (n k : ℕ) (old hands new : List Hand) (e back : Edit) → AreAccepted S → 0 < k → k ≤ n → n ≤ length es → e ≡ get_or es (k - 1) e
    → AreUndoneSo S es n k old hands → back ≡ inverse e → new ≡ hands_after S back hands → AreUndoneSo S es n (k - 1) old new
more_undone S es n k old hands new e back accepted some few within at m b is s hs sound legal r was =
    let j : ℕ = k - 1 in
    let up : k ≡ j + 1 = omega arith in
    one_undone S s es j hs hands new e accepted sound r (legal_less S s es (j + 1) n (omega arith) legal) (omega arith) at
    (m s hs sound legal r was ∙ ap (λ (i : ℕ). hands_after_all S (take i es) hs) up) (is ∙ ap (λ (x : Edit). hands_after S x hands) b)

pub undo_may : (S : List Point) (es : List Edit) (n k : ℕ) (old hands : List Hand) (e back : Edit) (s : State) → AreAccepted S → 0 < k → k ≤ n → n ≤ length es → e ≡ get_or es (k - 1) e
    → AreUndoneSo S es n k old hands → back ≡ inverse e → IsSound S s → AreLegal S s (take n es) → IsMade S s (take n es) old → (t : State) × IsSound S t × IsLegal S t back × AreRight S t hands
undo_may S es n k old hands e back s accepted some few within at m b sound legal made =
    let j : ℕ = k - 1 in
    let up : k ≡ j + 1 = omega arith in
    let t = may_undo S s es j made.first hands e accepted sound made.right (legal_less S s es (j + 1) n (omega arith) legal) (omega arith) at
    (m s made.first sound legal made.right made.made ∙ ap (λ (i : ℕ). hands_after_all S (take i es) made.first) up) in
    (t.0, t.1, subst (λ (x : Edit). IsLegal S t.0 x) (sym b) t.2, t.3)

pub undone : (S : List Point) (es : List Edit) (n k : ℕ) (old hands : List Hand) → AreUndoneSo S es n k old hands → k ≡ 0 → (s : State) (hs : List Hand) → IsSound S s → AreLegal S s (take n es) → AreRight S s hs → old ≡ hands_after_all S (take n es) hs → hands ≡ hs
undone S es n k old hands m none s hs sound legal r was = m s hs sound legal r was ∙ ap (λ (i : ℕ). hands_after_all S (take i es) hs) none

-- one of the edits is a flip where that at k is one
pub flip_among : (es : List Edit) (k : ℕ) (e : Edit) → k < length es → e ≡ get_or es k e → is_flip e ≡ true → list_any is_flip es ≡ true
flip_among es k e lt at h = list_any_at is_flip es k e lt (subst (λ (x : Edit). is_flip x ≡ true) at h)

pub flip_back : (e : Edit) → is_flip (inverse e) ≡ is_flip e
flip_back (Drop e) = refl
flip_back (Keep e) = refl
flip_back (Flip e f) = refl
