-- The numbers of the last commits that touched the vertices.
use Rattle.std.proofs.Common.{◌≡◌, ℕ, ◌+◌, ◌-◌, ◌<◌, ◌≤◌, Bool, true, false, cond, ◌||◌, List, [], ◌∷◌, ◌++◌, length, take, get_or, slice_index_or, set, nat_eq, get_or-set_same, get_or-set_other, arith, sym, ◌∙◌, ap, subst, refl}
use Rattle.std.specs.List.{list_any}
use Rattle.std.proofs.Math.ListN.{length-set}
use Rattle.std.proofs.Math.Seq.{take-append_seam}
use Rattle.std.proofs.lemmas.Bool.Decides.{nat_tests}
use Rattle.std.proofs.lemmas.List.{length-append, take_more, take_all}
use Rattle.std.proofs.lemmas.List.Folds.{list_any_more}
use Rattle.journal_defs.specs.declared.edit.Edit.{Edit}
use Rattle.journal_defs.specs.declared.commit.Commit.{Commit}
use Rattle.journal_defs.specs.Edits.{touches}
use Rattle.journal_defs.specs.Journal.{last, commit_touches}
use Rattle.journal_defs.proofs.laws.Journal.{last_append}
use Rattle.edit_session.specs.Desks.{AreStamped, AreStamps}

-- one after the other
pub stamped_both : (p q : ℕ → Bool) (number : ℕ) (old mid new : List ℕ) → AreStamped p number old mid → AreStamped q number mid new → AreStamped (λ v. p v || q v) number old new
stamped_both p q number old mid new a b = record {
  len = b.len ∙ a.len;
  is = λ v h. b.is v (let e = a.len in omega arith) ∙ both (p v) (q v) number (slice_index_or old v 0) (slice_index_or mid v 0) (a.is v h);
}
  where
    both : (s t : Bool) (n x y : ℕ) → y ≡ cond s n x → cond t n y ≡ cond (s || t) n x
    both true true n x y e = refl
    both true false n x y e = e
    both false true n x y e = refl
    both false false n x y e = e

pub stamped_none : (number : ℕ) (old : List ℕ) → AreStamped (λ v. false) number old old
stamped_none number old = record { len = refl; is = λ v h. refl }

-- the stamps of a journal with one more commit
pub stamps_more : (n : ℕ) (J : List Commit) (c : Commit) (old new : List ℕ) → AreStamps n J old → AreStamped (commit_touches c) (length (J ++ c ∷ [])) old new → AreStamps n (J ++ c ∷ []) new
stamps_more n J c old new a b = record {
  len = b.len ∙ a.len;
  is = λ v h. (let low : v < length old = (let e = a.len in omega arith) in
      b.is v low ∙ ap (λ (x : ℕ). cond (commit_touches c v) (length (J ++ c ∷ [])) x) (a.is v h)
      ∙ ap (λ (m : ℕ). cond (commit_touches c v) m (last J v)) (length-append J (c ∷ [])) ∙ sym (last_append J (c ∷ []) v));
}

-- one entry set
pub stamped_at : (old : List ℕ) (v number : ℕ) → v < length old → AreStamped (λ w. nat_eq v w) number old (set old v number)
stamped_at old v number h = record { len = length-set old v number; is = λ w l. at w l (nat_eq v w) refl }
  where
    at : (w : ℕ) → w < length old → (b : Bool) → nat_eq v w ≡ b → slice_index_or (set old v number) w 0 ≡ cond b number (slice_index_or old w 0)
    at w l true e = grind (arith, nat_tests, get_or-set_same)
    at w l false e = grind (arith, nat_tests, get_or-set_other)

-- the touched entries of one more edit
pub stamped_more : (edits : List Edit) (i : ℕ) (e : Edit) (number : ℕ) (old mid new : List ℕ) → i < length edits → e ≡ get_or edits i e
    → AreStamped (λ v. list_any (λ f. touches f v) (take i edits)) number old mid → AreStamped (touches e) number mid new
    → AreStamped (λ v. list_any (λ f. touches f v) (take (i + 1) edits)) number old new
stamped_more edits i e number old mid new h at a b =
    let both = stamped_both (λ v. list_any (λ f. touches f v) (take i edits)) (touches e) number old mid new a b in
    record {
      len = both.len;
      is = λ v l. both.is v l
          ∙ ap (λ (t : Bool). cond t number (slice_index_or old v 0))
          (ap (λ (f : Edit). list_any (λ g. touches g v) (take i edits) || touches f v) at ∙ sym (list_any_more (λ f. touches f v) edits i e h));
    }

-- a journal with its last commit
pub last_commit : (J : List Commit) (c : Commit) → 1 ≤ length J → c ≡ get_or J (length J - 1) c → take (length J - 1) J ++ c ∷ [] ≡ J
last_commit J c some at =
    let low : length J - 1 < length J = omega arith in
    let next : length J - 1 + 1 ≡ length J = omega arith in
    ap (λ (x : Commit). take (length J - 1) J ++ x ∷ []) at ∙ sym (take_more J (length J - 1) c low) ∙ ap (λ (k : ℕ). take k J) next ∙ take_all (length J) J (omega arith)

-- the stamps after the last commit
pub stamps_last : (n : ℕ) (J : List Commit) (x : Commit) (edits : List Edit) (number : ℕ) (old new : List ℕ) → 1 ≤ length J → x ≡ get_or J (length J - 1) x → edits ≡ x.edits → number ≡ length J
    → AreStamps n (take (length J - 1) J) old → AreStamped (λ v. list_any (λ e. touches e v) edits) number old new → AreStamps n J new
stamps_last n J x edits number old new some at is count a b =
    let whole : take (length J - 1) J ++ x ∷ [] ≡ J = last_commit J x some at in
    let told : number ≡ length (take (length J - 1) J ++ x ∷ []) = count ∙ sym (ap length whole) in
    subst (λ (L : List Commit). AreStamps n L new) whole
    (stamps_more n (take (length J - 1) J) x old new a
    (subst (λ (k : ℕ). AreStamped (commit_touches x) k old new) told
    (subst (λ (es : List Edit). AreStamped (λ v. list_any (λ e. touches e v) es) number old new) is b)))

-- ---- lists of numbers and their last one

pub none_of : (xs : List ℕ) → length xs ≡ 0 → xs ≡ []
none_of [] h = refl
none_of (x ∷ xs) h = absurd (omega (arith, h))

pub last_part : (xs : List ℕ) → 1 ≤ length xs → xs ≡ take (length xs - 1) xs ++ slice_index_or xs (length xs - 1) 0 ∷ []
last_part xs some =
    let low : length xs - 1 < length xs = omega arith in
    let next : length xs - 1 + 1 ≡ length xs = omega arith in
    let whole : take (length xs - 1 + 1) xs ≡ xs = ap (λ (k : ℕ). take k xs) next ∙ take_all (length xs) xs (omega arith) in
    sym whole ∙ take_more xs (length xs - 1) 0 low

-- the last one taken off
pub popped : (old new rest : List ℕ) (number n : ℕ) → n ≡ length old → new ≡ take (n - 1) old → old ≡ rest ++ number ∷ [] → old ≡ new ++ number ∷ []
popped old new rest number n count is at =
    let more = length-append rest (number ∷ []) in
    let same = ap length at in
    let first : n - 1 ≡ length rest = omega (arith, more, same, count) in
    let left : new ≡ rest = is ∙ ap (take (n - 1)) at ∙ ap (λ (k : ℕ). take k (rest ++ number ∷ [])) first ∙ take-append_seam rest (number ∷ []) in
    at ∙ ap (λ (l : List ℕ). l ++ number ∷ []) (sym left)
