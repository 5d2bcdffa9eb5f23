-- A holder's seat between two calls, and the first seat while the table is made.
use Rattle.std.proofs.Common.{◌≡◌, ℕ, suc, ◌+◌, ◌-◌, ◌<◌, ◌≤◌, true, false, true≢false, [], ◌∷◌, ◌++◌, sym, refl, ap, ◌∙◌, subst, ⊎_elim, arith, Option, Some}
use Rattle.atomic_table.specs.Table.{Me, Splits}
use Rattle.atomic_table.specs.Seated.{TableId}
use Rattle.index_sets.specs.Indices.{contains, all_but, HasNoRepeat, numbers_from}
use Rattle.index_sets.specs.Owners.{one_of, rest_of}
use Rattle.index_sets.proofs.Laws.{contains-first, contains-one, contains-append, all_but-is_other, all_but-snoc, HasNoRepeat-snoc, HasNoRepeat-all_but, HasNoRepeat-numbers_from, numbers_from-least, numbers_from-all, numbers_from-snoc}
use Rattle.vertex_claims.specs.declared.table.View.{View}
use Rattle.vertex_claims.specs.declared.table.About.{About}
use Rattle.vertex_claims.specs.Holding.{IsAnother, IsHolder, new_holder}
use Rattle.vertex_claims.specs.Kept.{Kept, first_view, without_number, with_number, won, missed, at_rest, given, Lost}
use Rattle.vertex_claims.specs.Resting.{named, holder_of, IsResting, IsLaying, IsDealing}
use Rattle.vertex_claims.proofs.Moves.{cuts}
use Rattle.std.proofs.lemmas.Bool.{false_from_ne_true}

dealing-numbers : (next n : ℕ) → next ≤ n → numbers_from next (n + 1 - next) ≡ next ∷ numbers_from (next + 1) (n + 1 - (next + 1))
dealing-numbers next n le =
    let e : n + 1 - next ≡ suc (n + 1 - (next + 1)) = omega arith in
    let f : suc next ≡ next + 1 = omega arith in
    ap (numbers_from next) e ∙ ap (λ z. next ∷ numbers_from z (n + 1 - (next + 1))) f

abbrev Mine : Type 0 → Type 0 → Type 0
Mine R C = Me (Option C) (View R)

module _ {R C : Type 0} (id : TableId) (root : R) (number : ℕ) where
  pub rests_won : (m w : Mine R C) (i : ℕ) → IsResting id root number m → contains m.0.places i ≡ false → i < id.words → w ≡ (at_rest (won m.0 i), []) → IsResting id root number w
  rests_won m w i r free near is = subst (IsResting id root number) (sym is) record {
    hands = refl;
    idle = refl;
    numbers = r.numbers;
    least = r.least;
    most = r.most;
    root_is = r.root_is;
    once = HasNoRepeat-snoc m.0.places i r.once free;
    within = λ j h. ⊎_elim (λ old. r.within j old) (λ new. subst (λ z. z < id.words) (sym (contains-one i j new)) near) (contains-append m.0.places (i ∷ []) j h);
  }

  pub rests_missed : (m w : Mine R C) (i n : ℕ) → IsResting id root number m → w ≡ (missed m.0 i n, m.1) → IsResting id root number w
  rests_missed m w i n r is = subst (IsResting id root number) (sym is) record { hands = r.hands; idle = r.idle; numbers = r.numbers; least = r.least; most = r.most; root_is = r.root_is; once = r.once; within = r.within }

  pub rests_given : (m w : Mine R C) (i : ℕ) → IsResting id root number m → w ≡ (given m.0 i, []) → IsResting id root number w
  rests_given m w i r is = subst (IsResting id root number) (sym is) record {
    hands = refl;
    idle = refl;
    numbers = r.numbers;
    least = r.least;
    most = r.most;
    root_is = r.root_is;
    once = HasNoRepeat-all_but m.0.places i r.once;
    within = λ j h. r.within j (all_but-is_other m.0.places i j h).0;
  }

  -- what holds of each holder at rest
  pub is_holder : (m : Mine R C) → IsResting id root number m → IsHolder (holder_of id root number m.0)
  is_holder m r = record { least = r.least; most = r.most; once = r.once; within = r.within }

  -- what was found is the number of another holder
  pub is_another : (fits : R → ℕ → C → Type 0) (m w : Mine R C) (i n : ℕ) → IsResting id root number m → Lost fits m i n w → IsAnother (holder_of id root number m.0) n
  is_another fits m w i n r l = record {
    least = l.least;
    most = l.most;
    other = λ e. true≢false (sym (ap (λ ns. contains ns n) r.numbers ∙ (ap (contains (number ∷ [])) e ∙ contains-first [] number)) ∙ l.another);
  }

module _ {R C : Type 0} (fits : R → ℕ → C → Type 0) (a : About R) where
  -- one place less to be laid
  pub laying_next : (m w : Mine R C) (left : ℕ) → IsLaying a (left + 1) m → w ≡ (given m.0 left, []) → IsLaying a left w
  laying_next m w left is after = after ∙ (ap (λ (x : Mine R C). (given x.0 left, [])) is ∙ (λ i. (record (first_view a) { places = fewer i }, [])))
    where
      fewer : all_but (numbers_from 0 (left + 1)) left ≡ numbers_from 0 left
      fewer =
          let e : left + 1 ≡ suc left = omega arith in
          let f : 0 + left ≡ left = omega arith in
          let s : numbers_from 0 (left + 1) ≡ numbers_from 0 left ++ left ∷ [] = ap (numbers_from 0) e ∙ (numbers_from-snoc 0 left ∙ ap (λ z. numbers_from 0 left ++ z ∷ []) f) in
          ap (λ l. all_but l left) s ∙ all_but-snoc (numbers_from 0 left) left (subst HasNoRepeat s (HasNoRepeat-numbers_from 0 (left + 1)))

  pub laying_holds : (m : Mine R C) (left : ℕ) → IsLaying a (left + 1) m → contains m.0.places left ≡ true
  laying_holds m left is = ap (λ (x : Mine R C). contains x.0.places left) is ∙ last_held
    where
      last_held : contains (numbers_from 0 (left + 1)) left ≡ true
      last_held = numbers_from-all 0 (left + 1) left (omega arith) (omega arith)

  -- all places are laid, so the numbers may be given away
  pub dealing_first : (m : Mine R C) → IsLaying a 0 m → IsDealing a 1 m
  dealing_first m is = is ∙ (λ i. (record (first_view a) { places = []; numbers = numbers_from 1 (one_off a.callers i) }, []))
    where
      one_off : (n : ℕ) → n ≡ n + 1 - 1
      one_off n = omega arith

  module _ (next : ℕ) (m : Mine R C) (d : IsDealing a next m) where
    dealing-is : next ≤ a.callers → m.0.numbers ≡ next ∷ numbers_from (next + 1) (a.callers + 1 - (next + 1))
    dealing-is le = ap (λ (x : Mine R C). x.0.numbers) d ∙ dealing-numbers next a.callers le

    pub dealing_cuts : (id : ℕ) → next ≤ a.callers → Splits (Kept fits a) id m.0 (without_number m.0) (with_number m.0)
    dealing_cuts id le = cuts fits a id next (numbers_from (next + 1) (a.callers + 1 - (next + 1))) m.0 (dealing-is le)
        (false_from_ne_true (contains (numbers_from (next + 1) (a.callers + 1 - (next + 1))) next) (λ t. let z = numbers_from-least (next + 1) (a.callers + 1 - (next + 1)) next t in absurd (omega arith)))
        (ap (λ (x : Mine R C). x.0.places) d)

    pub dealing_next : (w : Mine R C) → next ≤ a.callers → w ≡ (without_number m.0, m.1) → IsDealing a (next + 1) w
    dealing_next w le is = is ∙ (ap (λ (x : Mine R C). (without_number x.0, x.1)) d ∙ (λ i. (record (first_view a) { places = []; numbers = rest_of (dealing-numbers next a.callers le i) }, [])))

    abbrev alone : Mine R C
    alone = (record (first_view a) { places = []; numbers = next ∷ [] }, [])

    one_number : (w : Mine R C) → next ≤ a.callers → w ≡ (with_number m.0, []) → w ≡ alone
    one_number w le is = is ∙ (ap (λ (x : Mine R C). (with_number x.0, [])) d ∙ (λ i. (record (first_view a) { places = []; numbers = one_of (dealing-numbers next a.callers le i) }, [])))

    last_number : next ≡ a.callers → m ≡ alone
    last_number is = d ∙ (λ i. (record (first_view a) { places = []; numbers = left i }, []))
      where
        left : numbers_from next (a.callers + 1 - next) ≡ next ∷ []
        left = let one : a.callers + 1 - next ≡ 1 = omega arith in ap (numbers_from next) one

    rests_alone : (id : TableId) (root : R) → root ≡ a.root.value → 1 ≤ next → next ≤ a.callers → IsResting id root next alone
    rests_alone id root same least most = record { hands = refl; idle = refl; numbers = refl; least = least; most = most; root_is = ap Some (sym same); once = tt; within = λ i h. absurd (true≢false (sym h)) }

    pub dealt_rests : (id : TableId) (root : R) (w : Mine R C) → root ≡ a.root.value → 1 ≤ next → next ≤ a.callers → w ≡ (with_number m.0, []) → IsResting id root next w
    dealt_rests id root w same least most is = subst (IsResting id root next) (sym (one_number w most is)) (rests_alone id root same least most)

    pub last_rests : (id : TableId) (root : R) → root ≡ a.root.value → 1 ≤ next → next ≡ a.callers → IsResting id root next m
    last_rests id root same least is = subst (IsResting id root next) (sym (last_number is)) (rests_alone id root same least (omega arith))

    pub dealt_holder : (id : TableId) (root : R) (w : Mine R C) → root ≡ a.root.value → next ≤ a.callers → w ≡ (with_number m.0, []) → holder_of id root next w.0 ≡ new_holder (named id a) next
    dealt_holder id root w same le is = (λ i. holder_of id (same i) next (one_number w le is i).0)

    pub last_holder : (id : TableId) (root : R) → root ≡ a.root.value → next ≡ a.callers → holder_of id root next m.0 ≡ new_holder (named id a) next
    last_holder id root same is = (λ i. holder_of id (same i) next (last_number is i).0)
