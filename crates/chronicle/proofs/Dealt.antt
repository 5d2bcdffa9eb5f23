-- The first seat gives its callers away, one after the other.
use Rattle.std.proofs.Common.{◌≡◌, ℕ, suc, ◌+◌, ◌-◌, ◌<◌, Bool, List, [], ◌∷◌, sym, refl, ap, ◌∙◌, subst, arith, ne_eqb}
use Rattle.std.specs.Prelude.{if◌then◌else◌}
use Rattle.atomic_table.specs.Table.{Me, Splits}
use Rattle.atomic_table.specs.Seated.{TableId}
use Rattle.index_sets.specs.Indices.{contains, numbers_from}
use Rattle.index_sets.specs.Owners.{one_of, rest_of}
use Rattle.index_sets.proofs.Laws.{numbers_from-least, HasNoRepeat-numbers_from, IsPrefix-refl, get_elem?-inside}
use Rattle.chronicle.specs.declared.table.View.{View}
use Rattle.chronicle.specs.declared.table.About.{About}
use Rattle.chronicle.specs.History.{whole_share, caller_share}
use Rattle.chronicle.specs.Kept.{first_view, opened, going, without_caller, with_caller, Kept}
use Rattle.chronicle.specs.Settled.{IsSettled, IsDealing, named, share_of}
use Rattle.chronicle.proofs.Moves.{cuts_caller}
use Rattle.std.proofs.lemmas.Bool.{false_from_ne_true}

dealing-callers : (given n : ℕ) → given < n → numbers_from (1 + given) (n - given) ≡ (1 + given) ∷ numbers_from (1 + (given + 1)) (n - (given + 1))
dealing-callers given n lt =
    let e : n - given ≡ suc (n - (given + 1)) = omega arith in
    let f : suc (1 + given) ≡ 1 + (given + 1) = omega arith in
    ap (numbers_from (1 + given)) e ∙ ap (λ z. (1 + given) ∷ numbers_from z (n - (given + 1))) f

module _ {T : Type 0} (caller : T → ℕ) (touches : T → ℕ → Bool) (a : About) where
  abbrev V : Type 0
  V = View T

  abbrev M : Type 0
  M = Me (Unit {0}) V

  pub dealing_first : (m : M) (entries : List T) → m ≡ (opened entries (first_view a), []) → IsDealing a m.0.first 0 m
  dealing_first m entries is = subst (λ (x : M). IsDealing a x.0.first 0 x) (sym is) record { hands = refl; view = (λ i. record (opened entries (first_view a)) { callers = numbers_from 1 (zero_off a.callers i) }) }
    where
      zero_off : (n : ℕ) → n ≡ n - 0
      zero_off n = omega arith

  module _ (entries : List T) (given : ℕ) (m : M) (d : IsDealing a entries given m) where
    pub dealing_cuts : (id : ℕ) → given < a.callers → Splits (Kept caller touches a) id m.0 (without_caller m.0) (with_caller m.0)
    dealing_cuts id lt = cuts_caller caller touches a id (1 + given) (numbers_from (1 + (given + 1)) (a.callers - (given + 1))) m.0 (ap (λ (z : V). z.live) d.view) (ap (λ (z : V). z.callers) d.view ∙ dealing-callers given a.callers lt)
        (false_from_ne_true (contains (numbers_from (1 + (given + 1)) (a.callers - (given + 1))) (1 + given)) (λ t. let z = numbers_from-least (1 + (given + 1)) (a.callers - (given + 1)) (1 + given) t in absurd (omega arith)))

    pub dealing_next : (w : M) → given < a.callers → w ≡ (without_caller m.0, m.1) → IsDealing a entries (given + 1) w
    dealing_next w lt is = record {
      hands = ap (λ (x : M). x.1) is ∙ d.hands;
      view = ap (λ (x : M). x.0) is ∙ (ap without_caller d.view ∙ (λ i. record (opened entries (first_view a)) { callers = rest_of (dealing-callers given a.callers lt i) }));
    }

    one_caller : (w : M) → given < a.callers → w ≡ (with_caller m.0, []) → w ≡ (going (opened entries (first_view a)) [] ((1 + given) ∷ []), [])
    one_caller w lt is = is ∙ (λ i. (with_caller (d.view i), [])) ∙ (λ i. (going (opened entries (first_view a)) [] (one_of (dealing-callers given a.callers lt i)), []))

    pub dealt_share : (id : TableId) (w : M) → given < a.callers → w ≡ (with_caller m.0, []) → share_of caller id w.0 ≡ caller_share caller (named id a entries) (1 + given)
    dealt_share id w lt is = ap (λ (x : M). share_of caller id x.0) (one_caller w lt is)

    pub dealt_settled : (w : M) → given < a.callers → w ≡ (with_caller m.0, []) → IsSettled caller w
    dealt_settled w lt is = subst (IsSettled caller) (sym (one_caller w lt is)) record {
      hands = refl;
      sides = refl;
      live = refl;
      callers = sym (ap (λ b. if b then [] else (1 + given) ∷ []) (ne_eqb (1 + given) 0 (λ z. absurd (omega arith))));
      most = omega arith;
      once = tt;
      first = IsPrefix-refl entries;
      later = λ k e le at. let q = get_elem?-inside entries k e at in absurd (omega arith);
    }

    none_to_give : given ≡ a.callers → m ≡ (record (opened entries (first_view a)) { callers = [] }, [])
    none_to_give all = let none : a.callers - given ≡ 0 = omega arith in (λ i. (d.view i, d.hands i)) ∙ (λ i. (record (opened entries (first_view a)) { callers = numbers_from (1 + given) (none i) }, []))

    pub dealt_whole : (id : TableId) → given ≡ a.callers → share_of caller id m.0 ≡ whole_share (named id a entries)
    dealt_whole id all = ap (λ (x : M). share_of caller id x.0) (none_to_give all)

    pub dealt_whole_settled : given ≡ a.callers → IsSettled caller m
    dealt_whole_settled all = subst (IsSettled caller) (sym (none_to_give all)) record {
      hands = refl;
      sides = refl;
      live = refl;
      callers = refl;
      most = omega arith;
      once = HasNoRepeat-numbers_from 0 (a.last + 1);
      first = IsPrefix-refl entries;
      later = λ k e le at. let q = get_elem?-inside entries k e at in absurd (omega arith);
    }
