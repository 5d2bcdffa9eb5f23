-- What a seat is told, in the words of contracts.
use Rattle.std.proofs.Common.{◌≡◌, ◌≢◌, ℕ, ◌≤◌, Bool, true, false, List, [], ◌∷◌, ◌++◌, length, sym, refl, ap, ◌∙◌, subst, ⊎_elim, arith, Option, Some, eq-eqb, ne_eqb}
use Rattle.std.specs.Prelude.{nat_eq, if◌then◌else◌, filter}
use Rattle.std.specs.List.{AllByRecursion}
use Rattle.std.proofs.lemmas.List.{append-nil}
use mathlib.Core.Logic.{dite}
use mathlib.Core.Option.{some}
use mathlib.Core.List.{IsPrefix}
use native.Mathlib.Decide.{ℕ_discrete}
use lib.ListN.{get_elem?}
use Rattle.atomic_table.specs.Table.{Me}
use Rattle.atomic_table.specs.Seated.{TableId}
use Rattle.index_sets.specs.Indices.{contains}
use Rattle.index_sets.specs.Prefixes.{longer}
use Rattle.index_sets.specs.Entries.{entries_of, SparesPlace}
use Rattle.index_sets.proofs.Laws.{contains-first, HasNoRepeat-all_but, AllByRecursion-contains, AllByRecursion-past, IsPrefix-length, IsPrefix-append, get_elem?-snoc, entries_of-lacks}
use Rattle.chronicle.specs.declared.table.View.{View}
use Rattle.chronicle.specs.History.{ChronicleSeen, only, IsCaller, IsShare, GoesOn}
use Rattle.chronicle.specs.Kept.{Tells, AreCallersFrom, Learned, Added, both, side_of, without_part, with_part}
use Rattle.chronicle.specs.Settled.{numbered, IsSettled, share_of}

pub numbered-contains : (c : ℕ) → c ≢ 0 → contains (numbered c) c ≡ true
numbered-contains c n = ap (λ b. contains (if b then [] else c ∷ []) c) (ne_eqb c 0 n) ∙ contains-first [] c

-- the share's caller is among the seat's callers
pub only-contains : (callers : List ℕ) (c : ℕ) → callers ≡ numbered (only callers) → only callers ≢ 0 → c ≡ only callers → contains callers c ≡ true
only-contains callers c is some_caller same = ap (λ l. contains l c) is ∙ (ap (contains (numbered (only callers))) same ∙ numbered-contains (only callers) some_caller)

only-none : (callers : List ℕ) → callers ≡ numbered (only callers) → only callers ≡ 0 → callers ≡ []
only-none callers is none = is ∙ ap (λ b. if b then [] else only callers ∷ []) (eq-eqb (only callers) 0 none)

module _ {T : Type 0} (caller : T → ℕ) (touches : T → ℕ → Bool) where
  abbrev M : Type 0
  M = Me (Unit {0}) (View T)

  none_left : (xs : List T) → AllByRecursion (λ (e : T). ⊥) xs → xs ≡ []
  none_left [] h = refl
  none_left (x ∷ xs) h = absurd h.0

  later_snoc : (most n : ℕ) (seen : List T) (e : T) → AreCallersFrom caller most n seen → IsCaller most (caller e) → AreCallersFrom caller most n (seen ++ e ∷ [])
  later_snoc most n seen e was own k x le at = ⊎_elim (λ old. was k x le old) (λ (new : (e ≡ x) × (k ≡ length seen)). subst (λ y. IsCaller most (caller y)) new.0 own) (get_elem?-snoc seen e x k at)

  -- what holds of each settled seat, in the words of contracts
  pub is_share : (id : TableId) (m : M) → IsSettled caller m → IsShare caller (share_of caller id m.0)
  is_share id m s = record {
    history = record {
      later = s.first.0;
      is = sym s.first.1;
      callers = AllByRecursion-past (λ (e : T). IsCaller m.0.most (caller e)) m.0.first s.first.0 (λ k e le at. s.later k e le (sym (ap (λ l. get_elem? l k) s.first.1) ∙ at));
    };
    mine = refl;
    callers = s.most;
    once = s.once;
  }

  -- what a settled seat knows of a longer history
  pub goes_on : (id : TableId) (m : M) (history : List T) → IsSettled caller m → Tells caller touches m.0.seen m.0.parts m.0.callers m.0.last history → AreCallersFrom caller m.0.most (length m.0.first) history → GoesOn caller touches (share_of caller id m.0) history
  goes_on id m history s t later =
      let c : ℕ = only m.0.callers in
      let more : List T = t.begins.0 in
      let begun = IsPrefix-length m.0.first m.0.seen s.first in
      let at : (k : ℕ) (e : T) → get_elem? (m.0.seen ++ more) k ≡ some e → get_elem? history k ≡ some e = (λ k e h. sym (ap (λ l. get_elem? l k) t.begins.1) ∙ h) in
      let range : (k : ℕ) (e : T) → length m.0.seen ≤ k → get_elem? (m.0.seen ++ more) k ≡ some e → IsCaller m.0.most (caller e) = (λ k e le h. later k e (omega arith) (at k e h)) in
      let other : (k : ℕ) (e : T) → length m.0.seen ≤ k → get_elem? (m.0.seen ++ more) k ≡ some e → c ≢ 0 → caller e ≢ c = (λ k e le h some_caller. t.lacks k e c le (at k e h) (only-contains m.0.callers c s.callers some_caller refl)) in record {
        more = more;
        is = sym t.begins.1;
        spares = AllByRecursion-contains (SparesPlace touches more) m.0.parts (λ p mine. AllByRecursion-past (λ (e : T). touches e p ≡ false) m.0.seen more (λ k e le h. (t.spares k e p le (at k e h) mine).1));
        whole = λ owns. none_left more (AllByRecursion-past (λ (e : T). ⊥) m.0.seen more (λ k e le h. (t.spares k e m.0.last le (at k e h) owns).0 refl));
        lacks = AllByRecursion-past (λ (e : T). nat_eq (caller e) c ≡ false) m.0.seen more (λ k e le h. ne_eqb (caller e) c (λ q. dite (ℕ_discrete c 0)
            (λ none. let low = (range k e le h).0 in absurd (omega arith))
            (λ some_caller. other k e le h some_caller q)));
        callers = AllByRecursion-past (λ (e : T). IsCaller m.0.most (caller e)) m.0.seen more range;
        alone = λ one some_caller. none_left more (AllByRecursion-past (λ (e : T). ⊥) m.0.seen more (λ k e le h. let low = (range k e le h).0 in let high = (range k e le h).1 in let most = s.most in other k e le h (λ z. absurd (omega arith)) (omega arith)));
      }

  -- after an append
  pub settled_added : (m w : M) (n : ℕ) (told : Option T) (e : T) → IsSettled caller m → Added told m n w → told ≡ Some e → contains m.0.callers (caller e) ≡ true → IsSettled caller w
  settled_added m w n told e s d is own = subst (IsSettled caller) (sym (d.after e is)) record {
    hands = s.hands;
    sides = refl;
    live = s.live;
    callers = s.callers;
    most = s.most;
    once = s.once;
    first = IsPrefix-append m.0.first m.0.seen (e ∷ []) s.first;
    later = later_snoc m.0.most (length m.0.first) m.0.seen e s.later (d.callers (caller e) own);
  }

  -- after a split
  pub settled_left : (m w : M) (p : ℕ) → IsSettled caller m → w ≡ (without_part p m.0, m.1) → IsSettled caller w
  settled_left m w p s is = subst (IsSettled caller) (sym is) record { hands = s.hands; sides = s.sides; live = s.live; callers = s.callers; most = s.most; once = HasNoRepeat-all_but m.0.parts p s.once; first = s.first; later = s.later }

  pub settled_right : (m w : M) (p : ℕ) → IsSettled caller m → w ≡ (with_part p m.0, []) → IsSettled caller w
  settled_right m w p s is = subst (IsSettled caller) (sym is) record { hands = refl; sides = refl; live = refl; callers = refl; most = omega arith; once = (refl, tt); first = s.first; later = s.later }

  -- after a load
  pub settled_learned : (m w : M) (n : ℕ) → IsSettled caller m → Learned caller touches m n w → IsSettled caller w
  settled_learned m w n s l = subst (IsSettled caller) (sym l.after) record { hands = s.hands; sides = refl; live = s.live; callers = s.callers; most = s.most; once = s.once; first = s.first; later = s.later }

  -- after a join and a load
  pub record IsJoined (m k w : M) : Type 0 where
    pub settled : IsSettled caller w
    pub view : w.0 ≡ record m.0 { seen = longer m.0.seen k.0.seen; parts = m.0.parts ++ k.0.parts }
    pub into : Tells caller touches m.0.seen m.0.parts m.0.callers m.0.last w.0.seen
    pub from : Tells caller touches k.0.seen k.0.parts k.0.callers m.0.last w.0.seen
    pub later : AreCallersFrom caller m.0.most (length m.0.first) w.0.seen

  pub is_joined : (m k j w : M) (n : ℕ) → IsSettled caller m → IsSettled caller k → only k.0.callers ≡ 0 → j ≡ (both m.0 k.0, m.1) → Learned caller touches j n w → IsJoined m k w
  is_joined m k j w n s t nobody is l =
      let none : k.0.callers ≡ [] = only-none k.0.callers t.callers nobody in
      let same : m.0.callers ++ k.0.callers ≡ m.0.callers = ap (λ (xs : List ℕ). m.0.callers ++ xs) none ∙ append-nil m.0.callers in
      let joined : M = (record (both m.0 k.0) { sides = [] }, m.1) in
      let w_is : w ≡ joined = l.after ∙ ap (λ (x : M). (record x.0 { sides = [] }, x.1)) is in
      let learned : Learned caller touches (both m.0 k.0, m.1) n w = subst (λ (x : M). Learned caller touches x n w) is l in
      let view : w.0 ≡ record m.0 { seen = longer m.0.seen k.0.seen; parts = m.0.parts ++ k.0.parts } = ap (λ (x : M). x.0) w_is ∙ (λ i. record m.0 { seen = longer m.0.seen k.0.seen; parts = m.0.parts ++ k.0.parts; callers = same i; sides = sym s.sides i }) in
      let seen : longer m.0.seen k.0.seen ≡ w.0.seen = sym (ap (λ (x : View T). x.seen) view) in record {
        settled = subst (IsSettled caller) (λ i. (sym view i, sym (ap (λ (x : M). x.1) w_is) i)) record {
          hands = s.hands;
          sides = s.sides;
          live = s.live;
          callers = s.callers;
          most = s.most;
          once = learned.once;
          first = learned.first;
          later = learned.later;
        };
        view = view;
        into = subst (λ (x : List T). Tells caller touches m.0.seen m.0.parts m.0.callers m.0.last x) seen (learned.sides 0 (side_of m.0) refl);
        from = subst (λ (x : List T). Tells caller touches k.0.seen k.0.parts k.0.callers m.0.last x) seen (learned.sides 1 (side_of k.0) refl);
        later = subst (λ (x : List T). AreCallersFrom caller m.0.most (length m.0.first) x) seen learned.later;
      }

  -- entries of others leave the caller's as they were
  entries_of-tells : (c last : ℕ) (seen log : List T) (parts callers : List ℕ) → callers ≡ numbered c → Tells caller touches seen parts callers last log → entries_of caller c log ≡ entries_of caller c seen
  entries_of-tells c last seen log parts callers is t = dite (ℕ_discrete c 0)
      (λ none. ap (λ b. if b then [] else filter (λ e. nat_eq (caller e) c) log) (eq-eqb c 0 none) ∙ sym (ap (λ b. if b then [] else filter (λ e. nat_eq (caller e) c) seen) (eq-eqb c 0 none)))
      (λ some_caller. let more : List T = t.begins.0 in ap (entries_of caller c) (sym t.begins.1) ∙ entries_of-lacks caller c seen more
      (AllByRecursion-past (λ (e : T). nat_eq (caller e) c ≡ false) seen more (λ k e le h. ne_eqb (caller e) c (t.lacks k e c le (sym (ap (λ l. get_elem? l k) t.begins.1) ∙ h) (ap (λ l. contains l c) is ∙ numbered-contains c some_caller)))))

  pub share-joined : (id : TableId) (m k w : M) → IsSettled caller m → IsJoined m k w → share_of caller id w.0 ≡ record (share_of caller id m.0) { seen = longer m.0.seen k.0.seen; parts = m.0.parts ++ k.0.parts }
  share-joined id m k w s j =
      let l : List T = longer m.0.seen k.0.seen in
      let c : ℕ = only m.0.callers in
      let t : Tells caller touches m.0.seen m.0.parts m.0.callers m.0.last l = subst (λ (x : List T). Tells caller touches m.0.seen m.0.parts m.0.callers m.0.last x) (ap (λ (x : View T). x.seen) j.view) j.into in
      ap (share_of caller id) j.view ∙ (λ i. record (share_of caller id m.0) { seen = l; parts = m.0.parts ++ k.0.parts; mine = entries_of-tells c m.0.last m.0.seen l m.0.parts m.0.callers s.callers t i })
