-- Each step keeps the rule of the claims.
use Rattle.std.proofs.Common.{◌≡◌, ◌≢◌, ◌⊎◌, ℕ, zero, suc, ◌+◌, ◌<◌, ◌≤◌, eqb, true, false, true≢false, List, [], ◌∷◌, ◌++◌, length, map, replicate, get_or, set, sym, refl, ap, ◌∙◌, subst, ⊎_elim, inl, inr, arith, Option, Some, None, length-set, length-append, get_or-set_other, get_or-set_same}
use mathlib.Core.Logic.{dite}
use mathlib.Core.Option.{none, some, some-injective, some-ne-none}
use mathlib.Core.Option as maybe
use native.Mathlib.Decide.{ℕ_discrete}
use lib.ListN.{get_elem?}
use lib.Seq.{set-get_or}
use prog.Atomic.{either}
use Rattle.atomic_table.specs.Table.{State, Me, step, Act, keeps, takes, gives, stepped, Allows, Splits, Joins, opening, Final, Seen, Valid, carried_after}
use Rattle.atomic_table.proofs.Lists.{set_here, set_else, exchanged, at_last, at_longer}
use Rattle.index_sets.specs.Indices.{contains, all_but, numbers_from}
use Rattle.index_sets.specs.Owners.{handed, merged, one_of, rest_of}
use Rattle.index_sets.proofs.Laws.{contains-first, contains-other, contains-snoc, contains-snoc-other, contains-all_but, contains-all_but-other, contains-left, contains-right, contains-append, contains-one, contains-empty, numbers_from-least, numbers_from-most, numbers_from-all, length-numbers_from, handed-here, handed-else, handed-others, merged-old, merged-else, IsCut-first, get_elem?-inside, get_elem?-snoc, each-set}
use Rattle.vertex_claims.specs.declared.table.View.{View}
use Rattle.vertex_claims.specs.declared.table.About.{About}
use Rattle.vertex_claims.specs.Kept.{first_view, many, without_number, with_number, both, spent, Owned, won, missed, at_rest, given, Holds, Knows, IsFilled, Kept, tried, laid, lifted, backed}
use Rattle.std.proofs.lemmas.Bool.{false_from_ne_true}

module _ {R C : Type 0} (fits : R → ℕ → C → Type 0) (a : About R) where
  abbrev V : Type 0
  V = View R

  abbrev St : Type 0
  St = State (Option C) V

  abbrev M : Type 0
  M = Me (Option C) V

  abbrev Homes : Type 0
  Homes = List (maybe.Option (Option C))

  abbrev Rule : St → Type 0
  Rule = Kept fits a

  abbrev Fact : List ℕ → Homes → (ℕ → ℕ) → ℕ → V → Type 0
  Fact = Knows fits a

  -- another seat, which does not hold the place i, before the step and after it
  stays : (words : List ℕ) (homes homes' : Homes) (owner : ℕ → ℕ) (i n j : ℕ) (u : V) → Fact words homes owner j u
      → (contains u.numbers (get_or words i 0) ≡ true → ⊥) → (contains u.numbers n ≡ true → ⊥) → ((k : ℕ) → k ≢ i → get_elem? homes' k ≡ get_elem? homes k)
      → Fact (set words i n) homes' owner j u
  stays words homes homes' owner i n j u k before after same = let apart : (l : ℕ) → contains u.places l ≡ true → l ≢ i = (λ l h e. before (ap (λ x. contains u.numbers (get_or words x 0)) (sym e) ∙ (k.holds l h).mine)) in record {
    told = k.told;
    holds = λ l h. let t = k.holds l h in record { near = subst (λ m. l < m) (sym (length-set words i n)) t.near; mine = ap (contains u.numbers) (get_or-set_other words i l n 0 (apart l h)) ∙ t.mine };
    held = λ l near is. dite (ℕ_discrete l i)
        (λ e. absurd (after (ap (contains u.numbers) (sym (get_or-set_same words i n 0 (subst (λ x. x < length words) e (subst (λ m. l < m) (length-set words i n) near)))) ∙ (ap (λ x. contains u.numbers (get_or (set words i n) x 0)) (sym e) ∙ is))))
        (λ ne. k.held l (subst (λ m. l < m) (length-set words i n) near) (ap (contains u.numbers) (sym (get_or-set_other words i l n 0 ne)) ∙ is));
    empty = λ l h b. same l (apart l h) ∙ k.empty l h b;
  }

  many_set : (vs : List V) (id : ℕ) (v w : V) → get_elem? vs id ≡ some v → many (set vs id w) + length v.numbers ≡ many vs + length w.numbers
  many_set [] id v w e = absurd (some-ne-none v (sym e))
  many_set (x ∷ xs) zero v w e = let q : length x.numbers ≡ length v.numbers = ap (λ (z : V). length z.numbers) (some-injective x v e) in omega arith
  many_set (x ∷ xs) (suc id) v w e = let r = many_set xs id v w e in omega arith

  many_snoc : (vs : List V) (w : V) → many (vs ++ w ∷ []) ≡ many vs + length w.numbers
  many_snoc [] w = omega arith
  many_snoc (x ∷ xs) w = let r = many_snoc xs w in omega arith

  many_one : (vs : List V) (id : ℕ) (v : V) → get_elem? vs id ≡ some v → length v.numbers ≤ many vs
  many_one [] id v e = absurd (some-ne-none v (sym e))
  many_one (x ∷ xs) zero v e = let q : length x.numbers ≡ length v.numbers = ap (λ (z : V). length z.numbers) (some-injective x v e) in omega arith
  many_one (x ∷ xs) (suc id) v e = let r = many_one xs id v e in omega arith

  many_two : (vs : List V) (i j : ℕ) (v u : V) → i ≢ j → get_elem? vs i ≡ some v → get_elem? vs j ≡ some u → length v.numbers + length u.numbers ≤ many vs
  many_two [] i j v u n e f = absurd (some-ne-none v (sym e))
  many_two (x ∷ xs) zero zero v u n e f = absurd (n refl)
  many_two (x ∷ xs) zero (suc j) v u n e f = let q : length x.numbers ≡ length v.numbers = ap (λ (z : V). length z.numbers) (some-injective x v e) in let r = many_one xs j u f in omega arith
  many_two (x ∷ xs) (suc i) zero v u n e f = let q : length x.numbers ≡ length u.numbers = ap (λ (z : V). length z.numbers) (some-injective x u f) in let r = many_one xs i v e in omega arith
  many_two (x ∷ xs) (suc i) (suc j) v u n e f = let r = many_two xs i j v u (λ q. n (ap suc q)) e f in omega arith

  owned_set : (vs : List V) (owner : ℕ → ℕ) (id : ℕ) (v w : V) → get_elem? vs id ≡ some v → w.numbers ≡ v.numbers → (n : ℕ) → Owned fits vs owner n → Owned fits (set vs id w) owner n
  owned_set vs owner id v w at same n o = dite (ℕ_discrete (owner n) id)
      (λ e. record { view = w; here = subst (λ z. get_elem? (set vs id w) z ≡ some w) (sym e) (set_here vs id w (get_elem?-inside vs id v at)); mine = ap (λ l. contains l n) (same ∙ ap (λ (z : V). z.numbers) (some-injective v o.view (sym at ∙ (ap (get_elem? vs) (sym e) ∙ o.here)))) ∙ o.mine })
      (λ ne. record { view = o.view; here = set_else vs id (owner n) w ne ∙ o.here; mine = o.mine })

  -- a step of the seat id at the place i
  moved : (s : St) (r : Rule s) (id i n : ℕ) (v w : V) (homes' : Homes) → get_elem? s.views id ≡ some v → i < length s.words → length homes' ≡ length s.homes → n ≤ a.callers
      → (n ≡ 0 → IsFilled fits a homes' i) → ((k : ℕ) → k ≢ i → get_elem? homes' k ≡ get_elem? s.homes k)
      → w.numbers ≡ v.numbers → (get_or s.words i 0 ≡ 0) ⊎ (contains v.numbers (get_or s.words i 0) ≡ true) → (n ≡ 0) ⊎ (contains v.numbers n ≡ true)
      → Fact (set s.words i n) homes' r.owner id w
      → Rule record { words = set s.words i n; homes = homes'; views = set s.views id w }
  moved s r id i n v w homes' at near deep small filled same kept before after mine = record {
    owner = r.owner;
    wide = length-set s.words i n ∙ (r.wide ∙ sym deep);
    within = λ l lt. dite (ℕ_discrete l i) (λ e. subst (λ x. get_or (set s.words i n) x 0 ≤ a.callers) (sym e) (subst (λ x. x ≤ a.callers) (sym (get_or-set_same s.words i n 0 near)) small))
        (λ ne. subst (λ x. x ≤ a.callers) (sym (get_or-set_other s.words i l n 0 ne)) (r.within l (subst (λ m. l < m) (length-set s.words i n) lt)));
    free = λ l lt z. dite (ℕ_discrete l i) (λ e. subst (IsFilled fits a homes') (sym e) (filled (sym (get_or-set_same s.words i n 0 near) ∙ (ap (λ x. get_or (set s.words i n) x 0) (sym e) ∙ z))))
        (λ ne. let f = r.free l (subst (λ m. l < m) (length-set s.words i n) lt) (sym (get_or-set_other s.words i l n 0 ne) ∙ z) in record { cell = f.cell; home = same l ne ∙ f.home; meets = f.meets });
    each = each-set (Fact (set s.words i n) homes' r.owner) s.views id w mine (λ j u other e. let k = r.each j u e in
        let differ : (m : ℕ) → contains v.numbers m ≡ true → contains u.numbers m ≡ true → ⊥ = (λ m p q. other (sym (k.told m q).owned ∙ ((r.each id v at).told m p).owned)) in
        let none_at : contains u.numbers 0 ≡ true → ⊥ = (λ q. let z = (k.told 0 q).positive in absurd (omega arith)) in
        stays s.words s.homes homes' r.owner i n j u k
        (λ q. ⊎_elim (λ (z : get_or s.words i 0 ≡ 0). none_at (ap (contains u.numbers) (sym z) ∙ q)) (λ p. differ (get_or s.words i 0) p q) before)
        (λ q. ⊎_elim (λ (z : n ≡ 0). none_at (ap (contains u.numbers) (sym z) ∙ q)) (λ p. differ n p q) after) same);
    full = λ m p q. owned_set s.views r.owner id v w at kept m (r.full m p q);
    total = (let z = many_set s.views id v w at in let y : length w.numbers ≡ length v.numbers = ap (λ (l : List ℕ). length l) kept in omega arith) ∙ r.total;
  }

  -- a seat learns, and nothing else changes
  stood : (s : St) (r : Rule s) (id i : ℕ) (v w : V) → get_elem? s.views id ≡ some v → w.numbers ≡ v.numbers → Fact s.words s.homes r.owner id w → Rule record { words = set s.words i (get_or s.words i 0); homes = s.homes; views = set s.views id w }
  stood s r id i v w at kept mine = subst (λ (ws : List ℕ). Rule record { words = ws; homes = s.homes; views = set s.views id w }) (sym (set-get_or s.words i 0)) record {
    owner = r.owner;
    wide = r.wide;
    within = r.within;
    free = r.free;
    each = each-set (Fact s.words s.homes r.owner) s.views id w mine (λ j u other e. r.each j u e);
    full = λ m p q. owned_set s.views r.owner id v w at kept m (r.full m p q);
    total = (let z = many_set s.views id v w at in let y : length w.numbers ≡ length v.numbers = ap (λ (l : List ℕ). length l) kept in omega arith) ∙ r.total;
  }

  pub tries : (slots id i n : ℕ) (m : M) → i < slots → contains m.0.numbers n ≡ true → contains m.0.places i ≡ false → m.0.busy ≡ None → Allows Rule slots id m i (λ x. either (eqb x 0) n x) (tried fits (step slots i 0 n none) m)
  tries slots id i n m inside own free idle s r long at small =
      let v : V = m.0 in
      let x : ℕ = get_or s.words i 0 in
      let near : i < length s.words = subst (λ k. i < k) (sym (r.wide ∙ long)) inside in
      let k = r.each id v at in
      let told = k.told n own in
      let pos : 0 < n = told.positive in
      exchanged x 0 n (λ y. (w : V) × (act : Act (Option C)) × Valid s.homes m.1 act × Rule (stepped s i y id m.1 w act) × tried fits (step slots i 0 n none) m x (w, carried_after m.1 act))
      (λ hit. let f = r.free i near hit in (
        won v i,
        takes i (Some f.cell),
        f.home,
        moved s r id i n v (won v i) (set s.homes i none) at near (length-set s.homes i none) told.within (λ z. absurd (omega arith)) (λ l ne. set_else s.homes i l none ne) refl (inl hit) (inr own) record {
          told = λ q h. let d = k.told q h in record { owned = d.owned; positive = d.positive; within = d.within; root = d.root; callers = d.callers };
          holds = λ l h. dite (ℕ_discrete l i)
              (λ e. subst (Holds fits (set s.words i n) (won v i)) (sym e) record { near = subst (λ z. i < z) (sym (length-set s.words i n)) near; mine = ap (contains v.numbers) (get_or-set_same s.words i n 0 near) ∙ own })
              (λ ne. let t = k.holds l (sym (contains-snoc-other v.places i l ne) ∙ h) in record { near = subst (λ z. l < z) (sym (length-set s.words i n)) t.near; mine = ap (contains v.numbers) (get_or-set_other s.words i l n 0 ne) ∙ t.mine });
          held = λ l lt is. dite (ℕ_discrete l i) (λ e. subst (λ z. contains (v.places ++ i ∷ []) z ≡ true) (sym e) (contains-snoc v.places i))
              (λ ne. contains-snoc-other v.places i l ne ∙ k.held l (subst (λ z. l < z) (length-set s.words i n) lt) (ap (contains v.numbers) (sym (get_or-set_other s.words i l n 0 ne)) ∙ is));
          empty = λ l h b. dite (ℕ_discrete l i) (λ e. absurd (b (ap Some (sym e))))
              (λ ne. set_else s.homes i l none ne ∙ k.empty l (sym (contains-snoc-other v.places i l ne) ∙ h) (λ q. absurd (no_some l (sym idle ∙ q))));
        },
        ((λ _. record { root = a.root.value; root_is = told.root; cell = f.cell; meets = f.meets; after = refl }), λ ne. absurd (ne hit)),
      ))
      (λ miss. (
        missed v i x,
        keeps,
        tt,
        stood s r id i v (missed v i x) at refl record {
          told = λ q h. let d = k.told q h in record { owned = d.owned; positive = d.positive; within = d.within; root = d.root; callers = d.callers };
          holds = λ l h. let t = k.holds l h in record { near = t.near; mine = t.mine };
          held = k.held;
          empty = k.empty;
        },
        ((λ hit. absurd (miss hit)), λ ne. record { least = (let nz : x ≢ 0 = ne in omega arith); most = subst (λ z. x ≤ z) (sym told.callers) (r.within i near); another = false_from_ne_true (contains v.numbers x) (λ q. true≢false (sym (k.held i near q) ∙ free)); after = refl }),
      ))
    where
      no_some : (l : ℕ) → None ≡ Some l → ⊥
      no_some l e = absurd (cc)

  -- the view of a seat that holds the place i, after a load that puts its slot where y says
  handled : (s : St) (r : Rule s) (id i : ℕ) (v w : V) (y : maybe.Option (Option C)) → get_elem? s.views id ≡ some v → contains v.places i ≡ true
      → w.numbers ≡ v.numbers → Fact s.words (set s.homes i y) r.owner id w
      → Rule record { words = set s.words i (get_or s.words i 0); homes = set s.homes i y; views = set s.views id w }
  handled s r id i v w y at holds_it kept mine =
      let k = r.each id v at in
      let t = k.holds i holds_it in
      let pos = (k.told (get_or s.words i 0) t.mine).positive in
      moved s r id i (get_or s.words i 0) v w (set s.homes i y) at t.near (length-set s.homes i y) (r.within i t.near) (λ z. absurd (omega arith)) (λ l ne. set_else s.homes i l y ne) kept (inr t.mine) (inr t.mine)
      (subst (λ ws. Fact ws (set s.homes i y) r.owner id w) (sym (set-get_or s.words i 0)) mine)

  pub lays : (slots id i : ℕ) (v : V) → contains v.places i ≡ true → v.busy ≡ Some i → Allows Rule slots id (v, (i, None) ∷ []) i (λ n. n) (laid (step slots i 0 0 none) (v, (i, None) ∷ []))
  lays slots id i v holds_it busy s r long at small =
      let k = r.each id v at in
      let t = k.holds i holds_it in
      let inside : i < length s.homes = subst (λ z. i < z) r.wide t.near in (
        at_rest v,
        gives,
        tt,
        handled s r id i v (at_rest v) (some None) at holds_it refl record {
          told = λ q h. let d = k.told q h in record { owned = d.owned; positive = d.positive; within = d.within; root = d.root; callers = d.callers };
          holds = λ l h. let d = k.holds l h in record { near = d.near; mine = d.mine };
          held = k.held;
          empty = λ l h b. dite (ℕ_discrete l i) (λ e. subst (λ z. get_elem? (set s.homes i (some None)) z ≡ some (some None)) (sym e) (set_here s.homes i (some None) inside))
              (λ ne. set_else s.homes i l (some None) ne ∙ k.empty l h (λ q. ne (same_some l i (sym q ∙ busy))));
        },
        refl,
      )
    where
      same_some : (l i : ℕ) → Some l ≡ Some i → l ≡ i
      same_some l i e = cc

  pub lifts : (slots id i : ℕ) (v : V) → contains v.places i ≡ true → v.busy ≡ None → Allows Rule slots id (v, []) i (λ n. n) (lifted (step slots i 0 0 none) (v, []))
  lifts slots id i v holds_it idle s r long at small =
      let k = r.each id v at in
      let free : (l : ℕ) → v.busy ≢ Some l = (λ l q. absurd (no_some l (sym idle ∙ q))) in (
        record v { busy = Some i },
        takes i None,
        k.empty i holds_it (free i),
        handled s r id i v (record v { busy = Some i }) none at holds_it refl record {
          told = λ q h. let d = k.told q h in record { owned = d.owned; positive = d.positive; within = d.within; root = d.root; callers = d.callers };
          holds = λ l h. let d = k.holds l h in record { near = d.near; mine = d.mine };
          held = k.held;
          empty = λ l h b. dite (ℕ_discrete l i) (λ e. absurd (b (ap Some (sym e)))) (λ ne. set_else s.homes i l none ne ∙ k.empty l h (free l));
        },
        refl,
      )
    where
      no_some : (l : ℕ) → None ≡ Some l → ⊥
      no_some l e = absurd (cc)

  pub backs : (slots id i : ℕ) (v : V) (c : C) → contains v.places i ≡ true → v.busy ≡ Some i → fits a.root.value i c → Allows Rule slots id (v, (i, Some c) ∷ []) i (λ _. 0) (λ _. backed (step slots i 0 0 none) (v, (i, Some c) ∷ []) 0)
  backs slots id i v c holds_it busy meets s r long at small =
      let k = r.each id v at in
      let t = k.holds i holds_it in
      let inside : i < length s.homes = subst (λ z. i < z) r.wide t.near in
      let other : (l : ℕ) → contains (all_but v.places i) l ≡ true → l ≢ i = (λ l h e. true≢false (sym h ∙ (ap (contains (all_but v.places i)) e ∙ contains-all_but v.places i))) in (
        given v i,
        gives,
        tt,
        moved s r id i 0 v (given v i) (set s.homes i (some (Some c))) at t.near (length-set s.homes i (some (Some c))) (omega arith)
            (λ _. record { cell = c; home = set_here s.homes i (some (Some c)) inside; meets = meets }) (λ l ne. set_else s.homes i l (some (Some c)) ne) refl (inr t.mine) (inl refl) record {
              told = λ q h. let d = k.told q h in record { owned = d.owned; positive = d.positive; within = d.within; root = d.root; callers = d.callers };
              holds = λ l h. let ne = other l h in let d = k.holds l (sym (contains-all_but-other v.places i l ne) ∙ h) in record { near = subst (λ z. l < z) (sym (length-set s.words i 0)) d.near; mine = ap (contains v.numbers) (get_or-set_other s.words i l 0 0 ne) ∙ d.mine };
              held = λ l lt is. let lt' : l < length s.words = subst (λ z. l < z) (length-set s.words i 0) lt in dite (ℕ_discrete l i)
                  (λ e. absurd (let z : contains v.numbers 0 ≡ true = ap (contains v.numbers) (sym (get_or-set_same s.words i 0 0 t.near)) ∙ (ap (λ x. contains v.numbers (get_or (set s.words i 0) x 0)) (sym e) ∙ is) in let y = (k.told 0 z).positive in omega arith))
                  (λ ne. contains-all_but-other v.places i l ne ∙ k.held l lt' (ap (contains v.numbers) (sym (get_or-set_other s.words i l 0 0 ne)) ∙ is));
              empty = λ l h b. let ne = other l h in set_else s.homes i l (some (Some c)) ne ∙ k.empty l (sym (contains-all_but-other v.places i l ne) ∙ h) (λ q. ne (same_some l i (sym q ∙ busy)));
            },
        refl,
      )
    where
      same_some : (l i : ℕ) → Some l ≡ Some i → l ≡ i
      same_some l i e = cc

  -- the same at a seat that is known
  pub tries_as : (slots id i num : ℕ) (m : M) → m.0.numbers ≡ num ∷ [] → i < slots → contains m.0.places i ≡ false → m.0.busy ≡ None → Allows Rule slots id m i (λ n. either (eqb n 0) num n) (tried fits (step slots i 0 num none) m)
  tries_as slots id i num m is inside free idle = tries slots id i num m inside (ap (λ l. contains l num) is ∙ contains-first [] num) free idle

  pub lays_as : (slots id i : ℕ) (m : M) (v : V) → m ≡ (v, (i, None) ∷ []) → contains v.places i ≡ true → v.busy ≡ Some i → Allows Rule slots id m i (λ n. n) (laid (step slots i 0 0 none) m)
  lays_as slots id i m v is holds_it busy = subst (λ (x : M). Allows Rule slots id x i (λ n. n) (laid (step slots i 0 0 none) x)) (sym is) (lays slots id i v holds_it busy)

  pub lifts_as : (slots id i : ℕ) (m : M) → m.1 ≡ [] → contains m.0.places i ≡ true → m.0.busy ≡ None → Allows Rule slots id m i (λ n. n) (lifted (step slots i 0 0 none) m)
  lifts_as slots id i m is holds_it idle = subst (λ (x : List (ℕ × Option C)). Allows Rule slots id (m.0, x) i (λ n. n) (lifted (step slots i 0 0 none) (m.0, x))) (sym is) (lifts slots id i m.0 holds_it idle)

  pub backs_as : (slots id i : ℕ) (m : M) (v : V) (c : C) → m ≡ (v, (i, Some c) ∷ []) → contains v.places i ≡ true → v.busy ≡ Some i → fits a.root.value i c → Allows Rule slots id m i (λ _. 0) (λ _. backed (step slots i 0 0 none) m 0)
  backs_as slots id i m v c is holds_it busy meets = subst (λ (x : M). Allows Rule slots id x i (λ _. 0) (λ _. backed (step slots i 0 0 none) x 0)) (sym is) (backs slots id i v c holds_it busy meets)

  -- the first number goes to a new seat
  pub cuts : (id n : ℕ) (ns : List ℕ) (v : V) → v.numbers ≡ n ∷ ns → contains ns n ≡ false → v.places ≡ [] → Splits Rule id v (without_number v) (with_number v)
  cuts id n ns v nums once bare s r at =
      let kn = r.each id v at in
      let new : ℕ = length s.views in
      let stay : V = without_number v in
      let go : V = with_number v in
      let owner' : ℕ → ℕ = handed r.owner (n ∷ []) new in
      let own : contains v.numbers n ≡ true = ap (λ l. contains l n) nums ∙ contains-first ns n in
      let rest_is : rest_of v.numbers ≡ ns = ap rest_of nums in
      let one_is : one_of v.numbers ≡ n ∷ [] = ap one_of nums in
      let cut = IsCut-first n ns once in
      let later : (q : ℕ) → contains (rest_of v.numbers) q ≡ true → (contains v.numbers q ≡ true) × (contains (n ∷ []) q ≡ false) = (λ q h. let l = cut.left q (ap (λ l. contains l q) (sym rest_is) ∙ h) in (ap (λ l. contains l q) nums ∙ l.0, l.1)) in
      let first : (q : ℕ) → contains (one_of v.numbers) q ≡ true → q ≡ n = (λ q h. contains-one n q (ap (λ l. contains l q) (sym one_is) ∙ h)) in
      let nothing : (i : ℕ) (X : Type 0) → contains v.places i ≡ true → X = (λ i X h. absurd (contains-empty v.places i bare h)) in
      let went : (z : ℕ) → contains (n ∷ []) z ≡ true → r.owner z ≡ id = (λ z h. (kn.told z (ap (contains v.numbers) (contains-one n z h) ∙ own)).owned) in
      record {
        owner = owner';
        wide = r.wide;
        within = r.within;
        free = r.free;
        each = λ j u x. ⊎_elim
            (λ there. each-set (Fact s.words s.homes owner') s.views id stay
            record {
              told = λ q h. let l = later q h in let d = kn.told q l.0 in record { owned = handed-else r.owner (n ∷ []) new q l.1 ∙ d.owned; positive = d.positive; within = d.within; root = d.root; callers = d.callers };
              holds = λ i h. nothing i _ h;
              held = λ i lt h. kn.held i lt (later (get_or s.words i 0) h).0;
              empty = kn.empty;
            }
            (λ i y other y_at. let f = r.each i y y_at in record {
              told = λ q h. let d = f.told q h in record { owned = handed-others r.owner (n ∷ []) new id i q went other d.owned; positive = d.positive; within = d.within; root = d.root; callers = d.callers };
              holds = λ l h. let d = f.holds l h in record { near = d.near; mine = d.mine };
              held = f.held;
              empty = f.empty;
            }) j u there)
            (λ (here : (go ≡ u) × (j ≡ length (set s.views id stay))). subst (λ (z : ℕ × V). Fact s.words s.homes owner' z.0 z.1) (λ i. (sym (here.1 ∙ length-set s.views id stay) i, here.0 i))
            record {
              told = λ q h. let e = first q h in let d = kn.told q (ap (contains v.numbers) e ∙ own) in record { owned = handed-here r.owner (n ∷ []) new q (ap (contains (n ∷ [])) e ∙ contains-first [] n); positive = d.positive; within = d.within; root = d.root; callers = d.callers };
              holds = λ i h. nothing i _ h;
              held = λ i lt h. nothing i _ (kn.held i lt (ap (contains v.numbers) (first (get_or s.words i 0) h) ∙ own));
              empty = λ i h b. nothing i _ h;
            })
            (get_elem?-snoc (set s.views id stay) go u j x);
        full = λ m p q. dite (ℕ_discrete m n)
            (λ e. let gone : contains (n ∷ []) m ≡ true = ap (contains (n ∷ [])) e ∙ contains-first [] n in record {
              view = go;
              here = subst (λ z. get_elem? (set s.views id stay ++ go ∷ []) z ≡ some go) (sym (handed-here r.owner (n ∷ []) new m gone)) (at_last (set s.views id stay) go new (length-set s.views id stay));
              mine = ap (λ l. contains l m) one_is ∙ gone;
            })
            (λ ne. let o = r.full m p q in let left : contains (n ∷ []) m ≡ false = false_from_ne_true (contains (n ∷ []) m) (λ t. ne (contains-one n m t)) in let was = handed-else r.owner (n ∷ []) new m left in dite (ℕ_discrete (r.owner m) id)
            (λ e. let same : v ≡ o.view = some-injective v o.view (sym at ∙ (ap (get_elem? s.views) (sym e) ∙ o.here)) in record {
              view = stay;
              here = subst (λ z. get_elem? (set s.views id stay ++ go ∷ []) z ≡ some stay) (sym (was ∙ e)) (at_longer (set s.views id stay) (go ∷ []) id stay (set_here s.views id stay (get_elem?-inside s.views id v at)));
              mine = ap (λ l. contains l m) rest_is ∙ (sym (contains-other ns n m ne) ∙ (ap (λ l. contains l m) (sym nums) ∙ (ap (λ (z : V). contains z.numbers m) same ∙ o.mine)));
            })
            (λ other. record {
              view = o.view;
              here = subst (λ z. get_elem? (set s.views id stay ++ go ∷ []) z ≡ some o.view) (sym was) (at_longer (set s.views id stay) (go ∷ []) (r.owner m) o.view (set_else s.views id (r.owner m) stay other ∙ o.here));
              mine = o.mine;
            }));
        total =
            (let z = many_set s.views id v stay at in let y = many_snoc (set s.views id stay) go in let x : length v.numbers ≡ suc (length ns) = ap (λ (l : List ℕ). length l) nums in let w : length (rest_of v.numbers) ≡ length ns = ap (λ (l : List ℕ). length l) rest_is in let u : length (one_of v.numbers) ≡ 1 = ap (λ (l : List ℕ). length l) one_is in omega arith)
            ∙ r.total;
      }

  -- a seat with a number takes in the numbers of another that holds nothing
  pub glues : (id other n : ℕ) (v w : V) → contains v.numbers n ≡ true → w.places ≡ [] → Joins Rule id v other w (both v w) spent
  glues id other n v w own bare s r at apart at' =
      let k = r.each id v at in
      let w_at : get_elem? s.views other ≡ some w = sym (set_else s.views id other (both v w) apart) ∙ at' in
      let f = r.each other w w_at in
      let owner' : ℕ → ℕ = merged r.owner other id in
      let went = merged-old r.owner other id in
      let kept = merged-else r.owner other id in
      let nothing : (i : ℕ) (X : Type 0) → contains w.places i ≡ true → X = (λ i X h. absurd (contains-empty w.places i bare h)) in
      let both_in : id < length s.views = get_elem?-inside s.views id v at in
      let spent_in : other < length (set s.views id (both v w)) = get_elem?-inside (set s.views id (both v w)) other w at' in
      let both_here : get_elem? (set (set s.views id (both v w)) other spent) id ≡ some (both v w) = set_else (set s.views id (both v w)) other id spent (λ e. apart (sym e)) ∙ set_here s.views id (both v w) both_in in
      record {
        owner = owner';
        wide = r.wide;
        within = r.within;
        free = r.free;
        each = each-set (Fact s.words s.homes owner') (set s.views id (both v w)) other spent
            record { told = λ q h. absurd (true≢false (sym h)); holds = λ i h. absurd (true≢false (sym h)); held = λ i lt h. absurd (true≢false (sym h)); empty = λ i h b. absurd (true≢false (sym h)) }
            (λ i y not_other y_at. each-set (λ i y. i ≢ other → Fact s.words s.homes owner' i y) s.views id (both v w)
            (λ _. record {
              told = λ q h. let c = k.told n own in ⊎_elim
                  (λ mine. let d = k.told q mine in record { owned = kept q (λ e. apart (sym e ∙ d.owned)) ∙ d.owned; positive = d.positive; within = d.within; root = c.root; callers = c.callers })
                  (λ mine. let d = f.told q mine in record { owned = went q d.owned; positive = d.positive; within = d.within; root = c.root; callers = c.callers }) (contains-append v.numbers w.numbers q h);
              holds = λ l h. let d = k.holds l h in record { near = d.near; mine = contains-left v.numbers w.numbers (get_or s.words l 0) d.mine };
              held = λ l lt h. ⊎_elim (λ mine. k.held l lt mine) (λ mine. nothing l _ (f.held l lt mine)) (contains-append v.numbers w.numbers (get_or s.words l 0) h);
              empty = k.empty;
            })
            (λ j z not_id z_at not_other'. let g = r.each j z z_at in record {
              told = λ q h. let d = g.told q h in record { owned = kept q (λ e. not_other' (sym d.owned ∙ e)) ∙ d.owned; positive = d.positive; within = d.within; root = d.root; callers = d.callers };
              holds = λ l h. let d = g.holds l h in record { near = d.near; mine = d.mine };
              held = g.held;
              empty = g.empty;
            }) i y y_at not_other);
        full = λ m p q. let o = r.full m p q in dite (ℕ_discrete (r.owner m) other)
            (λ e. record { view = both v w; here = subst (λ z. get_elem? (set (set s.views id (both v w)) other spent) z ≡ some (both v w)) (sym (went m e)) both_here; mine = contains-right v.numbers w.numbers m (ap (λ (z : V). contains z.numbers m) (some-injective w o.view (sym w_at ∙ (ap (get_elem? s.views) (sym e) ∙ o.here))) ∙ o.mine) })
            (λ not_other. dite (ℕ_discrete (r.owner m) id)
            (λ e. record { view = both v w; here = subst (λ z. get_elem? (set (set s.views id (both v w)) other spent) z ≡ some (both v w)) (sym (kept m not_other ∙ e)) both_here; mine = contains-left v.numbers w.numbers m (ap (λ (z : V). contains z.numbers m) (some-injective v o.view (sym at ∙ (ap (get_elem? s.views) (sym e) ∙ o.here))) ∙ o.mine) })
            (λ not_id. record { view = o.view; here = subst (λ z. get_elem? (set (set s.views id (both v w)) other spent) z ≡ some o.view) (sym (kept m not_other)) (set_else (set s.views id (both v w)) other (r.owner m) spent not_other ∙ (set_else s.views id (r.owner m) (both v w) not_id ∙ o.here)); mine = o.mine }));
        total =
            (let z = many_set s.views id v (both v w) at in let y = many_set (set s.views id (both v w)) other w spent at' in let x = length-append v.numbers w.numbers in omega arith)
            ∙ r.total;
      }

  -- where one seat has all numbers and no place, each place has its cell
  pub closes : (s : St) (id : ℕ) (v : V) → Rule s → get_elem? s.views id ≡ some v → a.callers ≤ length v.numbers → v.places ≡ [] → (i : ℕ) → i < length s.words → IsFilled fits a s.homes i
  closes s id v r at all bare i near = dite (ℕ_discrete (get_or s.words i 0) 0) (λ z. r.free i near z)
      (λ nz. let m : ℕ = get_or s.words i 0 in let o = r.full m (let g : m ≢ 0 = nz in omega arith) (r.within i near) in dite (ℕ_discrete id (r.owner m))
      (λ e. absurd (let same : v ≡ o.view = some-injective v o.view (sym at ∙ (ap (get_elem? s.views) e ∙ o.here)) in true≢false (sym ((r.each id v at).held i near (ap (λ (x : V). contains x.numbers m) same ∙ o.mine)) ∙ ap (λ l. contains l i) bare)))
      (λ apart. absurd (let two = many_two s.views id (r.owner m) v o.view apart at o.here in let t = r.total in empty_has o.view.numbers m (omega arith) o.mine)))
    where
      empty_has : (xs : List ℕ) (m : ℕ) → length xs ≡ 0 → contains xs m ≡ true → ⊥
      empty_has [] m e h = true≢false (sym h)
      empty_has (x ∷ xs) m e h = absurd (omega arith)

  pub closed_cells : (id : ℕ) (v : V) (ws : List ℕ) (xs : List (Option C)) → Final (Seen Rule id v) ws xs → a.callers ≤ length v.numbers → v.places ≡ [] → (i : ℕ) → i < length xs → (c : C) × (get_elem? xs i ≡ some (Some c)) × fits a.root.value i c
  closed_cells id v ws xs f all bare i near =
      let s = f.0 in
      let r = f.1.0 in
      let c = closes s id v r f.1.1 all bare i (subst (λ n. i < n) (sym (r.wide ∙ f.3)) near) in
      (c.cell, f.4 i (Some c.cell) c.home, c.meets)

  abbrev ones : ℕ → List ℕ
  ones n = replicate n 1

  abbrev empties : ℕ → Homes
  empties n = map some (replicate n None)

  ones_at : (n i : ℕ) → i < n → get_or (ones n) i 0 ≡ 1
  ones_at zero i lt = absurd (omega arith)
  ones_at (suc n) zero lt = refl
  ones_at (suc n) (suc i) lt = ones_at n i (omega arith)

  ones_long : (n : ℕ) → length (ones n) ≡ n
  ones_long zero = refl
  ones_long (suc n) = ap suc (ones_long n)

  empties_at : (n i : ℕ) → i < n → get_elem? (empties n) i ≡ some (some None)
  empties_at zero i lt = absurd (omega arith)
  empties_at (suc n) zero lt = refl
  empties_at (suc n) (suc i) lt = empties_at n i (omega arith)

  empties_long : (n : ℕ) → length (empties n) ≡ n
  empties_long zero = refl
  empties_long (suc n) = ap suc (empties_long n)

  -- The rule holds at first: the holder of the number 1 has all places
  pub starts : 1 ≤ a.callers → Rule (opening (ones a.places) (replicate a.places None) (first_view a))
  starts some_caller = record {
    owner = λ _. 0;
    wide = ones_long a.places ∙ sym (empties_long a.places);
    within = λ i lt. subst (λ z. z ≤ a.callers) (sym (ones_at a.places i (inside i lt))) some_caller;
    free = λ i lt z. absurd (let one = ones_at a.places i (inside i lt) in omega arith);
    each = at_first;
    full = λ m p q. record { view = first_view a; here = refl; mine = numbers_from-all 1 a.callers m (omega arith) (omega arith) };
    total = ap (λ z. z + 0) (length-numbers_from 1 a.callers) ∙ (omega arith);
  }
    where
      inside : (i : ℕ) → i < length (ones a.places) → i < a.places
      inside i lt = subst (λ z. i < z) (ones_long a.places) lt

      at_first : (id : ℕ) (v : V) → get_elem? (first_view a ∷ []) id ≡ some v → Fact (ones a.places) (empties a.places) (λ _. 0) id v
      at_first zero v e = subst (Fact (ones a.places) (empties a.places) (λ _. 0) zero) (some-injective (first_view a) v e) record {
        told = λ q h. let l = numbers_from-least 1 a.callers q h in let u = numbers_from-most 1 a.callers q h in record { owned = refl; positive = omega arith; within = omega arith; root = refl; callers = refl };
        holds = λ i h. let u = numbers_from-most 0 a.places i h in let lt : i < a.places = omega arith in record {
          near = subst (λ z. i < z) (sym (ones_long a.places)) lt;
          mine = ap (contains (numbers_from 1 a.callers)) (ones_at a.places i lt) ∙ numbers_from-all 1 a.callers 1 (omega arith) (omega arith);
        };
        held = λ i lt h. let z = inside i lt in numbers_from-all 0 a.places i (omega arith) (omega arith);
        empty = λ i h b. let u = numbers_from-most 0 a.places i h in empties_at a.places i (omega arith);
      }
      at_first (suc id) v e = absurd (some-ne-none v (sym e))
