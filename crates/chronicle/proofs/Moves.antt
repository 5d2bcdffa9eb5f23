-- Each step keeps the rule of the history.
use Rattle.std.proofs.Common.{◌≡◌, ◌≢◌, ℕ, zero, suc, ◌+◌, ◌-◌, ◌%◌, ◌^◌, ◌<◌, ◌≤◌, Bool, true, false, true≢false, List, [], ◌∷◌, ◌++◌, length, get_or, set, sym, refl, ap, ◌∙◌, subst, ⊎_elim, arith, Option, Some, length-set, length-append, get_or-set_same, mod-eq_of_lt}
use mathlib.Core.Logic.{dite}
use mathlib.Core.Option.{none, some, some-injective, some-ne-none}
use mathlib.Core.List.{IsPrefix}
use native.Mathlib.Decide.{dec_le}
use Rattle.std.proofs.lemmas.List.{append-nil}
use lib.ListN.{get_elem?}
use lib.Seq.{set-get_or}
use Rattle.atomic_table.specs.Table.{State, Me, step, keeps, Allows, Splits, Joins, opening}
use Rattle.atomic_table.proofs.Lists.{at_set, set_else}
use Rattle.index_sets.specs.Indices.{contains, all_but, HasNoRepeat}
use Rattle.index_sets.specs.Prefixes.{longer}
use Rattle.index_sets.specs.Owners.{handed, merged, IsCut, one_of, rest_of}
use Rattle.index_sets.proofs.Laws.{contains-append, HasNoRepeat-append, HasNoRepeat-all_but, HasNoRepeat-numbers_from, numbers_from-least, numbers_from-most, handed-here, handed-else, handed-others, merged-old, merged-else, IsCut-one, IsCut-none, IsCut-first, IsPrefix-refl, IsPrefix-append, IsPrefix-trans, IsPrefix-whole, IsPrefix-both, IsPrefix-length, longer-is_prefix, get_elem?-inside, get_elem?-below, get_elem?-prefix, get_elem?-snoc, each-set}
use Rattle.chronicle.specs.declared.table.View.{View}
use Rattle.chronicle.specs.declared.table.Side.{Side}
use Rattle.chronicle.specs.declared.table.About.{About}
use Rattle.chronicle.specs.History.{IsCaller}
use Rattle.chronicle.specs.Kept.{first_view, opened, spent, keeping, going, without_part, with_part, without_caller, with_caller, side_of, both, Tells, AreCallersFrom, Fits, Kept, learned, added, begun}
use Rattle.std.proofs.lemmas.Bool.{false_from_ne_true}

module _ {T : Type 0} (caller : T → ℕ) (touches : T → ℕ → Bool) (a : About) where
  abbrev V : Type 0
  V = View T

  abbrev St : Type 0
  St = State (Unit {0}) V

  abbrev M : Type 0
  M = Me (Unit {0}) V

  abbrev Rule : St → Type 0
  Rule = Kept caller touches a

  abbrev Fact : List T → (ℕ → ℕ) → (ℕ → ℕ) → ℕ → V → Type 0
  Fact = Fits caller touches a.last a.callers

  abbrev Knows : (seen : List T) (parts callers : List ℕ) (log : List T) → Type 0
  Knows seen parts callers log = Tells caller touches seen parts callers a.last log

  no_side : (k : ℕ) (o : Side T) (X : Type 0) → get_elem? {A = Side T} [] k ≡ some o → X
  no_side k o X e = absurd (some-ne-none o (sym e))

  -- where a seat is live, none boots
  none_boots : (s : St) (r : Rule s) (id : ℕ) (v : V) → get_elem? s.views id ≡ some v → v.live ≡ true → (j : ℕ) (u : V) → get_elem? s.views j ≡ some u → u.boots ≡ true → (X : Type 0) → X
  none_boots s r id v at live j u at' b X = absurd (true≢false (sym live ∙ (r.alone j u at' b id v at).0))

  still_none : (vs : List V) (id : ℕ) (w : V) → (w.boots ≡ true → (X : Type 0) → X) → ((j : ℕ) (u : V) → get_elem? vs j ≡ some u → u.boots ≡ true → (X : Type 0) → X) → (j : ℕ) (u : V) → get_elem? (set vs id w) j ≡ some u → u.boots ≡ true → (X : Type 0) → X
  still_none vs id w mine others j u e b X = ⊎_elim (λ (t : (j ≡ id) × (w ≡ u)). mine (ap (λ (z : V). z.boots) t.1 ∙ b) X) (λ (t : (j ≢ id) × (get_elem? vs j ≡ some u)). others j u t.1 b X) (at_set vs id j w u e)

  -- the owner of the last part has seen all
  seen-whole : (log : List T) (part_owner caller_owner : ℕ → ℕ) (id : ℕ) (v : V) → Fact log part_owner caller_owner id v → v.live ≡ true → contains v.parts v.last ≡ true → v.seen ≡ log
  seen-whole log part_owner caller_owner id v k live owns =
      IsPrefix-whole v.seen log k.tells.begins (not_longer (λ lt. let x = get_elem?-below log (length v.seen) lt in (k.tells.spares (length v.seen) x.0 v.last (omega arith) x.1 owns).0 (k.last_is live)))
    where
      not_longer : {x y : ℕ} → (x < y → ⊥) → y ≤ x
      not_longer {x} {y} n = dite (dec_le y x) (λ l. l) (λ g. absurd (n (omega arith)))

  -- an entry becomes the last
  pub adds : (slots id : ℕ) (m : M) (told : Option T) (e : T) → told ≡ Some e → m.0.live ≡ true → contains m.0.parts m.0.last ≡ true → ((p : ℕ) → touches e p ≡ true → contains m.0.parts p ≡ true) → contains m.0.callers (caller e) ≡ true → length m.0.seen < 2 ^ 64 - 1
      → Allows Rule slots id m 0 (λ n. (n + 1) % 2 ^ 64) (added told (step slots 0 1 0 none) m)
  adds slots id m told e is live owns covers own room s r long at small =
      let v : V = m.0 in
      let k = r.each id v at in
      let h : ℕ = length v.seen in
      let last_is = k.last_is live in
      let whole : v.seen ≡ r.log = seen-whole r.log r.part_owner r.caller_owner id v k live owns in
      let n : ℕ = get_or s.words 0 0 in
      let n_is : n ≡ h = r.count ∙ ap (λ (l : List T). length l) (sym whole) in
      let log' : List T = r.log ++ e ∷ [] in
      let w : V = record v { seen = v.seen ++ e ∷ []; sides = [] } in
      let near : 0 < length s.words = let z = r.wide in omega arith in
      let past : (j : ℕ) (x : T) (X : Type 0) → length (v.seen ++ e ∷ []) ≤ j → get_elem? log' j ≡ some x → X = (λ j x X le there. absurd (let q = get_elem?-inside log' j x there in let z : length (v.seen ++ e ∷ []) ≡ length log' = ap (λ (l : List T). length (l ++ e ∷ [])) whole in omega arith)) in
      let later' : (f : ℕ) → AreCallersFrom caller a.callers f r.log → AreCallersFrom caller a.callers f log' = (λ f was j x le there. ⊎_elim (λ old. was j x le old) (λ (new : (e ≡ x) × (j ≡ length r.log)). subst (λ y. IsCaller a.callers (caller y)) new.0 (k.callers (caller e) own).1) (get_elem?-snoc r.log e x j there)) in (
        w,
        keeps,
        tt,
        record {
          log = log';
          part_owner = r.part_owner;
          caller_owner = r.caller_owner;
          wide = length-set s.words 0 ((n + 1) % 2 ^ 64) ∙ r.wide;
          count = get_or-set_same s.words 0 ((n + 1) % 2 ^ 64) 0 near ∙ (mod-eq_of_lt (let z : n ≡ h = n_is in omega arith) ∙ (let q = length-append r.log (e ∷ []) in let c = r.count in omega arith));
          each = each-set (Fact log' r.part_owner r.caller_owner) s.views id w
              record {
                last_is = k.last_is;
                most_is = k.most_is;
                tells = record {
                  begins = ([], ap (λ (l : List T). (l ++ e ∷ []) ++ []) whole ∙ append-nil log');
                  spares = λ j x p le there mine. past j x _ le there;
                  lacks = λ j x c le there mine. past j x _ le there;
                };
                once = k.once;
                parts = k.parts;
                callers = k.callers;
                first = IsPrefix-append v.first v.seen (e ∷ []) k.first;
                later = λ l. later' (length v.first) (k.later l);
                sides = λ j o x. no_side j o _ x;
                dead = λ d. absurd (true≢false (sym live ∙ d));
                boots = λ b. none_boots s r id v at live id v at b _;
              }
              (λ j u other there. let f = r.each j u there in record {
                last_is = f.last_is;
                most_is = f.most_is;
                tells = record {
                  begins = IsPrefix-append u.seen r.log (e ∷ []) f.tells.begins;
                  spares = λ i x p le x_at mine. ⊎_elim (λ was. f.tells.spares i x p le was mine)
                      (λ (new : (e ≡ x) × (i ≡ length r.log)). (
                        (λ q. other (sym (f.parts p mine) ∙ k.parts p (ap (contains v.parts) (q ∙ sym last_is) ∙ owns))),
                        subst (λ y. touches y p ≡ false) new.0 (false_from_ne_true (touches e p) (λ t. other (sym (f.parts p mine) ∙ k.parts p (covers p t)))),
                      )) (get_elem?-snoc r.log e x i x_at);
                  lacks = λ i x c le x_at mine. ⊎_elim (λ was. f.tells.lacks i x c le was mine)
                      (λ (new : (e ≡ x) × (i ≡ length r.log)) q. other (sym (f.callers c mine).0 ∙ (k.callers c (ap (contains v.callers) (sym q ∙ ap caller (sym new.0)) ∙ own)).0)) (get_elem?-snoc r.log e x i x_at);
                };
                once = f.once;
                parts = f.parts;
                callers = f.callers;
                first = f.first;
                later = λ l. later' (length u.first) (f.later l);
                sides = f.sides;
                dead = f.dead;
                boots = λ b. none_boots s r id v at live j u there b _;
              });
          alone = λ j u x b. still_none s.views id w (λ q. none_boots s r id v at live id v at q) (none_boots s r id v at live) j u x b _;
        },
        record {
          found = n_is;
          after = λ e' told'. ap (λ (y : T). (record v { seen = v.seen ++ y ∷ []; sides = [] }, m.1)) (same_some e e' (sym is ∙ told'));
          callers = λ c mine. subst (λ z. IsCaller z c) (sym (k.most_is live)) (k.callers c mine).1;
        },
      )
    where
      same_some : (x y : T) → Some x ≡ Some y → x ≡ y
      same_some x y q = cc

  -- a view is cut in two
  pub cuts : (id : ℕ) (v : V) (parts parts' callers callers' : List ℕ) → v.live ≡ true → IsCut v.parts parts parts' → IsCut v.callers callers callers' → (HasNoRepeat v.parts → HasNoRepeat parts) → HasNoRepeat parts' → Splits Rule id v (keeping v parts callers) (going v parts' callers')
  cuts id v parts parts' callers callers' live by_parts by_callers once once' s r at =
      let k = r.each id v at in
      let new : ℕ = length s.views in
      let owner' : ℕ → ℕ = handed r.part_owner parts' new in
      let caller' : ℕ → ℕ = handed r.caller_owner callers' new in
      let stay : V = keeping v parts callers in
      let go : V = going v parts' callers' in
      record {
        log = r.log;
        part_owner = owner';
        caller_owner = caller';
        wide = r.wide;
        count = r.count;
        each = λ j u x. ⊎_elim
            (λ there. each-set (Fact r.log owner' caller') s.views id stay
            record {
              last_is = k.last_is;
              most_is = k.most_is;
              tells = record {
                begins = k.tells.begins;
                spares = λ i y q le y_at mine. k.tells.spares i y q le y_at (by_parts.left q mine).0;
                lacks = λ i y c le y_at mine. k.tells.lacks i y c le y_at (by_callers.left c mine).0;
              };
              once = once k.once;
              parts = λ q mine. let o = by_parts.left q mine in handed-else r.part_owner parts' new q o.1 ∙ k.parts q o.0;
              callers = λ c mine. let o = by_callers.left c mine in let w = k.callers c o.0 in (handed-else r.caller_owner callers' new c o.1 ∙ w.0, w.1);
              first = k.first;
              later = k.later;
              sides = k.sides;
              dead = λ d. absurd (true≢false (sym live ∙ d));
              boots = λ b. none_boots s r id v at live id v at b _;
            }
            (λ i y other y_at. let f = r.each i y y_at in record {
              last_is = f.last_is;
              most_is = f.most_is;
              tells = f.tells;
              once = f.once;
              parts = λ q mine. handed-others r.part_owner parts' new id i q (λ z t. k.parts z (by_parts.right z t)) other (f.parts q mine);
              callers = λ c mine. let w = f.callers c mine in (handed-others r.caller_owner callers' new id i c (λ z t. (k.callers z (by_callers.right z t)).0) other w.0, w.1);
              first = f.first;
              later = f.later;
              sides = f.sides;
              dead = f.dead;
              boots = λ b. none_boots s r id v at live i y y_at b _;
            }) j u there)
            (λ (here : (go ≡ u) × (j ≡ length (set s.views id stay))). subst (λ (z : ℕ × V). Fact r.log owner' caller' z.0 z.1) (λ i. (sym (here.1 ∙ length-set s.views id stay) i, here.0 i))
            record {
              last_is = λ _. k.last_is live;
              most_is = λ _. k.most_is live;
              tells = record {
                begins = k.tells.begins;
                spares = λ i y q le y_at mine. k.tells.spares i y q le y_at (by_parts.right q mine);
                lacks = λ i y c le y_at mine. k.tells.lacks i y c le y_at (by_callers.right c mine);
              };
              once = once';
              parts = λ q mine. handed-here r.part_owner parts' new q mine;
              callers = λ c mine. (handed-here r.caller_owner callers' new c mine, (k.callers c (by_callers.right c mine)).1);
              first = k.first;
              later = λ _. k.later live;
              sides = λ i o x. no_side i o _ x;
              dead = λ d. absurd (true≢false d);
              boots = λ b. absurd (true≢false (sym b));
            })
            (get_elem?-snoc (set s.views id stay) go u j x);
        alone = λ j u x b. ⊎_elim (λ there. still_none s.views id stay (λ q. none_boots s r id v at live id v at q) (none_boots s r id v at live) j u there b _)
            (λ (here : (go ≡ u) × (j ≡ length (set s.views id stay))). absurd (true≢false (sym (ap (λ (z : V). z.boots) here.0 ∙ b)))) (get_elem?-snoc (set s.views id stay) go u j x);
      }

  pub cuts_part : (id p : ℕ) (v : V) → v.live ≡ true → contains v.parts p ≡ true → Splits Rule id v (without_part p v) (with_part p v)
  cuts_part id p v live owns = cuts id v (all_but v.parts p) (p ∷ []) v.callers [] live (IsCut-one v.parts p owns) (IsCut-none v.callers) (HasNoRepeat-all_but v.parts p) (refl, tt)

  pub cuts_caller : (id c : ℕ) (cs : List ℕ) (v : V) → v.live ≡ true → v.callers ≡ c ∷ cs → contains cs c ≡ false → Splits Rule id v (without_caller v) (with_caller v)
  cuts_caller id c cs v live is once = cuts id v v.parts [] (rest_of v.callers) (one_of v.callers) live (IsCut-none v.parts) (subst (λ (l : List ℕ). IsCut l (rest_of l) (one_of l)) (sym is) (IsCut-first c cs once)) (λ h. h) tt

  -- what is told of a log stands for each beginning of it that is as long
  shorter : (seen log mid : List T) (parts callers : List ℕ) → Knows seen parts callers log → IsPrefix mid log → length seen ≤ length mid → Knows seen parts callers mid
  shorter seen log mid parts callers t pre le = record {
    begins = IsPrefix-both seen mid log t.begins pre le;
    spares = λ k e p l at mine. t.spares k e p l (get_elem?-prefix mid log k e pre at) mine;
    lacks = λ k e c l at mine. t.lacks k e c l (get_elem?-prefix mid log k e pre at) mine;
  }

  -- two views become one
  pub glues : (id other : ℕ) (v w : V) → v.live ≡ true → Joins Rule id v other w (both v w) spent
  glues id other v w live s r at apart at' =
      let k = r.each id v at in
      let w_at : get_elem? s.views other ≡ some w = sym (set_else s.views id other (both v w) apart) ∙ at' in
      let f = r.each other w w_at in
      let l : List T = longer v.seen w.seen in
      let pre = longer-is_prefix v.seen w.seen r.log k.tells.begins f.tells.begins in
      let owner' : ℕ → ℕ = merged r.part_owner other id in
      let caller' : ℕ → ℕ = merged r.caller_owner other id in
      record {
        log = r.log;
        part_owner = owner';
        caller_owner = caller';
        wide = r.wide;
        count = r.count;
        each = each-set (Fact r.log owner' caller') (set s.views id (both v w)) other spent
            record {
              last_is = λ x. absurd (true≢false (sym x));
              most_is = λ x. absurd (true≢false (sym x));
              tells = record { begins = (r.log, refl); spares = λ i y q _ _ mine. absurd (true≢false (sym mine)); lacks = λ i y c _ _ mine. absurd (true≢false (sym mine)) };
              once = tt;
              parts = λ q mine. absurd (true≢false (sym mine));
              callers = λ c mine. absurd (true≢false (sym mine));
              first = ([], refl);
              later = λ x. absurd (true≢false (sym x));
              sides = λ i o x. no_side i o _ x;
              dead = λ _. (refl, refl, refl, refl, refl);
              boots = λ b. absurd (true≢false (sym b));
            }
            (λ i y not_other y_at. each-set (λ i y. i ≢ other → Fact r.log owner' caller' i y) s.views id (both v w)
            (λ _. record {
              last_is = k.last_is;
              most_is = k.most_is;
              tells = record {
                begins = pre.0;
                spares = λ n e q x e_at mine. let le = pre.1 in let le' = pre.2 in ⊎_elim (λ own. k.tells.spares n e q (omega arith) e_at own) (λ own. f.tells.spares n e q (omega arith) e_at own) (contains-append v.parts w.parts q mine);
                lacks = λ n e c x e_at mine. let le = pre.1 in let le' = pre.2 in ⊎_elim (λ own. k.tells.lacks n e c (omega arith) e_at own) (λ own. f.tells.lacks n e c (omega arith) e_at own) (contains-append v.callers w.callers c mine);
              };
              once = HasNoRepeat-append v.parts w.parts k.once f.once (λ q x y'. apart (sym (f.parts q y') ∙ k.parts q x));
              parts = λ q mine. ⊎_elim (λ own. let z = k.parts q own in merged-else r.part_owner other id q (λ e. apart (sym e ∙ z)) ∙ z) (λ own. merged-old r.part_owner other id q (f.parts q own)) (contains-append v.parts w.parts q mine);
              callers = λ c mine. ⊎_elim (λ own. let z = k.callers c own in (merged-else r.caller_owner other id c (λ e. apart (sym e ∙ z.0)) ∙ z.0, z.1)) (λ own. let z = f.callers c own in (merged-old r.caller_owner other id c z.0, z.1)) (contains-append v.callers w.callers c mine);
              first = IsPrefix-trans v.first v.seen l k.first (IsPrefix-both v.seen l r.log k.tells.begins pre.0 pre.1);
              later = k.later;
              sides = sides_of l v w (shorter v.seen r.log l v.parts v.callers k.tells pre.0 pre.1) (shorter w.seen r.log l w.parts w.callers f.tells pre.0 pre.2);
              dead = λ d. absurd (true≢false (sym live ∙ d));
              boots = λ b. none_boots s r id v at live id v at b _;
            })
            (λ n z not_id z_at not_other'. let g = r.each n z z_at in record {
              last_is = g.last_is;
              most_is = g.most_is;
              tells = g.tells;
              once = g.once;
              parts = λ q mine. let o = g.parts q mine in merged-else r.part_owner other id q (λ e. not_other' (sym o ∙ e)) ∙ o;
              callers = λ c mine. let o = g.callers c mine in (merged-else r.caller_owner other id c (λ e. not_other' (sym o.0 ∙ e)) ∙ o.0, o.1);
              first = g.first;
              later = g.later;
              sides = g.sides;
              dead = g.dead;
              boots = λ b. none_boots s r id v at live n z z_at b _;
            }) i y y_at not_other);
        alone = λ j u x b. still_none (set s.views id (both v w)) other spent (λ q X. absurd (true≢false (sym q)))
            (still_none s.views id (both v w) (λ q. none_boots s r id v at live id v at q) (none_boots s r id v at live)) j u x b _;
      }
    where
      sides_of : (l : List T) (v w : V) → Knows v.seen v.parts v.callers l → Knows w.seen w.parts w.callers l → (k : ℕ) (o : Side T) → get_elem? (side_of v ∷ side_of w ∷ []) k ≡ some o → Knows o.seen o.parts o.callers l
      sides_of l v w x y zero o e = subst (λ (z : Side T). Knows z.seen z.parts z.callers l) (some-injective (side_of v) o e) x
      sides_of l v w x y (suc zero) o e = subst (λ (z : Side T). Knows z.seen z.parts z.callers l) (some-injective (side_of w) o e) y
      sides_of l v w x y (suc (suc k)) o e = no_side k o _ e

  -- a load tells what the rule says
  pub learns : (slots id : ℕ) (m : M) → m.0.live ≡ true → Allows Rule slots id m 0 (λ n. n) (learned caller touches (step slots 0 0 0 none) m)
  learns slots id m live s r long at small =
      let v : V = m.0 in
      let k = r.each id v at in
      let last_is = k.last_is live in
      let most_is = k.most_is live in
      let w : V = record v { sides = [] } in (
        w,
        keeps,
        tt,
        subst (λ (ws : List ℕ). Rule record { words = ws; homes = s.homes; views = set s.views id w }) (sym (set-get_or s.words 0 0)) record {
          log = r.log;
          part_owner = r.part_owner;
          caller_owner = r.caller_owner;
          wide = r.wide;
          count = r.count;
          each = each-set (Fact r.log r.part_owner r.caller_owner) s.views id w
              record { last_is = k.last_is; most_is = k.most_is; tells = k.tells; once = k.once; parts = k.parts; callers = k.callers; first = k.first; later = k.later; sides = λ j o x. no_side j o _ x; dead = λ d. absurd (true≢false (sym live ∙ d)); boots = k.boots }
              (λ j u _ x. r.each j u x);
          alone = λ j u x b. still_none s.views id w (λ q. none_boots s r id v at live id v at q) (none_boots s r id v at live) j u x b _;
        },
        record {
          after = refl;
          sides = λ j o x. subst (λ (n : ℕ). Tells caller touches o.seen o.parts o.callers n v.seen) (sym last_is) (k.sides j o x);
          once = k.once;
          first = k.first;
          later = λ j e le x. subst (λ z. IsCaller z (caller e)) (sym most_is) (k.later live j e le (get_elem?-prefix v.seen r.log j e k.tells.begins x));
          least = subst (λ z. length v.seen ≤ z) (sym r.count) (IsPrefix-length v.seen r.log k.tells.begins);
          whole = λ owns. r.count ∙ ap (λ (l : List T). length l) (sym (seen-whole r.log r.part_owner r.caller_owner id v k live owns));
        },
      )

  -- the first seat is told the first entries
  pub begins : (slots id : ℕ) (m : M) (entries : List T) → m.0.boots ≡ true → m.0.size ≡ length entries → Allows Rule slots id m 0 (λ n. n) (begun entries (step slots 0 0 0 none) m)
  begins slots id m entries boots size s r long at small =
      let v : V = m.0 in
      let k = r.each id v at in
      let b = k.boots boots in
      let w : V = opened entries v in
      let owner : ℕ → ℕ = (λ _. id) in
      let past : (j : ℕ) (e : T) (X : Type 0) → length entries ≤ j → get_elem? entries j ≡ some e → X = (λ j e X le x. absurd (let q = get_elem?-inside entries j e x in omega arith)) in (
        w,
        keeps,
        tt,
        subst (λ (ws : List ℕ). Rule record { words = ws; homes = s.homes; views = set s.views id w }) (sym (set-get_or s.words 0 0)) record {
          log = entries;
          part_owner = owner;
          caller_owner = owner;
          wide = r.wide;
          count = r.count ∙ (sym b.1 ∙ size);
          each = each-set (Fact entries owner owner) s.views id w
              record {
                last_is = λ _. b.2;
                most_is = λ _. b.3;
                tells = record { begins = IsPrefix-refl entries; spares = λ j e p le x _. past j e _ le x; lacks = λ j e c le x _. past j e _ le x };
                once = HasNoRepeat-numbers_from 0 (v.last + 1);
                parts = λ _ _. refl;
                callers = λ c mine. let low = numbers_from-least 1 v.most c mine in let high = numbers_from-most 1 v.most c mine in let is = b.3 in (refl, (low, omega arith));
                first = IsPrefix-refl entries;
                later = λ _ j e le x. past j e _ le x;
                sides = λ j o x. no_side j o _ x;
                dead = λ d. absurd (true≢false d);
                boots = λ q. absurd (true≢false (sym q));
              }
              (λ j u other x. let f = r.each j u x in let d = f.dead (r.alone id v at boots j u x).0 in record {
                last_is = f.last_is;
                most_is = f.most_is;
                tells = subst (λ (z : List T × (List ℕ × List ℕ)). Knows z.0 z.1.0 z.1.1 entries) (λ i. (sym d.0 i, (sym d.1 i, sym d.2 i)))
                    record { begins = (entries, refl); spares = λ _ _ _ _ _ mine. absurd (true≢false (sym mine)); lacks = λ _ _ _ _ _ mine. absurd (true≢false (sym mine)) };
                once = f.once;
                parts = λ p mine. absurd (true≢false (sym mine ∙ ap (λ l. contains l p) d.1));
                callers = λ c mine. absurd (true≢false (sym mine ∙ ap (λ l. contains l c) d.2));
                first = f.first;
                later = λ l. absurd (true≢false (sym l ∙ (r.alone id v at boots j u x).0));
                sides = λ i o x'. no_side i o _ (ap (λ l. get_elem? l i) (sym d.3) ∙ x');
                dead = f.dead;
                boots = λ q. let z = f.boots q in (z.0, z.1 ∙ (sym b.1 ∙ size), z.2, z.3);
              });
          alone = λ j u x q. ⊎_elim (λ (t : (j ≡ id) × (w ≡ u)). absurd (true≢false (sym (ap (λ (z : V). z.boots) t.1 ∙ q))))
              (λ (t : (j ≢ id) × (get_elem? s.views j ≡ some u)). absurd (t.0 ((r.alone id v at boots j u t.1).1 q))) (at_set s.views id j w u x);
        },
        refl,
      )

  pub begins_as : (slots id : ℕ) (m : M) (entries : List T) → m ≡ (first_view a, []) → a.size ≡ length entries → Allows Rule slots id m 0 (λ n. n) (begun entries (step slots 0 0 0 none) m)
  begins_as slots id m entries is size = begins slots id m entries (ap (λ (z : M). z.0.boots) is) (ap (λ (z : M). z.0.size) is ∙ size)

  -- the rule holds at first
  pub starts : (entries : List T) → a.size ≡ length entries → Rule (opening (a.size ∷ []) [] (first_view a))
  starts entries size = record {
    log = entries;
    part_owner = λ _. 0;
    caller_owner = λ _. 0;
    wide = refl;
    count = size;
    each = one;
    alone = two;
  }
    where
      one : (id : ℕ) (v : V) → get_elem? (first_view a ∷ []) id ≡ some v → Fact entries (λ _. 0) (λ _. 0) id v
      one zero v e = subst (Fact entries (λ _. 0) (λ _. 0) zero) (some-injective (first_view a) v e) record {
        last_is = λ d. absurd (true≢false (sym d));
        most_is = λ d. absurd (true≢false (sym d));
        tells = record { begins = (entries, refl); spares = λ _ _ _ _ _ mine. absurd (true≢false (sym mine)); lacks = λ _ _ _ _ _ mine. absurd (true≢false (sym mine)) };
        once = tt;
        parts = λ p mine. absurd (true≢false (sym mine));
        callers = λ c mine. absurd (true≢false (sym mine));
        first = ([], refl);
        later = λ d. absurd (true≢false (sym d));
        sides = λ j o x. no_side j o _ x;
        dead = λ _. (refl, refl, refl, refl, refl);
        boots = λ _. (refl, size, refl, refl);
      }
      one (suc id) v e = absurd (some-ne-none v (sym e))

      two : (id : ℕ) (v : V) → get_elem? (first_view a ∷ []) id ≡ some v → v.boots ≡ true → (j : ℕ) (u : V) → get_elem? (first_view a ∷ []) j ≡ some u → (u.live ≡ false) × (u.boots ≡ true → j ≡ id)
      two zero v e b zero u x = (sym (ap (λ (z : V). z.live) (some-injective (first_view a) u x)), λ _. refl)
      two zero v e b (suc j) u x = absurd (some-ne-none u (sym x))
      two (suc id) v e b j u x = absurd (some-ne-none v (sym e))
