-- Plans handed in one after the other, and counted.
use Rattle.std.proofs.Common.{◌≡◌, ℕ, zero, suc, ◌+◌, ◌-◌, ◌<◌, ◌≤◌, Bool, true, false, List, [], ◌∷◌, ◌++◌, length, take, Option, Some, None, inl, inr, arith, sym, ◌∙◌, ap, subst, refl, append_assoc, append-nil, length-append}
use Rattle.std.specs.List.{AllByRecursion}
use Rattle.plane.specs.declared.coordinates.Point.{Point}
use Rattle.plane.specs.declared.segment.Pair.{Pair}
use Rattle.cost_defs.specs.Costs.{Costed}
use Rattle.journal_defs.specs.declared.edit.Edit.{Edit}
use Rattle.journal_defs.specs.declared.commit.Commit.{Commit}
use Rattle.journal_defs.specs.Weave.{next_commit}
use Rattle.edit.specs.Plans.{Planned}
use Rattle.hands.proofs.Laws.{each_append}
use Rattle.plan_defs.specs.Plans.{IsNoDearer}
use Rattle.round_defs.specs.Handed.{IsTriedTwice}
use Rattle.round_defs.specs.Rounds.{IsHanded, AreHanded}
use Rattle.round_defs.proofs.laws.Fresh.{fresh_not_ahead, twice_handed}
use Rattle.round_plans.specs.Found.{listed}
use Rattle.round_plans.specs.declared.found.RoundPlans.{RoundPlans}
use Rattle.seats.specs.Ground.{Ground}
use Rattle.seats.specs.Seats.{SeatSeen}
use Rattle.search_worker.specs.declared.log.WorkLog.{WorkLog}
use Rattle.search_worker.specs.Working.{HasAdded, IsFurther}
use Rattle.search_worker.specs.Handing.{IsAlone, HasMade, IsCheap, WasFresh, IsFew, handed_of, HasHanded, HaveHanded, made_count}

-- commits added, none and one and some after others
pub added_none : (D : List Costed) (old new : SeatSeen) → new.mine ≡ old.mine → HasAdded D 0 old new
added_none D old new same = record { more = []; is = same ∙ sym (append-nil old.mine); many = refl; cheap = tt }

pub added_made : (D : List Costed) (p : Planned) (old new : SeatSeen) (b : Bool) → IsNoDearer D p.edits → HasMade p.edits old new b → HasAdded D (made_count b) old new
added_made D p old new true cheap (c, edits, is) = record { more = c ∷ []; is = is; many = refl; cheap = (subst (IsNoDearer D) (sym edits) cheap, tt) }
added_made D p old new false cheap same = added_none D old new same

pub added_on : (D : List Costed) (m n : ℕ) (s t u : SeatSeen) → HasAdded D m s t → HasAdded D n t u → HasAdded D (m + n) s u
added_on D m n s t u a b = record {
  more = a.more ++ b.more;
  is = b.is ∙ ap (λ (x : List Commit). x ++ b.more) a.is ∙ append_assoc s.mine a.more b.more;
  many = let p = a.many in let q = b.many in let r = length-append a.more b.more in omega (arith, p, q, r);
  cheap = each_append (λ (c : Commit). IsNoDearer D c.edits) a.more b.more a.cheap b.cheap;
}

pub added_as : (D : List Costed) (m n : ℕ) (s t : SeatSeen) → m ≡ n → HasAdded D m s t → HasAdded D n s t
added_as D m n s t e a = subst (λ (k : ℕ). HasAdded D k s t) e a

-- what is listed is at most one
take_none : (n : ℕ) → take n (let xs : List (List Edit) = [] in xs) ≡ []
take_none zero = refl
take_none (suc n) = refl

take_one : (n : ℕ) (es : List Edit) → 0 < n → take n (es ∷ []) ≡ es ∷ []
take_one zero es h = absurd (omega (arith, h))
take_one (suc n) es h = ap (λ (x : List (List Edit)). es ∷ x) (take_none n)

-- no plan, and one past the fourth
pub none_handed : (g : Ground) (log : WorkLog) (s : SeatSeen) → IsFew log → HasHanded g None log log s s
none_handed g log s few =
    let none : handed_of log None ≡ [] = take_none (4 - log.tried) in record {
      few = few;
      tried = let e : length (handed_of log None) ≡ 0 = ap length none in omega (arith, e);
      made = 0;
      committed = omega arith;
      cheap = λ D cheap. added_none D s s refl;
      handed = λ J alone after fresh room.
          (subst (λ (ps : List (List Edit)). AreHanded g.points g.start s.seen ps s.seen) (sym none) refl, room);
    }

pub past_handed : (g : Ground) (p : Planned) (log : WorkLog) (s : SeatSeen) → IsFew log → log.tried ≡ 4 → HasHanded g (Some p) log log s s
past_handed g p log s few four =
    let left : 4 - log.tried ≡ 0 = omega (arith, four) in
    let none : handed_of log (Some p) ≡ [] = ap (λ (n : ℕ). take n (listed (Some p))) left in record {
      few = few;
      tried = let e : length (handed_of log (Some p)) ≡ 0 = ap length none in omega (arith, e);
      made = 0;
      committed = omega arith;
      cheap = λ D cheap. added_none D s s refl;
      handed = λ J alone after fresh room.
          (subst (λ (ps : List (List Edit)). AreHanded g.points g.start s.seen ps s.seen) (sym none) refl, room);
    }

-- handing in makes a journal longer by at most one commit
handed_length : (S : List Point) (start : List Pair) (J K : List Commit) (es : List Edit) → IsHanded S start J es K → length K ≤ length J + 1
handed_length S start J K es (inl (legal, is)) =
    let e : length K ≡ length (J ++ next_commit J 1 es ∷ []) = ap length is in let l = length-append J (next_commit J 1 es ∷ []) in omega (arith, e, l)
handed_length S start J K es (inr (not, is)) = let e : length K ≡ length J = ap length is in omega (arith, e)

-- one plan handed in
pub one_handed : (g : Ground) (p : Planned) (log next : WorkLog) (old new : SeatSeen) (b : Bool) → IsFew log → log.tried < 4
    → next.tried ≡ log.tried + 1 → next.committed ≡ log.committed + made_count b → HasMade p.edits old new b
    → (IsAlone g old → IsTriedTwice g.points g.start old.seen p new.seen) → HasHanded g (Some p) log next old new
one_handed g p log next old new b few less tried committed made alone =
    let one : handed_of log (Some p) ≡ p.edits ∷ [] = take_one (4 - log.tried) p.edits (omega (arith, less)) in
    let bit : made_count b ≤ 1 = elim b as (λ (x : Bool). made_count x ≤ 1) [ true ↦ omega arith | false ↦ omega arith ] in record {
      few = let f = few.committed in record { tried = omega (arith, less, tried); committed = omega (arith, tried, committed, bit, f) };
      tried = let e : length (handed_of log (Some p)) ≡ 1 = ap length one in omega (arith, e, tried);
      made = made_count b;
      committed = committed;
      cheap = λ D cheap. added_made D p old new b cheap made;
      handed = λ J solo after fresh room.
          let (more, is) = after in
          let there : IsAlone g old = (solo, omega (arith, less, room)) in
          let twice = alone there in
          let P : List Commit → Type 0 = λ L. IsTriedTwice g.points g.start L p new.seen in
          let Q : List Commit → Type 0 = λ L. IsHanded g.points g.start L p.edits new.seen in
          let handed : IsHanded g.points g.start old.seen p.edits new.seen =
          subst Q (sym is) (twice_handed g.points g.start (J ++ more) new.seen p (fresh_not_ahead J more p.claims fresh) (subst P is twice)) in
          let long = handed_length g.points g.start old.seen new.seen p.edits handed in (
            subst (λ (ps : List (List Edit)). AreHanded g.points g.start old.seen ps new.seen) (sym one) (new.seen, handed, refl),
            omega (arith, room, long, tried, less),
          );
    }

-- plans handed in after others
handed_on : (S : List Point) (start : List Pair) (J K L : List Commit) (ps qs : List (List Edit)) → AreHanded S start J ps K → AreHanded S start K qs L → AreHanded S start J (ps ++ qs) L
handed_on S start J K L [] qs a b = subst (λ (x : List Commit). AreHanded S start x qs L) a b
handed_on S start J K L (p ∷ ps) qs (m, one, rest) b = (m, one, handed_on S start m K L ps qs rest b)

take_on : (n : ℕ) (ps qs : List (List Edit)) → take n (ps ++ qs) ≡ take n ps ++ take (n - length (take n ps)) qs
take_on zero ps qs = refl
take_on (suc n) [] qs = let e : suc n ≡ suc n - 0 = omega arith in ap (λ (k : ℕ). take k qs) e
take_on (suc n) (p ∷ ps) qs =
    let same : n - length (take n ps) ≡ suc n - length (take (suc n) (p ∷ ps)) = omega arith in
    ap (λ (x : List (List Edit)). p ∷ x) (take_on n ps qs ∙ ap (λ (k : ℕ). take n ps ++ take k qs) same)

-- all plans of a list of answers
abbrev pub all_of : List (Option Planned) → List (List Edit)
all_of [] = []
all_of (o ∷ os) = listed o ++ all_of os

all_snoc : (os : List (Option Planned)) (o : Option Planned) → all_of (os ++ o ∷ []) ≡ all_of os ++ listed o
all_snoc [] o = append-nil (listed o)
all_snoc (x ∷ os) o = ap (λ (y : List (List Edit)). listed x ++ y) (all_snoc os o) ∙ sym (append_assoc (listed x) (all_of os) (listed o))

-- the answers have been handed in, at most four of them
pub record HaveSome (g : Ground) (os : List (Option Planned)) (log : WorkLog) (old new : SeatSeen) : Type 0 where
  pub few : IsFew log
  pub tried : log.tried ≡ length (take 4 (all_of os))
  pub further : IsFurther old new
  pub cheap : (D : List Costed) → AllByRecursion (IsCheap D) os → HasAdded D log.committed old new
  pub handed : g.callers ≡ 1 → AllByRecursion (WasFresh old.seen) os → length old.seen + 4 ≤ g.room
      → AreHanded g.points g.start old.seen (take 4 (all_of os)) new.seen × (length new.seen + (4 - log.tried) ≤ g.room)

pub none_yet : (g : Ground) (log : WorkLog) (s : SeatSeen) → log.tried ≡ 0 → log.committed ≡ 0 → IsFurther s s → HaveSome g [] log s s
none_yet g log s tried committed further = record {
  few = record { tried = omega (arith, tried); committed = omega (arith, committed) };
  tried = tried;
  further = further;
  cheap = λ D all. added_as D 0 log.committed s s (sym committed) (added_none D s s refl);
  handed = λ alone fresh room. (refl, omega (arith, tried, room));
}

snoc_split : {X : Type 0} (P : X → Type 0) (xs : List X) (x : X) → AllByRecursion P (xs ++ x ∷ []) → AllByRecursion P xs × P x
snoc_split P [] x h = (tt, h.0)
snoc_split P (y ∷ ys) x h = let r = snoc_split P ys x h.1 in ((h.0, r.0), r.1)

pub some_more : (g : Ground) (os : List (Option Planned)) (o : Option Planned) (log next : WorkLog) (old mid new : SeatSeen)
    → HaveSome g os log old mid → HasHanded g o log next mid new → IsFurther old new → HaveSome g (os ++ o ∷ []) next old new
some_more g os o log next old mid new a b further =
    let before = take 4 (all_of os) in
    let count : 4 - length before ≡ 4 - log.tried = ap (λ (n : ℕ). 4 - n) (sym a.tried) in
    let all : take 4 (all_of (os ++ o ∷ [])) ≡ before ++ handed_of log o =
    ap (take 4) (all_snoc os o) ∙ take_on 4 (all_of os) (listed o) ∙ ap (λ (n : ℕ). before ++ take n (listed o)) count in record {
      few = b.few;
      tried = let x = a.tried in let y = b.tried in let z : length (take 4 (all_of (os ++ o ∷ []))) ≡ length (before ++ handed_of log o) = ap length all in
          let w = length-append before (handed_of log o) in omega (arith, x, y, z, w);
      further = further;
      cheap = λ D each.
          let parts = snoc_split (IsCheap D) os o each in
          added_as D (log.committed + b.made) next.committed old new (sym b.committed) (added_on D log.committed b.made old mid new (a.cheap D parts.0) (b.cheap D parts.1));
      handed = λ alone each room.
          let parts = snoc_split (WasFresh old.seen) os o each in
          let x = a.handed alone parts.0 room in
          let y = b.handed old.seen alone a.further.seen parts.1 x.1 in (
            subst (λ (ps : List (List Edit)). AreHanded g.points g.start old.seen ps new.seen) (sym all)
                (handed_on g.points g.start old.seen mid.seen new.seen before (handed_of log o) x.0 y.0),
            y.1,
          );
    }

pub all_handed : (g : Ground) (p : RoundPlans) (log : WorkLog) (old new : SeatSeen)
    → HaveSome g (p.drop ∷ p.swap ∷ p.trade ∷ p.flip_swap ∷ p.flip ∷ []) log old new → HaveHanded g p log old new
all_handed g p log old new h = record {
  few = h.few;
  cheap = λ D c. h.cheap D (c.drops, (c.swaps, (c.trades, (c.flip_swaps, (c.flips, tt)))));
  handed = λ alone f room. (h.handed alone (f.drops, (f.swaps, (f.trades, (f.flip_swaps, (f.flips, tt))))) room).0;
}
