-- Passes put together and taken apart.
use Rattle.std.proofs.Common.{◌≡◌, ℕ, zero, suc, ◌+◌, ◌<◌, ◌≤◌, List, [], ◌∷◌, ◌++◌, length, map, arith, sym, ◌∙◌, ap, subst, refl, append-nil, append_assoc}
use Rattle.std.specs.List.{AllByRecursion}
use Rattle.std.proofs.lemmas.List.{length-map}
use Rattle.index_sets.specs.Indices.{numbers_from}
use Rattle.index_sets.proofs.Laws.{length-numbers_from}
use Rattle.index_sets.specs.Entries.{entries_of}
use Rattle.chronicle.specs.History.{ShareSeen, caller_share}
use Rattle.vertex_claims.specs.Holding.{ClaimsSeen, HolderSeen, new_holder, IsIdle}
use Rattle.journal_defs.specs.declared.commit.Commit.{Commit}
use Rattle.journal_defs.specs.Journal.{IsLegalJournal, made}
use Rattle.seats.specs.declared.cells.Root.{Root}
use Rattle.seats.specs.Ground.{caller_of}
use Rattle.seats.specs.Seats.{SeatSeen, IsShelf}
use Rattle.seats.specs.Resting.{seat_of}
use Rattle.board.specs.declared.own.Own.{Own}
use Rattle.board.specs.Owning.{IsTogether, AreTogether}
use Rattle.board.specs.Supplied.{IsOwn, AreOwn}
use Rattle.board.specs.Made.{first_pass}
use Rattle.board.specs.Ended.{IsTold, IsToldOwn}

pub together_snoc : (hs : List (HolderSeen Root)) (os : List Own) (ps : List SeatSeen) (h : HolderSeen Root) (o : Own) (p : SeatSeen) → AreTogether hs os ps → IsTogether h o → p ≡ seat_of h o.share → AreTogether (hs ++ h ∷ []) (os ++ o ∷ []) (ps ++ p ∷ [])
together_snoc [] [] [] h o p a t e = (t, e, tt)
together_snoc [] [] (q ∷ ps) h o p a t e = absurd a
together_snoc [] (n ∷ os) ps h o p a t e = absurd a
together_snoc (k ∷ hs) [] ps h o p a t e = absurd a
together_snoc (k ∷ hs) (n ∷ os) [] h o p a t e = absurd a
together_snoc (k ∷ hs) (n ∷ os) (q ∷ ps) h o p a t e = (a.0, a.1, together_snoc hs os ps h o p a.2 t e)

pub together_more : (hs new_hs : List (HolderSeen Root)) (os new_os : List Own) (ps : List SeatSeen) (h : HolderSeen Root) (o : Own) (p : SeatSeen) → AreTogether hs os ps → new_hs ≡ hs ++ h ∷ [] → new_os ≡ os ++ o ∷ [] → IsTogether h o → p ≡ seat_of h o.share
    → AreTogether new_hs new_os (ps ++ p ∷ [])
together_more hs new_hs os new_os ps h o p a hs_is os_is t e =
    subst (λ (x : List (HolderSeen Root)). AreTogether x new_os (ps ++ p ∷ [])) (sym hs_is)
    (subst (λ (x : List Own). AreTogether (hs ++ h ∷ []) x (ps ++ p ∷ [])) (sym os_is) (together_snoc hs os ps h o p a t e))

-- what is left to be put together
pub record Puts (hs : List (HolderSeen Root)) (os : List Own) (more : List (HolderSeen Root)) (rest : List Own) (done : List SeatSeen) : Type 0 where
  pub each : (ps : List SeatSeen) → AreTogether hs os ps → (left : List SeatSeen) × (ps ≡ done ++ left) × AreTogether more rest left

pub puts_none : (hs : List (HolderSeen Root)) (os : List Own) (more : List (HolderSeen Root)) (rest : List Own) (done : List SeatSeen) → more ≡ hs → rest ≡ os → done ≡ [] → Puts hs os more rest done
puts_none hs os more rest done a b none = record {
  each = λ ps t. (ps, ap (λ (l : List SeatSeen). l ++ ps) (sym none), subst (λ (l : List (HolderSeen Root)). AreTogether l rest ps) (sym a) (subst (λ (l : List Own). AreTogether hs l ps) (sym b) t));
}

left_one : (h : HolderSeen Root) (hs : List (HolderSeen Root)) (o : Own) (os : List Own) (left : List SeatSeen) → AreTogether (h ∷ hs) (o ∷ os) left → IsTogether h o × ((rest : List SeatSeen) × (left ≡ seat_of h o.share ∷ rest) × AreTogether hs os rest)
left_one h hs o os [] a = absurd a
left_one h hs o os (p ∷ ps) a = (a.0, (ps, ap (λ (x : SeatSeen). x ∷ ps) a.1, a.2))

pub own_there : (h : HolderSeen Root) (hs : List (HolderSeen Root)) (os : List Own) (left : List SeatSeen) → AreTogether (h ∷ hs) os left → 0 < length os
own_there h hs [] left a = absurd a
own_there h hs (o ∷ os) left a = omega arith

pub none_there : (os : List Own) (left : List SeatSeen) → AreTogether [] os left → (os ≡ []) × (left ≡ [])
none_there [] [] a = (refl, refl)
none_there [] (p ∷ ps) a = absurd a
none_there (o ∷ os) left a = absurd a

pub puts_more : (hs : List (HolderSeen Root)) (os : List Own) (more next : List (HolderSeen Root)) (rest later : List Own) (done new : List SeatSeen) (h : HolderSeen Root) (o : Own) (p : SeatSeen) → Puts hs os more rest done → more ≡ h ∷ next → rest ≡ o ∷ later
    → p ≡ seat_of h o.share → new ≡ done ++ p ∷ [] → Puts hs os next later new
puts_more hs os more next rest later done new h o p i a b is new_is = record {
  each = λ ps t.
      let r = i.each ps t in
      let l = left_one h next o later r.0 (subst (λ (x : List (HolderSeen Root)). AreTogether x (o ∷ later) r.0) a (subst (λ (x : List Own). AreTogether more x r.0) b r.2)) in
      let q = l.1 in
      (q.0, r.1 ∙ (ap (λ (x : List SeatSeen). done ++ x) (q.1 ∙ ap (λ (x : SeatSeen). x ∷ q.0) (sym is)) ∙ (sym (append_assoc done (p ∷ []) q.0) ∙ ap (λ (x : List SeatSeen). x ++ q.0) (sym new_is))), q.2);
}

pub puts_next : (hs : List (HolderSeen Root)) (os : List Own) (more next : List (HolderSeen Root)) (rest later : List Own) (done : List SeatSeen) (h : HolderSeen Root) (o : Own) → Puts hs os more rest done → (ps : List SeatSeen) → AreTogether hs os ps → more ≡ h ∷ next → rest ≡ o ∷ later → IsTogether h o
puts_next hs os more next rest later done h o i ps t a b =
    let r = i.each ps t in
    (left_one h next o later r.0 (subst (λ (x : List (HolderSeen Root)). AreTogether x (o ∷ later) r.0) a (subst (λ (x : List Own). AreTogether more x r.0) b r.2))).0

pub puts_own : (hs : List (HolderSeen Root)) (os : List Own) (more next : List (HolderSeen Root)) (rest : List Own) (done : List SeatSeen) (h : HolderSeen Root) → Puts hs os more rest done → (ps : List SeatSeen) → AreTogether hs os ps → more ≡ h ∷ next → 0 < length rest
puts_own hs os more next rest done h i ps t a = let r = i.each ps t in own_there h next rest r.0 (subst (λ (x : List (HolderSeen Root)). AreTogether x rest r.0) a r.2)

pub puts_all : (hs : List (HolderSeen Root)) (os : List Own) (more : List (HolderSeen Root)) (rest : List Own) (done : List SeatSeen) → Puts hs os more rest done → more ≡ [] → (ps : List SeatSeen) → AreTogether hs os ps → (done ≡ ps) × (rest ≡ [])
puts_all hs os more rest done i none ps t =
    let r = i.each ps t in
    let e = none_there rest r.0 (subst (λ (x : List (HolderSeen Root)). AreTogether x rest r.0) none r.2) in
    (sym (r.1 ∙ (ap (λ (x : List SeatSeen). done ++ x) e.1 ∙ append-nil done)), e.0)

-- there is one for each of so many numbers
pub as_many_numbers : {A : Type 0} (f : ℕ → A) (xs : List A) (n count : ℕ) → xs ≡ map f (numbers_from n count) → length xs ≡ count
as_many_numbers f xs n count is = ap length is ∙ (length-map (numbers_from n count) f ∙ length-numbers_from n count)

-- own parts of callers, one more
pub own_snoc : (J : List Commit) (n : ℕ) (ss : List (ShareSeen Commit)) (os : List Own) (s : ShareSeen Commit) (o : Own) → AreOwn J n ss os → IsOwn J s (n + length os) o → AreOwn J n (ss ++ s ∷ []) (os ++ o ∷ [])
own_snoc J n [] [] s o a t = (subst (λ (k : ℕ). IsOwn J s k o) (let z : n + 0 ≡ n = omega arith in z) t, tt)
own_snoc J n [] (x ∷ os) s o a t = absurd a
own_snoc J n (y ∷ ss) [] s o a t = absurd a
own_snoc J n (y ∷ ss) (x ∷ os) s o a t = (a.0, own_snoc J (n + 1) ss os s o a.1 (subst (λ (k : ℕ). IsOwn J s k o) (let z : n + length (x ∷ os) ≡ n + 1 + length os = omega arith in z) t))

-- the first passes
pub first_together : (c : ClaimsSeen Root) (J : List Commit) (n count : ℕ) (os : List Own) → IsShelf c → c.root.chronicle.first ≡ J → IsLegalJournal c.root.points c.root.start.items J → 1 ≤ n → n + count ≤ c.callers + 1
    → AreOwn J n (map (caller_share caller_of c.root.chronicle) (numbers_from n count)) os → AreTogether (map (new_holder c) (numbers_from n count)) os (map (first_pass c J) (numbers_from n count))
first_together c J n zero [] shelf first legal least most a = tt
first_together c J n zero (o ∷ os) shelf first legal least most a = absurd a
first_together c J n (suc count) [] shelf first legal least most a = absurd a
first_together c J n (suc count) (o ∷ os) shelf first legal least most a =
    let t = a.0 in
    let seen : o.share.seen ≡ J = ap (λ (s : ShareSeen Commit). s.seen) t.share_is ∙ first in
    let caller : o.share.caller ≡ n = ap (λ (s : ShareSeen Commit). s.caller) t.share_is in
    let mine : o.share.mine ≡ entries_of caller_of n J = ap (λ (s : ShareSeen Commit). s.mine) t.share_is ∙ ap (entries_of caller_of n) first in (
      record {
        seat = record {
          me_is = t.caller_is;
          of = ap (λ (s : ShareSeen Commit). s.of) t.share_is;
          caller = caller;
          parts = ap (λ (s : ShareSeen Commit). s.parts) t.share_is;
          made = t.made_is ∙ (ap (λ (k : ℕ). made k J) (sym caller) ∙ ap (made o.share.caller) (sym seen));
          seat = record {
            shelf = shelf;
            legal = subst (IsLegalJournal c.root.points c.root.start.items) (sym seen) legal;
            least = least;
            most = omega (arith, most);
            history = record { later = []; is = seen ∙ (sym first ∙ sym (append-nil c.root.chronicle.first)); callers = tt };
            mine = mine ∙ ap (entries_of caller_of n) (sym seen);
            once = tt;
          };
        };
        idle = refl;
        empty = t.empty;
        room = t.room;
      },
      sym (ap (λ (l : List Commit). record (first_pass c J n) { seen = l; mine = o.share.mine }) seen ∙ ap (λ (l : List Commit). record (first_pass c J n) { mine = l }) mine),
      first_together c J (suc n) count os shelf first legal (omega arith) (omega (arith, most))
          (subst (λ (k : ℕ). AreOwn J k (map (caller_share caller_of c.root.chronicle) (numbers_from (suc n) count)) os) (let z : n + 1 ≡ suc n = omega arith in z) a.1),
    )

-- the passes of a board: their holders are idle, and their shares are of its history
pub record AreOf (c : ClaimsSeen Root) (hs : List (HolderSeen Root)) (os : List Own) : Type 0 where
  pub idle : AllByRecursion (IsIdle c) hs
  pub shares : AllByRecursion (λ (o : Own). o.share.of ≡ c.root.chronicle) os

pub of_passes : (c : ClaimsSeen Root) (hs : List (HolderSeen Root)) (os : List Own) (ps : List SeatSeen) → AreTogether hs os ps → AllByRecursion (λ (p : SeatSeen). p.of ≡ c) ps → AreOf c hs os
of_passes c [] [] [] a all = record { idle = tt; shares = tt }
of_passes c [] [] (p ∷ ps) a all = absurd a
of_passes c [] (o ∷ os) ps a all = absurd a
of_passes c (h ∷ hs) [] ps a all = absurd a
of_passes c (h ∷ hs) (o ∷ os) [] a all = absurd a
of_passes c (h ∷ hs) (o ∷ os) (p ∷ ps) a all =
    let r = of_passes c hs os ps a.2 all.1 in
    let of : h.of ≡ c = sym (ap (λ (x : SeatSeen). x.of) a.1) ∙ all.0 in
    record {
      idle = ((of, a.0.idle), r.idle);
      shares = (a.0.seat.of ∙ ap (λ (x : ClaimsSeen Root). x.root.chronicle) of, r.shares);
    }

pub as_many : (hs : List (HolderSeen Root)) (os : List Own) (ps : List SeatSeen) → AreTogether hs os ps → length hs ≡ length ps
as_many [] [] [] a = refl
as_many [] [] (p ∷ ps) a = absurd a
as_many [] (o ∷ os) ps a = absurd a
as_many (h ∷ hs) [] ps a = absurd a
as_many (h ∷ hs) (o ∷ os) [] a = absurd a
as_many (h ∷ hs) (o ∷ os) (p ∷ ps) a = ap suc (as_many hs os ps a.2)

-- what is told to the shares is told of the passes
pub told_passes : (J : List Commit) (hs : List (HolderSeen Root)) (os : List Own) (ps : List SeatSeen) → AreTogether hs os ps → AllByRecursion (IsToldOwn J) os → AllByRecursion (IsTold J) ps
told_passes J [] [] [] a all = tt
told_passes J [] [] (p ∷ ps) a all = absurd a
told_passes J [] (o ∷ os) ps a all = absurd a
told_passes J (h ∷ hs) [] ps a all = absurd a
told_passes J (h ∷ hs) (o ∷ os) [] a all = absurd a
told_passes J (h ∷ hs) (o ∷ os) (p ∷ ps) a all =
    let t = all.0 in
    let q : IsTold J (seat_of h o.share) = record { begins = t.begins; mine = ap (λ (k : ℕ). entries_of caller_of k J) (sym a.0.seat.caller) ∙ t.mine } in
    (subst (IsTold J) (sym a.1) q, told_passes J hs os ps a.2 all.1)
