-- A seat between two calls, and how what it has seen grows.
use Rattle.std.proofs.Common.{◌≡◌, ℕ, ◌+◌, ◌≤◌, Bool, true, false, cond, nat_eq, List, [], ◌∷◌, ◌++◌, length, arith, ◌∙◌, ap, subst, refl}
use Rattle.std.specs.Prelude.{nat_lt}
use Rattle.std.specs.List.{AllByRecursion, fold}
use Rattle.std.proofs.lemmas.List.Sums.{sum_by-append}
use Rattle.std.proofs.lemmas.Bool.{eq-eqb}
use Rattle.index_sets.specs.Entries.{entries_of, LacksCaller, SparesPlace}
use Rattle.index_sets.specs.Prefixes.{longer}
use Rattle.chronicle.specs.History.{ChronicleSeen, ShareSeen, IsShare, IsHistory, GoesOn}
use Rattle.vertex_claims.specs.Holding.{ClaimsSeen, HolderSeen, IsHolder}
use Rattle.journal_defs.specs.declared.commit.Commit.{Commit}
use Rattle.journal_defs.specs.Journal.{IsLegalJournal, commit_touches, made}
use Rattle.seats.specs.declared.cells.Root.{Root}
use Rattle.seats.specs.Ground.{Grown, caller_of}
use Rattle.seats.specs.Seats.{IsShelf, ground_of}
use Rattle.seats.specs.Resting.{IsSeatOf}

-- what holds of two lists holds of the longer
pub longer_has : {T : Type 0} (P : List T → Type 0) (xs ys : List T) → P xs → P ys → P (longer xs ys)
longer_has P xs ys a b = one (nat_lt (length xs) (length ys))
  where
    one : (t : Bool) → P (cond t ys xs)
    one true = b
    one false = a

pub settled : (h : HolderSeen Root) (s : ShareSeen Commit) (me count : ℕ) → s.of ≡ h.of.root.chronicle → s.caller ≡ h.number → s.parts ≡ h.places → me ≡ h.number → count ≡ made s.caller s.seen → IsShelf h.of
    → IsLegalJournal h.of.root.points h.of.root.start.items s.seen → IsHolder h → IsShare caller_of s → IsSeatOf h s me count
settled h s me count of own parts me_is count_is shelf legal holder share = record {
  of = of;
  caller = own;
  parts = parts;
  me_is = me_is;
  made = count_is;
  seat = record {
    shelf = shelf;
    legal = legal;
    least = holder.least;
    most = holder.most;
    history = subst (λ (o : ChronicleSeen Commit). IsHistory caller_of o s.seen) of share.history;
    mine = share.mine ∙ ap (λ (c : ℕ). entries_of caller_of c s.seen) own;
    once = holder.once;
  };
}

-- a longer history of a share
pub grown_of : (c : ClaimsSeen Root) (s : ShareSeen Commit) (caller : ℕ) (held : List ℕ) (L : List Commit) → IsShelf c → s.of ≡ c.root.chronicle → s.caller ≡ caller → s.parts ≡ held → 1 ≤ caller
    → GoesOn caller_of commit_touches s L → IsLegalJournal c.root.points c.root.start.items L → Grown (ground_of c) caller held s.seen L
grown_of c s caller held L shelf of own parts some g legal = record {
  more = g.more;
  is = g.is;
  spares = subst (AllByRecursion (SparesPlace commit_touches g.more)) parts g.spares;
  lacks = subst (LacksCaller caller_of g.more) own g.lacks;
  alone = λ one. g.alone (ap (λ (x : ChronicleSeen Commit). x.callers) of ∙ (shelf.callers ∙ one)) (omega (arith, own, some));
  legal = legal;
}

-- how many commits are the caller's
made_none : (c : ℕ) (more : List Commit) → LacksCaller caller_of more c → made c more ≡ 0
made_none c [] h = refl
made_none c (x ∷ more) h = ap (λ (b : Bool). fold (λ (a : ℕ) (y : Commit). a + cond (nat_eq y.caller c) 1 0) (0 + cond b 1 0) more) h.0 ∙ made_none c more h.1

made_append : (c : ℕ) (J more : List Commit) → made c (J ++ more) ≡ made c J + made c more
made_append c J more = sum_by-append (λ (x : Commit). cond (nat_eq x.caller c) 1 0) J more

pub made_on : (c : ℕ) (J more : List Commit) → LacksCaller caller_of more c → made c (J ++ more) ≡ made c J
made_on c J more h = made_append c J more ∙ (ap (λ (m : ℕ). made c J + m) (made_none c more h) ∙ (let z : made c J + 0 ≡ made c J = omega arith in z))

pub made_next : (c : ℕ) (J : List Commit) (x : Commit) → x.caller ≡ c → made c (J ++ x ∷ []) ≡ made c J + 1
made_next c J x own = made_append c J (x ∷ []) ∙ ap (λ (b : Bool). made c J + (0 + cond b 1 0)) (eq-eqb x.caller c own)
