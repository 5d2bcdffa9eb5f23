-- The beginning of a board.
use Rattle.std.proofs.Common.{◌≡◌, ℕ, ◌+◌, ◌-◌, ◌≤◌, List, [], ◌∷◌, ◌++◌, length, map, arith, sym, ◌∙◌, ap, subst, Vec, Global}
use Rattle.std.specs.Prelude.{vec_len, vec_capacity}
use Rattle.plane.specs.declared.coordinates.Point.{Point}
use Rattle.plane.specs.declared.segment.Pair.{Pair}
use Rattle.plane.specs.Accepted.{AreAccepted}
use Rattle.partition_defs.specs.Ascending.{IsAscending}
use Rattle.partition_defs.specs.Triangulation.{IsTriangulation}
use Rattle.index_sets.specs.Indices.{numbers_from}
use Rattle.index_sets.proofs.Laws.{snoc-same}
use Rattle.chronicle.specs.History.{ShareSeen, whole_share, caller_share}
use Rattle.vertex_claims.specs.Holding.{ClaimsSeen, HolderSeen, new_holder}
use Rattle.journal_defs.specs.declared.commit.Commit.{Commit}
use Rattle.journal_defs.specs.Journal.{IsLegalJournal}
use Rattle.replay.specs.Replayed.{Replayed, IsCore, IsAsBefore}
use Rattle.seats.specs.declared.cells.Root.{Root}
use Rattle.seats.specs.declared.cells.Cell.{Cell}
use Rattle.seats.specs.declared.cells.Cell.TheVariants.{Journal}
use Rattle.seats.specs.Ground.{caller_of}
use Rattle.seats.specs.Cells.{CellFits}
use Rattle.seats.specs.Seats.{IsShelf}
use Rattle.board.specs.declared.own.Own.{Own}
use Rattle.board.specs.Laying.{IsBase}
use Rattle.board.specs.Owning.{AreTogether}
use Rattle.board.specs.Supplied.{AreOwn}
use Rattle.board.specs.Made.{first_pass}
use Rattle.board.proofs.Together.{first_together}

-- the root is that of the core
pub record IsRootOf (core : Replayed) (r : Root) : Type 0 where
  pub accepted : AreAccepted r.points
  pub points : r.points ≡ core.points
  pub start : r.start.items ≡ core.start
  pub first : r.chronicle.first ≡ core.journal
  pub last : r.chronicle.last ≡ length r.points
  pub few : r.room ≤ 4294967295
  pub fits : length core.journal ≤ r.room
  pub core_is : IsCore core

pub base_made : (core : Replayed) (r : Root) → IsRootOf core r → IsBase r
base_made core r o = record {
  accepted = o.accepted;
  ascending = subst IsAscending (sym o.start) o.core_is.ascending;
  triangulation = subst (λ (S : List Point). IsTriangulation S r.start.items) (sym o.points) (subst (IsTriangulation core.points) (sym o.start) o.core_is.triangulation);
  last = o.last;
  room = (let few = o.few in omega (arith, few));
}

pub legal_made : (core : Replayed) (r : Root) → IsRootOf core r → IsLegalJournal r.points r.start.items core.journal
legal_made core r o = subst (λ (S : List Point). IsLegalJournal S r.start.items core.journal) (sym o.points) (subst (λ (T : List Pair). IsLegalJournal core.points T core.journal) (sym o.start) o.core_is.legal)

-- the last cell has the journal, and the share that is left
pub journal_made : (core : Replayed) (r : Root) (cells : List Cell) (commits : Vec Commit Global) (whole share : ShareSeen Commit) → IsRootOf core r → whole ≡ whole_share r.chronicle → share ≡ record whole { parts = length r.points ∷ [] }
    → length cells ≡ length r.points → commits.items ≡ core.journal → r.room ≤ vec_capacity commits → CellFits r (length cells) (Journal commits share)
journal_made core r cells commits whole share o whole_is share_is count journal room =
    let is : share ≡ record (whole_share r.chronicle) { parts = length r.points ∷ [] } = share_is ∙ ap (λ (s : ShareSeen Commit). record s { parts = length r.points ∷ [] }) whole_is in
    let seen : share.seen ≡ core.journal = ap (λ (s : ShareSeen Commit). s.seen) is ∙ o.first in (
      count,
      record {
        of = ap (λ (s : ShareSeen Commit). s.of) is;
        caller = ap (λ (s : ShareSeen Commit). s.caller) is;
        parts = ap (λ (s : ShareSeen Commit). s.parts) is ∙ ap (λ (n : ℕ). n ∷ []) (sym count);
        legal = subst (IsLegalJournal r.points r.start.items) (sym seen) (legal_made core r o);
      },
      journal ∙ sym seen,
      subst (λ (l : List Commit). length l ≤ r.room) (sym seen) o.fits,
      room,
    )

pub shelf_made : (c : ClaimsSeen Root) (r : Root) → IsBase r → c.root ≡ r → c.places ≡ length r.points + 1 → r.chronicle.callers ≡ c.callers → IsShelf c
shelf_made c r base root places callers =
    let shelf : IsShelf (record c { root = r }) = record {
      accepted = base.accepted;
      ascending = base.ascending;
      triangulation = base.triangulation;
      room = base.room;
      places = places;
      last = base.last;
      callers = callers;
    } in
    subst (λ (x : Root). IsShelf (record c { root = x })) (sym root) shelf

pub made_together : (core : Replayed) (r : Root) (c : ClaimsSeen Root) (callers : ℕ) (hs : List (HolderSeen Root)) (os : List Own) (J : List Commit) → IsRootOf core r → c.root ≡ r → c.callers ≡ callers → IsShelf c → J ≡ core.journal
    → hs ≡ map (new_holder c) (numbers_from 1 callers) → AreOwn J 1 (map (caller_share caller_of r.chronicle) (numbers_from 1 callers)) os → AreTogether hs os (map (first_pass c core.journal) (numbers_from 1 callers))
made_together core r c callers hs os J o root count shelf journal holders owns =
    let all = map (first_pass c core.journal) (numbers_from 1 callers) in
    let own : AreOwn core.journal 1 (map (caller_share caller_of c.root.chronicle) (numbers_from 1 callers)) os =
    subst (λ (l : List Commit). AreOwn l 1 (map (caller_share caller_of c.root.chronicle) (numbers_from 1 callers)) os) journal
    (subst (λ (x : Root). AreOwn J 1 (map (caller_share caller_of x.chronicle) (numbers_from 1 callers)) os) (sym root) owns) in
    let legal : IsLegalJournal c.root.points c.root.start.items core.journal = subst (λ (x : Root). IsLegalJournal x.points x.start.items core.journal) (sym root) (legal_made core r o) in
    subst (λ (l : List (HolderSeen Root)). AreTogether l os all) (sym holders)
    (first_together c core.journal 1 callers os shelf (ap (λ (x : Root). x.chronicle.first) root ∙ o.first) legal (omega arith) (omega (arith, count)) own)

-- the journal that is taken up is the one that was laid
same_journal : (a b : Vec Commit Global) (p q : ShareSeen Commit) → Journal a p ≡ Journal b q → a ≡ b
same_journal a b p q e = cc

pub got_back : (cells others : List Cell) (a b : Vec Commit Global) (p q : ShareSeen Commit) (all : List Cell) → all ≡ cells ++ Journal a p ∷ [] → all ≡ others ++ Journal b q ∷ [] → b ≡ a
got_back cells others a b p q all laid taken = same_journal b a q p (snoc-same others cells (Journal b q) (Journal a p) (sym taken ∙ laid)).1

pub as_before : (core made : Replayed) (r : Root) (old new got : Vec Commit Global) → IsRootOf core r → made.points ≡ r.points → made.start ≡ r.start.items → made.journal ≡ got.items → made.spare ≡ vec_capacity got - vec_len got
    → got ≡ new → new.items ≡ old.items → old.items ≡ core.journal → vec_capacity old ≤ vec_capacity new → vec_len old + core.spare ≤ vec_capacity old → IsAsBefore core made
as_before core made r old new got o points start journal spare same items first more room =
    let cap : vec_capacity got ≡ vec_capacity new = ap (λ (v : Vec Commit Global). vec_capacity v) same in
    let long : vec_len got ≡ vec_len new = ap (λ (v : Vec Commit Global). vec_len v) same in
    let new_ok = new.ok.0 in
    let old_ok = old.ok.0 in
    let count = ap (λ (l : List Commit). length l) items in
    record {
      points = points ∙ o.points;
      start = start ∙ o.start;
      journal = journal ∙ (ap (λ (v : Vec Commit Global). v.items) same ∙ (items ∙ first));
      room = omega (arith, spare, cap, long, new_ok, old_ok, count, more, room);
    }
