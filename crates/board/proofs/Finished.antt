-- The ends of a board at its finish.
use Rattle.std.proofs.Common.{◌≡◌, ◌≤◌, List, length, sym, ◌∙◌, ap, subst}
use Rattle.std.specs.List.{AllByRecursion}
use Rattle.star.specs.Stars.{Seen}
use Rattle.chronicle.specs.History.{ChronicleSeen, ShareSeen, IsHistory}
use Rattle.vertex_claims.specs.Holding.{ClaimsSeen, HolderSeen}
use Rattle.journal_defs.specs.declared.commit.Commit.{Commit}
use Rattle.replay.specs.Replayed.{Replayed}
use Rattle.seats.specs.declared.cells.Root.{Root}
use Rattle.seats.specs.Ground.{caller_of}
use Rattle.seats.specs.Seats.{SeatSeen, IsShelf}
use Rattle.board.specs.declared.own.Own.{Own}
use Rattle.board.specs.Laying.{IsBase, IsTakenUp}
use Rattle.board.specs.Owning.{AreTogether}
use Rattle.board.specs.Ended.{IsToldOwn, IsFinished}
use Rattle.board.proofs.Together.{told_passes}

pub base_of : (s : ClaimsSeen Root) (r : Root) → IsShelf s → r ≡ s.root → IsBase r
base_of s r shelf is = subst IsBase (sym is) (record { accepted = shelf.accepted; ascending = shelf.ascending; triangulation = shelf.triangulation; last = shelf.last; room = shelf.room })

pub finished : (b : ClaimsSeen Root) (r : Root) (ps : List SeatSeen) (hs : List (HolderSeen Root)) (os : List Own) (stars : List Seen) (J : List Commit) (whole : ShareSeen Commit) (core : Replayed) → r ≡ b.root → AreTogether hs os ps
    → IsTakenUp r stars J whole → AllByRecursion (IsToldOwn whole.seen) os → core.points ≡ r.points → core.start ≡ r.start.items → core.journal ≡ J → IsFinished b ps core
finished b r ps hs os stars J whole core root together taken told points start journal =
    let all : whole.seen ≡ core.journal = taken.seen ∙ sym journal in
    let of : whole.of ≡ b.root.chronicle = taken.of ∙ ap (λ (x : Root). x.chronicle) root in
    record {
      points = points ∙ ap (λ (x : Root). x.points) root;
      start = start ∙ ap (λ (x : Root). x.start.items) root;
      history = subst (λ (x : ChronicleSeen Commit). IsHistory caller_of x core.journal) of (subst (IsHistory caller_of whole.of) all taken.history.history);
      room = subst (λ (x : Root). length core.journal ≤ x.room) root (subst (λ (l : List Commit). length l ≤ r.room) (sym journal) taken.few);
      told = told_passes core.journal hs os ps together (subst (λ (l : List Commit). AllByRecursion (IsToldOwn l) os) all told);
    }
