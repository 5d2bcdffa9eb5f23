-- For private clauses.
-- A commit in its middle.
use Rattle.std.specs.Prelude.{◌≡◌, ℕ, ◌<◌, List, [], ◌∷◌, ◌++◌, take, length, slice_index_or}
use Rattle.std.specs.List.{AllByRecursion}
use Rattle.journal_defs.specs.declared.edit.Edit.{Edit}
use Rattle.journal_defs.specs.declared.edit.Claim.{Claim}
use Rattle.journal_defs.specs.declared.commit.Commit.{Commit}
use Rattle.journal_defs.specs.Journal.{AreLegal, replay}
use Rattle.hands.specs.Hands.{Hand, AreRight, AreStamped, AreCovered, vertices, hands_after_all}
use Rattle.hands.specs.Answers.{claimed, IsFresh}
use Rattle.seats.specs.Ground.{Ground, Grown, IsOther}
use Rattle.seats.specs.Seats.{SeatSeen}
use Rattle.seats.specs.Claimed.{IsWon}

-- a place was won, and its star is in hand
pub record IsTaken (old new : SeatSeen) (v : ℕ) (hs ks : List Hand) : Type 0 where
  pub hand : Hand
  pub hands : ks ≡ hs ++ hand ∷ []
  pub won : IsWon old new v hand

-- what a caller holds after k claims
pub record IsHolding (g : Ground) (claims : List Claim) (k : ℕ) (old new : SeatSeen) (hs : List Hand) : Type 0 where
  pub of : new.of ≡ old.of
  pub caller : new.caller ≡ old.caller
  pub mine : new.mine ≡ old.mine
  pub held : new.held ≡ vertices hs
  pub keys : vertices hs ≡ take k (claimed claims)
  pub wins : new.wins ≡ old.wins ++ take k (claimed claims)
  pub grown : Grown g old.caller [] old.seen new.seen
  pub right : AreRight g.points (replay g.start new.seen) hs
  pub stamped : AreStamped new.seen hs

-- the claims up to one were won, that one was missed, and what was won is still held
pub record IsBusyAt (g : Ground) (claims : List Claim) (old new : SeatSeen) (place holder : ℕ) (hs : List Hand) : Type 0 where
  pub k : ℕ
  pub within : k < length claims
  pub place_is : slice_index_or (claimed claims) k place ≡ place
  pub misses : new.misses ≡ old.misses ++ (place, holder) ∷ []
  pub other : IsOther g old.caller holder
  pub holding : IsHolding g claims k old new hs

-- all is claimed and fresh, and the edits are made
pub record IsOpen (g : Ground) (edits : List Edit) (claims : List Claim) (old mid : SeatSeen) (hs : List Hand) : Type 0 where
  pub first : List Hand
  pub holding : IsHolding g claims (length claims) old mid first
  pub misses : mid.misses ≡ old.misses
  pub fresh : AllByRecursion (IsFresh mid.seen) claims
  pub legal : AreLegal g.points (replay g.start mid.seen) edits
  pub made : hs ≡ hands_after_all g.points edits first

-- all is held, and the edits are made and may be entered
pub record IsReady (g : Ground) (edits : List Edit) (s : SeatSeen) (hs : List Hand) (entries : List Commit) : Type 0 where
  pub first : List Hand
  pub right : AreRight g.points (replay g.start s.seen) first
  pub stamped : AreStamped s.seen first
  pub covered : AreCovered first edits
  pub legal : AreLegal g.points (replay g.start s.seen) edits
  pub made : hs ≡ hands_after_all g.points edits first
  pub held : s.held ≡ vertices first ++ length g.points ∷ []
  pub same : entries ≡ s.seen
  pub room : length s.seen < g.room

-- what is in hand may be given back
pub record MayLeave (g : Ground) (s : SeatSeen) (hs : List Hand) : Type 0 where
  pub held : s.held ≡ vertices hs
  pub right : AreRight g.points (replay g.start s.seen) hs
  pub stamped : AreStamped s.seen hs
