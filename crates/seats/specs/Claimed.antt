-- What a try at a place leaves.
use Rattle.std.specs.Prelude.{◌≡◌, ℕ, ◌<◌, ◌≤◌, List, [], ◌∷◌, ◌++◌, length}
use Rattle.std.specs.List.{AllByRecursion}
use Rattle.journal_defs.specs.declared.commit.Commit.{Commit}
use Rattle.journal_defs.specs.Journal.{replay}
use Rattle.hands.specs.Hands.{Hand, IsRight, IsStamped}
use Rattle.seats.specs.Ground.{Grown, IsOther}
use Rattle.seats.specs.Seats.{SeatSeen, ground_of}

-- the place of the journal
abbrev pub journal_place : SeatSeen → ℕ
journal_place s = length s.of.root.points

-- a point's place was won: its star is in hand, right after all that is seen then
pub record IsWon (old new : SeatSeen) (v : ℕ) (h : Hand) : Type 0 where
  pub seat : new ≡ record old { seen = new.seen; held = old.held ++ v ∷ []; wins = old.wins ++ v ∷ [] }
  pub grown : Grown (ground_of old.of) old.caller old.held old.seen new.seen
  pub vertex : h.vertex ≡ v
  pub right : IsRight old.of.root.points (replay old.of.root.start.items new.seen) h
  pub stamped : IsStamped new.seen h

-- a try at a place was lost, because another caller had it
pub record IsMissed (old new : SeatSeen) (place holder : ℕ) : Type 0 where
  pub seat : new ≡ record old { misses = old.misses ++ (place, holder) ∷ [] }
  pub other : IsOther (ground_of old.of) old.caller holder

-- so many tries at the journal were lost
pub record IsLate (old new : SeatSeen) (count : ℕ) : Type 0 where
  pub missed : List (ℕ × ℕ)
  pub many : length missed ≡ count
  pub places : AllByRecursion (λ (m : ℕ × ℕ). m.0 ≡ journal_place old) missed
  pub seat : new ≡ record old { misses = old.misses ++ missed }

-- the journal was won, and is all that is seen
pub record IsJournalTaken (old new : SeatSeen) (commits : List Commit) : Type 0 where
  pub seat : new ≡ record old { seen = new.seen; held = old.held ++ journal_place old ∷ []; wins = old.wins ++ journal_place old ∷ [] }
  pub grown : Grown (ground_of old.of) old.caller old.held old.seen new.seen
  pub same : commits ≡ new.seen
  pub few : length new.seen ≤ old.of.root.room

-- it was won after fewer than 64 tries that were lost
pub record IsJournalWon (old new : SeatSeen) (commits : List Commit) : Type 0 where
  pub mid : SeatSeen
  pub count : ℕ
  pub tries : count < 64
  pub late : IsLate old mid count
  pub won : IsJournalTaken mid new commits

-- it was tried 64 times and not won; the last holder is shown
pub record IsJournalMissed (old new : SeatSeen) (holder : ℕ) : Type 0 where
  pub mid : SeatSeen
  pub late : IsLate old mid 63
  pub missed : IsMissed mid new (journal_place old) holder
