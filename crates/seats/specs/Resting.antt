-- A shelf and a seat as what they are made of.
use Rattle.std.specs.Prelude.{◌≡◌, ℕ}
use Rattle.chronicle.specs.History.{ShareSeen}
use Rattle.vertex_claims.specs.Holding.{ClaimsSeen, HolderSeen}
use Rattle.journal_defs.specs.declared.commit.Commit.{Commit}
use Rattle.journal_defs.specs.Journal.{made}
use Rattle.seats.specs.declared.cells.Root.{Root}
use Rattle.seats.specs.Seats.{SeatSeen, IsSeat, IsShelf}

pub record IsShelfOf (r : Root) (c : ClaimsSeen Root) (callers : ℕ) : Type 0 where
  pub root : c.root ≡ r
  pub callers_are : callers ≡ c.callers
  pub shelf : IsShelf c

abbrev pub seat_of : HolderSeen Root → ShareSeen Commit → SeatSeen
seat_of h s = record { of = h.of; caller = h.number; seen = s.seen; mine = s.mine; held = h.places; wins = h.wins; misses = h.misses }

-- the share has the parts of the places that are held, and so many commits are the caller's
pub record IsSeatOf (h : HolderSeen Root) (s : ShareSeen Commit) (me count : ℕ) : Type 0 where
  pub me_is : me ≡ h.number
  pub of : s.of ≡ h.of.root.chronicle
  pub caller : s.caller ≡ h.number
  pub parts : s.parts ≡ h.places
  pub made : count ≡ made s.caller s.seen
  pub seat : IsSeat (seat_of h s)
