-- What a look shows, and what a refreshed plan is.
use Rattle.std.specs.Prelude.{◌≡◌, ℕ, ◌<◌, ◌≤◌, List, [], ◌∷◌, ◌++◌, take, length, slice_index_or}
use Rattle.std.specs.List.{AllByRecursion}
use Rattle.star.specs.StarOf.{IsStarOf}
use Rattle.journal_defs.specs.declared.commit.Commit.{Commit}
use Rattle.journal_defs.specs.declared.edit.Claim.{Claim}
use Rattle.journal_defs.specs.Journal.{replay, last}
use Rattle.edit.specs.declared.look.Look.{Look}
use Rattle.edit.specs.Plans.{Planned}
use Rattle.hands.specs.Answers.{claimed}
use Rattle.seats.specs.Ground.{Ground, IsOther}
use Rattle.seats.specs.Seats.{SeatSeen}
use Rattle.board.specs.declared.board.LookFault.{LookFault}
use Rattle.board.specs.declared.board.LookFault.TheVariants.{Busy, NoMemory}
use Rattle.board.specs.Answers.{IsLeft}

-- the star and the stamp of a vertex after all that is seen now
pub record IsShown (g : Ground) (old new : SeatSeen) (v : ℕ) (look : Look) : Type 0 where
  pub left : IsLeft g old new
  pub wins : new.wins ≡ old.wins ++ v ∷ []
  pub misses : new.misses ≡ old.misses
  pub star : IsStarOf g.points (replay g.start new.seen).all (replay g.start new.seen).kept v look.star
  pub stamp : look.stamp ≡ last new.seen v

-- why nothing is shown
abbrev pub IsUnseen : Ground → SeatSeen → SeatSeen → ℕ → LookFault → Type 0
IsUnseen g old new v (Busy place holder) =
    (place ≡ v) × IsLeft g old new × (new.wins ≡ old.wins) × (new.misses ≡ old.misses ++ (v, holder) ∷ []) × IsOther g old.caller holder
IsUnseen g old new v NoMemory = IsLeft g old new × (new.wins ≡ old.wins ++ v ∷ []) × (new.misses ≡ old.misses)

-- it isn't the answer that another caller holds the place
abbrev pub IsWantOfMemory : LookFault → Type 0
IsWantOfMemory (Busy place holder) = ⊥
IsWantOfMemory NoMemory = Unit {0}

-- a vertex was seen, and its stamp after all that is seen now is this one
pub record IsSeenOnce (g : Ground) (old new : SeatSeen) (v stamp : ℕ) : Type 0 where
  pub left : IsLeft g old new
  pub wins : new.wins ≡ old.wins ++ v ∷ []
  pub misses : new.misses ≡ old.misses
  pub stamp_is : stamp ≡ last new.seen v

-- each stamp is between the numbers of the last touches in two journals
abbrev pub AreBetween : List Commit → List Commit → List Claim → Type 0
AreBetween J L claims = AllByRecursion (λ (c : Claim). (last J c.vertex ≤ c.stamp) × (c.stamp ≤ last L c.vertex)) claims

-- the first k claims have new stamps
pub record IsRefreshing (g : Ground) (claims : List Claim) (k : ℕ) (old new : SeatSeen) (fresh : List Claim) : Type 0 where
  pub left : IsLeft g old new
  pub wins : new.wins ≡ old.wins ++ take k (claimed claims)
  pub misses : new.misses ≡ old.misses
  pub vertices : claimed fresh ≡ take k (claimed claims)
  pub stamps : AreBetween old.seen new.seen fresh

-- the same edits with claims on the same vertices, whose stamps are of some moment of the call
pub record IsRefreshed (g : Ground) (old new : SeatSeen) (plan fresh : Planned) : Type 0 where
  pub left : IsLeft g old new
  pub wins : new.wins ≡ old.wins ++ claimed plan.claims
  pub misses : new.misses ≡ old.misses
  pub edits : fresh.edits ≡ plan.edits
  pub vertices : claimed fresh.claims ≡ claimed plan.claims
  pub stamps : AreBetween old.seen new.seen fresh.claims

-- a vertex of the plan was missed
pub record IsHeldBack (g : Ground) (claims : List Claim) (old new : SeatSeen) (place holder : ℕ) : Type 0 where
  pub left : IsLeft g old new
  pub k : ℕ
  pub within : k < length claims
  pub place_is : slice_index_or (claimed claims) k place ≡ place
  pub wins : new.wins ≡ old.wins ++ take k (claimed claims)
  pub misses : new.misses ≡ old.misses ++ (place, holder) ∷ []
  pub other : IsOther g old.caller holder
