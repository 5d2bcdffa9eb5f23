-- What each answer of a commit says.
use Rattle.std.specs.Prelude.{◌≡◌, ℕ, ◌+◌, ◌<◌, ◌⊎◌, true, List, [], ◌∷◌, ◌++◌, take, length, slice_index_or}
use Rattle.std.specs.List.{AllByRecursion, list_any}
use Rattle.journal_defs.specs.declared.edit.Edit.{Edit}
use Rattle.journal_defs.specs.declared.edit.Claim.{Claim}
use Rattle.journal_defs.specs.declared.commit.Commit.{Commit}
use Rattle.journal_defs.specs.Journal.{AreLegal, replay, IsLegalJournal, made}
use Rattle.hands.specs.declared.refusal.Refusal.{Refusal}
use Rattle.hands.specs.declared.refusal.Refusal.TheVariants.{Busy, Stale, Ahead, NoMemory, Illegal, Full}
use Rattle.hands.specs.Hands.{is_flip}
use Rattle.hands.specs.Answers.{claimed, IsFresh, IsStaleAnswer, IsIllegalAt}
use Rattle.seats.specs.Ground.{Ground, Grown, IsOther}
use Rattle.seats.specs.Seats.{SeatSeen}

-- the vertices of the claims are points
abbrev pub AreWithin : Ground → List Claim → Type 0
AreWithin g claims = AllByRecursion (λ (v : ℕ). v < length g.points) (claimed claims)

-- what every answer but a commit leaves: what is seen grew by commits of others alone, the caller's own are as before, and
-- no place is held
pub record IsLeft (g : Ground) (old new : SeatSeen) : Type 0 where
  pub of : new.of ≡ old.of
  pub caller : new.caller ≡ old.caller
  pub mine : new.mine ≡ old.mine
  pub held : new.held ≡ []
  pub grown : Grown g old.caller [] old.seen new.seen

-- the place of the claim at k was missed, because another caller held it; those before it were won
pub record IsBusyVertex (g : Ground) (claims : List Claim) (old new : SeatSeen) (place holder : ℕ) : Type 0 where
  pub left : IsLeft g old new
  pub k : ℕ
  pub within : k < length claims
  pub place_is : slice_index_or (claimed claims) k place ≡ place
  pub wins : new.wins ≡ old.wins ++ take k (claimed claims)
  pub misses : new.misses ≡ old.misses ++ (place, holder) ∷ []
  pub other : IsOther g old.caller holder

-- all vertices were won, in order, and nothing else was tried
pub record HasWonAll (g : Ground) (claims : List Claim) (old new : SeatSeen) : Type 0 where
  pub left : IsLeft g old new
  pub wins : new.wins ≡ old.wins ++ claimed claims
  pub misses : new.misses ≡ old.misses

-- the refusals before the journal is tried
abbrev pub IsEarly : Ground → List Edit → List Claim → SeatSeen → SeatSeen → Refusal → Type 0
IsEarly g edits claims old new (Busy place holder) = IsBusyVertex g claims old new place holder
IsEarly g edits claims old new (Stale v n) = HasWonAll g claims old new × IsStaleAnswer new.seen claims (Stale v n)
IsEarly g edits claims old new (Ahead v n) = HasWonAll g claims old new × IsStaleAnswer new.seen claims (Ahead v n)
IsEarly g edits claims old new NoMemory =
    HasWonAll g claims old new × AllByRecursion (IsFresh new.seen) claims × (list_any is_flip edits ≡ true)
IsEarly g edits claims old new (Illegal k why) =
    HasWonAll g claims old new × AllByRecursion (IsFresh new.seen) claims × IsIllegalAt g.points (replay g.start new.seen) edits k why
IsEarly g edits claims old new Full = ⊥

-- all stamps are right and all edits are legal after these commits
pub record HasPassed (g : Ground) (edits : List Edit) (claims : List Claim) (J : List Commit) : Type 0 where
  pub fresh : AllByRecursion (IsFresh J) claims
  pub legal : AreLegal g.points (replay g.start J) edits

-- so many tries at the journal were lost
pub record HasMissed (g : Ground) (old new : List (ℕ × ℕ)) (count : ℕ) : Type 0 where
  pub missed : List (ℕ × ℕ)
  pub many : length missed ≡ count
  pub places : AllByRecursion (λ (m : ℕ × ℕ). m.0 ≡ length g.points) missed
  pub is : new ≡ old ++ missed

-- the journal was tried 64 times in vain; the last holder is shown
pub record IsBusyJournal (g : Ground) (edits : List Edit) (claims : List Claim) (old new : SeatSeen) (place holder : ℕ) : Type 0 where
  pub left : IsLeft g old new
  pub passed : HasPassed g edits claims new.seen
  pub place_is : place ≡ length g.points
  pub wins : new.wins ≡ old.wins ++ claimed claims
  pub before : List (ℕ × ℕ)
  pub tries : HasMissed g old.misses before 63
  pub misses : new.misses ≡ before ++ (place, holder) ∷ []
  pub other : IsOther g old.caller holder

-- the journal was won after fewer than 64 tries that were lost
pub record HasWonJournal (g : Ground) (claims : List Claim) (old new : SeatSeen) : Type 0 where
  pub wins : new.wins ≡ old.wins ++ (claimed claims ++ length g.points ∷ [])
  pub count : ℕ
  pub few : count < 64
  pub tries : HasMissed g old.misses new.misses count

-- the journal, which is all that is seen, is as long as the room
pub record IsFull (g : Ground) (edits : List Edit) (claims : List Claim) (old new : SeatSeen) : Type 0 where
  pub left : IsLeft g old new
  pub passed : HasPassed g edits claims new.seen
  pub won : HasWonJournal g claims old new
  pub room : length new.seen ≡ g.room

-- the refusals after it was tried
abbrev pub IsLate : Ground → List Edit → List Claim → SeatSeen → SeatSeen → Refusal → Type 0
IsLate g edits claims old new (Busy place holder) = IsBusyJournal g edits claims old new place holder
IsLate g edits claims old new Full = IsFull g edits claims old new
IsLate g edits claims old new (Stale v n) = ⊥
IsLate g edits claims old new (Ahead v n) = ⊥
IsLate g edits claims old new NoMemory = ⊥
IsLate g edits claims old new (Illegal k why) = ⊥

-- every refusal has its cause, and none of the causes before it
abbrev pub IsRefused : Ground → List Edit → List Claim → SeatSeen → SeatSeen → Refusal → Type 0
IsRefused g edits claims old new r = IsEarly g edits claims old new r ⊎ IsLate g edits claims old new r

-- the caller's next commit
abbrev pub next_of : SeatSeen → List Edit → List Commit → Commit
next_of s edits J = record { caller = s.caller; seq = made s.caller J + 1; edits = edits }

-- the edits became the caller's next commit and the last of all, with this number. Before it, what is seen grew by commits
-- of others alone
pub record IsEntered (g : Ground) (edits : List Edit) (claims : List Claim) (old new : SeatSeen) (number : ℕ) : Type 0 where
  pub before : List Commit
  pub grown : Grown g old.caller [] old.seen before
  pub passed : HasPassed g edits claims before
  pub seen : new.seen ≡ before ++ next_of old edits before ∷ []
  pub mine : new.mine ≡ old.mine ++ next_of old edits before ∷ []
  pub number_is : number ≡ length new.seen
  pub legal : IsLegalJournal g.points g.start new.seen
  pub of : new.of ≡ old.of
  pub caller : new.caller ≡ old.caller
  pub held : new.held ≡ []
  pub won : HasWonJournal g claims old new

-- it isn't the answer that another caller holds a place
abbrev pub IsNotBusy : Refusal → Type 0
IsNotBusy (Busy place holder) = ⊥
IsNotBusy (Stale v n) = Unit {0}
IsNotBusy (Ahead v n) = Unit {0}
IsNotBusy NoMemory = Unit {0}
IsNotBusy (Illegal k why) = Unit {0}
IsNotBusy Full = Unit {0}
