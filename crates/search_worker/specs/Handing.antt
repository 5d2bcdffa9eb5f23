-- For private clauses.
-- Plans handed in.
use Rattle.std.specs.Prelude.{◌≡◌, ℕ, ◌+◌, ◌-◌, ◌<◌, ◌≤◌, Bool, true, false, List, [], ◌∷◌, ◌++◌, length, take, Option, Some, None}
use Rattle.cost_defs.specs.Costs.{Costed}
use Rattle.journal_defs.specs.declared.edit.Edit.{Edit}
use Rattle.journal_defs.specs.declared.commit.Commit.{Commit}
use Rattle.journal_defs.specs.Weave.{next_commit}
use Rattle.edit.specs.Plans.{Planned}
use Rattle.plan_defs.specs.Plans.{IsNoDearer}
use Rattle.hands.specs.declared.refusal.Refusal.{Refusal}
use Rattle.hands.specs.declared.refusal.Refusal.TheVariants.{Busy, Stale, Ahead, NoMemory, Illegal, Full}
use Rattle.round_defs.specs.Handed.{AreFresh, IsStale, IsTaken}
use Rattle.round_defs.specs.Rounds.{AreHanded}
use Rattle.round_plans.specs.Found.{listed, first_four}
use Rattle.round_plans.specs.declared.found.RoundPlans.{RoundPlans}
use Rattle.seats.specs.Ground.{Ground}
use Rattle.seats.specs.Seats.{SeatSeen}
use Rattle.board.specs.Answers.{AreWithin}
use Rattle.search_worker.specs.declared.handing.Tried.{Tried}
use Rattle.search_worker.specs.declared.handing.Tried.TheVariants.{Made, Old, GivenUp}
use Rattle.search_worker.specs.declared.log.WorkLog.{WorkLog}
use Rattle.search_worker.specs.Working.{HasAdded}

-- what a refused plan is then: a stale one may be handed in again, want of memory ends the work, others are given up
abbrev pub IsOutcome : Planned → Refusal → Tried → Type 0
IsOutcome p (Busy place holder) t = t ≡ GivenUp
IsOutcome p (Stale v n) t = t ≡ Old p
IsOutcome p (Ahead v n) t = t ≡ GivenUp
IsOutcome p NoMemory t = ⊥
IsOutcome p (Illegal k why) t = t ≡ GivenUp
IsOutcome p Full t = t ≡ GivenUp

-- the caller works alone, and there is room for a commit
abbrev pub IsAlone : Ground → SeatSeen → Type 0
IsAlone g s = (g.callers ≡ 1) × (length s.seen < g.room)

-- the caller has one commit more, with these edits, exactly where one was made
abbrev pub HasMade : List Edit → (old new : SeatSeen) → Bool → Type 0
HasMade es old new true = (c : Commit) × (c.edits ≡ es) × (new.mine ≡ old.mine ++ c ∷ [])
HasMade es old new false = new.mine ≡ old.mine

abbrev pub made_count : Bool → ℕ
made_count true = 1
made_count false = 0

abbrev pub is_made : Tried → Bool
is_made Made = true
is_made (Old q) = false
is_made GivenUp = false

-- what handing in once has brought where the caller works alone
abbrev pub IsAnswered : Ground → Planned → (old new : SeatSeen) → Tried → Type 0
IsAnswered g p old new Made = IsTaken g.points g.start old.seen p × (new.seen ≡ old.seen ++ next_commit old.seen 1 p.edits ∷ [])
IsAnswered g p old new (Old q) = IsStale old.seen p.claims × (new.seen ≡ old.seen)
IsAnswered g p old new GivenUp = ¬ IsStale old.seen p.claims × ¬ IsTaken g.points g.start old.seen p × (new.seen ≡ old.seen)

-- a plan that is kept to be handed in again is the one that was handed in
abbrev pub IsBack : Planned → Tried → Type 0
IsBack p Made = Unit {0}
IsBack p (Old q) = q ≡ p
IsBack p GivenUp = Unit {0}

pub record IsTriedOnce (g : Ground) (p : Planned) (old new : SeatSeen) (t : Tried) : Type 0 where
  pub made : HasMade p.edits old new (is_made t)
  pub back : IsBack p t
  pub alone : IsAlone g old → IsAnswered g p old new t

-- a plan, if there is one, may be handed in: its vertices are points
abbrev pub IsSafe : Ground → Option Planned → Type 0
IsSafe g None = Unit {0}
IsSafe g (Some p) = AreWithin g p.claims

-- its Keeps don't cost more than its Drops
abbrev pub IsCheap : List Costed → Option Planned → Type 0
IsCheap D None = Unit {0}
IsCheap D (Some p) = IsNoDearer D p.edits

-- its stamps were fresh after the journal J
abbrev pub WasFresh : List Commit → Option Planned → Type 0
WasFresh J None = Unit {0}
WasFresh J (Some p) = AreFresh J p.claims

-- what is seen now is J and perhaps more
abbrev pub IsAfter : List Commit → SeatSeen → Type 0
IsAfter J s = (more : List Commit) × (s.seen ≡ J ++ more)

-- at most four plans are handed in, and no more commits made
pub record IsFew (log : WorkLog) : Type 0 where
  pub tried : log.tried ≤ 4
  pub committed : log.committed ≤ log.tried

-- of a plan, if there is one and fewer than four were handed in before it
abbrev pub handed_of : WorkLog → Option Planned → List (List Edit)
handed_of log o = take (4 - log.tried) (listed o)

-- one plan more, if there is one, has been handed in
pub record HasHanded (g : Ground) (o : Option Planned) (log next : WorkLog) (old new : SeatSeen) : Type 0 where
  pub few : IsFew next
  pub tried : next.tried ≡ log.tried + length (handed_of log o)
  pub made : ℕ
  pub committed : next.committed ≡ log.committed + made
  pub cheap : (D : List Costed) → IsCheap D o → HasAdded D made old new
  pub handed : (J : List Commit) → g.callers ≡ 1 → IsAfter J old → WasFresh J o → length old.seen + (4 - log.tried) ≤ g.room
      → AreHanded g.points g.start old.seen (handed_of log o) new.seen × (length new.seen + (4 - next.tried) ≤ g.room)

-- the same of all plans of a round
pub record AreSafe (g : Ground) (p : RoundPlans) : Type 0 where
  pub drops : IsSafe g p.drop
  pub swaps : IsSafe g p.swap
  pub trades : IsSafe g p.trade
  pub flip_swaps : IsSafe g p.flip_swap
  pub flips : IsSafe g p.flip

pub record AreCheap (D : List Costed) (p : RoundPlans) : Type 0 where
  pub drops : IsCheap D p.drop
  pub swaps : IsCheap D p.swap
  pub trades : IsCheap D p.trade
  pub flip_swaps : IsCheap D p.flip_swap
  pub flips : IsCheap D p.flip

pub record WereFresh (J : List Commit) (p : RoundPlans) : Type 0 where
  pub drops : WasFresh J p.drop
  pub swaps : WasFresh J p.swap
  pub trades : WasFresh J p.trade
  pub flip_swaps : WasFresh J p.flip_swap
  pub flips : WasFresh J p.flip

-- the first four plans have been handed in
pub record HaveHanded (g : Ground) (p : RoundPlans) (log : WorkLog) (old new : SeatSeen) : Type 0 where
  pub few : IsFew log
  pub cheap : (D : List Costed) → AreCheap D p → HasAdded D log.committed old new
  pub handed : g.callers ≡ 1 → WereFresh old.seen p → length old.seen + 4 ≤ g.room → AreHanded g.points g.start old.seen (first_four p) new.seen
