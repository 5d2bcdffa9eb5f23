-- For private clauses.
-- Rounds.
use Rattle.std.specs.Prelude.{◌≡◌, ℕ, ◌+◌, ◌≤◌, ◌%◌, List, length}
use Rattle.plane.specs.declared.coordinates.Point.{Point}
use Rattle.plane.specs.declared.segment.Pair.{Pair}
use Rattle.cost_defs.specs.Costs.{Costed}
use Rattle.journal_defs.specs.declared.edit.Edit.{Edit}
use Rattle.journal_defs.specs.declared.commit.Commit.{Commit}
use Rattle.journal_defs.specs.Journal.{replay}
use Rattle.journal_defs.specs.Neighbours.{star_list}
use Rattle.rand_pcg.specs.Lcg.{Lcg}
use Rattle.rand_pcg.specs.Pcg.{pcg32}
use Rattle.round_defs.specs.Rounds.{looks, ArePlans, AreHanded, IsRound}
use Rattle.seats.specs.Ground.{Ground}
use Rattle.seats.specs.Seats.{SeatSeen}
use Rattle.search_worker.specs.declared.log.WorkLog.{WorkLog}
use Rattle.search_worker.specs.Working.{HasAdded}
use Rattle.search_worker.specs.Handing.{IsFew}

-- a round at v with the second word b
abbrev pub IsRoundAt : List Point → List Costed → List Pair → List Commit → (v b : ℕ) → List Commit → Type 0
IsRoundAt S D start J v b J' =
    let k = b % length (star_list S (replay start J) v) in
    (plans : List (List Edit)) × ArePlans S D (looks S start J v) v k plans × AreHanded S start J plans J'

-- the rest of a round, after the look at v
pub record HasTurnedAt (g : Ground) (D : List Costed) (v : ℕ) (old new : SeatSeen) (words next : Lcg) (log : WorkLog) : Type 0 where
  pub few : IsFew log
  pub added : HasAdded D log.committed old new
  pub round : g.callers ≡ 1 → length old.seen + 4 ≤ g.room → IsRoundAt g.points D g.start old.seen v (pcg32 words).0 new.seen
  pub drawn : g.callers ≡ 1 → next ≡ (pcg32 words).1

-- a round
pub record HasTurned (g : Ground) (D : List Costed) (old new : SeatSeen) (words next : Lcg) (log : WorkLog) : Type 0 where
  pub few : IsFew log
  pub added : HasAdded D log.committed old new
  pub round : g.callers ≡ 1 → length old.seen + 4 ≤ g.room
      → IsRound g.points D g.start old.seen (pcg32 words).0 (pcg32 (pcg32 words).1).0 new.seen
  pub drawn : g.callers ≡ 1 → next ≡ (pcg32 (pcg32 words).1).1
