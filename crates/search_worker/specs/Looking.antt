-- For private clauses.
-- Looks and regions of them.
use Rattle.std.specs.Prelude.{◌≡◌, ℕ, ◌+◌, ◌<◌, false, List, [], ◌∷◌, ◌++◌, length, Option, Some, None}
use Rattle.star.specs.StarOf.{IsStarOf}
use Rattle.journal_defs.specs.declared.commit.Commit.{Commit}
use Rattle.journal_defs.specs.Journal.{replay, last}
use Rattle.edit.specs.declared.look.Look.{Look}
use Rattle.plan_defs.specs.Plans.{has_look, look_at}
use Rattle.planner.specs.Region.{sight, sights, AreFor}
use Rattle.round_defs.specs.Rounds.{sight_of, looks}
use Rattle.seats.specs.Ground.{Ground}
use Rattle.seats.specs.Seats.{SeatSeen}
use Rattle.search_worker.specs.Working.{Begins, tries}

-- the look shows the star and the stamp of v after the journal
pub record ShowsNow (g : Ground) (J : List Commit) (v : ℕ) (look : Look) : Type 0 where
  pub star : IsStarOf g.points (replay g.start J).all (replay g.start J).kept v look.star
  pub stamp : look.stamp ≡ last J v

-- nothing was committed; where the caller works alone nothing else is seen
pub record IsStill (g : Ground) (old new : SeatSeen) : Type 0 where
  pub mine : new.mine ≡ old.mine
  pub alone : g.callers ≡ 1 → new.seen ≡ old.seen

-- the look at v, or none where another caller had it
abbrev pub IsOneLook : Ground → SeatSeen → ℕ → Option Look → Type 0
IsOneLook g s v None = g.callers ≡ 1 → ⊥
IsOneLook g s v (Some look) = ShowsNow g s.seen v look

-- one try at v was made, and what it showed
pub record HasLooked (g : Ground) (old new : SeatSeen) (v : ℕ) (o : Option Look) : Type 0 where
  pub still : IsStill g old new
  pub one : tries new ≡ tries old + 1
  pub shown : IsOneLook g new v o

-- there is place for a look at v
abbrev pub HasPlaceFor : ℕ → List Look → Type 0
HasPlaceFor v R = (length R < 16) × (has_look (sights R) v ≡ false)

-- the region has one look more, at v, where there is place for it and the caller works alone
pub record HasGained (g : Ground) (old new : SeatSeen) (v : ℕ) (R T : List Look) : Type 0 where
  pub still : IsStill g old new
  pub points : AreFor g.points T
  pub begins : Begins R T
  pub shown : g.callers ≡ 1 → HasPlaceFor v R → sights T ≡ sights R ++ sight_of g.points g.start old.seen v ∷ []

-- the region of a round that begins with a look
pub record IsGathered (g : Ground) (old new : SeatSeen) (look : Look) (R : List Look) : Type 0 where
  pub still : IsStill g old new
  pub points : AreFor g.points R
  pub first : look_at (sights R) look.star.centre ≡ sight look
  pub shown : g.callers ≡ 1 → sights R ≡ looks g.points g.start old.seen look.star.centre
