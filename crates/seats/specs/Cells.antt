-- The fact of each place.
use Rattle.std.specs.Prelude.{◌≡◌, ℕ, ◌<◌, ◌≤◌, [], ◌∷◌, length, vec_capacity}
use Rattle.chronicle.specs.History.{ShareSeen}
use Rattle.journal_defs.specs.declared.commit.Commit.{Commit}
use Rattle.journal_defs.specs.Journal.{replay, IsLegalJournal}
use Rattle.edit.specs.declared.look.Look.{Look}
use Rattle.hands.specs.Hands.{hand_of, IsRight, IsStamped}
use Rattle.seats.specs.declared.cells.Root.{Root}
use Rattle.seats.specs.declared.cells.Cell.{Cell}
use Rattle.seats.specs.declared.cells.Cell.TheVariants.{Vertex, Journal}

-- the share is of the root's history, is nobody's, owns the part of the place, and has seen a legal journal
pub record IsPart (r : Root) (place : ℕ) (share : ShareSeen Commit) : Type 0 where
  pub of : share.of ≡ r.chronicle
  pub caller : share.caller ≡ 0
  pub parts : share.parts ≡ place ∷ []
  pub legal : IsLegalJournal r.points r.start.items share.seen

-- the star is that of the point after what the share has seen, and the stamp the number of the last commit of it that
-- touches the point
pub record VertexFits (r : Root) (place : ℕ) (look : Look) (share : ShareSeen Commit) : Type 0 where
  pub within : place < length r.points
  pub part : IsPart r place share
  pub centre : look.star.centre ≡ place
  pub right : IsRight r.points (replay r.start.items share.seen) (hand_of look)
  pub stamped : IsStamped share.seen (hand_of look)

abbrev pub CellFits : Root → ℕ → Cell → Type 0
CellFits r place (Vertex look share) = VertexFits r place look share
CellFits r place (Journal commits share) =
    -- the commits are what the share has seen, they fit into the room, and the room is there
    (place ≡ length r.points) × IsPart r place share × (commits.items ≡ share.seen) × (length share.seen ≤ r.room) × (r.room ≤ vec_capacity commits)
