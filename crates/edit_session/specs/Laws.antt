-- The statement of the law of sessions.
use Rattle.std.specs.Prelude.{◌≡◌, List, ◌++◌, length, take}
use Rattle.std.specs.List.{All, AllZip}
use Rattle.plane.specs.declared.coordinates.Point.{Point}
use Rattle.plane.specs.declared.segment.Pair.{Pair}
use Rattle.cost_defs.specs.Costs.{Costed}
use Rattle.star.specs.Stars.{Seen as TheStar}
use Rattle.edit_session.specs.declared.command.EditCommand.{EditCommand}
use Rattle.edit_session.specs.declared.command.Reply.{Reply}
use Rattle.edit_session.specs.declared.command.Reply.TheVariants.{Seen}
use Rattle.edit_session.specs.Sessions.{Session, IsCommandOf, AreReplied, opened}

-- the stars are one but for their room
pub record IsSameStar (a b : TheStar) : Type 0 where
  pub centre : a.centre ≡ b.centre
  pub list : a.list ≡ b.list
  pub points : a.points ≡ b.points

-- the replies are one but for the room of a star
abbrev pub AreAlike : (r q : Reply) → Type 0
AreAlike (Seen a m) (Seen b n) = IsSameStar a b × (m ≡ n)
AreAlike r q = r ≡ q

-- The replies to the first commands are the first of all replies.
abbrev pub RepliesBegin : List Point → List Pair → Type 0
RepliesBegin S start = (D : List Costed) (first rest : List EditCommand) (some all : List Reply) (t u : Session)
    → All (IsCommandOf (length S)) (first ++ rest) → AreReplied S D start opened first some t
    → AreReplied S D start opened (first ++ rest) all u → AllZip AreAlike some (take (length first) all)
