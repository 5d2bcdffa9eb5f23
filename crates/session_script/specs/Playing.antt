-- The commands of a session on the core of its start, and what is printed of them. (This project's own.)
use Rattle.std.specs.Prelude.{◌≡◌, ℕ, List, ◌++◌, length}
use Rattle.plane.specs.declared.coordinates.Point.{Point}
use Rattle.plane.specs.declared.segment.Pair.{Pair}
use Rattle.cost_defs.specs.Costs.{Costed}
use Rattle.journal_defs.specs.Journal.{replay}
use Rattle.triangulate.specs.Start.{IsSortedStart}
use Rattle.weave_script.specs.Lines.{end_line}
use Rattle.edit_session.specs.declared.command.EditCommand.{EditCommand}
use Rattle.edit_session.specs.declared.command.Reply.{Reply}
use Rattle.edit_session.specs.Sessions.{Session, AreReplied, opened}
use Rattle.session_script.specs.Lines.{replies_text}

-- The text is that of the commands: from the sweep triangulation and an empty journal each command is replied in its turn.
-- The text has a line for each reply, and a last one with the length of the journal and the number of kept segments.
pub record IsPlayed (S : List Point) (D : List Costed) (list : List EditCommand) (text : List ℕ) : Type 0 where
  pub start : List Pair
  pub is_start : IsSortedStart S start
  pub replies : List Reply
  pub session : Session
  pub replied : AreReplied S D start opened list replies session
  pub is : text ≡ replies_text replies ++ end_line (length session.journal) (length (replay start session.journal).kept)
