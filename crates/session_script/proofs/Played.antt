-- The commands of a session on the core of its start.
use Rattle.std.proofs.Common.{◌≡◌, ℕ, List, [], ◌++◌, length, sym, ◌∙◌, ap, subst}
use Rattle.plane.specs.declared.coordinates.Point.{Point}
use Rattle.plane.specs.declared.segment.Pair.{Pair}
use Rattle.cost_defs.specs.Costs.{Costed}
use Rattle.journal_defs.specs.declared.commit.Commit.{Commit}
use Rattle.journal_defs.specs.Journal.{replay}
use Rattle.replay.specs.Replayed.{Replayed, state_of}
use Rattle.triangulate.specs.Start.{IsSortedStart}
use Rattle.weave_script.specs.Lines.{end_line}
use Rattle.edit_session.specs.declared.command.EditCommand.{EditCommand}
use Rattle.edit_session.specs.declared.command.Reply.{Reply}
use Rattle.edit_session.specs.Sessions.{AreReplied, HasPlayed, opened}
use Rattle.session_script.specs.Lines.{replies_text}
use Rattle.session_script.specs.Playing.{IsPlayed}

pub played : (S : List Point) (D : List Costed) (old new : Replayed) (list : List EditCommand) (replies : List Reply) (text : List ℕ) → old.points ≡ S → IsSortedStart S old.start
    → HasPlayed old new D list replies → text ≡ replies_text replies ++ end_line (length new.journal) (length (state_of new).kept) → IsPlayed S D list text
played S D old new list replies text points is_start so is = record {
  start = old.start;
  is_start = is_start;
  replies = replies;
  session = so.session;
  replied = subst (λ (P : List Point). AreReplied P D old.start opened list replies so.session) points so.replied;
  is = is ∙ ap (λ (J : List Commit). replies_text replies ++ end_line (length J) (length (replay new.start J).kept)) so.journal
      ∙ ap (λ (T : List Pair). replies_text replies ++ end_line (length so.session.journal) (length (replay T so.session.journal).kept)) so.start;
}
