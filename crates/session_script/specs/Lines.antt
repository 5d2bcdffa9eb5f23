-- The lines that are printed of a session. (This project's own.)
use Rattle.std.specs.Prelude.{ℕ, Bool, List, ◌++◌, codes, if◌then◌else◌}
use Rattle.std.specs.List.{flat_map}
use Rattle.std.specs.Fmt.{decimal}
use Rattle.star.specs.Stars.{Seen as TheStar}
use Rattle.fault_texts.specs.Texts.{numbered, instance_fault_text}
use Rattle.weave_script.specs.Lines.{why_text}
use Rattle.edit_session.specs.declared.command.Reply.{Reply}
use Rattle.edit_session.specs.declared.command.Reply.TheVariants.{Seen, Commit, Illegal, Nothing, Bound}
use Rattle.session_script.specs.declared.script.SessionFault.{SessionFault}
use Rattle.session_script.specs.declared.script.SessionFault.TheVariants.{NotJson, NoInstance, NoCommands, Instance, TooManyCommands, BadCommand, NoMemory}

-- a neighbour of a star, with an asterisk where it is kept
abbrev pub neighbour_text : ℕ × Bool → List ℕ
neighbour_text x = if x.1 then codes " " ++ (decimal x.0 ++ codes "*") else codes " " ++ decimal x.0

abbrev pub neighbours_text : List (ℕ × Bool) → List ℕ
neighbours_text list = flat_map neighbour_text list

-- a star with the number of the last commit that touched its vertex
abbrev pub star_text : TheStar → ℕ → List ℕ
star_text star stamp =
    codes "star " ++ (decimal star.centre ++ (codes " stamp " ++ (decimal stamp ++ (neighbours_text star.list ++ codes "\n"))))

-- the line of what a command is replied
abbrev pub reply_line : Reply → List ℕ
reply_line (Seen star stamp) = star_text star stamp
reply_line (Commit number) = codes "commit " ++ (decimal number ++ codes "\n")
reply_line (Illegal at why) = codes "illegal " ++ (decimal at ++ (codes " " ++ (why_text why ++ codes "\n")))
reply_line Nothing = codes "nothing\n"
reply_line (Bound value cost) = codes "bound " ++ (decimal value ++ (codes " cost " ++ (decimal cost ++ codes "\n")))

abbrev pub replies_text : List Reply → List ℕ
replies_text replies = flat_map reply_line replies

-- the fault of a text that is no session; want of memory is never printed
abbrev pub session_fault_text : SessionFault → List ℕ
session_fault_text NotJson = codes "session NotJson"
session_fault_text NoInstance = codes "session NoInstance"
session_fault_text NoCommands = codes "session NoCommands"
session_fault_text (Instance fault) = codes "instance " ++ instance_fault_text fault
session_fault_text (TooManyCommands count) = numbered (codes "session TooManyCommands ") count
session_fault_text (BadCommand place) = numbered (codes "session BadCommand ") place
session_fault_text NoMemory = codes "NoMemory"

abbrev pub refused_line : SessionFault → List ℕ
refused_line fault = codes "refused " ++ (session_fault_text fault ++ codes "\n")
