-- The statuses: of texts that were written whole, and by number. (This project's own.)
use Rattle.std.specs.Prelude.{◌≡◌, ℕ, List, ◌⊎◌}
use Rattle.std.specs.declared.option.Option.{Option}
use Rattle.std.specs.Io.KnownBytes.{Appends}
use Rattle.mcp_outside.specs.Bytes.{AppendsPrefix}
use Rattle.solver_top.specs.declared.status.Status.{Status}
use Rattle.solver_top.specs.declared.status.Status.TheVariants as status
use Rattle.solver_top.specs.declared.status.Verdict.{Verdict}
use Rattle.solver_top.specs.declared.status.Verdict.TheVariants.{Done, No, Usage, Refused}

abbrev pub status_of : Verdict → Status
status_of Done = status.Done
status_of No = status.No
status_of Usage = status.Usage
status_of Refused = status.Refused

-- the number with which the program ends
abbrev pub number_of : Status → ℕ
number_of status.Done = 0
number_of status.No = 1
number_of status.Usage = 2
number_of status.Refused = 3
number_of status.ReadFault = 4
number_of status.WriteFault = 5
number_of status.NoMemory = 6

-- the number with which the program ends where the machine gives no words
abbrev pub no_words : ℕ
no_words = 7

-- a text was made: the source didn't fail, and memory was found
abbrev pub HasText : Status → Type 0
HasText status.ReadFault = ⊥
HasText status.NoMemory = ⊥
HasText status.Done = Unit {0}
HasText status.No = Unit {0}
HasText status.Usage = Unit {0}
HasText status.Refused = Unit {0}
HasText status.WriteFault = Unit {0}

-- a text was written whole, with the status of its verdict, or a prefix of it before a fault of the sink
abbrev pub IsWritten : Status → Verdict → List ℕ → (old new : Option (List ℕ)) → Type 0
IsWritten result verdict text old new =
    ((result ≡ status_of verdict) × Appends old new text) ⊎ ((result ≡ status.WriteFault) × AppendsPrefix old new text)
