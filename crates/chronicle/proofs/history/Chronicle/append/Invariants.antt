use Rattle.std.specs.Prelude.{Some}
use Rattle.chronicle.proofs.history.Chronicle.append.Given as goal

abbrev pub ghosts-append_told : goal.ghosts-append_told
ghosts-append_told g a = record { entry = Some a.entry.now }
