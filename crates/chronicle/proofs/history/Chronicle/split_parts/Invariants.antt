use Rattle.chronicle.proofs.history.Chronicle.split_parts.Given as goal

abbrev pub ghosts-split_at : goal.ghosts-split_at
ghosts-split_at g a = record { part = a.place }
