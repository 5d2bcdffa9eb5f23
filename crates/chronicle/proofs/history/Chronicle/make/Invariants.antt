use Rattle.chronicle.proofs.history.Chronicle.make.Given as goal

abbrev pub ghosts-open : goal.ghosts-open
ghosts-open g a = record { entries = a.first.now }
