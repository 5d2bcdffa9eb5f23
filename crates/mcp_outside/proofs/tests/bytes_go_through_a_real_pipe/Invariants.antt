use Rattle.mcp_outside.proofs.tests.bytes_go_through_a_real_pipe.Given as goal

abbrev pub ghosts-counted : goal.ghosts-counted
ghosts-counted g a = record { name = a.blank.name; parts = a.blank.parts }
