use Rattle.std.proofs.Common.{◌-◌, length, refl}
use Rattle.chronicle.proofs.Moves.{starts}
use Rattle.chronicle.proofs.history.Chronicle.make.Goals as goal

pub of_words-requires : goal.of_words-requires
of_words-requires g c = starts g.T.Entry.caller g.T.Entry.touches record { last = c.args.parts - 1; callers = c.args.callers; size = length c.args.first.now } c.args.first.now refl
