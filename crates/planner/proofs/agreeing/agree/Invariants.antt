use Rattle.std.proofs.Common.{ℕ, ◌<◌, get_or}
use Rattle.star.specs.Stars.{IsStar}
use Rattle.edit.specs.declared.look.Look.{Look}
use Rattle.planner.specs.Agreeing.{AgreesAt}
use Rattle.planner.proofs.agreeing.agree.Given as goal

abbrev pub invariant-loop-k : goal.invariant-loop-k
invariant-loop-k l = (j : ℕ) (d : Look) → j < l.k → IsStar (get_or l.region j d).star × AgreesAt l.points l.region (get_or l.region j d).star
