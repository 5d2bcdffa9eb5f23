use Rattle.std.proofs.Common.{ℕ, List, ◌++◌, codes, ◌∙◌, ap}
use Rattle.solve_report.proofs.Built.{run_version}
use Rattle.solve_report.proofs.texts.solved_line.Goals as goal

pub write_part-requires : goal.write_part-requires
write_part-requires g c = run_version _ _ _ _ _ c.in_ok-report.report c.in_ok-report.ensures

pub returns : goal.returns
returns g c = (
  c.in_ok-instance.instance,
  c.in_ok-report.report,
  c.in_ok-instance.ensures.name,
  c.in_ok-instance.ensures.points,
  c.in_ok-instance.ensures.costs,
  c.in_ok-report.ensures,
  c.in_ok-push.ensures.items ∙ ap (λ (t : List ℕ). t ++ codes "\n") c.in_ok-text.ensures,
)
