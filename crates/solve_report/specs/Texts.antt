-- What `solve` writes of an instance, and `gen-solve` of one that it makes. (This project's own.)
use Rattle.std.specs.Prelude.{◌≡◌, ℕ, ◌≤◌, ◌⊎◌, List, [], ◌++◌, length, codes}
use Rattle.generator.specs.declared.kinds.Kind.{Kind}
use Rattle.generator.specs.Kinds.{AreMade}
use Rattle.generator.specs.Names.{made_name}
use Rattle.instance_io.specs.declared.instances.Instance.{Instance}
use Rattle.report_io.specs.declared.report.Part.TheVariants as part
use Rattle.report_io.specs.declared.report.Report.{Report}
use Rattle.report_io.specs.Report.{part_text}
use Rattle.solve_report.specs.Reports.{IsSolvedReport, HasBest, IsPlainReport, IsWorkedReport}

-- The report is of this instance, solved with so many workers of each kind. The most segments that a triangulation of so many
-- points has.
pub record IsRunReport (I : Instance) (E workers rounds seed : ℕ) (r : Report) : Type 0 where
  pub instance : r.instance ≡ I
  pub solved : IsSolvedReport E r
  pub best : HasBest workers rounds seed r
  pub plain : (E ≡ 0) ⊎ (rounds ≡ 0) → IsPlainReport r
  pub worked : 1 ≤ E → 1 ≤ rounds → IsWorkedReport E rounds seed r
  pub few : length r.start ≤ 15000
  pub fewer : length r.solution ≤ length r.start

-- the summary line of the run on an instance made from a number, without workers of either kind
abbrev pub IsSolvedLine : Kind → (n seed : ℕ) → List ℕ → Type 0
IsSolvedLine kind n seed text = (I : Instance) × (r : Report)
    × (I.name ≡ made_name kind n seed) × AreMade kind n seed I.points × (I.costs ≡ [])
    × IsRunReport I 0 0 0 seed r × (text ≡ part_text r part.Summary ++ codes "\n")
