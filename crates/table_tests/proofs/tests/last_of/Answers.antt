use Rattle.std.proofs.Common.{List, length, ap, sym, ◌∙◌}
use Rattle.std.specs.Prelude.{slice_get}
use Rattle.table_tests.specs.declared.tests.Cell.{Cell}
use Rattle.table_tests.specs.Work.{IsOwning}
use Rattle.table_tests.proofs.Lists.{last_fits}
use Rattle.table_tests.proofs.tests.last_of.Goals as goal

pub returns : goal.returns
returns c =
    last_fits (λ k (x : Cell). IsOwning c.args.chronicle.now k x.share) c.pop-last.new.self.items c.in-Some.cell 3
    (ap (λ (l : List Cell). length l) (sym c.in-Some.ensures.items) ∙ sym c.args.cells.ok.0 ∙ c.requires.count)
    (λ place cell at. c.requires.cells place cell (ap (λ (l : List Cell). slice_get l place) c.in-Some.ensures.items ∙ at))
