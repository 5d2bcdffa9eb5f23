use Rattle.std.proofs.Common.{◌≡◌, ◌≤◌, ◌-◌, ◌*◌, List}
use Rattle.std.specs.List.{sum_by}
use Rattle.price_defs.specs.declared.row.Row.{Row}
use Rattle.price_defs.specs.Loads.{IsValid, lost}
use Rattle.search_defs.specs.Priced.{AreRounds}
use Rattle.search_defs.specs.Words.{at_position, round_words}
use Rattle.bound_worker.specs.Ends.{AreEnds}
use Rattle.bound_worker.proofs.pricing.rounds_of.Given as goal

abbrev pub invariant-loop-k : goal.invariant-loop-k
invariant-loop-k l = record {
  leads : (out : List Row) → AreRounds l.points l.costs l.q l.inner (round_words l.stream l.seed l.k (l.rounds - l.k)) l.present.rows.items out → AreRounds l.points l.costs l.q l.inner (round_words l.stream l.seed 0 l.rounds) l.initial.present.rows.items out;
  words : l.words ≡ at_position l.stream l.seed (2 * l.k);
  valid : IsValid l.points l.costs l.q l.present.rows.items;
  ends : AreEnds l.points l.costs l.q l.present.rows.items l.present.ends.items;
  takers : sum_by lost l.present.rows.items ≤ 100000000000;
}
