use Rattle.std.proofs.Common.{ℕ, ◌≢◌, subst, false, replicate, arith, length, ◌≡◌, ◌≤◌}
use Rattle.std.proofs.lemmas.List.{get_or-replicate}
use Rattle.plane.specs.First.{IsLeastOrNone}
use Rattle.cp_judge.specs.Searching.{mark}
use Rattle.cp_judge.proofs.Marks.{unmet_from}
use Rattle.cp_judge.proofs.needs.first_unmet_at.Goals as goal

pub mark_met-requires-clause-room : goal.mark_met-requires-clause-room
mark_met-requires-clause-room c = c.len-count.ensures.accepted.count.1

pub returns : goal.returns
returns c =
    let few : length c.args.points.now ≤ 5000 = c.len-count.ensures.accepted.count.1 in
    let P : ℕ → Type 0 = λ n. IsLeastOrNone (λ q. (q ≢ c.args.p) × (mark c.mark_met.new.marks q ≡ false)) n c.first_unmarked.result in
    unmet_from c.args.points.now c.args.list.now c.args.p (replicate 5000 false) c.mark_met.new.marks c.first_unmarked.result c.requires.within
    (λ q l. get_or-replicate 5000 q false false (omega arith)) c.mark_met.ensures (subst P c.len-count.ensures.count c.first_unmarked.ensures)
