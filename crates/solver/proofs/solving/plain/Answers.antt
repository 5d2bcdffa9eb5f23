use Rattle.solver.proofs.Runs.{few_pairs, plain_run, parts_solved}
use Rattle.solver.proofs.solving.plain.Goals as goal

pub swept_core-requires-clause-few : goal.swept_core-requires-clause-few
swept_core-requires-clause-few g c =
    few_pairs c.args.points c.args.costs.now c.args.all.all c.in_ok-found.found.certificate c.in_ok-found.found.bound c.len-count.ensures.accepted c.requires.start.count c.in_ok-found.ensures.bound

pub returns : goal.returns
returns g c =
    let few = few_pairs c.args.points c.args.costs.now c.args.all.all c.in_ok-found.found.certificate c.in_ok-found.found.bound c.len-count.ensures.accepted c.requires.start.count c.in_ok-found.ensures.bound in
    parts_solved c.args.points c.args.costs.now c.args.edit_workers c.args.search c.args.all.all c.in_ok-core.core c.in_ok-found.found c.parts_of.result
    c.len-count.ensures.accepted c.requires.start few c.in_ok-found.ensures c.in_ok-core.ensures.points c.in_ok-core.ensures.start
    (plain_run c.args.points c.args.costs.now c.args.edit_workers c.args.search c.args.all.all c.in_ok-core.core.journal c.in_ok-found.found c.len-count.ensures.accepted
    c.requires.ascending c.requires.start few c.requires.none c.in_ok-core.ensures.journal c.in_ok-found.ensures)
    c.parts_of.ensures.points c.parts_of.ensures.start c.parts_of.ensures.journal c.parts_of.ensures.kept c.parts_of.ensures.certificate c.parts_of.ensures.bound
