use Rattle.planner.specs.Region.{sights}
use Rattle.round_plans.proofs.Regions.{looked_if, drops_there, drops_none}
use Rattle.round_plans.proofs.walking.list_drops.Goals as goal

pub returns-in_ok-push_marked-2 : goal.returns-in_ok-push_marked-2
returns-in_ok-push_marked-2 c =
    let R = c.args.region.now in
    drops_there (sights R) c.args.v c.args.q c.is_some.result c.clear.new.self.items c.push_marked.new.out.items c.push_marked-then-is_some.new.out.items
    (looked_if R c.args.q c.star.result c.is_some.result c.star.ensures.star c.is_some.ensures) c.if-is_some.true c.clear.ensures.items c.in_ok-push_marked.ensures c.in_ok-push_marked-2.ensures

pub returns-else-is_some : goal.returns-else-is_some
returns-else-is_some c =
    let R = c.args.region.now in
    drops_none (sights R) c.args.v c.args.q c.is_some.result c.clear.new.self.items
    (looked_if R c.args.q c.star.result c.is_some.result c.star.ensures.star c.is_some.ensures) c.if-is_some.false c.clear.ensures.items
