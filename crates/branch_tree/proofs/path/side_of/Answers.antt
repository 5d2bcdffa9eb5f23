use Rattle.std.proofs.Common.{sym, ◌∙◌}
use Rattle.std.proofs.lemmas.Bool.{false≢true}
use Rattle.tree_defs.specs.Trees.{root}
use Rattle.branch_tree.specs.Paths.{side, sets_of}
use Rattle.branch_tree.proofs.Paths.{side_keep, side_skip}
use Rattle.branch_tree.proofs.path.side_of.Goals as goal

pub loop-k-preserved-in-Continue-1 : goal.loop-k-preserved-in-Continue-1
loop-k-preserved-in-Continue-1 c =
    side_keep c.args.barred c.args.path.now (side c.args.barred (sets_of root c.args.path.now)) c.loop-k.list.items c.push.new.self.items c.loop-k.k c.index-path-k.result c.index-path-k-then-is_on.result
    c.loop-k-test.true c.loop-k.invariant.0 c.loop-k.invariant.1 c.index-path-k.is (c.is_on.ensures.0 c.if-is_on.true) c.index-path-k-then-is_on.is c.in_ok-push.ensures.items

pub loop-k-preserved : goal.loop-k-preserved
loop-k-preserved c =
    side_skip c.args.barred c.args.path.now (side c.args.barred (sets_of root c.args.path.now)) c.loop-k.list.items c.loop-k.k c.index-path-k.result
    c.loop-k-test.true c.loop-k.invariant.0 c.loop-k.invariant.1 c.index-path-k.is (λ h. false≢true (sym c.if-is_on.false ∙ c.is_on.ensures.1 h))
