use Rattle.std.proofs.Common.{◌≡◌, ◌∙◌, ◌+◌, [], ◌∷◌, false, get_or, take, length, sym, ap, refl, subst, arith}
use Rattle.std.proofs.lemmas.List.{get_or_default, length_push}
use Rattle.tree_defs.specs.declared.node.Node.{Node}
use Rattle.tree_defs.specs.Leaves.{Sets}
use Rattle.tree_defs.specs.Walks.{met}
use Rattle.partition_defs.specs.Partition.{AreWithin}
use Rattle.partition_defs.specs.Triangulation.{AreDistinct}
use Rattle.tree_defs.specs.Trees.{root, leaf_of, IsEnd}
use Rattle.branch_tree.specs.Paths.{sets_of, wanted}
use Rattle.branch_tree.specs.Values.{IsJudged}
use Rattle.branch_tree.specs.declared.checking.Judged.{Judged}
use Rattle.branch_tree.specs.declared.checking.Judged.TheVariants.{Right}
use Rattle.branch_tree.proofs.Least.{least_at}
use Rattle.branch_tree.proofs.Paths.{path_inside, path_apart, met_path, step_branch, step_end}
use Rattle.branch_tree.proofs.checking.walk.Goals as goal
use Rattle.branch_tree.proofs.checking.walk.Goals.{in-Some+in_ok-push-in-Some, in-None}

pub judge_node-requires-clause-within : goal.judge_node-requires-clause-within
judge_node-requires-clause-within c =
    subst (λ z. AreWithin c.args.points.now (sets_of root z).taken) (sym c.as_slice.ensures.value)
    (path_inside c.args.points.now c.args.costs.now c.args.tree.now c.loop-k.k c.loop-k.path.items c.loop-k.is_open c.if-not-is_open.false c.loop-k.invariant.leads)

pub judge_node-requires-clause-distinct : goal.judge_node-requires-clause-distinct
judge_node-requires-clause-distinct c =
    subst (λ z. AreDistinct (sets_of root z).taken) (sym c.as_slice.ensures.value)
    (path_apart c.args.points.now c.args.costs.now c.args.tree.now c.loop-k.k c.loop-k.path.items c.loop-k.is_open c.if-not-is_open.false c.loop-k.invariant.leads)

pub loop-k-preserved : goal.loop-k-preserved
loop-k-preserved c =
    let S = c.args.points.now in
    let D = c.args.costs.now in
    let h = c.args.base in
    let s : Sets = sets_of root c.loop-k.path.items in
    let node : Node = get_or c.args.tree.now c.loop-k.k c.index-tree-k.result in
    let judged : IsJudged S D h s node (Right c.in-Right.value) =
    subst (λ (j : Judged). IsJudged S D h s node j) c.in-Right.is
    (subst (λ (x : Node). IsJudged S D h s x c.in_ok-judged.judged) c.index-tree-k.is
    (subst (λ z. IsJudged S D h (sets_of root z) c.index-tree-k.result c.in_ok-judged.judged) c.as_slice.ensures.value c.in_ok-judged.ensures)) in
    let same : node ≡ c.index-tree-k-in-loop-k.result =
    get_or_default c.args.tree.now c.loop-k.k c.index-tree-k.result c.index-tree-k-in-loop-k.result c.loop-k-test.true ∙ sym c.index-tree-k-in-loop-k.is in
    record {
      leads = elim c.match-branch_of.branch [
        | in-Some+in_ok-push-in-Some w ↦ step_branch S D c.args.tree.now c.loop-k.k c.loop-k.path.items c.match-branch_of.path.items c.loop-k.is_open c.match-branch_of.is_open
            c.index-tree-k.result w.in-Some.pair (record { pair = w.in-Some.pair; barred = false }) c.loop-k-test.true c.if-not-is_open.false c.loop-k.invariant.leads judged.0 (same ∙ w.in-Some.ensures)
            (ap (λ v. v.items) w.path-is ∙ w.in_ok-push-in-Some.ensures.items) refl refl (w.is_open-is ∙ c.if-not-is_open.false)
        | in-None w ↦ step_end S D c.args.tree.now c.loop-k.k c.loop-k.path.items c.match-branch_of.path.items c.loop-k.is_open c.match-branch_of.is_open
            c.index-tree-k.result c.loop-k-test.true c.if-not-is_open.false c.loop-k.invariant.leads judged.0 (subst IsEnd (sym same) w.in-None.ensures)
            (λ t. ap (λ v. wanted v.items) w.path-is ∙ w.turn-is_open.ensures.more (sym w.is_open-is ∙ t)) (λ f. w.turn-is_open.ensures.done (sym w.is_open-is ∙ f))
      ];
      least = least_at S D h (met (root ∷ []) (take c.loop-k.k c.args.tree.now)) (leaf_of s node) (met (root ∷ []) (take (c.loop-k.k + 1) c.args.tree.now)) c.loop-k.least c.in-Right.value c.lesser_of-least.result
          (met_path S D c.args.tree.now c.loop-k.k c.index-tree-k.result c.loop-k.path.items c.loop-k.is_open c.loop-k-test.true c.if-not-is_open.false c.loop-k.invariant.leads)
          c.lesser_of-least.ensures c.loop-k.invariant.least judged.1;
      short = elim c.match-branch_of.branch [
        | in-Some+in_ok-push-in-Some w ↦ omega (arith, ap (λ v. length v.items) w.path-is, ap length w.in_ok-push-in-Some.ensures.items, length_push c.loop-k.path.items (record { pair = w.in-Some.pair; barred = false }), c.loop-k.invariant.short)
        | in-None w ↦ omega (arith, ap (λ v. length v.items) w.path-is, w.turn-is_open.ensures.shorter, c.loop-k.invariant.short)
      ];
    }
