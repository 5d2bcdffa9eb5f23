use Rattle.std.proofs.Common.{◌≡◌, ◌↔◌, ◌∙◌, sym, ap, ap₂, subst, length, arith}
use Rattle.std.specs.Prelude.{IsTrue}
use Rattle.std.specs.List.{Contains}
use Rattle.std.proofs.lemmas.Bool.{false≢true}
use Rattle.tree_defs.specs.Leaves.{Sets, sets}
use Rattle.tree_defs.specs.Trees.{root, IsRightNode}
use Rattle.branch_tree.specs.Paths.{sets_of}
use Rattle.branch_tree.proofs.Paths.{path_few}
use Rattle.branch_tree.proofs.Least.{no_leaf, leaf_value_at}
use Rattle.branch_tree.proofs.checking.judge_node.Goals as goal

pub is_right_node-requires-clause-within : goal.is_right_node-requires-clause-within
is_right_node-requires-clause-within c = λ e k. c.requires.within e (subst (λ l. Contains l e) (c.as_slice.ensures.value ∙ c.in_ok-taken.ensures) k)

pub returns-then-not-is_right_node : goal.returns-then-not-is_right_node
returns-then-not-is_right_node c =
    let same : sets c.as_slice.result.now c.as_slice-2.result.now ≡ sets_of root c.args.path.now = ap₂ sets (c.as_slice.ensures.value ∙ c.in_ok-taken.ensures) (c.as_slice-2.ensures.value ∙ c.in_ok-barred.ensures) in
    λ right. false≢true (sym c.if-not-is_right_node.true ∙ c.is_right_node.ensures.1 (subst (λ (s : Sets). IsRightNode c.args.points.now c.args.costs.now s c.args.node.now) (sym same) right))

pub returns-in_default : goal.returns-in_default
returns-in_default c =
    let same : sets c.as_slice.result.now c.as_slice-2.result.now ≡ sets_of root c.args.path.now = ap₂ sets (c.as_slice.ensures.value ∙ c.in_ok-taken.ensures) (c.as_slice-2.ensures.value ∙ c.in_ok-barred.ensures) in (
      subst (λ (s : Sets). IsRightNode c.args.points.now c.args.costs.now s c.args.node.now) same (c.is_right_node.ensures.0 c.if-not-is_right_node.false),
      no_leaf (sets_of root c.args.path.now) c.args.node.now c.in_default.ensures,
    )

pub leaf_value_of-requires-clause-within : goal.leaf_value_of-requires-clause-within
leaf_value_of-requires-clause-within c = λ e k. c.requires.within e (subst (λ l. Contains l e) (c.as_slice-3.ensures.value ∙ c.in_ok-taken.ensures) k)

pub leaf_value_of-requires-clause-few : goal.leaf_value_of-requires-clause-few
leaf_value_of-requires-clause-few c = omega (arith, ap length (c.as_slice-3.ensures.value ∙ c.in_ok-taken.ensures), path_few c.args.path.now, c.requires.few)

pub returns : goal.returns
returns c =
    let same : sets c.as_slice.result.now c.as_slice-2.result.now ≡ sets_of root c.args.path.now = ap₂ sets (c.as_slice.ensures.value ∙ c.in_ok-taken.ensures) (c.as_slice-2.ensures.value ∙ c.in_ok-barred.ensures) in (
      subst (λ (s : Sets). IsRightNode c.args.points.now c.args.costs.now s c.args.node.now) same (c.is_right_node.ensures.0 c.if-not-is_right_node.false),
      leaf_value_at c.args.points.now c.args.costs.now c.args.base (sets_of root c.args.path.now) c.args.node.now c.in-Some.certificate.now c.as_slice-3.result.now c.in_ok-value.value
          c.in-Some.ensures (c.as_slice-3.ensures.value ∙ c.in_ok-taken.ensures) c.in_ok-value.ensures,
    )
