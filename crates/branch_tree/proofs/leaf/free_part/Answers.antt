use Rattle.std.proofs.Common.{◌≡◌, ◌∙◌, ◌+◌, ◌++◌, ◌∷◌, [], sym, ap, subst, take, get_or, length, List, arith}
use Rattle.std.proofs.lemmas.Bool.{false≢true}
use Rattle.std.proofs.lemmas.List.{take_more, length_push}
use Rattle.plane.specs.declared.segment.Pair.{Pair}
use Rattle.tree_defs.specs.Leaves.{IsFreePart}
use Rattle.std.specs.List.{Contains}
use Rattle.branch_tree.proofs.Parts.{free_skip, free_keep, not_before}
use Rattle.branch_tree.proofs.leaf.free_part.Goals as goal
use Rattle.branch_tree.proofs.leaf.free_part.Goals.{then-not-is_border+in_ok-push, else-not-is_border}

pub is_border-requires : goal.is_border-requires
is_border-requires c = c.requires.within c.e-item.result (c.loop-e.e-index, c.loop-e-test.true, sym c.e-item.is)

pub loop-e-preserved : goal.loop-e-preserved
loop-e-preserved c =
    let S = c.args.points.now in
    let e = c.e-item.result in
    let k = c.loop-e.e-index in
    let more : take (k + 1) c.args.taken.now ≡ take k c.args.taken.now ++ e ∷ [] =
    take_more c.args.taken.now k e c.loop-e-test.true ∙ ap (λ (x : Pair). take k c.args.taken.now ++ x ∷ []) (sym c.e-item.is) in
    let new : ¬ Contains (take k c.args.taken.now) e = subst (λ (x : Pair). ¬ Contains (take k c.args.taken.now) x) (sym c.e-item.is) (not_before c.args.taken.now k e c.requires.distinct c.loop-e-test.true) in
    elim c.if-not-is_border.branch [
      | then-not-is_border+in_ok-push w ↦
          let items : c.if-not-is_border.free.items ≡ c.loop-e.free.items ++ e ∷ [] = ap (λ v. v.items) w.free-is ∙ w.in_ok-push.ensures.items in
          record {
            part = subst (λ (A : List Pair). IsFreePart S A c.if-not-is_border.free.items) (sym more) (subst (λ (F : List Pair). IsFreePart S (take k c.args.taken.now ++ e ∷ []) F) (sym items)
                (free_keep S (take k c.args.taken.now) c.loop-e.free.items e c.loop-e.invariant.part (λ b. false≢true (sym w.if-not-is_border.true ∙ c.is_border.ensures.1 b)) new));
            few = omega (arith, ap length items, length_push c.loop-e.free.items e, c.loop-e.invariant.few);
          }
      | else-not-is_border w ↦
          let items : c.if-not-is_border.free.items ≡ c.loop-e.free.items = ap (λ v. v.items) w.free-is in
          record {
            part = subst (λ (A : List Pair). IsFreePart S A c.if-not-is_border.free.items) (sym more) (subst (λ (F : List Pair). IsFreePart S (take k c.args.taken.now ++ e ∷ []) F) (sym items)
                (free_skip S (take k c.args.taken.now) c.loop-e.free.items e c.loop-e.invariant.part (c.is_border.ensures.0 w.if-not-is_border.false)));
            few = omega (arith, ap length items, c.loop-e.invariant.few);
          }
    ]
