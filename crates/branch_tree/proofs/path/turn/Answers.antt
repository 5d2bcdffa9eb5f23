use Rattle.std.proofs.Common.{◌-◌, ◌+◌, ◌≡◌, ◌∙◌, sym, ap, take, length, refl, true, arith}
use Rattle.std.proofs.lemmas.List.{length-take}
use Rattle.branch_tree.proofs.Paths.{turned, popped}
use Rattle.branch_tree.proofs.path.turn.Goals as goal

pub returns-then-not-index-clause-more : goal.returns-then-not-index-clause-more
returns-then-not-index-clause-more c =
    let e : c.len-last.result - 1 + 1 ≡ length c.loop-path.path.items = omega (arith, c.len-last.ensures, c.len.ensures, c.loop-path-test.true) in
    λ t. turned c.loop-path.path.items c.args.path.now.items (c.len-last.result - 1) c.index.result.now c.index_mut.result.now
    (record { pair = c.index_mut.result.now.pair; barred = true }) e c.index.ensures c.index_mut.ensures.value c.if-not-index.true refl refl c.loop-path.invariant.same

pub loop-path-preserved : goal.loop-path-preserved
loop-path-preserved c =
    let e : c.len-last.result - 1 + 1 ≡ length c.loop-path.path.items = omega (arith, c.len-last.ensures, c.len.ensures, c.loop-path-test.true) in
    let rest : c.pop-step.new.self.items ≡ take (c.len-last.result - 1) c.loop-path.path.items =
    c.pop-step.ensures.rest ∙ ap (λ n. take (n - 1) c.loop-path.path.items) (sym c.len-last.ensures) in
    record {
      same = popped c.loop-path.path.items c.args.path.now.items c.pop-step.new.self.items (c.len-last.result - 1) c.index.result.now e c.index.ensures c.if-not-index.false rest c.loop-path.invariant.same;
      shorter = omega (arith, ap length rest, length-take (c.len-last.result - 1) c.loop-path.path.items, c.loop-path.invariant.shorter, e);
    }
