use Rattle.std.proofs.Common.{◌≡◌, ◌∙◌, ◌+◌, ◌<◌, ◌≤◌, ℕ, ℤ, sym, ap, ap₂, subst, take, w64, to_z, of_z, ◌+ℤ◌, arith}
use Rattle.plane.specs.declared.segment.Pair.{Pair}
use Rattle.price_defs.specs.Loads.{load, gives, takes}
use Rattle.branch_tree.specs.Values.{IsLoadSum}
use Rattle.branch_tree.proofs.Parts.{gives_few, takes_few, load_plain, load_low, sum_fits, sum_plain, sum_low, sum_high, loads_more}
use Rattle.branch_tree.proofs.leaf.loads_of.Goals as goal

pub load_of-sum-requires-clause-i_in : goal.load_of-sum-requires-clause-i_in
load_of-sum-requires-clause-i_in c =
    omega (arith, c.lo.ensures, c.e-item.result.ordered, c.requires.within c.e-item.result (c.loop-e.e-index, c.loop-e-test.true, sym c.e-item.is))

pub load_of-sum-requires-clause-j_in : goal.load_of-sum-requires-clause-j_in
load_of-sum-requires-clause-j_in c =
    omega (arith, c.hi.ensures, c.requires.within c.e-item.result (c.loop-e.e-index, c.loop-e-test.true, sym c.e-item.is))

pub overflow_add-sum : goal.overflow_add-sum
overflow_add-sum c =
    let S = c.args.points.now in
    let rows = c.args.rows.now in
    let e = c.e-item.result in
    let l : c.load_of-sum.result ≡ load S rows e.lo e.hi = c.load_of-sum.ensures ∙ ap₂ (λ i j. load S rows i j) c.lo.ensures c.hi.ensures in
    let g = gives_few S rows e.lo e.hi c.requires.light in
    let t = takes_few rows e.lo e.hi c.requires.light in
    let plain : to_z w64 (of_z w64 c.load_of-sum.result) ≡ c.load_of-sum.result = load_plain c.load_of-sum.result (gives S rows e.lo e.hi) (takes rows e.lo e.hi) l g t in
    let low = load_low c.load_of-sum.result (gives S rows e.lo e.hi) (takes rows e.lo e.hi) l g t in
    rw plain (sum_fits (to_z w64 c.loop-e.sum-bits) c.load_of-sum.result c.loop-e.e-index (omega (arith, c.loop-e-test.true, c.requires.few)) c.loop-e.invariant.low c.loop-e.invariant.high low.0 low.1)

pub loop-e-preserved : goal.loop-e-preserved
loop-e-preserved c =
    let S = c.args.points.now in
    let rows = c.args.rows.now in
    let e = c.e-item.result in
    let k = c.loop-e.e-index in
    let x = to_z w64 c.loop-e.sum-bits in
    let l : c.load_of-sum.result ≡ load S rows e.lo e.hi = c.load_of-sum.ensures ∙ ap₂ (λ i j. load S rows i j) c.lo.ensures c.hi.ensures in
    let g = gives_few S rows e.lo e.hi c.requires.light in
    let t = takes_few rows e.lo e.hi c.requires.light in
    let plain : to_z w64 (of_z w64 c.load_of-sum.result) ≡ c.load_of-sum.result = load_plain c.load_of-sum.result (gives S rows e.lo e.hi) (takes rows e.lo e.hi) l g t in
    let low = load_low c.load_of-sum.result (gives S rows e.lo e.hi) (takes rows e.lo e.hi) l g t in
    let few : k < 20000 = omega (arith, c.loop-e-test.true, c.requires.few) in
    let whole : to_z w64 (of_z w64 (x +ℤ to_z w64 (of_z w64 c.load_of-sum.result))) ≡ x +ℤ c.load_of-sum.result =
    ap (λ (z : ℤ). to_z w64 (of_z w64 (x +ℤ z))) plain ∙ sum_plain x c.load_of-sum.result k few c.loop-e.invariant.low c.loop-e.invariant.high low.0 low.1 in
    rw whole (record {
      sum = loads_more S rows c.args.list.now k e e x c.load_of-sum.result c.loop-e-test.true c.e-item.is c.loop-e.invariant.sum l;
      low = sum_low x c.load_of-sum.result k c.loop-e.invariant.low low.0;
      high = sum_high x c.load_of-sum.result k c.loop-e.invariant.high low.1;
    })
