use Rattle.std.proofs.Common.{rules, ◌≡◌, ◌+◌, ℕ, List, sym, subst, arith}
use Rattle.plane.specs.declared.segment.Pair.{Pair}
use Rattle.plane.specs.Geometry.{IsClear}
use Rattle.directions.specs.Listing.{AreClearBefore}
use Rattle.directions.proofs.Listing.{passed, pushed}
use Rattle.directions.proofs.clear.add_if_clear.Goals as goal
use Rattle.number_laws.proofs.Tests.{refused}

pub returns-then-not-has : goal.returns-then-not-has
returns-then-not-has c =
    let lo : c.of-e.result.lo ≡ c.args.i = omega arith in
    let hi : c.of-e.result.hi ≡ c.args.j = omega arith in
    let P : ℕ → Type 0 = λ x. IsClear c.args.set.now x c.of-e.result.hi in
    let Q : ℕ → Type 0 = λ y. IsClear c.args.set.now c.args.i y in
    passed c.args.set.now c.args.i c.args.j c.args.list.now.items
    (λ clear. refused c.has.result _ (search rules) c.has.ensures.1 (subst P (sym lo) (subst Q (sym hi) clear))) c.requires.so_far

pub returns : goal.returns
returns c =
    let lo : c.of-e.result.lo ≡ c.args.i = omega arith in
    let hi : c.of-e.result.hi ≡ c.args.j = omega arith in
    let P : ℕ → Type 0 = λ x. IsClear c.args.set.now x c.of-e.result.hi in
    let Q : ℕ → Type 0 = λ y. IsClear c.args.set.now c.args.i y in
    let L : List Pair → Type 0 = λ l. AreClearBefore c.args.set.now c.args.i (c.args.j + 1) l in
    subst L (sym c.in_ok-push.ensures.items)
    (pushed c.args.set.now c.args.i c.args.j c.of-e.result c.args.list.now.items lo hi c.requires.within (subst Q hi (subst P lo (c.has.ensures.0 (search rules)))) c.requires.so_far)
