use Rattle.std.proofs.Common.{rules, ℕ, sym, subst, arith}
use Rattle.crossings.specs.Crossings.{IsPairAt, CrossesLater}
use Rattle.crossings.proofs.Firsts.{full_later, none_later}
use Rattle.crossings.proofs.crossing.add_from.Goals as goal

pub returns-then-most-len : goal.returns-then-most-len
returns-then-most-len c = full_later c.args.points.now c.args.list.now c.args.a c.args.most c.args.found.now.items (omega arith) c.requires.so_far

pub segment_of-z-requires : goal.segment_of-z-requires
segment_of-z-requires c = c.requires.within c.index-list-a.result (c.args.a, c.requires.a_in, sym c.index-list-a.is)

pub may_cross-requires-clause-z_of : goal.may_cross-requires-clause-z_of
may_cross-requires-clause-z_of c =
    let P : ℕ → Type 0 = λ k. IsPairAt c.args.list.now k c.index-list-a.result in
    (c.index-list-a.result, subst P (sym c.segment_of-z.ensures.place) (c.requires.a_in, sym c.index-list-a.is), c.segment_of-z.ensures.ends, c.segment_of-z.ensures.near_from, c.segment_of-z.ensures.near_to, c.segment_of-z.ensures.forward)

pub returns-then-not-may_cross : goal.returns-then-not-may_cross
returns-then-not-may_cross c =
    let P : ℕ → Type 0 = λ a. (b : ℕ) → ¬ CrossesLater c.args.points.now c.args.list.now a b in
    none_later c.args.points.now c.args.list.now c.args.a c.args.most c.args.found.now.items (subst P c.segment_of-z.ensures.place (c.may_cross.ensures (search rules))) c.requires.so_far
