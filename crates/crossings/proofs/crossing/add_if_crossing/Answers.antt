use Rattle.std.proofs.Common.{rules, List, ℕ, ◌+◌, subst, sym, arith}
use Rattle.crossings.specs.Crossings.{AreFirstPairs}
use Rattle.crossings.specs.Trying.{CrossesBefore}
use Rattle.crossings.proofs.Firsts.{full_over, passed_over, pushed}
use Rattle.crossings.proofs.crossing.add_if_crossing.Goals as goal
use Rattle.number_laws.proofs.Tests.{refused}

pub returns-then-len-most : goal.returns-then-len-most
returns-then-len-most c = full_over c.args.points.now c.args.list.now c.args.a c.args.b c.args.most c.args.found.now.items (omega arith) c.requires.so_far

pub returns-then-not-cross_at : goal.returns-then-not-cross_at
returns-then-not-cross_at c =
    passed_over c.args.points.now c.args.list.now c.args.a c.args.b c.args.most c.args.found.now.items (refused c.cross_at.result _ (search rules) c.cross_at.ensures.1) c.requires.so_far

pub returns : goal.returns
returns c =
    let P : List (ℕ × ℕ) → Type 0 = λ l. AreFirstPairs (CrossesBefore c.args.points.now c.args.list.now c.args.a (c.args.b + 1)) c.args.most l in
    subst P (sym c.in_ok-push.ensures.items)
    (pushed c.args.points.now c.args.list.now c.args.a c.args.b c.args.most c.args.found.now.items c.requires.order (omega arith) (c.cross_at.ensures.0 (search rules)) c.requires.so_far)
