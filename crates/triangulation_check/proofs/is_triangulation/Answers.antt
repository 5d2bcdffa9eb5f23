use Rattle.std.proofs.Common.{◌≡◌, true, rules}
use Rattle.triangulation_check.proofs.Shown.{completed, met_of}
use Rattle.triangulation_check.proofs.is_triangulation.Goals as goal

pub returns-then-not-is_partition : goal.returns-then-not-is_partition
returns-then-not-is_partition c = (
  λ h. absurd (cc),
  λ p.
      let shown : c.is_partition.result ≡ true = c.is_partition.ensures.1 (p.0, c.triangulation_is_convex_partition.ensures c.args.list.now p.1) in
      absurd (cc),
)

pub returns-then-are_all_joined : goal.returns-then-are_all_joined
returns-then-are_all_joined c = (
  λ h. (let p = c.is_partition.ensures.0 (search rules) in
      (p.0, completed c.args.points.now c.args.list.now p.1 (c.are_all_joined.ensures.0 c.if-are_all_joined.true) (c.have_apexes.ensures.0 h))),
  λ p. c.have_apexes.ensures.1 p.1.apex,
)

pub returns-else-are_all_joined : goal.returns-else-are_all_joined
returns-else-are_all_joined c = (λ h. absurd (cc), λ p. c.are_all_joined.ensures.1 (met_of c.args.points.now c.args.list.now p.1))
