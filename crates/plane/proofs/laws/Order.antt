-- The order of points by x, then by y, as a comparison.
use Rattle.std.proofs.Common.{Ordering, int_cmp}
use Rattle.std.specs.Cmp.{IsTotalOrder}
use Rattle.std.specs.Ordering.{ordering_then}
use Rattle.std.proofs.lemmas.Cmp.{then_total, on_total, int_cmp_total}
use Rattle.plane.specs.declared.coordinates.Point.{Point}

-- the order by x, then by y
abbrev pub lex : (p q : Point) → Ordering
lex p q = ordering_then (int_cmp p.x q.x) (int_cmp p.y q.y)

pub lex_total : IsTotalOrder lex
lex_total = then_total (on_total (λ (p : Point). p.x) int_cmp_total) (on_total (λ (p : Point). p.y) int_cmp_total)
