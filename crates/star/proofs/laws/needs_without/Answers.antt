use Rattle.std.proofs.Common.{refl, subst, sym}
use Rattle.plane.specs.Accepted.{AreAccepted}
use Rattle.star.proofs.Answers.{missed_without_one}
use Rattle.star.proofs.laws.Needs.{misses_by_place}
use Rattle.star.specs.Stars.{entry}
use Rattle.star.specs.Gaps.{MissesSome, MissesWithout, IsWide}
use Rattle.star.proofs.laws.needs_without.Goals as goal
use Rattle.std.proofs.Common.{◌↔◌, ◌⊎◌}

pub returns : goal.returns
returns c =
    let s = c.args.star.now in
    let k = c.args.k in
    let so = c.centre-centre.ensures.order in
    let m = missed_without_one s.points s.centre s.list k c.args.a c.args.b (subst AreAccepted c.requires.points c.len-count.ensures.accepted) so
    c.requires.kept c.requires.before c.requires.after in
    let f = misses_by_place s k (entry s.list k).0 so (c.requires.kept.0, refl) in
    subst (λ S. MissesWithout s (entry s.list k).0 ↔ (MissesSome S s.centre s.list ⊎ IsWide S s.centre (entry s.list c.args.a).0 (entry s.list c.args.b).0)) (sym c.requires.points)
    (λ h. m.0 (f.1 h), λ h. f.0 (m.1 h))
