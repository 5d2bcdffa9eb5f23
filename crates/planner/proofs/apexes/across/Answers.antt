use Rattle.std.proofs.Common.{◌≡◌, ℕ, true, subst, refl}
use Rattle.plan_defs.specs.Plans.{has_look}
use Rattle.planner.specs.Region.{sights}
use Rattle.planner.proofs.Across.{across_told, ends_shown}
use Rattle.planner.proofs.apexes.across.Goals as goal

pub returns : goal.returns
returns c =
    let lo : has_look (sights c.args.region.now) c.args.e.lo ≡ true = subst (λ (n : ℕ). has_look (sights c.args.region.now) n ≡ true) c.lo.ensures (c.if-not-has.ensures.0 refl) in
    let hi : has_look (sights c.args.region.now) c.args.e.hi ≡ true = subst (λ (n : ℕ). has_look (sights c.args.region.now) n ≡ true) c.hi.ensures (c.if-not-has-2.ensures.0 refl) in
    across_told c.args.points.now c.args.region.now c.args.e c.apex-near.result c.apex-far.result c.pair_of.result c.requires lo hi
    (ends_shown c.args.points.now c.args.region.now c.lo-2.result c.hi-2.result c.args.e.lo c.args.e.hi c.apex-near.result c.lo-2.ensures c.hi-2.ensures lo c.apex-near.ensures)
    (ends_shown c.args.points.now c.args.region.now c.hi-3.result c.lo-3.result c.args.e.hi c.args.e.lo c.apex-far.result c.hi-3.ensures c.lo-3.ensures hi c.apex-far.ensures)
    c.pair_of.ensures
