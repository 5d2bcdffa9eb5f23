-- What the plans of a round are: their vertices are points, their Keeps don't cost more than their Drops, and their stamps
-- are fresh where the looks are.
use Rattle.std.proofs.Common.{◌≡◌, ℕ, ◌<◌, true, List, [], ◌∷◌, length, Option, Some, None, sym, ◌∙◌, ap, subst}
use Rattle.std.specs.List.{All, AllByRecursion}
use Rattle.std.proofs.lemmas.List.Elements.{All-head, All-tail}
use Rattle.plane.specs.declared.coordinates.Point.{Point}
use Rattle.plane.specs.declared.segment.Pair.{Pair}
use Rattle.cost_defs.specs.Costs.{Costed}
use Rattle.journal_defs.specs.declared.edit.Edit.{Edit}
use Rattle.journal_defs.specs.declared.edit.Claim.{Claim}
use Rattle.journal_defs.specs.declared.commit.Commit.{Commit}
use Rattle.edit.specs.Plans.{Planned, are_touching}
use Rattle.edit.specs.declared.look.Look.{Look}
use Rattle.hands.specs.Answers.{claimed}
use Rattle.plan_defs.specs.Plans.{Sight, has_look, IsNoDearer, IsRightClaim}
use Rattle.planner.specs.Region.{sights, DoAgree}
use Rattle.round_defs.specs.Rounds.{looks}
use Rattle.round_defs.specs.Handed.{AreFresh}
use Rattle.round_defs.proofs.laws.Looks.{look_true}
use Rattle.round_plans.specs.Found.{IsOffered, AreRoundPlans}
use Rattle.round_plans.specs.declared.found.RoundPlans.{RoundPlans}
use Rattle.seats.specs.Ground.{Ground}
use Rattle.search_worker.specs.Handing.{IsSafe, IsCheap, WasFresh, AreSafe, AreCheap, WereFresh}

-- what was looked at are points
pub looked_within : (S : List Point) (R : List Look) (v : ℕ) → DoAgree S R → has_look (sights R) v ≡ true → v < length S
looked_within S R v agree h = (agree.stars v h).0.centre

right_within : (S : List Point) (R : List Sight) (es : List Edit) (cs : List Claim) → ((v : ℕ) → has_look R v ≡ true → v < length S)
    → ((v : ℕ) → are_touching es v ≡ true → has_look R v ≡ true) → All (λ (c : Claim). IsRightClaim R es c.vertex c.stamp) cs → AllByRecursion (λ (v : ℕ). v < length S) (claimed cs)
right_within S R es [] within looked right = tt
right_within S R es (c ∷ cs) within looked right =
    let here = All-head (λ (d : Claim). IsRightClaim R es d.vertex d.stamp) c cs right in
    let there = All-tail (λ (d : Claim). IsRightClaim R es d.vertex d.stamp) c cs right in
    (within c.vertex (looked c.vertex here.0), right_within S R es cs within looked there)

right_fresh : (S : List Point) (start : List Pair) (J : List Commit) (u : ℕ) (es : List Edit) (cs : List Claim)
    → ((v : ℕ) → are_touching es v ≡ true → has_look (looks S start J u) v ≡ true) → All (λ (c : Claim). IsRightClaim (looks S start J u) es c.vertex c.stamp) cs → AreFresh J cs
right_fresh S start J u es [] looked right = tt
right_fresh S start J u es (c ∷ cs) looked right =
    let here = All-head (λ (d : Claim). IsRightClaim (looks S start J u) es d.vertex d.stamp) c cs right in
    let there = All-tail (λ (d : Claim). IsRightClaim (looks S start J u) es d.vertex d.stamp) c cs right in
    (here.1 ∙ ap (λ (l : Sight). l.stamp) (look_true S start J u c.vertex (looked c.vertex here.0)), right_fresh S start J u es cs looked there)

offered_safe : (g : Ground) (D : List Costed) (R : List Sight) (o : Option Planned) → ((v : ℕ) → has_look R v ≡ true → v < length g.points) → IsOffered g.points D R o → IsSafe g o
offered_safe g D R None within h = tt
offered_safe g D R (Some p) within (m, (es, found, plan)) = right_within g.points R es p.claims within found.1.looked plan.claimed

offered_cheap : (S : List Point) (D : List Costed) (R : List Sight) (o : Option Planned) → IsOffered S D R o → IsCheap D o
offered_cheap S D R None h = tt
offered_cheap S D R (Some p) (m, (es, found, plan)) = subst (IsNoDearer D) (sym plan.edits) found.1.cheap

offered_fresh : (S : List Point) (D : List Costed) (start : List Pair) (J : List Commit) (u : ℕ) (o : Option Planned) → IsOffered S D (looks S start J u) o → WasFresh J o
offered_fresh S D start J u None h = tt
offered_fresh S D start J u (Some p) (m, (es, found, plan)) = right_fresh S start J u es p.claims found.1.looked plan.claimed

-- all plans of a round
pub plans_safe : (g : Ground) (D : List Costed) (R : List Look) (v k : ℕ) (p : RoundPlans) → DoAgree g.points R → AreRoundPlans g.points D (sights R) v k p → AreSafe g p
plans_safe g D R v k p agree are =
    let within : (u : ℕ) → has_look (sights R) u ≡ true → u < length g.points = λ u h. looked_within g.points R u agree h in record {
      drops = offered_safe g D (sights R) p.drop within are.drops.offered;
      swaps = offered_safe g D (sights R) p.swap within are.swaps.offered;
      trades = offered_safe g D (sights R) p.trade within are.trades.offered;
      flip_swaps = offered_safe g D (sights R) p.flip_swap within are.flip_swaps.offered;
      flips = offered_safe g D (sights R) p.flip within are.flips.offered;
    }

pub plans_cheap : (S : List Point) (D : List Costed) (R : List Sight) (v k : ℕ) (p : RoundPlans) → AreRoundPlans S D R v k p → AreCheap D p
plans_cheap S D R v k p are = record {
  drops = offered_cheap S D R p.drop are.drops.offered;
  swaps = offered_cheap S D R p.swap are.swaps.offered;
  trades = offered_cheap S D R p.trade are.trades.offered;
  flip_swaps = offered_cheap S D R p.flip_swap are.flip_swaps.offered;
  flips = offered_cheap S D R p.flip are.flips.offered;
}

pub plans_fresh : (S : List Point) (D : List Costed) (start : List Pair) (J : List Commit) (u v k : ℕ) (p : RoundPlans) → AreRoundPlans S D (looks S start J u) v k p → WereFresh J p
plans_fresh S D start J u v k p are = record {
  drops = offered_fresh S D start J u p.drop are.drops.offered;
  swaps = offered_fresh S D start J u p.swap are.swaps.offered;
  trades = offered_fresh S D start J u p.trade are.trades.offered;
  flip_swaps = offered_fresh S D start J u p.flip_swap are.flip_swaps.offered;
  flips = offered_fresh S D start J u p.flip are.flips.offered;
}
