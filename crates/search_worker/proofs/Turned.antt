-- A round, from its looks, its plans and their handing in.
use Rattle.std.proofs.Common.{◌≡◌, ℕ, ◌+◌, ◌<◌, ◌≤◌, ◌%◌, Bool, true, List, ◌++◌, length, arith, sym, ◌∙◌, ap, subst, length-append}
use Rattle.cost_defs.specs.Costs.{Costed}
use Rattle.journal_defs.specs.declared.commit.Commit.{Commit}
use Rattle.journal_defs.specs.Agree.{AreAgreeing}
use Rattle.journal_defs.specs.Journal.{replay}
use Rattle.journal_defs.specs.Neighbours.{star_list}
use Rattle.edit.specs.declared.look.Look.{Look}
use Rattle.rand_pcg.specs.Lcg.{Lcg}
use Rattle.rand_pcg.specs.Pcg.{pcg32}
use Rattle.plan_defs.specs.Plans.{Sight, has_look, star_in}
use Rattle.plan_defs.proofs.laws.Showing.{shown_agree}
use Rattle.planner.specs.Region.{sights, DoAgree}
use Rattle.round_defs.specs.Rounds.{looks, ArePlans, AreHanded}
use Rattle.round_defs.proofs.laws.Looks.{looks_show, degree_some}
use Rattle.round_plans.specs.Found.{AreRoundPlans, first_four}
use Rattle.round_plans.specs.declared.found.RoundPlans.{RoundPlans}
use Rattle.round_plans.proofs.laws.Firsts.{four_are}
use Rattle.seats.specs.Ground.{Ground}
use Rattle.seats.specs.declared.cells.Root.{Root}
use Rattle.vertex_claims.specs.Holding.{ClaimsSeen}
use Rattle.seats.specs.Seats.{SeatSeen, ground_of}
use Rattle.board.specs.Passes.{IsPass}
use Rattle.search_worker.specs.declared.log.WorkLog.{WorkLog}
use Rattle.search_worker.specs.Working.{tries, HasAdded, IsFurther, Begins}
use Rattle.search_worker.specs.Handing.{WereFresh, HaveHanded}
use Rattle.search_worker.specs.Looking.{ShowsNow, IsGathered}
use Rattle.search_worker.specs.Turning.{IsRoundAt, HasTurnedAt, HasTurned}
use Rattle.search_worker.proofs.Counted.{added_none}
use Rattle.search_worker.proofs.Looked.{sight_now, sound_seen}
use Rattle.search_worker.proofs.Planned.{plans_cheap, plans_fresh}

-- the star of a look is that of its vertex in the state, so it has a neighbour
pub list_now : (s : SeatSeen) (look : Look) → IsPass s → look.star.centre < length s.of.root.points → ShowsNow (ground_of s.of) s.seen look.star.centre look
    → look.star.list ≡ star_list s.of.root.points (replay s.of.root.start.items s.seen) look.star.centre
list_now s look h hv shows = ap (λ (x : Sight). x.list) (sight_now s look.star.centre look h hv shows)

pub degree_now : (s : SeatSeen) (look : Look) → IsPass s → look.star.centre < length s.of.root.points → ShowsNow (ground_of s.of) s.seen look.star.centre look → 1 ≤ length look.star.list
degree_now s look h hv shows =
    subst (λ (l : List (ℕ × Bool)). 1 ≤ length l) (sym (list_now s look h hv shows))
    (degree_some s.of.root.points (replay s.of.root.start.items s.seen) look.star.centre (sound_seen s h) hv)

-- the looks of a caller who works alone agree
pub region_agrees : (s mid : SeatSeen) (look : Look) (R : List Look) → IsPass s → look.star.centre < length s.of.root.points → IsGathered (ground_of s.of) s mid look R → s.of.callers ≡ 1 → DoAgree s.of.root.points R
region_agrees s mid look R h hv gathered alone =
    let S = s.of.root.points in let start = s.of.root.start.items in let v = look.star.centre in
    let P : List Sight → Type 0 = λ T. AreAgreeing S (star_in S T) (λ u. has_look T u ≡ true) in
    subst P (sym (gathered.shown alone)) (shown_agree S (replay start s.seen) (looks S start s.seen v) h.seat.shelf.accepted (sound_seen s h) (looks_show S start s.seen v hv))

-- the round ends at looks that don't agree
pub turned_none : (s mid : SeatSeen) (D : List Costed) (look : Look) (R : List Look) (words : Lcg) (log : WorkLog) → IsPass s → look.star.centre < length s.of.root.points → IsGathered (ground_of s.of) s mid look R
    → ¬ DoAgree s.of.root.points R → (log.tried ≡ 0) × (log.committed ≡ 0) → HasTurnedAt (ground_of s.of) D look.star.centre s mid words words log
turned_none s mid D look R words log h hv gathered not none =
    let other : s.of.callers ≡ 1 → ⊥ = λ alone. not (region_agrees s mid look R h hv gathered alone) in record {
      few = let t = none.0 in let c = none.1 in record { tried = omega (arith, t); committed = omega (arith, c) };
      added = subst (λ (n : ℕ). HasAdded D n s mid) (sym none.1) (added_none D s mid gathered.still.mine);
      round = λ alone room. absurd (other alone);
      drawn = λ alone. absurd (other alone);
    }

added_since : (D : List Costed) (n : ℕ) (s mid new : SeatSeen) → mid.mine ≡ s.mine → HasAdded D n mid new → HasAdded D n s new
added_since D n s mid new same a = record { more = a.more; is = a.is ∙ ap (λ (x : List Commit). x ++ a.more) same; many = a.many; cheap = a.cheap }

-- the round goes on
pub turned_at : (s mid new : SeatSeen) (D : List Costed) (look : Look) (R : List Look) (p : RoundPlans) (words next : Lcg) (b from : ℕ) (log : WorkLog)
    → IsPass s → look.star.centre < length s.of.root.points → ShowsNow (ground_of s.of) s.seen look.star.centre look → IsGathered (ground_of s.of) s mid look R
    → (let x : ℕ × Lcg = (b, next) in x) ≡ pcg32 words → from ≡ b % length look.star.list → AreRoundPlans s.of.root.points D (sights R) look.star.centre from p
    → HaveHanded (ground_of s.of) p log mid new → HasTurnedAt (ground_of s.of) D look.star.centre s new words next log
turned_at s mid new D look R p words next b from log h hv shows gathered drawing place are handed =
    let g = ground_of s.of in
    let S = g.points in let start = g.start in let v = look.star.centre in
    let cheap = plans_cheap S D (sights R) v from p are in record {
      few = handed.few;
      added = added_since D log.committed s mid new gathered.still.mine (handed.cheap D cheap);
      round = λ alone room.
          let same : mid.seen ≡ s.seen = gathered.still.alone alone in
          let shown : sights R ≡ looks S start s.seen v = gathered.shown alone in
          let A : List Sight → Type 0 = λ T. AreRoundPlans S D T v from p in
          let there = subst A shown are in
          let fresh = plans_fresh S D start s.seen v v from p there in
          let F : List Commit → Type 0 = λ J. length J + 4 ≤ g.room in
          let W : List Commit → Type 0 = λ J. WereFresh J p in
          let H : List Commit → Type 0 = λ J. AreHanded S start J (first_four p) new.seen in
          let hands = subst H same (handed.handed alone (subst W (sym same) fresh) (subst F (sym same) room)) in
          let first : b ≡ (pcg32 words).0 = ap (λ (x : ℕ × Lcg). x.0) drawing in
          let k : from ≡ (pcg32 words).0 % length (star_list S (replay start s.seen) v) =
          place ∙ ap (λ (l : List (ℕ × Bool)). b % length l) (list_now s look h hv shows) ∙ ap (λ (c : ℕ). c % length (star_list S (replay start s.seen) v)) first in
          let Q : ℕ → Type 0 = λ j. ArePlans S D (looks S start s.seen v) v j (first_four p) in
          (first_four p, subst Q k (four_are S D (looks S start s.seen v) v from p there), hands);
      drawn = λ alone. ap (λ (x : ℕ × Lcg). x.1) drawing;
    }

-- the whole round
pub turned_whole : (g : Ground) (s mid new : SeatSeen) (D : List Costed) (v a : ℕ) (words mean next : Lcg) (log : WorkLog) → mid.mine ≡ s.mine → (g.callers ≡ 1 → mid.seen ≡ s.seen)
    → (let x : ℕ × Lcg = (a, mean) in x) ≡ pcg32 words → v ≡ a % length g.points → HasTurnedAt g D v mid new mean next log → HasTurned g D s new words next log
turned_whole g s mid new D v a words mean next log mine seen drawing place at =
    let first : a ≡ (pcg32 words).0 = ap (λ (x : ℕ × Lcg). x.0) drawing in
    let then : mean ≡ (pcg32 words).1 = ap (λ (x : ℕ × Lcg). x.1) drawing in record {
      few = at.few;
      added = added_since D log.committed s mid new mine at.added;
      round = λ alone room.
          let same : mid.seen ≡ s.seen = seen alone in
          let F : List Commit → Type 0 = λ J. length J + 4 ≤ g.room in
          let P : List Commit → Type 0 = λ J. IsRoundAt g.points D g.start J v (pcg32 mean).0 new.seen in
          let Q : ℕ → Type 0 = λ u. IsRoundAt g.points D g.start s.seen u (pcg32 mean).0 new.seen in
          let R : Lcg → Type 0 = λ w. IsRoundAt g.points D g.start s.seen ((pcg32 words).0 % length g.points) (pcg32 w).0 new.seen in
          subst R then (subst Q (place ∙ ap (λ (x : ℕ). x % length g.points) first) (subst P same (at.round alone (subst F (sym same) room))));
      drawn = λ alone. at.drawn alone ∙ ap (λ (w : Lcg). (pcg32 w).1) then;
    }

-- the vertex was another caller's
pub turned_busy : (g : Ground) (s new : SeatSeen) (D : List Costed) (words next : Lcg) (log : WorkLog) → new.mine ≡ s.mine → (g.callers ≡ 1 → ⊥) → (log.tried ≡ 0) × (log.committed ≡ 0) → HasTurned g D s new words next log
turned_busy g s new D words next log mine other none = record {
  few = let t = none.0 in let c = none.1 in record { tried = omega (arith, t); committed = omega (arith, c) };
  added = subst (λ (n : ℕ). HasAdded D n s new) (sym none.1) (added_none D s new mine);
  round = λ alone room. absurd (other alone);
  drawn = λ alone. absurd (other alone);
}

-- tries only grow
begins_long : {X : Type 0} (xs ys : List X) → Begins xs ys → length xs ≤ length ys
begins_long xs ys (more, is) = let e : length ys ≡ length (xs ++ more) = ap length is in let l = length-append xs more in omega (arith, e, l)

pub further_tries : (s t : SeatSeen) → IsFurther s t → tries s ≤ tries t
further_tries s t h = let w = begins_long s.wins t.wins h.wins in let m = begins_long s.misses t.misses h.misses in omega (arith, w, m)

-- the same of a board
pub degree_at : (b : ClaimsSeen Root) (s : SeatSeen) (look : Look) → s.of ≡ b → IsPass s → look.star.centre < length b.root.points → ShowsNow (ground_of b) s.seen look.star.centre look → 1 ≤ length look.star.list
degree_at b s look e h =
    let Q : ClaimsSeen Root → Type 0 = λ z. look.star.centre < length z.root.points → ShowsNow (ground_of z) s.seen look.star.centre look → 1 ≤ length look.star.list in
    subst Q e (degree_now s look h)

pub none_at : (b : ClaimsSeen Root) (s mid : SeatSeen) (D : List Costed) (look : Look) (R : List Look) (words : Lcg) (log : WorkLog) → s.of ≡ b → IsPass s → look.star.centre < length b.root.points → IsGathered (ground_of b) s mid look R
    → ¬ DoAgree b.root.points R → (log.tried ≡ 0) × (log.committed ≡ 0) → HasTurnedAt (ground_of b) D look.star.centre s mid words words log
none_at b s mid D look R words log e h =
    let Q : ClaimsSeen Root → Type 0 = λ z. look.star.centre < length z.root.points → IsGathered (ground_of z) s mid look R
    → ¬ DoAgree z.root.points R → (log.tried ≡ 0) × (log.committed ≡ 0) → HasTurnedAt (ground_of z) D look.star.centre s mid words words log in
    subst Q e (turned_none s mid D look R words log h)

pub round_on : (b : ClaimsSeen Root) (s mid new : SeatSeen) (D : List Costed) (look : Look) (R : List Look) (p : RoundPlans) (words next : Lcg) (a from : ℕ) (log : WorkLog)
    → s.of ≡ b → IsPass s → look.star.centre < length b.root.points → ShowsNow (ground_of b) s.seen look.star.centre look → IsGathered (ground_of b) s mid look R
    → (let x : ℕ × Lcg = (a, next) in x) ≡ pcg32 words → from ≡ a % length look.star.list → AreRoundPlans b.root.points D (sights R) look.star.centre from p
    → HaveHanded (ground_of b) p log mid new → HasTurnedAt (ground_of b) D look.star.centre s new words next log
round_on b s mid new D look R p words next a from log e h =
    let Q : ClaimsSeen Root → Type 0 = λ z. look.star.centre < length z.root.points → ShowsNow (ground_of z) s.seen look.star.centre look → IsGathered (ground_of z) s mid look R
    → (let x : ℕ × Lcg = (a, next) in x) ≡ pcg32 words → from ≡ a % length look.star.list → AreRoundPlans z.root.points D (sights R) look.star.centre from p
    → HaveHanded (ground_of z) p log mid new → HasTurnedAt (ground_of z) D look.star.centre s new words next log in
    subst Q e (turned_at s mid new D look R p words next a from log h)
