-- What work leaves of a pass.
use Rattle.std.specs.Prelude.{◌≡◌, ℕ, ◌+◌, List, ◌++◌, length}
use Rattle.std.specs.List.{AllByRecursion}
use Rattle.cost_defs.specs.Costs.{Costed}
use Rattle.journal_defs.specs.declared.commit.Commit.{Commit}
use Rattle.plan_defs.specs.Plans.{IsNoDearer}
use Rattle.seats.specs.Seats.{SeatSeen}

-- the second list is the first and perhaps more
abbrev pub Begins : {X : Type 0} → List X → List X → Type 0
Begins xs ys = (more : List _) × (ys ≡ xs ++ more)

-- the pass is of the same board and caller, and has all that it had, and perhaps more
pub record IsFurther (old new : SeatSeen) : Type 0 where
  pub of : new.of ≡ old.of
  pub caller : new.caller ≡ old.caller
  pub seen : Begins old.seen new.seen
  pub mine : Begins old.mine new.mine
  pub wins : Begins old.wins new.wins
  pub misses : Begins old.misses new.misses

-- the caller's own commits are n more, in none of which the Keeps cost more than the Drops
pub record HasAdded (D : List Costed) (n : ℕ) (old new : SeatSeen) : Type 0 where
  pub more : List Commit
  pub is : new.mine ≡ old.mine ++ more
  pub many : length more ≡ n
  pub cheap : AllByRecursion (λ (c : Commit). IsNoDearer D c.edits) more

-- how many tries at places were won and lost
abbrev pub tries : SeatSeen → ℕ
tries s = length s.wins + length s.misses
