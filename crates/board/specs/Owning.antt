-- For private clauses.
-- Passes as the holders and the rest that they are made of.
use Rattle.std.specs.Prelude.{◌≡◌, ◌≤◌, List, [], ◌∷◌, vec_capacity}
use Rattle.vertex_claims.specs.Holding.{HolderSeen}
use Rattle.seats.specs.declared.cells.Root.{Root}
use Rattle.seats.specs.Seats.{SeatSeen}
use Rattle.seats.specs.Resting.{seat_of, IsSeatOf}
use Rattle.board.specs.declared.own.Own.{Own}

-- the holder and the rest are those of a pass
pub record IsTogether (h : HolderSeen Root) (o : Own) : Type 0 where
  pub seat : IsSeatOf h o.share o.caller o.made
  pub idle : h.places ≡ []
  pub empty : o.hands.items ≡ []
  pub room : 16 ≤ vec_capacity o.hands

-- holders, rests and passes belong together, in order
abbrev pub AreTogether : List (HolderSeen Root) → List Own → List SeatSeen → Type 0
AreTogether [] [] [] = Unit {0}
AreTogether [] [] (p ∷ ps) = ⊥
AreTogether [] (o ∷ os) ps = ⊥
AreTogether (h ∷ hs) [] ps = ⊥
AreTogether (h ∷ hs) (o ∷ os) [] = ⊥
AreTogether (h ∷ hs) (o ∷ os) (p ∷ ps) = IsTogether h o × (p ≡ seat_of h o.share) × AreTogether hs os ps
