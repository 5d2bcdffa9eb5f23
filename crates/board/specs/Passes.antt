-- What holds of each pass between two calls. A pass is seen as the seat that it is.
use Rattle.std.specs.Prelude.{◌≡◌, []}
use Rattle.seats.specs.Seats.{SeatSeen, IsSeat}

-- it is a seat, and holds no place
pub record IsPass (p : SeatSeen) : Type 0 where
  pub seat : IsSeat p
  pub idle : p.held ≡ []
