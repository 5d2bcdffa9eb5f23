-- No step along the border leads back along another.
use Rattle.std.proofs.Common.{ℕ, ◌<◌, List, length, sym, arith}
use Rattle.std.proofs.lemmas.Int.{ints}
use Rattle.plane.specs.declared.coordinates.Point.{Point}
use Rattle.plane.specs.declared.coordinates.Turn.TheVariants.{Left}
use Rattle.plane.specs.Accepted.{AreAccepted}
use Rattle.plane.specs.Geometry.{point, orientation}
use Rattle.plane.specs.Hull.{IsBorderStep}
use Rattle.plane.proofs.laws.Area.{area_back}
use Rattle.plane.proofs.laws.Border.{not_all_in_line}
use Rattle.number_laws.proofs.Signs.{zero_of_both}

pub no_step_back : (S : List Point) (v w : ℕ) → AreAccepted S → v < length S → IsBorderStep S Left v w → IsBorderStep S Left w v → ⊥
no_step_back S v w accepted hv there back =
    not_all_in_line S v w accepted hv there.within (λ e. there.apart (sym e)) (λ k hk. zero_of_both (orientation S v w k) (there.all k hk)
    (let e = area_back (point S w) (point S v) (point S k) in omega (arith, ints, back.all k hk)))
