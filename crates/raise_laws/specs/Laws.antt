-- The statements of the laws of the floor and of raising.
use Rattle.std.specs.Prelude.{◌≡◌, ℕ, ◌≤◌, List}
use Rattle.std.specs.List.{AllZip}
use Rattle.plane.specs.declared.coordinates.Point.{Point}
use Rattle.cost_defs.specs.Costs.{Costed}
use Rattle.price_defs.specs.declared.row.Row.{Row}
use Rattle.price_defs.specs.declared.row.Row.TheVariants.{Half, Three, Cross, Cap}
use Rattle.price_defs.specs.Loads.{IsValid, value}
use Rattle.price_defs.specs.Tight.{AreCovered, IsTight}
use Rattle.price_defs.specs.Floor.{IsFloor, IsFloorCertificate}
use Rattle.price_defs.specs.Raising.{AreRaised, IsRaisedFloor}

-- the same row, with no smaller weight, and with the same where it is a Cross or Cap row
abbrev pub Grows : (old new : Row) → Type 0
Grows (Half p r w) new = (v : ℕ) × (w ≤ v) × (new ≡ Half p r v)
Grows (Three p w) new = (v : ℕ) × (w ≤ v) × (new ≡ Three p v)
Grows (Cross e f w) new = new ≡ Cross e f w
Grows (Cap e w) new = new ≡ Cap e w

-- valid and tight
pub record IsGood (S : List Point) (D : List Costed) (q : ℕ) (rows : List Row) : Type 0 where
  pub valid : IsValid S D q rows
  pub tight : IsTight S D q rows

-- Raising gives a valid and tight certificate with no smaller weight and no smaller value.
abbrev pub RaisedIsGood : List Point → Type 0
RaisedIsGood S = (D : List Costed) (h q : ℕ) (rows out : List Row) → IsValid S D q rows → AreCovered S rows → AreRaised S D q rows out
    → IsGood S D q out × AllZip Grows rows out × (value h q rows ≤ value h q out)

-- It gives one certificate.
abbrev pub RaisedIsOne : List Point → Type 0
RaisedIsOne S = (D : List Costed) (q : ℕ) (rows a b : List Row) → AreRaised S D q rows a → AreRaised S D q rows b → a ≡ b

-- The floor certificate is valid, gives each inner point its rows, and has the floor as its value.
abbrev pub FloorIsGood : List Point → Type 0
FloorIsGood S = (D : List Costed) (h q : ℕ) (rows : List Row) → IsFloorCertificate S D q rows → IsValid S D q rows × AreCovered S rows × IsFloor S D h (value h q rows)

-- The raised floor certificate is valid and tight, and has at least a floor as its value.
abbrev pub RaisedFloorIsGood : List Point → Type 0
RaisedFloorIsGood S = (D : List Costed) (h q : ℕ) (out : List Row) → IsRaisedFloor S D q out → IsGood S D q out × ((f : ℕ) × IsFloor S D h f × (f ≤ value h q out))
