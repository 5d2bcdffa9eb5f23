-- What the check of a certificate answers.
use Rattle.std.specs.Prelude.{◌≡◌, ℕ, ◌<◌, ◌≤◌, List, length, Result, Ok, Err}
use Rattle.plane.specs.declared.coordinates.Point.{Point}
use Rattle.plane.specs.declared.segment.Pair.{Pair}
use Rattle.partition_defs.specs.Triangulation.{IsBorderList}
use Rattle.cost_defs.specs.Costs.{Costed, total}
use Rattle.price_defs.specs.declared.row.Row.{Row}
use Rattle.price_defs.specs.declared.row.TheConstants.{MOST_ROWS}
use Rattle.price_defs.specs.Loads.{IsValid, value}
use Rattle.price_defs.specs.Faults.{IsBadRow, IsOverload}
use Rattle.cert_check.specs.declared.checking.CertFault.{CertFault}
use Rattle.cert_check.specs.declared.checking.CertFault.TheVariants.{ZeroQ, TooManyRows, BadRow, Overload, NoMemory}

-- h is what the border pairs cost together
abbrev pub HasBorderCost : List Point → List Costed → ℕ → Type 0
HasBorderCost S D h = (B : List Pair) × IsBorderList S B × (h ≡ total D B)

-- the first fault, in the order of their kinds
abbrev pub IsCertFault : List Point → List Costed → ℕ → List Row → CertFault → Type 0
IsCertFault S D q rows ZeroQ = q ≡ 0
IsCertFault S D q rows (TooManyRows c) = (0 < q) × (MOST_ROWS < length rows) × (c ≡ length rows)
IsCertFault S D q rows (BadRow k) = (0 < q) × (length rows ≤ MOST_ROWS) × IsBadRow S rows k
IsCertFault S D q rows (Overload e l) = IsOverload S D q rows e l
IsCertFault S D q rows NoMemory = Unit {0}

-- Ok with the value exactly where the certificate is valid, else the first fault; NoMemory may come in place of either
abbrev pub IsCertAnswer : List Point → List Costed → ℕ → List Row → Result ℕ CertFault → Type 0
IsCertAnswer S D q rows (Ok v) = IsValid S D q rows × ((B : List Pair) → IsBorderList S B → v ≡ value (total D B) q rows)
IsCertAnswer S D q rows (Err fault) = IsCertFault S D q rows fault

-- Ok where the rows are right and no pair has too much, else the first fault of these kinds
abbrev pub IsRowAnswer : List Point → List Costed → ℕ → List Row → Result (Unit {0}) CertFault → Type 0
IsRowAnswer S D q rows (Ok u) = IsValid S D q rows
IsRowAnswer S D q rows (Err fault) = IsCertFault S D q rows fault
