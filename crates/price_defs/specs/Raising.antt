-- Raising: each Half and Three row, in its turn, by as much as the pairs that it counts allow. (This project's own.)
use Rattle.std.specs.Prelude.{◌≡◌, ℕ, ◌+◌, ◌*◌, ◌<◌, List, [], ◌∷◌, ◌++◌, length, pos, ◌+ℤ◌, ◌≤ℤ◌}
use Rattle.plane.specs.declared.coordinates.Point.{Point}
use Rattle.plane.specs.Geometry.{IsClear}
use Rattle.price_defs.specs.declared.row.Row.{Row}
use Rattle.price_defs.specs.declared.row.Row.TheVariants.{Half, Three, Cross, Cap}
use Rattle.cost_defs.specs.Costs.{Costed, cost}
use Rattle.price_defs.specs.Rows.{Counts}
use Rattle.price_defs.specs.Loads.{load}
use Rattle.price_defs.specs.Floor.{IsFloorCertificate}

-- the row with another weight
abbrev pub reweigh : Row → ℕ → Row
reweigh (Half p q w) v = Half p q v
reweigh (Three p w) v = Three p v
reweigh (Cross e f w) v = Cross e f v
reweigh (Cap e w) v = Cap e v

-- more is the least of q * cost - load over the clear pairs that the row counts
pub record IsRoom (S : List Point) (D : List Costed) (q : ℕ) (rows : List Row) (row : Row) (more : ℕ) : Type 0 where
  pub i : ℕ
  pub j : ℕ
  pub ordered : i < j
  pub within : j < length S
  pub clear : IsClear S i j
  pub counted : Counts S row i j
  pub is : (load S rows i j +ℤ pos more) ≡ pos (q * cost D i j)
  pub least : (k l : ℕ) → k < l → l < length S → IsClear S k l → Counts S row k l → (load S rows k l +ℤ pos more) ≤ℤ pos (q * cost D k l)

-- what a row of the list becomes: a Half or Three row is raised, a Cross or Cap row stays
abbrev pub IsRaisedRow : List Point → List Costed → ℕ → List Row → (old new : Row) → Type 0
IsRaisedRow S D q rows (Half p r w) new = (more : ℕ) × IsRoom S D q rows (Half p r w) more × (new ≡ Half p r (w + more))
IsRaisedRow S D q rows (Three p w) new = (more : ℕ) × IsRoom S D q rows (Three p w) more × (new ≡ Three p (w + more))
IsRaisedRow S D q rows (Cross e f w) new = new ≡ Cross e f w
IsRaisedRow S D q rows (Cap e w) new = new ≡ Cap e w

-- the rows of rest are raised one after the other, behind those that are done
abbrev pub AreRaisedFrom : List Point → List Costed → ℕ → (done rest out : List Row) → Type 0
AreRaisedFrom S D q done [] out = out ≡ done
AreRaisedFrom S D q done (row ∷ rest) out =
    (new : Row) × IsRaisedRow S D q (done ++ row ∷ rest) row new × AreRaisedFrom S D q (done ++ new ∷ []) rest out

-- all rows are raised, once and in their order
abbrev pub AreRaised : List Point → List Costed → ℕ → (rows out : List Row) → Type 0
AreRaised S D q rows out = AreRaisedFrom S D q [] rows out

-- the floor certificate after raising
abbrev pub IsRaisedFloor : List Point → List Costed → ℕ → List Row → Type 0
IsRaisedFloor S D q out = (rows : List Row) × IsFloorCertificate S D q rows × AreRaised S D q rows out
