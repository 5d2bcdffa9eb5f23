-- The reading of a certificate in steps.
use Rattle.std.proofs.Common.{◌≡◌, ℕ, List, map, Option, Some, None, option_and_then, Result, Ok, Err, codes, refl, inr}
use Rattle.serde_json.specs.Data.{Data}
use Rattle.serde_json.specs.Find.{get}
use Rattle.serde_json.specs.View.{view, items_view}
use Rattle.serde_json.specs.declared.value.Value.{Value}
use Rattle.text_defs.specs.Steps.{◌>>=◌, or_fault}
use Rattle.text_defs.specs.Fields.{array_at}
use Rattle.text_defs.specs.Items.{number_within}
use Rattle.text_defs.proofs.laws.Lists.{list_of-items_of}
use Rattle.report_io.specs.declared.faults.CertLine.TheVariants.{NoQ, NoRows, NoValue}
use Rattle.report_io.specs.declared.faults.ReportFault.{ReportFault}
use Rattle.report_io.specs.declared.faults.ReportFault.TheVariants as at
use Rattle.report_io.specs.Parts.{RowItem, CertificateParts}
use Rattle.report_io.specs.Reading.{certificate_in, row_items, most_divisor, most_64}

abbrev pub divisor_at : Data → Option ℕ
divisor_at d = option_and_then (number_within 0 most_divisor) (get (codes "q") d)

abbrev pub value_at : Data → Option ℕ
value_at d = option_and_then (number_within 0 most_64) (get (codes "value") d)

abbrev pub after_rows : Data → ℕ → List RowItem → Result CertificateParts ReportFault
after_rows d q rows = or_fault (at.Certificate NoValue) (value_at d) >>= (λ value. Ok (record { q = q; rows = rows; value = value }))

pub no_divisor : (n : ℕ) (d : Data) → None ≡ divisor_at d → certificate_in n d ≡ Err (at.Certificate NoQ)
unfolding certificate_in
no_divisor n d h = rw (← h) refl

pub no_rows : (n : ℕ) (d : Data) (q : ℕ) → Some q ≡ divisor_at d → None ≡ array_at (codes "rows") d → certificate_in n d ≡ Err (at.Certificate NoRows)
unfolding certificate_in
no_rows n d q h k = rw (← h, ← k) refl

pub to_rows : (n : ℕ) (d : Data) (q : ℕ) (vs : List Value) → Some q ≡ divisor_at d → Some (items_view vs) ≡ array_at (codes "rows") d
    → certificate_in n d ≡ (row_items n (map view vs) >>= after_rows d q)
unfolding certificate_in
to_rows n d q vs h k = rw (← h, ← k, list_of-items_of (map view vs)) refl

pub no_value : (d : Data) (q : ℕ) (rows : List RowItem) → None ≡ value_at d → after_rows d q rows ≡ Err (at.Certificate NoValue)
no_value d q rows h = rw (← h) refl

pub to_value : (d : Data) (q value : ℕ) (rows : List RowItem) → Some value ≡ value_at d → after_rows d q rows ≡ Ok (record { q = q; rows = rows; value = value })
to_value d q value rows h = rw (← h) refl
