-- The raised floor certificate of at most 40 points may stand in any leaf.
use Rattle.std.proofs.Common.{◌≡◌, ℕ, zero, suc, ◌*◌, ◌<◌, ◌≤◌, inl, inr, List, [], ◌∷◌, length, get_or, ◌∙◌, ap, refl, arith}
use Rattle.std.specs.List.{AllPairs, AllZip, Contains, flat_map, sum_by}
use Rattle.std.proofs.lemmas.List.{length-append}
use Rattle.std.proofs.lemmas.List.Sums.{sum_by-cons, sum_by-append}
use Rattle.std.proofs.lemmas.List.Elements.{Contains-get_or, length_all_zip}
use Rattle.plane.specs.declared.coordinates.Point.{Point}
use Rattle.plane.specs.Accepted.{AreAccepted}
use Rattle.price_defs.specs.declared.row.Row.{Row}
use Rattle.price_defs.specs.declared.row.Row.TheVariants.{Half, Three, Cross, Cap}
use Rattle.cost_defs.specs.Costs.{Costed, cost}
use Rattle.price_defs.specs.Rows.{weight}
use Rattle.price_defs.specs.Loads.{IsValid, lost}
use Rattle.price_defs.specs.Floor.{AreFloorRowsAt}
use Rattle.price_defs.specs.Raising.{IsRaisedFloor}
use Rattle.raise_laws.specs.Laws.{Grows}
use Rattle.raise_laws.proofs.laws.Floored.{floor_valid}
use Rattle.raise_laws.proofs.laws.Raises.{raised_valid, raised_grows}
use Rattle.raise_laws.proofs.laws.Limits.{IsWithin, weight_within}
use Rattle.tree_defs.specs.Leaves.{Sets, ArePrices}

rising_least : (ps : List ℕ) (k : ℕ) → AllPairs (λ p q. p < q) ps → k < length ps → k ≤ get_or ps k 0
rising_least ps zero h l = omega arith
rising_least ps (suc k) h l = omega (arith, rising_least ps k h (omega arith), h k (suc k) 0 (omega arith) l)

rising_few : (ps : List ℕ) (n : ℕ) → AllPairs (λ p q. p < q) ps → ((p : ℕ) → Contains ps p → p < n) → length ps ≤ n
rising_few ps n h below = by_length (length ps) refl
  where
    by_length : (k : ℕ) → length ps ≡ k → k ≤ n
    by_length zero e = omega arith
    by_length (suc k) e =
        (let l : k < length ps = omega arith in
        omega (arith, rising_least ps k h l, below (get_or ps k 0) (Contains-get_or ps k 0 l)))

-- every row is a Half or Three row, and there are at most two at a point
part_kind : (S : List Point) (D : List Costed) (p : ℕ) (part : List Row) → AreFloorRowsAt S D p part → (length part ≤ 2) × (sum_by lost part ≡ 0)
part_kind S D p part (m, least, inl h) = (omega (arith, ap length h.1), ap (λ l. sum_by lost l) h.1)
part_kind S D p part (m, least, inr h) = (omega (arith, ap length h.3), ap (λ l. sum_by lost l) h.3)

parts_kind : (S : List Point) (D : List Costed) (ps : List ℕ) (parts : List (List Row)) → AllZip (AreFloorRowsAt S D) ps parts
    → (length (flat_map (λ part. part) parts) ≤ 2 * length ps) × (sum_by lost (flat_map (λ part. part) parts) ≡ 0)
parts_kind S D [] [] h = (omega arith, refl)
parts_kind S D [] (x ∷ xs) h = absurd h
parts_kind S D (p ∷ ps) [] h = absurd h
parts_kind S D (p ∷ ps) (x ∷ xs) h =
    let rest : (length (flat_map (λ part. part) xs) ≤ 2 * length ps) × (sum_by lost (flat_map (λ part. part) xs) ≡ 0) = parts_kind S D ps xs h.1 in
    let here : (length x ≤ 2) × (sum_by lost x ≡ 0) = part_kind S D p x h.0 in
    (omega (arith, length-append x (flat_map (λ part. part) xs), rest.0, here.0), omega (arith, sum_by-append lost x (flat_map (λ part. part) xs), rest.1, here.1))

grown_lost : (rows out : List Row) → AllZip Grows rows out → sum_by lost out ≡ sum_by lost rows
grown_lost [] [] h = refl
grown_lost [] (y ∷ ys) h = absurd h
grown_lost (x ∷ xs) [] h = absurd h
grown_lost (Half p r w ∷ xs) (y ∷ ys) h = omega (arith, ap lost h.0.2, grown_lost xs ys h.1, sum_by-cons lost y ys, sum_by-cons lost (Half p r w) xs)
grown_lost (Three p w ∷ xs) (y ∷ ys) h = omega (arith, ap lost h.0.2, grown_lost xs ys h.1, sum_by-cons lost y ys, sum_by-cons lost (Three p w) xs)
grown_lost (Cross e f w ∷ xs) (y ∷ ys) h = omega (arith, ap lost h.0, grown_lost xs ys h.1, sum_by-cons lost y ys, sum_by-cons lost (Cross e f w) xs)
grown_lost (Cap e w ∷ xs) (y ∷ ys) h = omega (arith, ap lost h.0, grown_lost xs ys h.1, sum_by-cons lost y ys, sum_by-cons lost (Cap e w) xs)

lost_one : (rows : List Row) (k : ℕ) (d : Row) → k < length rows → lost (get_or rows k d) ≤ sum_by lost rows
lost_one [] k d l = absurd (omega (arith, l))
lost_one (x ∷ xs) zero d l = omega (arith, sum_by-cons lost x xs)
lost_one (x ∷ xs) (suc k) d l = omega (arith, sum_by-cons lost x xs, lost_one xs k d (omega (arith, l)))

light_row : (S : List Point) (D : List Costed) (q : ℕ) (rows : List Row) (row : Row) → AreAccepted S → q ≡ 2 → IsValid S D q rows → sum_by lost rows ≡ 0
    → ((i j : ℕ) → cost D i j ≤ 1000) → Contains rows row → lost row ≤ 0 → weight row ≤ 1000000000
light_row S D q rows (Half p r w) ok two valid none cheap c l =
    let b : IsWithin S D q rows (Half p r w) = weight_within S D q rows (Half p r w) ok valid c tt in
    omega (arith, b.bound, none, cheap b.i b.j, ap (λ n. n * cost D b.i b.j) two)
light_row S D q rows (Three p w) ok two valid none cheap c l =
    let b : IsWithin S D q rows (Three p w) = weight_within S D q rows (Three p w) ok valid c tt in
    omega (arith, b.bound, none, cheap b.i b.j, ap (λ n. n * cost D b.i b.j) two)
light_row S D q rows (Cross e f w) ok two valid none cheap c l = omega (arith, l)
light_row S D q rows (Cap e w) ok two valid none cheap c l = omega (arith, l)

pub raised_prices : (S : List Point) (D : List Costed) (q : ℕ) (out : List Row) (s : Sets)
    → AreAccepted S → length S ≤ 40 → ((i j : ℕ) → cost D i j ≤ 1000) → IsRaisedFloor S D q out → ArePrices S D s q out
raised_prices S D q out s ok small cheap (rows, (ps, parts, list, zip, two, is), raised) =
    let valid : IsValid S D q out = raised_valid S D q rows out raised (floor_valid S D q rows ok.count.1 (ps, parts, list, zip, two, is)) in
    let grown : AllZip Grows rows out = raised_grows S D q rows out raised in
    let kind : (length (flat_map (λ part. part) parts) ≤ 2 * length ps) × (sum_by lost (flat_map (λ part. part) parts) ≡ 0) = parts_kind S D ps parts zip in
    let none : sum_by lost out ≡ 0 = grown_lost rows out grown ∙ ap (λ l. sum_by lost l) is ∙ kind.1 in
    let inner : length ps ≤ length S = rising_few ps (length S) list.ascending (λ p c. ((list.exact p).0 c).0) in
    record {
      divisor = valid.divisor;
      small = omega (arith, two);
      few = omega (arith, length_all_zip Grows rows out grown, ap length is, kind.0, inner);
      light = λ k d l. light_row S D q out (get_or out k d) ok two valid none cheap (Contains-get_or out k d l) (omega (arith, lost_one out k d l, none));
      right = valid.right;
      loads = λ e n clear off new bar. valid.loads e.lo e.hi e.ordered n clear off;
    }
