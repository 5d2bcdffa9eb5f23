-- Rows kept up to their weights, tightness and values after raising.
use Rattle.std.proofs.Common.{◌≡◌, ℕ, ◌+◌, ◌-◌, ◌<◌, ◌≤◌, inl, inr, List, [], ◌∷◌, ◌++◌, sym, ◌∙◌, ap, refl, subst, arith}
use Rattle.std.specs.Int.{div_ceil}
use Rattle.std.specs.List.{AllZip, Contains, sum_by}
use Rattle.std.proofs.lemmas.Int.{ints}
use Rattle.std.proofs.lemmas.Grind.{div_ceil_times}
use Rattle.std.proofs.lemmas.List.Sums.{sum_by-cons}
use Rattle.std.proofs.Math.Nat.{mul_comm}
use Rattle.plane.specs.declared.coordinates.Point.{Point}
use Rattle.price_defs.specs.declared.row.Row.{Row}
use Rattle.price_defs.specs.declared.row.Row.TheVariants.{Half, Three, Cross, Cap}
use Rattle.cost_defs.specs.Costs.{Costed}
use Rattle.price_defs.specs.Loads.{IsValid, added, lost, value}
use Rattle.price_defs.specs.Tight.{AreCovered, IsTight}
use Rattle.price_defs.specs.Raising.{reweigh, IsRoom, IsRaisedRow, AreRaisedFrom, AreRaised}
use Rattle.number_laws.proofs.ListSums.{contains_cases, contains_here, contains_later}
use Rattle.price_defs.proofs.laws.Duality.{ceil-le}
use Rattle.raise_laws.proofs.laws.Raises.{raised_full, raised_grows}
use Rattle.raise_laws.specs.Laws.{Grows}

-- each row is there, up to its weight
abbrev pub AreKept : (rows out : List Row) → Type 0
AreKept rows out = (row : Row) → Contains rows row → (v : ℕ) × Contains out (reweigh row v)

pub kept_covered : (S : List Point) (rows out : List Row) → AreKept rows out → AreCovered S rows → AreCovered S out
kept_covered S rows out kept covered p n inner =
    elim (covered p n inner) [
      | inl h ↦ inl (kept (Three p h.0) h.1)
      | inr h ↦ (let a : (v : ℕ) × Contains out (Half p h.0 v) = kept (Half p h.0 h.2) h.4 in
          let b : (v : ℕ) × Contains out (Half p h.1 v) = kept (Half p h.1 h.3) h.5 in
          inr (h.0, h.1, a.0, b.0, a.1, b.1, h.6))
    ]

reweigh_twice : (row : Row) (v w : ℕ) → reweigh (reweigh row v) w ≡ reweigh row w
reweigh_twice (Half p q u) v w = refl
reweigh_twice (Three p u) v w = refl
reweigh_twice (Cross e f u) v w = refl
reweigh_twice (Cap e u) v w = refl

pub kept_trans : (a b c : List Row) → AreKept a b → AreKept b c → AreKept a c
kept_trans a b c f g row h =
    let k : (v : ℕ) × Contains b (reweigh row v) = f row h in
    let m : (w : ℕ) × Contains c (reweigh (reweigh row k.0) w) = g (reweigh row k.0) k.1 in
    (m.0, subst (Contains c) (reweigh_twice row k.0 m.0) m.1)

grown_is : (old new : Row) → Grows old new → (v : ℕ) × (new ≡ reweigh old v)
grown_is (Half p q w) new h = (h.0, h.2)
grown_is (Three p w) new h = (h.0, h.2)
grown_is (Cross e f w) new h = (w, h)
grown_is (Cap e w) new h = (w, h)

pub grown_kept : (rows out : List Row) → AllZip Grows rows out → AreKept rows out
grown_kept [] [] h row c = absurd (omega (arith, c.1))
grown_kept [] (y ∷ ys) h row c = absurd h
grown_kept (x ∷ xs) [] h row c = absurd h
grown_kept (x ∷ xs) (y ∷ ys) h row c =
    elim (contains_cases x xs row c) [
      | inl e ↦ (let g : (v : ℕ) × (y ≡ reweigh x v) = grown_is x y h.0 in
          (g.0, subst (Contains (y ∷ ys)) (g.1 ∙ ap (λ r. reweigh r g.0) e) (contains_here y ys)))
      | inr k ↦ (let g : (v : ℕ) × Contains ys (reweigh row v) = grown_kept xs ys h.1 row k in (g.0, contains_later y ys (reweigh row g.0) g.1))
    ]

-- The raised certificate is tight, where each inner point has its rows.
pub raised_tight : (S : List Point) (D : List Costed) (q : ℕ) (rows out : List Row) → AreRaised S D q rows out → IsValid S D q rows → AreCovered S rows → IsTight S D q out
raised_tight S D q rows out raised valid covered = record {
  covered = kept_covered S rows out (grown_kept rows out (raised_grows S D q rows out raised)) covered;
  full = raised_full S D q rows out raised valid;
}

added_grows : (old new : Row) → Grows old new → (added old ≤ added new) × (lost new ≡ lost old)
added_grows (Half p r w) new h = (omega (arith, h.1, ap added h.2), ap lost h.2)
added_grows (Three p w) new h = (omega (arith, h.1, ap added h.2), ap lost h.2)
added_grows (Cross e f w) new h = (omega (arith, ap added h), ap lost h)
added_grows (Cap e w) new h = (omega (arith, ap added h), ap lost h)

sums_grow : (rows out : List Row) → AllZip Grows rows out → (sum_by added rows ≤ sum_by added out) × (sum_by lost out ≡ sum_by lost rows)
sums_grow [] [] h = (omega arith, refl)
sums_grow [] (y ∷ ys) h = absurd h
sums_grow (x ∷ xs) [] h = absurd h
sums_grow (x ∷ xs) (y ∷ ys) h =
    let a : (added x ≤ added y) × (lost y ≡ lost x) = added_grows x y h.0 in
    let b : (sum_by added xs ≤ sum_by added ys) × (sum_by lost ys ≡ sum_by lost xs) = sums_grow xs ys h.1 in
    (omega (arith, sum_by-cons added x xs, sum_by-cons added y ys), omega (arith, sum_by-cons lost x xs, sum_by-cons lost y ys))

pub ceil-monotone : (x y q : ℕ) → 0 < q → x ≤ y → div_ceil x q ≤ div_ceil y q
ceil-monotone x y q h k = ceil-le x q (div_ceil y q) h (omega (arith, (div_ceil_times y q h).0, mul_comm q (div_ceil y q)))

pub grown_value : (h q : ℕ) (rows out : List Row) → 0 < q → AllZip Grows rows out → value h q rows ≤ value h q out
grown_value h q rows out d g =
    let s : (sum_by added rows ≤ sum_by added out) × (sum_by lost out ≡ sum_by lost rows) = sums_grow rows out g in
    let c : div_ceil (sum_by added rows - sum_by lost rows) q ≤ div_ceil (sum_by added out - sum_by lost out) q =
    ceil-monotone (sum_by added rows - sum_by lost rows) (sum_by added out - sum_by lost out) q d (omega arith) in
    omega arith

-- Its value is no smaller.
pub raised_value : (S : List Point) (D : List Costed) (h q : ℕ) (rows out : List Row) → 0 < q → AreRaised S D q rows out → value h q rows ≤ value h q out
raised_value S D h q rows out d raised = grown_value h q rows out d (raised_grows S D q rows out raised)

-- The rule has one result.
room_once : (S : List Point) (D : List Costed) (q : ℕ) (rows : List Row) (row : Row) (a b : ℕ) → IsRoom S D q rows row a → IsRoom S D q rows row b → a ≡ b
room_once S D q rows row a b x y =
    omega (arith, ints, x.is, y.is, x.least y.i y.j y.ordered y.within y.clear y.counted, y.least x.i x.j x.ordered x.within x.clear x.counted)

pub row_once : (S : List Point) (D : List Costed) (q : ℕ) (rows : List Row) (old a b : Row) → IsRaisedRow S D q rows old a → IsRaisedRow S D q rows old b → a ≡ b
row_once S D q rows (Half p r w) a b x y = x.2 ∙ ap (λ m. Half p r (w + m)) (room_once S D q rows (Half p r w) x.0 y.0 x.1 y.1) ∙ sym y.2
row_once S D q rows (Three p w) a b x y = x.2 ∙ ap (λ m. Three p (w + m)) (room_once S D q rows (Three p w) x.0 y.0 x.1 y.1) ∙ sym y.2
row_once S D q rows (Cross e f w) a b x y = x ∙ sym y
row_once S D q rows (Cap e w) a b x y = x ∙ sym y

raised_once_from : (S : List Point) (D : List Costed) (q : ℕ) (done rest a b : List Row) → AreRaisedFrom S D q done rest a → AreRaisedFrom S D q done rest b → a ≡ b
raised_once_from S D q done [] a b x y = x ∙ sym y
raised_once_from S D q done (row ∷ rest) a b (m, f, x) (n, g, y) =
    raised_once_from S D q (done ++ m ∷ []) rest a b x
    (subst (λ z. AreRaisedFrom S D q (done ++ z ∷ []) rest b) (row_once S D q (done ++ row ∷ rest) row n m g f) y)

pub raised_once : (S : List Point) (D : List Costed) (q : ℕ) (rows a b : List Row) → AreRaised S D q rows a → AreRaised S D q rows b → a ≡ b
raised_once S D q rows a b x y = raised_once_from S D q [] rows a b x y
