-- Each right Half or Three row counts a clear pair.
use Rattle.std.proofs.Common.{◌≢◌, ℕ, ◌<◌, inl, inr, pos, List, length, refl, subst, arith}
use Rattle.std.specs.Prelude.{◌<ℤ◌}
use Rattle.std.proofs.lemmas.Bool.{cases_lt}
use Rattle.std.proofs.lemmas.Int.{ints}
use Rattle.number_laws.proofs.Naturals.{another}
use Rattle.plane.specs.declared.coordinates.Point.{Point}
use Rattle.plane.specs.Geometry.{point, orientation, IsClear}
use Rattle.plane.specs.Accepted.{AreAccepted}
use Rattle.plane.proofs.laws.Area.{area_first}
use Rattle.plane.proofs.laws.Border.{clear_back}
use Rattle.plane_laws.proofs.Nearest.{HasNearest, nearest, sign_on_way, left_of_inner}
use Rattle.price_defs.specs.Laws.{CountsSome}
use Rattle.price_defs.specs.declared.row.Row.{Row}
use Rattle.price_defs.specs.declared.row.Row.TheVariants.{Half, Three, Cross, Cap}
use Rattle.price_defs.specs.Rows.{IsRight, Counts}
use Rattle.price_defs.specs.Tight.{IsAtPoint}

pub counts_turned : (S : List Point) (row : Row) (i j : ℕ) → Counts S row i j → Counts S row j i
counts_turned S (Half p q w) i j (inl h) = inr h
counts_turned S (Half p q w) i j (inr h) = inl h
counts_turned S (Three p w) i j (inl h) = inr h
counts_turned S (Three p w) i j (inr h) = inl h
counts_turned S (Cross e f w) i j h = h
counts_turned S (Cap e w) i j h = h

in_order : (S : List Point) (row : Row) (p b : ℕ) → p < length S → b < length S → b ≢ p → IsClear S p b → Counts S row p b → CountsSome S row
in_order S row p b pn bn ne c h =
    elim (cases_lt p b) [
      | inl l ↦ record { i = p; j = b; ordered = l; within = bn; clear = c; counted = h }
      | inr l ↦ elim (cases_lt b p) [
        | inl m ↦ record { i = b; j = p; ordered = m; within = pn; clear = clear_back S p b c; counted = counts_turned S row p b h }
        | inr m ↦ absurd (ne (omega arith))
      ]
    ]

pub counts_some : (S : List Point) (row : Row) → AreAccepted S → IsRight S row → IsAtPoint row → CountsSome S row
counts_some S (Half p q w) ok (pn, qn, ne, inner) t =
    let r : (r : ℕ) × (r < length S) × (pos 0 <ℤ orientation S p q r) = left_of_inner S p q ok pn qn ne inner in
    let apart : r.0 ≢ p = λ e. not_left_of_itself (subst (λ x. pos 0 <ℤ orientation S p q x) e r.2) in
    let b : HasNearest S p r.0 = nearest S p r.0 ok pn r.1 apart in
    in_order S (Half p q w) p b.b pn b.within b.apart b.clear (inl (refl, (b.apart, inl ((sign_on_way S p q r.0 b.b b.way).0 r.2))))
  where
    not_left_of_itself : ¬ pos 0 <ℤ orientation S p q p
    not_left_of_itself h = omega (arith, ints, area_first (point S p) (point S q), h)
counts_some S (Three p w) ok (pn, inner, alone) t =
    let q : (q : ℕ) × (q < length S) × (q ≢ p) = another (length S) p (omega (arith, ok.count.0)) in
    let b : HasNearest S p q.0 = nearest S p q.0 ok pn q.1 q.2 in
    in_order S (Three p w) p b.b pn b.within b.apart b.clear (inl refl)
counts_some S (Cross e f w) ok right t = absurd t
counts_some S (Cap e w) ok right t = absurd t
