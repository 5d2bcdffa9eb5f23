-- The points of each kind are accepted: they differ, are near, and aren't all on one line.
use Rattle.std.proofs.Common.{◌≡◌, ◌≢◌, ℕ, zero, suc, ◌+◌, ◌*◌, ◌/◌, ◌%◌, ◌<◌, ◌≤◌, List, length, pos, ◌-ℤ◌, ◌*ℤ◌, refl, ap, sym, ◌∙◌, arith, subst, inl, inr}
use Rattle.std.proofs.lemmas.Int.{ints}
use Rattle.std.proofs.lemmas.Bool.{cases_lt}
use Rattle.std.proofs.Math.Nat.{mod-lt, mod-le, mod-eq_of_lt, mod_self, div_self, div-eq_of_lt, div-le_self, div-add-mod, mul-le-mul_left}
use Rattle.plane.specs.declared.coordinates.Point.{Point}
use Rattle.plane.specs.Geometry.{point, area}
use Rattle.plane.specs.Accepted.{IsNear, AreAccepted}
use Rattle.generator.specs.Words.{word}
use Rattle.generator.specs.Kinds.{place, width, scatter_point, grid_point, ring_point, wide_point, IsSide}

across : (x y x' y' : ℕ) → place x y ≡ place x' y' → x ≡ x'
across x y x' y' e = let f : pos x ≡ pos x' = ap (λ (p : Point). p.x) e in cc

upward : (x y x' y' : ℕ) → place x y ≡ place x' y' → y ≡ y'
upward x y x' y' e = let f : pos y ≡ pos y' = ap (λ (p : Point). p.y) e in cc

near : (x y : ℕ) → x < 100000000 → y < 100000000 → IsNear (place x y)
near x y hx hy = (omega arith, omega arith)

scatter_near : (n seed k : ℕ) → 3 ≤ n → n ≤ 5000 → k < n → IsNear (scatter_point n seed k)
scatter_near n seed zero low high h = near 0 0 (omega arith) (omega arith)
scatter_near n seed (suc zero) low high h = near (width n) 0 (omega arith) (omega arith)
scatter_near n seed (suc (suc zero)) low high h = near 0 (width n) (omega arith) (omega arith)
scatter_near n seed (suc (suc (suc j))) low high h =
    let a : word seed (2 * j) % 1000 < 1000 = mod-lt (word seed (2 * j)) (omega arith) in
    let b : word seed (2 * j + 1) % width n < width n = mod-lt (word seed (2 * j + 1)) (omega arith) in
    near (1000 * (j + 1) + word seed (2 * j) % 1000) (1 + word seed (2 * j + 1) % width n) (omega arith) (omega arith)

scatter_apart : (n seed i j : ℕ) → 3 ≤ n → i < j → j < n → scatter_point n seed i ≢ scatter_point n seed j
scatter_apart n seed i zero low h k e = omega arith
scatter_apart n seed zero (suc zero) low h k e = omega (arith, across 0 0 (width n) 0 e)
scatter_apart n seed zero (suc (suc zero)) low h k e = omega (arith, upward 0 0 0 (width n) e)
scatter_apart n seed zero (suc (suc (suc j))) low h k e = omega (arith, across 0 0 (1000 * (j + 1) + word seed (2 * j) % 1000) (1 + word seed (2 * j + 1) % width n) e)
scatter_apart n seed (suc i) (suc zero) low h k e = omega arith
scatter_apart n seed (suc zero) (suc (suc zero)) low h k e = omega (arith, across (width n) 0 0 (width n) e)
scatter_apart n seed (suc zero) (suc (suc (suc j))) low h k e =
    let a : word seed (2 * j) % 1000 < 1000 = mod-lt (word seed (2 * j)) (omega arith) in
    omega (arith, across (width n) 0 (1000 * (j + 1) + word seed (2 * j) % 1000) (1 + word seed (2 * j + 1) % width n) e)
scatter_apart n seed (suc (suc i)) (suc (suc zero)) low h k e = omega arith
scatter_apart n seed (suc (suc zero)) (suc (suc (suc j))) low h k e = omega (arith, across 0 (width n) (1000 * (j + 1) + word seed (2 * j) % 1000) (1 + word seed (2 * j + 1) % width n) e)
scatter_apart n seed (suc (suc (suc i))) (suc (suc (suc j))) low h k e =
    let a : word seed (2 * i) % 1000 < 1000 = mod-lt (word seed (2 * i)) (omega arith) in
    omega (arith, across (1000 * (i + 1) + word seed (2 * i) % 1000) (1 + word seed (2 * i + 1) % width n) (1000 * (j + 1) + word seed (2 * j) % 1000) (1 + word seed (2 * j + 1) % width n) e)

zero_step : (x : ℕ) → pos x -ℤ pos 0 ≡ pos x
zero_step x = omega (arith, ints)

corner_area : (w : ℕ) → area (place 0 0) (place w 0) (place 0 w) ≡ pos (w * w)
unfolding area
corner_area w = ap (λ x. x *ℤ x -ℤ (pos 0 -ℤ pos 0) *ℤ (pos 0 -ℤ pos 0)) (zero_step w) ∙ last w
  where
    last : (w : ℕ) → pos w *ℤ pos w -ℤ (pos 0 -ℤ pos 0) *ℤ (pos 0 -ℤ pos 0) ≡ pos (w * w)
    last w = omega (arith, ints)

-- a list with these points is accepted
pub record IsSound (n : ℕ) (f : ℕ → Point) : Type 0 where
  pub near : (k : ℕ) → k < n → IsNear (f k)
  pub apart : (i j : ℕ) → i < j → j < n → f i ≢ f j
  pub bent : (p : ℕ) × (q : ℕ) × (r : ℕ) × (p < n) × (q < n) × (r < n) × (area (f p) (f q) (f r) ≢ pos 0)

pub accepted : (n : ℕ) (f : ℕ → Point) (S : List Point) → 3 ≤ n → n ≤ 5000 → length S ≡ n → ((k : ℕ) → k < n → point S k ≡ f k) → IsSound n f → AreAccepted S
accepted n f S low high len each sound = record {
  count = (omega arith, omega arith);
  near = λ k h. subst IsNear (sym (each k (omega arith))) (sound.near k (omega arith));
  apart = λ i j h k e. sound.apart i j h (omega arith) (sym (each i (omega arith)) ∙ e ∙ each j (omega arith));
  spread = (let (p, q, r, hp, hq, hr, bent) = sound.bent in
      (p, q, r, omega arith, omega arith, omega arith, λ e. bent (sym (ap (λ x. area x (f q) (f r)) (each p hp)) ∙ sym (ap (λ y. area (point S p) y (f r)) (each q hq)) ∙ sym (ap (λ z. area (point S p) (point S q) z) (each r hr)) ∙ e)));
}

positive_square : (w : ℕ) → 0 < w → 0 < w * w
positive_square w h = grind arith

not_zero : (m : ℕ) → 0 < m → pos m ≢ pos 0
not_zero m h e = let f : m ≡ 0 = cc in omega arith

pub scatter_sound : (n seed : ℕ) → 3 ≤ n → n ≤ 5000 → IsSound n (scatter_point n seed)
scatter_sound n seed low high = record {
  near = λ k h. scatter_near n seed k low high h;
  apart = λ i j h k. scatter_apart n seed i j low h k;
  bent = (0, 1, 2, omega arith, omega arith, omega arith, λ e. not_zero (width n * width n) (positive_square (width n) (omega arith)) (sym (corner_area (width n)) ∙ e));
}

ring_area : area (place 0 0) (place 1 1) (place 2 4) ≡ pos 2
unfolding area
ring_area = refl

pub ring_sound : (n : ℕ) → 3 ≤ n → n ≤ 5000 → IsSound n ring_point
ring_sound n low high = record {
  near = λ k h. near k (k * k) (omega arith) (square_small k (omega arith));
  apart = λ i j h k e. omega (arith, across i (i * i) j (j * j) e);
  bent = (0, 1, 2, omega arith, omega arith, omega arith, λ e. not_zero 2 (omega arith) (sym ring_area ∙ e));
}
  where
    square_small : (k : ℕ) → k < 5000 → k * k < 100000000
    square_small k h = grind arith

wide_near : (k : ℕ) → k < 5000 → IsNear (wide_point k)
wide_near k h = let s : k * k < 25000000 = grind arith in (omega arith, omega (arith, s))

wide_area : area (place 0 0) (place 1099511627776 68719476736) (place 2199023255552 274877906944) ≡ pos 151115727451828646838272
unfolding area
wide_area = refl

pub wide_sound : (n : ℕ) → 3 ≤ n → n ≤ 5000 → IsSound n wide_point
wide_sound n low high = record {
  near = λ k h. wide_near k (omega arith);
  apart = λ i j h k e. omega (arith, across (1099511627776 * i) (68719476736 * i * i) (1099511627776 * j) (68719476736 * j * j) e);
  bent = (0, 1, 2, omega arith, omega arith, omega arith, λ e. not_zero 151115727451828646838272 (omega arith) (sym wide_area ∙ e));
}

-- ---- the grid

same_index : (m i j : ℕ) → i % m ≡ j % m → i / m ≡ j / m → i ≡ j
same_index m i j er ed = sym (div-add-mod i m) ∙ ap (λ q. m * q + i % m) ed ∙ ap (λ r. m * (j / m) + r) er ∙ div-add-mod j m

grid_area : area (place 0 0) (place 10 0) (place 0 10) ≡ pos 100
unfolding area
grid_area = refl

side_most : (n m : ℕ) → 3 ≤ n → IsSide n m → 2 ≤ m × m < n
side_most n m low side = (big m side.holds, small n m low side)
  where
    big : (m : ℕ) → n ≤ m * m → 2 ≤ m
    big zero h = absurd (omega arith)
    big (suc zero) h = absurd (omega arith)
    big (suc (suc m)) h = omega arith

    twice : (j : ℕ) → 2 ≤ j → 2 * j ≤ j * j
    twice j h = omega (arith, mul-le-mul_left j h)

    small : (n m : ℕ) → 3 ≤ n → IsSide n m → m < n
    small n zero low side = omega arith
    small n (suc j) low side = elim (cases_lt (suc j) n) [
      | inl h ↦ h
      | inr h ↦ absurd (side.before j (omega arith) (let two : 2 * j ≤ j * j = twice j (omega arith) in omega arith))
    ]

grid_near : (n m k : ℕ) → k < n → n ≤ 5000 → IsNear (grid_point m k)
grid_near n m k h high = near (10 * (k % m)) (10 * (k / m)) (omega (arith, mod-le k m)) (omega (arith, div-le_self k m))

pub grid_sound : (n m : ℕ) → 3 ≤ n → n ≤ 5000 → IsSide n m → IsSound n (grid_point m)
grid_sound n m low high side =
    let (two, below) = side_most n m low side in
    let first : grid_point m 0 ≡ place 0 0 = rw (mod-eq_of_lt {n = 0} {m = m} (omega arith), div-eq_of_lt {n = 0} {m = m} (omega arith)) refl in
    let second : grid_point m 1 ≡ place 10 0 = rw (mod-eq_of_lt {n = 1} {m = m} (omega arith), div-eq_of_lt {n = 1} {m = m} (omega arith)) refl in
    let third : grid_point m m ≡ place 0 10 = rw (mod_self m, div_self {n = m} (omega arith)) refl in
    record {
      near = λ k h. grid_near n m k h high;
      apart = λ i j h k e.
          (let a = across (10 * (i % m)) (10 * (i / m)) (10 * (j % m)) (10 * (j / m)) e in
          let b = upward (10 * (i % m)) (10 * (i / m)) (10 * (j % m)) (10 * (j / m)) e in
          omega (arith, same_index m i j (omega arith) (omega arith)));
      bent = (0, 1, m, omega arith, omega arith, below, λ e. not_zero 100 (omega arith) (sym grid_area ∙ sym (ap (λ x. area x (place 10 0) (place 0 10)) first) ∙ sym (ap (λ y. area (grid_point m 0) y (place 0 10)) second) ∙ sym (ap (λ z. area (grid_point m 0) (grid_point m 1) z) third) ∙ e));
    }
