use Rattle.std.proofs.Common.{◌≡◌, ◌∙◌, ap, ap₂, ℕ, ◌*◌, ◌≤◌, ℤ, pos, w64, of_z, to_z, IsTrue, arith}
use Rattle.std.specs.Prelude.{◌<ℤ◌}
use Rattle.std.specs.Int.Signed.{lt_z}
use Rattle.std.proofs.Math.Nat.{mul-le-mul_left}
use Rattle.std.proofs.lemmas.Int.{ints}
use Rattle.cost_defs.specs.Costs.{cost}
use Rattle.price_defs.specs.Loads.{load}
use Rattle.price_defs.proofs.laws.Values.{gives_le, takes_le}
use Rattle.tree_defs.proofs.plain.has_too_much.Goals as goal

less : (x y l : ℤ) (m : ℕ) → x ≡ pos m → y ≡ l → (IsTrue (lt_z x y) → pos m <ℤ l) × (pos m <ℤ l → IsTrue (lt_z x y))
less x y l m p q = (λ e. grind (arith, ints), λ h. grind (arith, ints))

pub returns : goal.returns
returns c =
    let S = c.args.points.now in
    let rows = c.args.rows.now in
    let e = c.args.e in
    let m : c.args.q * c.from.result ≤ c.args.q * 1000 = mul-le-mul_left c.args.q (let h : c.from.result ≤ 1000 = omega (arith, c.from.ensures, c.of.ensures.within) in h) in
    let a : to_z w64 (c.args.q * c.from.result) ≡ pos (c.args.q * c.from.result) = omega (arith, ints, m, c.requires.small) in
    let l : c.load_of.result ≡ load S rows e.lo e.hi = c.load_of.ensures ∙ ap₂ (λ i j. load S rows i j) c.lo.ensures c.hi.ensures in
    let b : to_z w64 (of_z w64 c.load_of.result) ≡ c.load_of.result =
    omega (arith, ints, l, gives_le S rows e.lo e.hi c.requires.light c.requires.few, takes_le rows e.lo e.hi c.requires.light c.requires.few) in
    let n : c.args.q * c.from.result ≡ c.args.q * cost c.args.costs.now e.lo e.hi = ap (λ k. c.args.q * k) (c.from.ensures ∙ c.of.ensures.cost) in
    less (to_z w64 (c.args.q * c.from.result)) (to_z w64 (of_z w64 c.load_of.result)) (load S rows e.lo e.hi) (c.args.q * cost c.args.costs.now e.lo e.hi) (a ∙ ap (λ k. pos k) n) (b ∙ l)
