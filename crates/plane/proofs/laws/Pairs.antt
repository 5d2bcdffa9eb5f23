-- Pairs with the same ends are equal.
use Rattle.std.proofs.Common.{◌≡◌, ℕ, ap, subst}
use Rattle.std.proofs.Math.Bridge.{le_prop}
use Rattle.plane.specs.declared.segment.Pair.{Pair, ordered-type}

ordered_once : (a b : ℕ) → IsProp (ordered-type a b)
ordered_once a b = le_prop

pub made : (a b : ℕ) → ordered-type a b → Pair
made a b o = record { lo = a; hi = b; ordered = o }

-- two pairs with the same ends are equal
pub pair_same : (e f : Pair) → e.lo ≡ f.lo → e.hi ≡ f.hi → e ≡ f
unfolding made
pair_same e f h k =
    let R : ℕ → Type 0 = λ y. (p : ordered-type e.lo y) → made e.lo e.hi e.ordered ≡ made e.lo y p in
    let Q : ℕ → Type 0 = λ x. (p : ordered-type x f.hi) → made e.lo e.hi e.ordered ≡ made x f.hi p in
    subst Q h (subst R k (λ p. ap (λ (z : ordered-type e.lo e.hi). made e.lo e.hi z) (ordered_once e.lo e.hi e.ordered p))) f.ordered
