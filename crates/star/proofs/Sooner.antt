-- Kept positions that follow one another, through a mark that goes or comes.
use Rattle.std.proofs.Common.{◌≢◌, ℕ, ◌<◌, ◌≤◌, inl, inr, arith}
use Rattle.std.proofs.lemmas.Bool.{cases_lt}
use Rattle.star.specs.Gaps.{ComesSooner}

-- seen from a: k before m, and from k: b before m
pub sooner_joined : (a k b m : ℕ) → ComesSooner a k m → ComesSooner k b m → ComesSooner a b m
sooner_joined a k b m h g = grind arith

pub sooner_turned : (a k m : ℕ) → ComesSooner a k m → ComesSooner k m a
sooner_turned a k m h = grind arith

pub sooner_differ : (a k m : ℕ) → ComesSooner a k m → (a ≢ k) × (k ≢ m) × (a ≢ m)
sooner_differ a k m h = grind arith

-- i is the last below s, and j the first from s on
pub sooner_across : (s i j m : ℕ) → i < s → s ≤ j → m ≢ i → m ≢ j → (m < s → m ≤ i) → (s ≤ m → j ≤ m) → ComesSooner i j m
sooner_across s i j m lt le a b f g = elim (cases_lt m s) [
  | inl h ↦ (let x = f h in inr (inr (omega arith, omega arith)))
  | inr h ↦ (let x = g h in inl (omega arith, omega arith))
]

-- f is the first of all and l the last
pub sooner_round : (f l m : ℕ) → m ≢ l → m ≢ f → f ≤ m → m ≤ l → ComesSooner l f m
sooner_round f l m a b x y = inr (inl (omega arith, omega arith))

pub sooner_split : (a k b x : ℕ) → ComesSooner a k b → ComesSooner a b x → ComesSooner a k x
sooner_split a k b x h g = grind arith

-- j comes before a, seen from m, and a before k: j before k
pub sooner_onward : (m j a k : ℕ) → ComesSooner m j a → ComesSooner a k m → ComesSooner m j k
sooner_onward m j a k h g = grind arith

pub sooner_one_way : (a k m : ℕ) → ComesSooner a k m → ¬ ComesSooner m k a
sooner_one_way a k m h g = grind arith
