-- The candidates of each kind, as the walk has them and as the definitions have them; and the plans of a round.
use Rattle.std.proofs.Common.{◌≡◌, ℕ, Bool, List, [], ◌∷◌, ◌++◌, map, ◌∙◌, ap₂, sym, refl, Some, None, Option}
use Rattle.std.specs.List.{flat_map}
use Rattle.std.proofs.lemmas.List.{map-append}
use Rattle.std.proofs.lemmas.List.Folds.{flat_map-map}
use Rattle.std.proofs.lemmas.Grind.{flat_map-append}
use Rattle.std.proofs.lemmas.Simd.{map-map}
use Rattle.plane.specs.declared.segment.Pair.{Pair}
use Rattle.plan_defs.specs.declared.moves.Move.{Move}
use Rattle.plan_defs.specs.declared.moves.Move.TheVariants.{DropOne, Swap, Trade, FlipOne, FlipSwap}
use Rattle.plan_defs.specs.Plans.{Sight}
use Rattle.round_defs.specs.Candidates.{pair_of, kept_of, spare_of, pairs_at, twos, drop_list, choices, drop_moves, swap_moves, trade_moves, flip_swap_moves, flip_moves}
use Rattle.round_plans.specs.declared.choosing.Kind.TheVariants.{Keeping, Flipping}
use Rattle.round_plans.specs.Choices.{twos_of, moves_at, moves_of, trades_with, trades_of, drops_to, flips_to}
use Rattle.round_plans.specs.Listed.{names}

-- two elements of a list, by the list of all choices of two
pub twos_are : (move : Pair → Pair → Move) (xs : List Pair) → twos_of move xs ≡ map (λ (c : Pair × Pair). move c.0 c.1) (twos xs)
twos_are move [] = refl
twos_are move (x ∷ xs) =
    ap₂ (λ (a b : List Move). a ++ b) (sym (map-map (λ (c : Pair × Pair). move c.0 c.1) (λ (y : Pair). (let p : Pair × Pair = (x, y) in p)) xs)) (twos_are move xs)
    ∙ sym (map-append (λ (c : Pair × Pair). move c.0 c.1) (map (λ (y : Pair). (let p : Pair × Pair = (x, y) in p)) xs) (twos xs))

-- the moves of one neighbour
choices_are : (whole : Pair → Option Pair → Move) (xs : List Pair)
    → twos_of (λ x y. whole x (Some y)) xs ++ map (λ x. whole x None) xs ≡ map (λ (c : Pair × Option Pair). whole c.0 c.1) (choices xs)
choices_are whole xs =
    let G : Pair × Option Pair → Move = λ c. whole c.0 c.1 in
    let A : Pair × Pair → Pair × Option Pair = λ c. (c.0, Some c.1) in
    let B : Pair → Pair × Option Pair = λ e. (e, None) in
    ap₂ (λ (a b : List Move). a ++ b) (twos_are (λ x y. whole x (Some y)) xs ∙ sym (map-map G A (twos xs))) (sym (map-map G B xs))
    ∙ sym (map-append G (map A (twos xs)) (map B xs))

flat_same : {X : Type 0} (f g : X → List Move) → ((x : X) → f x ≡ g x) → (xs : List X) → flat_map f xs ≡ flat_map g xs
flat_same f g h [] = refl
flat_same f g h (x ∷ xs) = ap₂ (λ (a b : List Move). a ++ b) (h x) (flat_same f g h xs)

pub swaps_are : (R : List Sight) (v : ℕ) (list : List (ℕ × Bool)) → moves_of Keeping R v (names (spare_of list)) ≡ swap_moves R v list
swaps_are R v list =
    flat_map-map (moves_at Keeping R v) (λ (x : ℕ × Bool). x.0) (spare_of list)
    ∙ flat_same (λ (x : ℕ × Bool). moves_at Keeping R v x.0) (λ (x : ℕ × Bool). map (λ (c : Pair × Option Pair). Swap (pair_of v x.0) c.0 c.1) (choices (drop_list R v x.0)))
    (λ x. choices_are (λ a b. Swap (pair_of v x.0) a b) (drop_list R v x.0)) (spare_of list)

pub flip_swaps_are : (R : List Sight) (v : ℕ) (list : List (ℕ × Bool)) → moves_of Flipping R v (names (spare_of list)) ≡ flip_swap_moves R v list
flip_swaps_are R v list =
    flat_map-map (moves_at Flipping R v) (λ (x : ℕ × Bool). x.0) (spare_of list)
    ∙ flat_same (λ (x : ℕ × Bool). moves_at Flipping R v x.0) (λ (x : ℕ × Bool). map (λ (c : Pair × Option Pair). FlipSwap (pair_of v x.0) c.0 c.1) (choices (drop_list R v x.0)))
    (λ x. choices_are (λ a b. FlipSwap (pair_of v x.0) a b) (drop_list R v x.0)) (spare_of list)

pub drops_are : (v : ℕ) (list : List (ℕ × Bool)) → drops_to v (names (kept_of list)) ≡ drop_moves v list
drops_are v list = map-map (λ (q : ℕ). DropOne (pair_of v q)) (λ (x : ℕ × Bool). x.0) (kept_of list)

pub flips_are : (v : ℕ) (list : List (ℕ × Bool)) → flips_to v (names (spare_of list)) ≡ flip_moves v list
flips_are v list = map-map (λ (q : ℕ). FlipOne (pair_of v q)) (λ (x : ℕ × Bool). x.0) (spare_of list)

-- the trades
abbrev of_keeps : List Pair → Pair × Pair → List Move
of_keeps kept a = map (λ (c : Pair × Pair). Trade a.0 a.1 c.0 c.1) (twos kept)

with_are : (e : Pair) (kept spare : List Pair) → trades_with e kept spare ≡ flat_map (of_keeps kept) (map (λ (f : Pair). (let p : Pair × Pair = (e, f) in p)) spare)
with_are e kept [] = refl
with_are e kept (f ∷ spare) = ap₂ (λ (a b : List Move). a ++ b) (twos_are (λ x y. Trade e f x y) kept) (with_are e kept spare)

pub all_trades : (kept spare : List Pair) → trades_of kept spare ≡ flat_map (of_keeps kept) (twos spare)
all_trades kept [] = refl
all_trades kept (e ∷ spare) =
    ap₂ (λ (a b : List Move). a ++ b) (with_are e kept spare) (all_trades kept spare)
    ∙ sym (flat_map-append (of_keeps kept) (map (λ (f : Pair). (let p : Pair × Pair = (e, f) in p)) spare) (twos spare))

pub trades_are : (v : ℕ) (list : List (ℕ × Bool)) → trades_of (pairs_at v (kept_of list)) (pairs_at v (spare_of list)) ≡ trade_moves v list
trades_are v list = all_trades (pairs_at v (kept_of list)) (pairs_at v (spare_of list))
