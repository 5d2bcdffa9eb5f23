-- The candidates of a round at a vertex, kind by kind, each in its order. (This project's own.)
use Rattle.std.specs.Prelude.{ℕ, ◌-◌, min, max, Bool, not, if◌then◌else◌, List, [], ◌∷◌, ◌++◌, take, drop, map, filter, Option, Some, None}
use Rattle.std.specs.List.{flat_map}
use Rattle.plane.specs.declared.segment.Pair.{Pair}
use Rattle.subdivision.specs.Every.{upward}
use Rattle.plan_defs.specs.declared.moves.Move.{Move}
use Rattle.plan_defs.specs.declared.moves.Move.TheVariants.{DropOne, Swap, Trade, FlipOne, FlipSwap}
use Rattle.plan_defs.specs.Plans.{Sight, has_look, look_at}

-- the pair of two different indices
abbrev pub pair_of : (i j : ℕ) → Pair
pair_of i j = upward (min i j) (max i j - min i j - 1)

-- a list cyclically from position k on
abbrev pub turned : {X : Type 0} → ℕ → List X → List X
turned k xs = drop k xs ++ take k xs

-- the kept and the spare neighbours of a star's list
abbrev pub kept_of : List (ℕ × Bool) → List (ℕ × Bool)
kept_of list = filter (λ x. x.1) list

abbrev pub spare_of : List (ℕ × Bool) → List (ℕ × Bool)
spare_of list = filter (λ x. not x.1) list

-- the pairs from v to listed neighbours
abbrev pub pairs_at : ℕ → List (ℕ × Bool) → List Pair
pairs_at v list = map (λ x. pair_of v x.0) list

-- all choices of two places, by the first and then the second
abbrev pub twos : {X : Type 0} → List X → List (X × X)
twos [] = []
twos (x ∷ xs) = map (λ y. (let p : _ × _ = (x, y) in p)) xs ++ twos xs

-- the pairs from which the drops of v-q are chosen: the kept ones at v and then those at q, none where q wasn't looked at
abbrev pub drop_list : List Sight → (v q : ℕ) → List Pair
drop_list R v q =
    if has_look R q then pairs_at v (kept_of (look_at R v).list) ++ pairs_at q (kept_of (look_at R q).list) else []

-- all choices of two, and then each alone
abbrev pub choices : List Pair → List (Pair × Option Pair)
choices list =
    map (λ c. (let p : Pair × Option Pair = (c.0, Some c.1) in p)) (twos list)
    ++ map (λ e. (let p : Pair × Option Pair = (e, None) in p)) list

-- the drops of kept pairs at v
abbrev pub drop_moves : ℕ → List (ℕ × Bool) → List Move
drop_moves v list = map (λ x. DropOne (pair_of v x.0)) (kept_of list)

-- for each spare pair v-q its keep with the drops of v-q
abbrev pub swap_moves : List Sight → ℕ → List (ℕ × Bool) → List Move
swap_moves R v list =
    flat_map (λ x. map (λ c. Swap (pair_of v x.0) c.0 c.1) (choices (drop_list R v x.0))) (spare_of list)

-- two spare pairs at v, and for each such choice two kept ones
abbrev pub trade_moves : ℕ → List (ℕ × Bool) → List Move
trade_moves v list =
    flat_map (λ a. map (λ c. Trade a.0 a.1 c.0 c.1) (twos (pairs_at v (kept_of list))))
    (twos (pairs_at v (spare_of list)))

-- for each spare pair v-q its flip with a keep of the new pair and the drops of v-q
abbrev pub flip_swap_moves : List Sight → ℕ → List (ℕ × Bool) → List Move
flip_swap_moves R v list =
    flat_map (λ x. map (λ c. FlipSwap (pair_of v x.0) c.0 c.1) (choices (drop_list R v x.0))) (spare_of list)

-- the flips of spare pairs at v
abbrev pub flip_moves : ℕ → List (ℕ × Bool) → List Move
flip_moves v list = map (λ x. FlipOne (pair_of v x.0)) (spare_of list)

-- the candidates of each kind at v, the neighbours taken cyclically from position k on; the trades don't depend on k
abbrev pub kinds : List Sight → (v k : ℕ) → List (List Move)
kinds R v k =
    let list = (look_at R v).list in
    let from = turned k list in
    drop_moves v from ∷ swap_moves R v from ∷ trade_moves v list ∷ flip_swap_moves R v from ∷ flip_moves v from ∷ []
