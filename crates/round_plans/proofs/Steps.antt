-- Steps of a walk through parts of candidates: a part without a plan is passed, and the first plan of the next one is the
-- first of all.
use Rattle.std.proofs.Common.{◌≡◌, ℕ, zero, suc, ◌+◌, ◌<◌, ◌≤◌, List, [], ◌∷◌, ◌++◌, length, drop, get_or, inl, inr, arith, sym, ◌∙◌, ap, subst, refl, Some, None, Option, Bool, true, false, map, Result, Ok, Err, IfOk}
use Rattle.std.specs.Option.{is_some}
use Rattle.std.specs.List.{flat_map}
use Rattle.plane.specs.declared.coordinates.Point.{Point}
use Rattle.cost_defs.specs.Costs.{Costed}
use Rattle.edit.specs.Plans.{Planned}
use Rattle.plan_defs.specs.declared.moves.Move.{Move}
use Rattle.plan_defs.specs.Plans.{Sight, IsPlanned}
use Rattle.round_defs.proofs.laws.Firsts.{Decides, all_skipped, some_taken, planned_found, first_on, first_here}
use Rattle.round_plans.specs.Found.{IsFirstPlan, edits_of}

-- the answer for one candidate
pub of_one : (S : List Point) (D : List Costed) (R : List Sight) (m : Move) (o : Option Planned) → IsPlanned S D R m o → IsFirstPlan S D R (m ∷ []) o
of_one S D R m None h = record { first = inr (h, refl); offered = tt }
of_one S D R m (Some p) h = record { first = inl (p.edits, planned_found S D R m p h, refl); offered = (m, h) }

-- the list from a position on
pub rest_at : {X : Type 0} (xs : List X) (k : ℕ) (x : X) → k < length xs → x ≡ get_or xs k x → drop k xs ≡ x ∷ drop (k + 1) xs
rest_at [] k x h e = absurd (omega arith)
rest_at (y ∷ ys) zero x h e = ap (λ z. z ∷ ys) (sym e)
rest_at (y ∷ ys) (suc k) x h e = rest_at ys k x (omega arith) e ∙ ap (λ (m : ℕ). x ∷ drop m (y ∷ ys)) (let n : suc (k + 1) ≡ suc k + 1 = omega arith in n)

pub rest_end : {X : Type 0} (xs : List X) (k : ℕ) → length xs ≤ k → drop k xs ≡ []
rest_end [] zero h = refl
rest_end [] (suc k) h = refl
rest_end (y ∷ ys) zero h = absurd (omega arith)
rest_end (y ∷ ys) (suc k) h = rest_end ys k (omega arith)

-- candidates that come in parts, one for each element of a list
pub record ArePartsOf {X : Type 0} (body : List X → List Move) (part : X → List X → List Move) : Type 0 where
  pub none : body [] ≡ []
  pub more : (x : X) (xs : List X) → body (x ∷ xs) ≡ part x xs ++ body xs

module _ {X : Type 0} (body : List X → List Move) (part : X → List X → List Move) (S : List Point) (D : List Costed) (R : List Sight) where
  next_part : ArePartsOf body part → (xs : List X) (k : ℕ) (x : X) (all : List Move) → k < length xs → x ≡ get_or xs k x → Decides S D R (body (drop k xs)) all
      → Decides S D R (part x (drop (k + 1) xs) ++ body (drop (k + 1) xs)) all
  next_part parts xs k x all h e decides =
      subst (λ (z : List Move). Decides S D R z all) (ap body (rest_at xs k x h e) ∙ parts.more x (drop (k + 1) xs)) decides

  pub pass : ArePartsOf body part → (xs : List X) (k : ℕ) (x : X) (all : List Move) → k < length xs → x ≡ get_or xs k x → Decides S D R (body (drop k xs)) all
      → IsFirstPlan S D R (part x (drop (k + 1) xs)) None → Decides S D R (body (drop (k + 1) xs)) all
  pass parts xs k x all h e decides none =
      all_skipped S D R (part x (drop (k + 1) xs)) (body (drop (k + 1) xs)) all (next_part parts xs k x all h e decides) none.first

  pub find : ArePartsOf body part → (xs : List X) (k : ℕ) (x : X) (all : List Move) (p : Planned) → k < length xs → x ≡ get_or xs k x → Decides S D R (body (drop k xs)) all
      → IsFirstPlan S D R (part x (drop (k + 1) xs)) (Some p) → IsFirstPlan S D R all (Some p)
  find parts xs k x all p h e decides some = record {
    first = some_taken S D R (part x (drop (k + 1) xs)) (body (drop (k + 1) xs)) all p.edits (next_part parts xs k x all h e decides) some.first;
    offered = some.offered;
  }

  pub finish : ArePartsOf body part → (xs : List X) (k : ℕ) (all : List Move) → length xs ≤ k → Decides S D R (body (drop k xs)) all → IsFirstPlan S D R all None
  finish parts xs k all h decides = record {
    first = subst (λ (z : List Move). Decides S D R z all) (ap body (rest_end xs k h) ∙ parts.none) decides None refl;
    offered = tt;
  }

-- the two lists of candidates one after the other
pub after_none : (S : List Point) (D : List Costed) (R : List Sight) (ms ns : List Move) (o : Option Planned) → IsFirstPlan S D R ms None → IsFirstPlan S D R ns o → IsFirstPlan S D R (ms ++ ns) o
after_none S D R ms ns o none rest = record { first = first_on S D R ms ns (edits_of o) none.first rest.first; offered = rest.offered }

pub in_first : (S : List Point) (D : List Costed) (R : List Sight) (ms ns : List Move) (p : Planned) → IsFirstPlan S D R ms (Some p) → IsFirstPlan S D R (ms ++ ns) (Some p)
in_first S D R ms ns p some = record { first = first_here S D R ms ns p.edits some.first; offered = some.offered }

-- the same where it is tested whether there is a plan
in_first_if : (S : List Point) (D : List Costed) (R : List Sight) (ms ns : List Move) (o : Option Planned) → is_some o ≡ true → IsFirstPlan S D R ms o → IsFirstPlan S D R (ms ++ ns) o
in_first_if S D R ms ns None h first = absurd (let e : false ≡ true = h in cc)
in_first_if S D R ms ns (Some p) h first = in_first S D R ms ns p first

pub here_first : (S : List Point) (D : List Costed) (R : List Sight) (ms ns : List Move) (o : Option Planned) (b : Bool) → b ≡ is_some o → b ≡ true → IsFirstPlan S D R ms o → IsFirstPlan S D R (ms ++ ns) o
here_first S D R ms ns o b is so first = in_first_if S D R ms ns o (sym is ∙ so) first

none_first_if : (S : List Point) (D : List Costed) (R : List Sight) (ms ns : List Move) (o u : Option Planned) → is_some o ≡ false → IsFirstPlan S D R ms o → IsFirstPlan S D R ns u → IsFirstPlan S D R (ms ++ ns) u
none_first_if S D R ms ns None u h first rest = after_none S D R ms ns u first rest
none_first_if S D R ms ns (Some p) u h first rest = absurd (let e : true ≡ false = h in cc)

pub then_first : (S : List Point) (D : List Costed) (R : List Sight) (ms ns : List Move) (o u : Option Planned) (b : Bool) → b ≡ is_some o → b ≡ false → IsFirstPlan S D R ms o → IsFirstPlan S D R ns u → IsFirstPlan S D R (ms ++ ns) u
then_first S D R ms ns o u b is no_more first rest = none_first_if S D R ms ns o u (sym is ∙ no_more) first rest

module _ {X : Type 0} (body : List X → List Move) (part : X → List X → List Move) (S : List Point) (D : List Costed) (R : List Sight) where
  find_any : ArePartsOf body part → (xs : List X) (k : ℕ) (x : X) (all : List Move) (o : Option Planned) → k < length xs → x ≡ get_or xs k x → Decides S D R (body (drop k xs)) all
      → IsFirstPlan S D R (part x (drop (k + 1) xs)) o → is_some o ≡ true → IsFirstPlan S D R all o
  find_any parts xs k x all None h e decides first so = absurd (let z : false ≡ true = so in cc)
  find_any parts xs k x all (Some p) h e decides first so = find body part S D R parts xs k x all p h e decides first

  pub find_if : ArePartsOf body part → (xs : List X) (k : ℕ) (x : X) (all : List Move) (o : Option Planned) (b : Bool) → k < length xs → x ≡ get_or xs k x → Decides S D R (body (drop k xs)) all
      → IsFirstPlan S D R (part x (drop (k + 1) xs)) o → b ≡ is_some o → b ≡ true → IsFirstPlan S D R all o
  find_if parts xs k x all o b h e decides first is so = find_any parts xs k x all o h e decides first (sym is ∙ so)

  pass_any : ArePartsOf body part → (xs : List X) (k : ℕ) (x : X) (all : List Move) (o : Option Planned) → k < length xs → x ≡ get_or xs k x → Decides S D R (body (drop k xs)) all
      → IsFirstPlan S D R (part x (drop (k + 1) xs)) o → is_some o ≡ false → Decides S D R (body (drop (k + 1) xs)) all
  pass_any parts xs k x all None h e decides first none = pass body part S D R parts xs k x all h e decides first
  pass_any parts xs k x all (Some p) h e decides first none = absurd (let z : true ≡ false = none in cc)

  pub pass_if : ArePartsOf body part → (xs : List X) (k : ℕ) (x : X) (all : List Move) (o : Option Planned) (b : Bool) → k < length xs → x ≡ get_or xs k x → Decides S D R (body (drop k xs)) all
      → IsFirstPlan S D R (part x (drop (k + 1) xs)) o → b ≡ is_some o → b ≡ false → Decides S D R (body (drop (k + 1) xs)) all
  pass_if parts xs k x all o b h e decides first is none = pass_any parts xs k x all o h e decides first (sym is ∙ none)

-- the parts of each walk
pub map_parts : {X : Type 0} (move : X → Move) → ArePartsOf (map move) (λ x rest. move x ∷ [])
map_parts move = record { none = refl; more = λ x xs. refl }

pub flat_parts : {X : Type 0} (moves : X → List Move) → ArePartsOf (flat_map moves) (λ x rest. moves x)
flat_parts moves = record { none = refl; more = λ x xs. refl }

-- of a result that is fine
pub on_ok : {X E : Type 0} (r : Result X E) (P Q : X → Type 0) → ((x : X) → P x → Q x) → IfOk r P → IfOk r Q
on_ok (Ok x) P Q f h = f x h
on_ok (Err e) P Q f h = tt

-- the same answer in an equal region to equal candidates
pub moved : (S : List Point) (D : List Costed) (T R : List Sight) (ms ns : List Move) (o : Option Planned) → T ≡ R → ms ≡ ns → IsFirstPlan S D T ms o → IsFirstPlan S D R ns o
moved S D T R ms ns o same equal first =
    let P : List Move → Type 0 = λ z. IsFirstPlan S D T z o in
    let Q : List Sight → Type 0 = λ z. IsFirstPlan S D z ns o in subst Q same (subst P equal first)
