-- How the answer to a value follows from the answers to its parts.
use Rattle.std.proofs.Common.{◌≡◌, ℕ, ◌<◌, List, length, map, Option, Some, None, Result, Ok, Err, Bool, true, false, Vec, Global, vec_len, MatchResult, IfOk, codes, refl, sym, ap, ◌∙◌, subst, arith, ℤ}
use Rattle.std.proofs.lemmas.List.{length-map}
use Rattle.std.proofs.lemmas.List.FromFn.{length-map-range_with_len}
use Rattle.serde_json.specs.Data.{Data}
use Rattle.serde_json.specs.View.{view, items_view}
use Rattle.serde_json.specs.declared.value.Value.{Value}
use Rattle.plane.specs.declared.coordinates.Point.{Point}
use Rattle.text_defs.specs.Steps.{◌>>=◌, unless}
use Rattle.text_defs.specs.Fields.{array_at}
use Rattle.text_defs.specs.Costs.{CostItem, CostFault, costs_in}
use Rattle.text_defs.proofs.laws.Lists.{list_of-items_of}
use Rattle.text_defs.specs.Instances.{Parts, Fault, no_points, name_in, points_in, instance_in, points_fault, points_of, point_of, item_of_index, is_indexed}
use Rattle.instance_io.specs.Refusal.{HasFault, GivesPoints, coordinates}
use Rattle.instance_io.specs.Told.{Tells, error}
use Rattle.instance_io.specs.declared.instances.InstanceFault.{InstanceFault}
use Rattle.instance_io.specs.declared.instances.InstanceFault.TheVariants.{NotJson, NoName, LongName, NoPoints, BadPoint, NotWhole, MixedIndex, BadIndex, Bad, BadCosts, TooManyCosts, BadCost, NoMemory}

pub carry : (f : InstanceFault) (o p : Option Fault) → ((x : Fault) → o ≡ Some x → p ≡ Some x) → Tells f o → Tells f p
carry NotJson o p g h = g _ h
carry NoName o p g h = g _ h
carry (LongName l) o p g h = g _ h
carry NoPoints o p g h = g _ h
carry (BadPoint k) o p g h = g _ h
carry (NotWhole k) o p g h = g _ h
carry (MixedIndex k) o p g h = g _ h
carry (BadIndex k) o p g h = g _ h
carry (Bad b) o p g h = h
carry BadCosts o p g h = h
carry (TooManyCosts k) o p g h = h
carry (BadCost k) o p g h = h
carry NoMemory o p g h = h

erred : {A : Type 0} (r : Result A Fault) (x : Fault) → error r ≡ Some x → r ≡ Err x
erred (Ok a) x h = absurd (grind arith)
erred (Err y) x h = grind arith

pub told : (r : Result Parts Fault) (f : InstanceFault) → Tells f (error r) → HasFault r f
told r NotJson h = erred r _ h
told r NoName h = erred r _ h
told r (LongName l) h = erred r _ h
told r NoPoints h = erred r _ h
told r (BadPoint k) h = erred r _ h
told r (NotWhole k) h = erred r _ h
told r (MixedIndex k) h = erred r _ h
told r (BadIndex k) h = erred r _ h
told r (Bad b) h = absurd h
told r BadCosts h = absurd h
told r (TooManyCosts k) h = absurd h
told r (BadCost k) h = absurd h
told r NoMemory h = tt

error_first : {A B : Type 0} (r : Result A Fault) (next : A → Result B Fault) (x : Fault) → error r ≡ Some x → error (r >>= next) ≡ Some x
error_first (Ok a) next x h = absurd (grind arith)
error_first (Err y) next x h = h

-- ---- the points

pub no_array : (d : Data) → None ≡ array_at (codes "points") d → error (points_in d) ≡ Some no_points
unfolding points_in
no_array d h = rw (← h) refl

of_array : (d : Data) (vs : List Value) → Some (items_view vs) ≡ array_at (codes "points") d → points_in d ≡ unless (points_fault (map view vs)) (points_of (map view vs))
unfolding points_in
of_array d vs h = rw (← h, list_of-items_of (map view vs)) refl

error_unless : {A : Type 0} (o : Option Fault) (a : A) → error (unless o a) ≡ o
error_unless None a = refl
error_unless (Some x) a = refl

pub points_answer : (d : Data) (vs : List Value) (r : Result (Vec Point Global) InstanceFault) → Some (items_view vs) ≡ array_at (codes "points") d
    → MatchResult r (λ v. (points_fault (map view vs) ≡ None) × (map coordinates v.items ≡ points_of (map view vs))) (λ f. Tells f (points_fault (map view vs)))
    → MatchResult r (λ v. points_in d ≡ Ok (map coordinates v.items)) (λ f. Tells f (error (points_in d)))
points_answer d vs (Ok v) a h = of_array d vs a ∙ rw (h.0, h.1) refl
points_answer d vs (Err f) a h = subst (λ o. Tells f o) (sym (ap error (of_array d vs a) ∙ error_unless (points_fault (map view vs)) (points_of (map view vs)))) h

count_cases : (ds : List Data) (b : Bool) → is_indexed ds ≡ b → length (points_of ds) ≡ length ds
count_cases ds true e = rw e (length-map-range_with_len (λ i. point_of (item_of_index ds i)) 0 (length ds))
count_cases ds false e = rw e (length-map ds point_of)

pub points_short : (vs : List Value) (r : Result (Vec Point Global) InstanceFault) → length vs < 4294967296
    → MatchResult r (λ v. (points_fault (map view vs) ≡ None) × (map coordinates v.items ≡ points_of (map view vs))) (λ f. Tells f (points_fault (map view vs)))
    → IfOk r (λ v. vec_len v < 4294967296)
points_short vs (Ok v) l h =
    let a = length-map v.items coordinates in
    let b = count_cases (map view vs) (is_indexed (map view vs)) refl in
    let e = length-map vs view in
    let q = ap length h.1 in
    omega (arith, a, b, e, q, v.ok)
points_short vs (Err f) l h = tt

-- ---- the instance

pub name_fails : (d : Data) (f : InstanceFault) → Tells f (error (name_in d)) → Tells f (error (instance_in d))
unfolding instance_in
name_fails d f h = carry f _ _ (λ x e. error_first (name_in d) _ x e) h

pub points_fail : (d : Data) (name : List ℕ) (f : InstanceFault) → name_in d ≡ Ok name → Tells f (error (points_in d)) → Tells f (error (instance_in d))
unfolding instance_in
points_fail d name f n h = carry f _ _ (λ x e. rw n (error_first (points_in d) _ x e)) h

pub by_name : (d : Data) (f : InstanceFault) → Tells f (error (name_in d)) → HasFault (instance_in d) f
by_name d f h = told (instance_in d) f (name_fails d f h)

pub by_points : (d : Data) (name : List ℕ) (f : InstanceFault) → name_in d ≡ Ok name → Tells f (error (points_in d)) → HasFault (instance_in d) f
by_points d name f n h = told (instance_in d) f (points_fail d name f n h)

pub gives : (d : Data) (name : List ℕ) (points : List (ℤ × ℤ)) (n : ℕ) → name_in d ≡ Ok name → points_in d ≡ Ok points → n ≡ length points → instance_in d ≡ Ok (name, points, costs_in n d)
unfolding instance_in
gives d name points n p q e = rw (p, q, e) refl

-- the same, of points, and of what the costs are read as
pub gives_points : (d : Data) (name : List ℕ) (S T : List Point) (n : ℕ) (costs : Result (List CostItem) CostFault) → name_in d ≡ Ok name → points_in d ≡ Ok (map coordinates S) → T ≡ S → n ≡ length T → costs_in n d ≡ costs
    → GivesPoints (instance_in d) name T costs
gives_points d name S T n costs p q e l k =
    gives d name (map coordinates S) n p q (l ∙ (ap length e ∙ sym (length-map S coordinates)))
    ∙ (ap (λ (U : List Point). Ok (name, map coordinates U, costs_in n d)) (sym e) ∙ ap (λ c. Ok (name, map coordinates T, c)) k)
