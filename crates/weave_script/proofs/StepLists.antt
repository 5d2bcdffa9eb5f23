-- The reading of steps.
use Rattle.std.proofs.Common.{◌≡◌, ◌≢◌, ℕ, ◌+◌, ◌<◌, ◌≤◌, List, [], ◌∷◌, ◌++◌, map, length, take, get_or, not, nat_le, Option, Some, None, is_some, Result, Ok, Err, Bool, true, false, inl, inr, refl, sym, ap, ◌∙◌, subst, arith}
use Rattle.std.specs.List.{filter_map}
use Rattle.std.proofs.lemmas.List.{length-map, map-append, take_more, take_all}
use Rattle.serde_json.specs.Data.{Data, null}
use Rattle.serde_json.specs.Find.{as_array}
use Rattle.serde_json.specs.View.{view, items_view}
use Rattle.serde_json.specs.declared.value.Value.{Value}
use Rattle.text_defs.specs.Items.{each_or_fault}
use Rattle.text_defs.proofs.laws.Lists.{list_of-items_of}
use Rattle.json_text.proofs.Laws.{NoneBefore, view-at, position-item, position-no_item, filter_map-push}
use Rattle.weave.specs.declared.step.Step.{Step}
use Rattle.weave_script.specs.declared.script.ScriptFault.{ScriptFault}
use Rattle.weave_script.specs.declared.script.ScriptFault.TheVariants.{TooManySteps, BadStep}
use Rattle.weave_script.specs.Reading.{step_in, step_of, step_items}
use Rattle.weave_script.specs.Scripts.{step_item}
use Rattle.weave_script.specs.Told.{IsOfSteps, IsOr, Answers, tell_steps}

step_in-other : (n : ℕ) (ds : List Data) → length ds ≢ 3 → step_in n ds ≡ None
step_in-other n [] h = refl
step_in-other n (a ∷ []) h = refl
step_in-other n (a ∷ b ∷ []) h = refl
step_in-other n (a ∷ b ∷ c ∷ []) h = absurd (h refl)
step_in-other n (a ∷ b ∷ c ∷ d ∷ more) h = refl

-- an array of another length is no step
pub step_of-other : (n : ℕ) (d : Data) (vs : List Value) → Some (items_view vs) ≡ as_array d → length vs ≢ 3 → None ≡ step_of n d
step_of-other n d vs h k = rw (← h, list_of-items_of (map view vs)) (sym (step_in-other n (map view vs) (λ e. k (sym (length-map vs view) ∙ e))))

-- ---- too many steps, and others

step_items-few : (n : ℕ) (vs : List Value) → length vs ≤ 100000 → step_items n (map view vs) ≡ each_or_fault (step_of n) BadStep (map view vs)
step_items-few n vs h =
    let count = length-map vs view in
    let few : nat_le (length (map view vs)) 100000 ≡ true = grind (arith, count) in
    rw few refl

-- too many steps are answered so
pub many_answer : (n : ℕ) (vs : List Value) (fault : ScriptFault) → 100000 < length vs → IsOr (TooManySteps (length vs)) fault → Answers tell_steps (step_items n (map view vs)) (Err fault)
many_answer n vs fault many (inl m) = inl m
many_answer n vs fault many (inr is) =
    let count = length-map vs view in
    let more : nat_le (length (map view vs)) 100000 ≡ false = grind (arith, count) in
    let refused : step_items n (map view vs) ≡ Err (TooManySteps (length vs)) = rw more (ap (λ c. Err (TooManySteps c)) count) in
    inr (subst IsOfSteps (sym is) tt, refused ∙ ap (λ (f : ScriptFault). Err f) (sym is))

-- ---- one item after the other

abbrev pub is_no_step : ℕ → Data → Bool
is_no_step n d = not (is_some (step_of n d))

pub bad_step : (n : ℕ) (vs : List Value) (k : ℕ) (v : Value) → length vs ≤ 100000 → k < length vs → v ≡ get_or vs k v → NoneBefore (is_no_step n) (map view vs) k → None ≡ step_of n (view v)
    → step_items n (map view vs) ≡ Err (BadStep k)
bad_step n vs k v few h e b q =
    let at = position-item (is_no_step n) vs k v h e b (ap (λ o. not (is_some o)) (sym q)) in
    step_items-few n vs few ∙ rw at refl

pub is_step : (n : ℕ) (d : Data) (s : Step) → Some (step_item s) ≡ step_of n d → is_no_step n d ≡ false
is_step n d s q = ap (λ o. not (is_some o)) (sym q)

pub one_more : (n : ℕ) (xs : List Step) (s : Step) (vs : List Value) (k : ℕ) (v : Value) → k < length vs → v ≡ get_or vs k v
    → map step_item xs ≡ filter_map (step_of n) (take k (map view vs)) → Some (step_item s) ≡ step_of n (view v)
    → map step_item (xs ++ s ∷ []) ≡ filter_map (step_of n) (take (k + 1) (map view vs))
one_more n xs s vs k v h e so q =
    let next : take (k + 1) (map view vs) ≡ take k (map view vs) ++ view v ∷ [] =
    take_more (map view vs) k null (rw (length-map vs view) h) ∙ ap (λ d. take k (map view vs) ++ d ∷ []) (view-at vs k v h e) in
    map-append step_item xs (s ∷ []) ∙ (ap (λ ys. ys ++ step_item s ∷ []) so
    ∙ (sym (filter_map-push (step_of n) (take k (map view vs)) (view v) (step_item s) (sym q)) ∙ ap (filter_map (step_of n)) (sym next)))

pub all_steps : (n : ℕ) (xs : List Step) (vs : List Value) (k : ℕ) → length vs ≤ 100000 → length vs ≤ k → NoneBefore (is_no_step n) (map view vs) k
    → map step_item xs ≡ filter_map (step_of n) (take k (map view vs)) → step_items n (map view vs) ≡ Ok (map step_item xs)
all_steps n xs vs k few h b so =
    let none = position-no_item (is_no_step n) vs k h b in
    let count : length (map view vs) ≤ k = let e = length-map vs view in omega (arith, e) in
    step_items-few n vs few ∙ rw none (ap (λ ds. Ok (filter_map (step_of n) ds)) (sym (take_all k (map view vs) count)) ∙ ap Ok (sym so))
