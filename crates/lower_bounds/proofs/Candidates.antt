-- The candidates for the best certificate.
use Rattle.std.proofs.Common.{◌≡◌, ℕ, zero, suc, ◌+◌, ◌<◌, ◌≤◌, List, [], ◌∷◌, length, map, sym, ◌∙◌, ap, refl, subst, arith, Ok}
use Rattle.std.specs.Prelude.{slice_index_or, IfOk}
use Rattle.std.specs.declared.result.Result.{Result}
use Rattle.std.specs.Prelude.{Vec, Err}
use Rattle.std.specs.declared.alloc.Global.{Global}
use Rattle.std.proofs.Math.ListN.{get_or-map}
use Rattle.std.proofs.lemmas.List.{length-map}
use Rattle.plane.specs.declared.coordinates.Point.{Point}
use Rattle.cost_defs.specs.Costs.{Costed}
use Rattle.mcp_outside.specs.declared.ends.NoMemory.{NoMemory}
use Rattle.price_defs.specs.declared.row.Certificate.{Certificate}
use Rattle.price_defs.specs.declared.row.TheConstants.{MOST_DIVISOR}
use Rattle.search_defs.specs.Best.{IsPricedBy, AreCandidates}
use Rattle.lower_bounds.specs.declared.bests.Search.{Search}
use Rattle.lower_bounds.specs.Found.{IsFirst, IsWithin, IsFoundBy, AreFound}
use Rattle.lower_bounds.specs.Prices.{AreTried, CanBeValued}

-- what all tried is what all found, where all found memory
pub found_of : (S : List Point) (D : List Costed) (first : Certificate) (search : Search) (tried : List (Result Certificate NoMemory)) (found : List Certificate)
    → AreTried S D first search tried → map Ok found ≡ tried → AreFound S D first search found
found_of S D first search tried found are is = record {
  count = sym (length-map found Ok) ∙ ap (λ (xs : List (Result Certificate NoMemory)). length xs) is ∙ are.count;
  each = λ k d low.
      (let at : slice_index_or tried k (Ok d) ≡ Ok (slice_index_or found k d) = ap (λ (xs : List (Result Certificate NoMemory)). slice_index_or xs k (Ok d)) (sym is) ∙ get_or-map Ok found k d in
      subst (λ (r : Result Certificate NoMemory). IfOk r (IsFoundBy S D first search (1 + k))) at (are.each k (Ok d) low));
}

pub found_if : (S : List Point) (D : List Costed) (first : Certificate) (search : Search) (tried : List (Result Certificate NoMemory)) (r : Result (Vec Certificate Global) NoMemory)
    → AreTried S D first search tried → IfOk r (λ list. map Ok list.items ≡ tried) → IfOk r (λ list. AreFound S D first search list.items)
found_if S D first search tried (Ok list) are is = found_of S D first search tried list.items are is
found_if S D first search tried (Err fault) are is = tt

-- what is known on the way to the best certificate
pub record AreKnown (S : List Point) (D : List Costed) (first : Certificate) (search : Search) (list : List Certificate) : Type 0 where
  pub found : List Certificate
  pub is : list ≡ first ∷ found
  pub first_is : IsFirst S D first
  pub found_are : AreFound S D first search found

-- what the worker after so many found stands in the list
found_at : (S : List Point) (D : List Costed) (first : Certificate) (search : Search) (list : List Certificate) (k : ℕ) (d : Certificate)
    → AreKnown S D first search list → k < search.workers → IsFoundBy S D first search (1 + k) (slice_index_or list (suc k) d)
found_at S D first search list k d known low =
    subst (λ (xs : List Certificate). IsFoundBy S D first search (1 + k) (slice_index_or xs (suc k) d)) (sym known.is) (known.found_are.each k d low)

pub list_count : (S : List Point) (D : List Costed) (first : Certificate) (search : Search) (list : List Certificate)
    → AreKnown S D first search list → length list ≡ search.workers + 1
list_count S D first search list known =
    let a : length list ≡ suc (length known.found) = ap (λ (xs : List Certificate). length xs) known.is in
    let n : length known.found ≡ search.workers = known.found_are.count in
    omega (arith, a, n)

first_at : (S : List Point) (D : List Costed) (first : Certificate) (search : Search) (list : List Certificate) (d : Certificate)
    → AreKnown S D first search list → slice_index_or list 0 d ≡ first
first_at S D first search list d known = ap (λ (xs : List Certificate). slice_index_or xs 0 d) known.is

-- these are the candidates
pub candidates_are : (S : List Point) (D : List Costed) (first : Certificate) (search : Search) (list : List Certificate)
    → AreKnown S D first search list → AreCandidates S D search.workers search.rounds search.seed list
candidates_are S D first search list known = record {
  raised = first;
  floor = known.first_is.raised;
  count = list_count S D first search list known;
  first = first_at S D first search list first known;
  others = others;
}
  where
    others : (b : ℕ) → 0 < b → b ≤ search.workers → IsPricedBy S D first search.rounds search.seed (100 + b) (slice_index_or list b first)
    others zero some low = absurd (omega arith)
    others (suc k) some low =
        let f : IsFoundBy S D first search (1 + k) (slice_index_or list (suc k) first) = found_at S D first search list k first known (omega arith) in
        let e : 100 + (1 + k) ≡ 100 + suc k = omega arith in
        subst (λ (n : ℕ). IsPricedBy S D first search.rounds search.seed n (slice_index_or list (suc k) first)) e f.priced

-- and each can be valued, and is within the limits
pub candidates_fit : (S : List Point) (D : List Costed) (first : Certificate) (search : Search) (list : List Certificate) (k : ℕ) (d : Certificate)
    → AreKnown S D first search list → k < length list → CanBeValued (slice_index_or list k d) × IsWithin (slice_index_or list k d)
candidates_fit S D first search list zero d known low =
    subst (λ (c : Certificate). CanBeValued c × IsWithin c) (sym (first_at S D first search list d known))
    (let f : IsFirst S D first = known.first_is in let two : first.q ≡ 2 = f.divisor in
    (record { divisor = f.valid.divisor; few = f.valid.count; light = f.light }, record { divisor = subst (λ (q : ℕ). q ≤ MOST_DIVISOR) (sym two) (omega arith); light = f.light }))
candidates_fit S D first search list (suc k) d known low =
    let n : length list ≡ search.workers + 1 = list_count S D first search list known in
    let f : IsFoundBy S D first search (1 + k) (slice_index_or list (suc k) d) = found_at S D first search list k d known (omega arith) in
    (record { divisor = f.valid.divisor; few = f.valid.count; light = f.within.light }, f.within)
