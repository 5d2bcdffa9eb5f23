use Rattle.std.proofs.Common.{◌≡◌, ℕ, ◌+◌, ◌<◌, List, ◌∷◌, length, sym, ◌∙◌, ap, subst, arith}
use Rattle.std.specs.Prelude.{slice_index_or}
use Rattle.std.specs.List.{IsFirstMaxByKey}
use Rattle.price_defs.specs.declared.row.Certificate.{Certificate}
use Rattle.price_defs.specs.Loads.{value}
use Rattle.lower_bounds.specs.Found.{IsWithin}
use Rattle.lower_bounds.specs.Prices.{CanBeValued}
use Rattle.lower_bounds.proofs.Candidates.{AreKnown, list_count, candidates_are, candidates_fit}
use Rattle.lower_bounds.proofs.bests.best.Goals as goal

pub best_place-place-requires-clause-fit : goal.best_place-place-requires-clause-fit
best_place-place-requires-clause-fit c = λ k d low.
    let known : AreKnown c.args.points.now c.args.costs.now c.args.first c.args.search c.deref.result.now =
    record { found = c.args.found.items; is = c.deref.ensures.value ∙ c.in_ok-insert.ensures.items; first_is = c.requires.first; found_are = c.requires.found } in
    (candidates_fit c.args.points.now c.args.costs.now c.args.first c.args.search c.deref.result.now k d known low).0

pub returns-clause-best : goal.returns-clause-best
returns-clause-best c =
    let list : List Certificate = c.deref.result.now in
    let known : AreKnown c.args.points.now c.args.costs.now c.args.first c.args.search list =
    record { found = c.args.found.items; is = c.deref.ensures.value ∙ c.in_ok-insert.ensures.items; first_is = c.requires.first; found_are = c.requires.found } in
    let n : length list ≡ c.args.search.workers + 1 = list_count c.args.points.now c.args.costs.now c.args.first c.args.search list known in (
      list,
      c.best_place-place.result,
      candidates_are c.args.points.now c.args.costs.now c.args.first c.args.search list known,
      subst (λ (i : ℕ). IsFirstMaxByKey (λ (c : Certificate). value 0 c.q c.rows) list i c.best_place-place.result) n c.best_place-place.ensures,
      ap (λ (xs : List Certificate). slice_index_or xs c.best_place-place.result c.swap_remove.result) c.deref.ensures.value ∙ sym c.swap_remove.ensures.value,
    )

pub returns-clause-within : goal.returns-clause-within
returns-clause-within c =
    let known : AreKnown c.args.points.now c.args.costs.now c.args.first c.args.search c.deref.result.now =
    record { found = c.args.found.items; is = c.deref.ensures.value ∙ c.in_ok-insert.ensures.items; first_is = c.requires.first; found_are = c.requires.found } in
    subst IsWithin (ap (λ (xs : List Certificate). slice_index_or xs c.best_place-place.result c.swap_remove.result) c.deref.ensures.value ∙ sym c.swap_remove.ensures.value)
    (candidates_fit c.args.points.now c.args.costs.now c.args.first c.args.search c.deref.result.now c.best_place-place.result c.swap_remove.result known c.best_place-place.ensures.0).1

pub returns-clause-valued : goal.returns-clause-valued
returns-clause-valued c =
    let known : AreKnown c.args.points.now c.args.costs.now c.args.first c.args.search c.deref.result.now =
    record { found = c.args.found.items; is = c.deref.ensures.value ∙ c.in_ok-insert.ensures.items; first_is = c.requires.first; found_are = c.requires.found } in
    subst CanBeValued (ap (λ (xs : List Certificate). slice_index_or xs c.best_place-place.result c.swap_remove.result) c.deref.ensures.value ∙ sym c.swap_remove.ensures.value)
    (candidates_fit c.args.points.now c.args.costs.now c.args.first c.args.search c.deref.result.now c.best_place-place.result c.swap_remove.result known c.best_place-place.ensures.0).0
