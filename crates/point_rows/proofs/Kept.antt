-- A row with another weight is linked as before.
use Rattle.std.proofs.Common.{◌≡◌, ℕ, ◌<◌, ◌≤◌, inl, inr, List, length, take, set, Option, Some, None, sym, ◌∙◌, ap, refl, arith}
use Rattle.std.proofs.lemmas.Bool.{cases_lt}
use Rattle.std.proofs.lemmas.List.{length-set, length-take, get_or-take, get_or-set_same, get_or-set_other}
use Rattle.std.proofs.lemmas.List.Sums.{sum_by-set}
use Rattle.std.proofs.lemmas.List.Elements.{All-set, All-contains, Contains-get_or}
use Rattle.plane.specs.declared.coordinates.Point.{Point}
use Rattle.plane.specs.declared.segment.Pair.{Pair}
use Rattle.price_defs.specs.declared.row.Row.{Row}
use Rattle.price_defs.specs.declared.row.Row.TheVariants.{Half, Three, Cross, Cap}
use Rattle.price_defs.specs.Rows.{IsRight, is_at, weight, lessens}
use Rattle.price_defs.specs.Tight.{IsAtPoint}
use Rattle.price_defs.specs.Loads.{lessened}
use Rattle.price_defs.specs.Raising.{reweigh}
use Rattle.price_defs.specs.Rows.{row_at}
use Rattle.point_rows.specs.Placed.{IsLastAt, entry, IsLinked, IsKept}
use Rattle.price_defs.proofs.laws.Reweighed.{weight_reweigh, right_reweigh}

last_same : (rows new : List Row) (p : ℕ) (o : Option ℕ) → length new ≡ length rows → ((j : ℕ) → j < length rows → is_at p (row_at new j) ≡ is_at p (row_at rows j)) → IsLastAt rows p o → IsLastAt new p o
last_same rows new p None len same last = λ k l. (let m : k < length rows = omega arith in same k m ∙ last k m)
last_same rows new p (Some k) len same (l, here, after) = (omega arith, same k l ∙ here, λ j kj jl. (let m : j < length rows = omega arith in same j m ∙ after j kj m))

at_reweigh : (p : ℕ) (row : Row) (w : ℕ) → is_at p (reweigh row w) ≡ is_at p row
at_reweigh p (Half u q v) w = refl
at_reweigh p (Three u v) w = refl
at_reweigh p (Cross e f v) w = refl
at_reweigh p (Cap e v) w = refl

takes_nothing : (row : Row) (i j : ℕ) → IsAtPoint row → lessened i j row ≡ 0
unfolding lessens
takes_nothing (Half p q w) i j h = refl
takes_nothing (Three p w) i j h = refl
takes_nothing (Cross e f w) i j h = absurd h
takes_nothing (Cap e w) i j h = absurd h

still_at_point : (row : Row) (w : ℕ) → IsAtPoint row → IsAtPoint (reweigh row w)
still_at_point (Half p q v) w h = tt
still_at_point (Three p v) w h = tt
still_at_point (Cross e f v) w h = absurd h
still_at_point (Cap e v) w h = absurd h

-- the rows stand where they stood
same_stand : (rows : List Row) (k w p j : ℕ) → k < length rows → is_at p (row_at (set rows k (reweigh (row_at rows k) w)) j) ≡ is_at p (row_at rows j)
same_stand rows k w p j l = elim (cases_lt j k) [
  | inl h ↦ ap (is_at p) (get_or-set_other rows k j (reweigh (row_at rows k) w) (Three 0 0) (λ e. absurd (omega arith)))
  | inr g ↦ elim (cases_lt k j) [
    | inl h ↦ ap (is_at p) (get_or-set_other rows k j (reweigh (row_at rows k) w) (Three 0 0) (λ e. absurd (omega arith)))
    | inr m ↦
        let e : j ≡ k = omega arith in
        ap (λ n. is_at p (row_at (set rows k (reweigh (row_at rows k) w)) n)) e ∙ ap (is_at p) (get_or-set_same rows k (reweigh (row_at rows k) w) (Three 0 0) l)
        ∙ at_reweigh p (row_at rows k) w ∙ sym (ap (λ n. is_at p (row_at rows n)) e)
  ]
]

linked_set : (rows : List Row) (last before : List (Option ℕ)) (k w : ℕ) → k < length rows → IsLinked rows last before → IsLinked (set rows k (reweigh (row_at rows k) w)) last before
linked_set rows last before k w l linked = record {
  count = linked.count ∙ sym (length-set rows k (reweigh (row_at rows k) w));
  ends = λ p pl. last_same rows (set rows k (reweigh (row_at rows k) w)) p (entry last p) (length-set rows k (reweigh (row_at rows k) w)) (λ j jl. same_stand rows k w p j l) (linked.ends p pl);
  links = λ m p ml at.
      let new : List Row = set rows k (reweigh (row_at rows k) w) in
      let mr : m < length rows = omega (arith, length-set rows k (reweigh (row_at rows k) w)) in
      last_same (take m rows) (take m (set rows k (reweigh (row_at rows k) w))) p (entry before m)
      (omega (arith, length-take m rows, length-take m (set rows k (reweigh (row_at rows k) w)), length-set rows k (reweigh (row_at rows k) w)))
      (λ j jl. (let jm : j < m = omega (arith, length-take m rows) in
      ap (is_at p) (get_or-take m (set rows k (reweigh (row_at rows k) w)) j (Three 0 0) jm) ∙ same_stand rows k w p j l ∙ sym (ap (is_at p) (get_or-take m rows j (Three 0 0) jm))))
      (linked.links m p mr (sym (same_stand rows k w p m l) ∙ at));
}

pub kept_set : (S : List Point) (rows : List Row) (last before : List (Option ℕ)) (T : List (Pair × ℕ)) (k w : ℕ) → k < length rows → IsAtPoint (row_at rows k) → w ≤ 1000000000000
    → IsKept S rows last before T → IsKept S (set rows k (reweigh (row_at rows k) w)) last before T
kept_set S rows last before T k w l at_point light kept = record {
  right = All-set (IsRight S) rows k (reweigh (row_at rows k) w) (right_reweigh S (row_at rows k) w (All-contains (IsRight S) rows (row_at rows k) kept.right (Contains-get_or rows k (Three 0 0) l))) kept.right;
  few = omega (arith, length-set rows k (reweigh (row_at rows k) w), kept.few);
  light = All-set (λ row. weight row ≤ 1000000000000) rows k (reweigh (row_at rows k) w) (omega (arith, weight_reweigh (row_at rows k) w)) kept.light;
  linked = linked_set rows last before k w l kept.linked;
  points = kept.points;
  takers = λ i j. omega (
    arith,
    kept.takers i j,
    sum_by-set (lessened i j) rows k (reweigh (row_at rows k) w) (Three 0 0) l,
    takes_nothing (row_at rows k) i j at_point,
    takes_nothing (reweigh (row_at rows k) w) i j (still_at_point (row_at rows k) w at_point),
  );
}
