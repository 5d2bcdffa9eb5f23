-- Rows linked by the points at which they stand: one row more.
use Rattle.std.proofs.Common.{◌≡◌, ℕ, ◌+◌, ◌<◌, inl, inr, List, [], ◌∷◌, ◌++◌, length, get_or, take, set, Option, Some, None, true, false, sym, ◌∙◌, ap, subst, refl, arith, length-append}
use Rattle.std.specs.Prelude.{nat_eq, IfSome}
use Rattle.std.proofs.lemmas.Bool.{eqb-true, false≢true}
use Rattle.std.proofs.lemmas.List.{get_or_append_left, take-append-le, take_more, length-set, length-take, get_or-set_same, get_or-set_other}
use Rattle.std.proofs.Math.Seq.{get_or-append_seam, take-append_seam}
use Rattle.std.proofs.lemmas.Bool.Decides.{Decides-eqb}
use Rattle.price_defs.specs.declared.row.Row.{Row}
use Rattle.price_defs.specs.declared.row.Row.TheVariants.{Half, Three, Cross, Cap}
use Rattle.plane.specs.declared.coordinates.Point.{Point}
use Rattle.price_defs.specs.Rows.{IsRight, stand, is_at}
use Rattle.price_defs.specs.Rows.{row_at}
use Rattle.point_rows.specs.Placed.{IsLastAt, entry, at_stand, noted, IsLinked}
use Rattle.number_laws.proofs.Naturals.{below_or_last}

row_low : (rows : List Row) (row : Row) (k : ℕ) → k < length rows → row_at (rows ++ row ∷ []) k ≡ row_at rows k
row_low rows row k h = get_or_append_left rows (row ∷ []) (Three 0 0) k h

row_end : (rows : List Row) (row : Row) → row_at (rows ++ row ∷ []) (length rows) ≡ row
row_end rows row = get_or-append_seam rows row [] (Three 0 0)

-- the last row at p stays where a row is added that isn't at p
last_stays : (rows : List Row) (row : Row) (p : ℕ) (o : Option ℕ) → is_at p row ≡ false → IsLastAt rows p o → IsLastAt (rows ++ row ∷ []) p o
last_stays rows row p None never h = λ k l. elim (below_or_last k (length rows) (omega (arith, length-append rows (row ∷ [])))) [
  | inl m ↦ ap (is_at p) (row_low rows row k m) ∙ h k m
  | inr e ↦ ap (λ n. is_at p (row_at (rows ++ row ∷ []) n)) e ∙ ap (is_at p) (row_end rows row) ∙ never
]
last_stays rows row p (Some k) never (l, holds, after) = (
  omega (arith, length-append rows (row ∷ [])),
  ap (is_at p) (row_low rows row k l) ∙ holds,
  λ j kj jl. elim (below_or_last j (length rows) (omega (arith, length-append rows (row ∷ [])))) [
    | inl m ↦ ap (is_at p) (row_low rows row j m) ∙ after j kj m
    | inr e ↦ ap (λ n. is_at p (row_at (rows ++ row ∷ []) n)) e ∙ ap (is_at p) (row_end rows row) ∙ never
  ],
)

-- a row at p that is added is the last one there
last_new : (rows : List Row) (row : Row) (p : ℕ) → is_at p row ≡ true → IsLastAt (rows ++ row ∷ []) p (Some (length rows))
last_new rows row p holds = (
  omega (arith, length-append rows (row ∷ [])),
  ap (is_at p) (row_end rows row) ∙ holds,
  λ j kj jl. absurd (let l : length (rows ++ row ∷ []) ≡ length rows + 1 = length-append rows (row ∷ []) in omega arith),
)

entry_low : (list : List (Option ℕ)) (o : Option ℕ) (k : ℕ) → k < length list → entry (list ++ o ∷ []) k ≡ entry list k
entry_low list o k h = get_or_append_left list (o ∷ []) None k h

entry_end : (list : List (Option ℕ)) (o : Option ℕ) → entry (list ++ o ∷ []) (length list) ≡ o
entry_end list o = get_or-append_seam list o [] None

-- the links before the rows, with one row more
before_more : (rows : List Row) (row : Row) (before : List (Option ℕ)) (o : Option ℕ) → length before ≡ length rows
    → ((k p : ℕ) → k < length rows → is_at p (row_at rows k) ≡ true → IsLastAt (take k rows) p (entry before k))
    → ((p : ℕ) → is_at p row ≡ true → IsLastAt rows p o)
    → (k p : ℕ) → k < length (rows ++ row ∷ []) → is_at p (row_at (rows ++ row ∷ []) k) ≡ true → IsLastAt (take k (rows ++ row ∷ [])) p (entry (before ++ o ∷ []) k)
before_more rows row before o count old new k p l holds = elim (below_or_last k (length rows) (omega (arith, length-append rows (row ∷ [])))) [
  | inl m ↦
      let bm : k < length before = omega arith in
      let e : take k (rows ++ row ∷ []) ≡ take k rows = take-append-le k rows (row ∷ []) (omega arith) in
      let h : IsLastAt (take k rows) p (entry before k) = old k p m (sym (ap (is_at p) (row_low rows row k m)) ∙ holds) in
      subst (λ (o : Option ℕ). IsLastAt (take k (rows ++ row ∷ [])) p o) (sym (entry_low before o k bm)) (subst (λ (r : List Row). IsLastAt r p (entry before k)) (sym e) h)
  | inr e ↦
      let at : is_at p row ≡ true = sym (ap (λ n. is_at p (row_at (rows ++ row ∷ []) n)) e ∙ ap (is_at p) (row_end rows row)) ∙ holds in
      let whole : take k (rows ++ row ∷ []) ≡ rows = ap (λ n. take n (rows ++ row ∷ [])) e ∙ take-append_seam rows (row ∷ []) in
      let here : entry (before ++ o ∷ []) k ≡ o = ap (entry (before ++ o ∷ [])) (e ∙ sym count) ∙ entry_end before o in
      subst (λ (o : Option ℕ). IsLastAt (take k (rows ++ row ∷ [])) p o) (sym here) (subst (λ (r : List Row). IsLastAt r p o) (sym whole) (new p at))
]

-- one row more at p
linked_at : (rows : List Row) (row : Row) (p : ℕ) (last before : List (Option ℕ)) → ((r : ℕ) → is_at r row ≡ nat_eq p r) → p < length last
    → IsLinked rows last before → IsLinked (rows ++ row ∷ []) (set last p (Some (length rows))) (before ++ entry last p ∷ [])
linked_at rows row p last before is within linked = record {
  count = omega (arith, length-append rows (row ∷ []), length-append before (entry last p ∷ []), linked.count);
  ends = λ r l.
      let rl : r < length last = omega (arith, length-set last p (Some (length rows))) in
      elim (nat_eq p r) as (λ t. nat_eq p r ≡ t → IsLastAt (rows ++ row ∷ []) r (entry (set last p (Some (length rows))) r)) [
        | true ↦ λ t.
            let e : p ≡ r = eqb-true p r t in
            let here : entry (set last p (Some (length rows))) r ≡ Some (length rows) = ap (entry (set last p (Some (length rows)))) (sym e) ∙ get_or-set_same last p (Some (length rows)) None within in
            subst (λ (o : Option ℕ). IsLastAt (rows ++ row ∷ []) r o) (sym here) (last_new rows row r (is r ∙ t))
        | false ↦ λ t.
            let here : entry (set last p (Some (length rows))) r ≡ entry last r = get_or-set_other last p r (Some (length rows)) None (λ e. false≢true (sym t ∙ (Decides-eqb p r).1 (sym e))) in
            subst (λ (o : Option ℕ). IsLastAt (rows ++ row ∷ []) r o) (sym here) (last_stays rows row r (entry last r) (is r ∙ t) (linked.ends r rl))
      ] refl;
  links = before_more rows row before (entry last p) linked.count linked.links (λ r at. (
      let e : p ≡ r = eqb-true p r (sym (is r) ∙ at) in subst (λ n. IsLastAt rows n (entry last p)) e (linked.ends p within)));
}

-- one row more at no point
linked_none : (rows : List Row) (row : Row) (last before : List (Option ℕ)) → ((r : ℕ) → is_at r row ≡ false)
    → IsLinked rows last before → IsLinked (rows ++ row ∷ []) last (before ++ None ∷ [])
linked_none rows row last before never linked = record {
  count = omega (arith, length-append rows (row ∷ []), length-append before (None ∷ []), linked.count);
  ends = λ r l. last_stays rows row r (entry last r) (never r) (linked.ends r l);
  links = before_more rows row before None linked.count linked.links (λ r at. absurd (false≢true (sym (never r) ∙ at)));
}

-- a row's stand is among the places
abbrev pub IsPlaceOf : List (Option ℕ) → Option ℕ → Type 0
IsPlaceOf last None = Unit {0}
IsPlaceOf last (Some p) = p < length last

pub linked_more : (rows : List Row) (row : Row) (last before : List (Option ℕ)) → IsPlaceOf last (stand row) → IsLinked rows last before
    → IsLinked (rows ++ row ∷ []) (noted last (stand row) (length rows)) (before ++ at_stand last (stand row) ∷ [])
linked_more rows (Half p q w) last before within linked = linked_at rows (Half p q w) p last before (λ r. refl) within linked
linked_more rows (Three p w) last before within linked = linked_at rows (Three p w) p last before (λ r. refl) within linked
linked_more rows (Cross e f w) last before within linked = linked_none rows (Cross e f w) last before (λ r. refl) linked
linked_more rows (Cap e w) last before within linked = linked_none rows (Cap e w) last before (λ r. refl) linked

pub linked_nothing : (last : List (Option ℕ)) → ((p : ℕ) → p < length last → entry last p ≡ None) → IsLinked [] last []
linked_nothing last none = record {
  count = refl;
  ends = λ p l. subst (λ (o : Option ℕ). IsLastAt [] p o) (sym (none p l)) (λ k m. absurd (omega arith));
  links = λ k p l holds. absurd (omega arith);
}

-- a right row's stand is among the places
pub stand_within : (S : List Point) (row : Row) (last : List (Option ℕ)) → IsRight S row → length last ≡ length S → IsPlaceOf last (stand row)
stand_within S (Half p q w) last right len = (let h : p < length S = right.0 in omega arith)
stand_within S (Three p w) last right len = (let h : p < length S = right.0 in omega arith)
stand_within S (Cross e f w) last right len = tt
stand_within S (Cap e w) last right len = tt

pub place_if_some : (last : List (Option ℕ)) (o : Option ℕ) → IsPlaceOf last o → IfSome o (λ p. p < length last)
place_if_some last None h = tt
place_if_some last (Some p) h = h

noted_length : (last : List (Option ℕ)) (o : Option ℕ) (k : ℕ) → length (noted last o k) ≡ length last
noted_length last None k = refl
noted_length last (Some p) k = length-set last p (Some k)

-- the step of the loop over the rows
pub linked_step : (S : List Point) (rows : List Row) (k : ℕ) (row : Row) (last before newlast newbefore : List (Option ℕ)) → k < length rows → row ≡ get_or rows k row → IsPlaceOf last (stand row)
    → newlast ≡ noted last (stand row) k → newbefore ≡ before ++ at_stand last (stand row) ∷ []
    → IsLinked (take k rows) last before × (length last ≡ length S) → IsLinked (take (k + 1) rows) newlast newbefore × (length newlast ≡ length S)
linked_step S rows k row last before newlast newbefore l is place ln bn (linked, len) =
    let n : length (take k rows) ≡ k = omega (arith, length-take k rows) in
    let t : take (k + 1) rows ≡ take k rows ++ row ∷ [] = take_more rows k row l ∙ ap (λ x. take k rows ++ x ∷ []) (sym is) in
    let h : IsLinked (take k rows ++ row ∷ []) (noted last (stand row) (length (take k rows))) (before ++ at_stand last (stand row) ∷ []) = linked_more (take k rows) row last before place linked in
    let g : IsLinked (take (k + 1) rows) (noted last (stand row) k) (before ++ at_stand last (stand row) ∷ []) =
    subst (λ x. IsLinked (take (k + 1) rows) (noted last (stand row) x) (before ++ at_stand last (stand row) ∷ [])) n
    (subst (λ (x : List Row). IsLinked x (noted last (stand row) (length (take k rows))) (before ++ at_stand last (stand row) ∷ [])) (sym t) h) in (
      subst (λ (x : List (Option ℕ)). IsLinked (take (k + 1) rows) x newbefore) (sym ln) (subst (λ (x : List (Option ℕ)). IsLinked (take (k + 1) rows) (noted last (stand row) k) x) (sym bn) g),
      ap length ln ∙ noted_length last (stand row) k ∙ len,
    )
