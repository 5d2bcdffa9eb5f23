-- What an insert, a removal and a mark change of who is a neighbour and who is kept.
use Rattle.std.proofs.Common.{◌≡◌, ◌≢◌, ℕ, ◌+◌, ◌-◌, ◌<◌, ◌≤◌, Bool, true, false, List, length, set, insert, remove, ◌⊎◌, inl, inr, ◌↔◌, arith, sym, ◌∙◌, ap, subst, get_or-set_other, get_or-set_same, length-set, refl, Some}
use Rattle.std.proofs.lemmas.Bool.{false≢true, cases_lt}
use Rattle.std.proofs.lemmas.List.Edits.{length-insert, get_or-insert_below, get_or-insert_at, get_or-insert_above, length-remove, get_or-remove_below, get_or-remove_above}
use Rattle.plane.specs.declared.coordinates.Point.{Point}
use Rattle.plane.specs.Geometry.{point}
use Rattle.star.specs.Turn.{IsBeforeInTurn}
use Rattle.star.specs.Stars.{Seen, entry, IsOrderly, IsStar, IsNeighbour, HasMark, StandsAt, IsNext, around, Marks, Gains, Loses}
use Rattle.number_laws.proofs.Naturals.{equal_or_not}
use Rattle.star.proofs.Listed.{place_of, below, here, above}
use Rattle.star.proofs.laws.Turning.{never_before_itself}

-- what the entries are after an insert
inserted_entry : (list : List (ℕ × Bool)) (k q j : ℕ) → k ≤ length list → j < length list → (i : ℕ) × (i < length list + 1) × (entry (insert list k (q, false)) i ≡ entry list j)
inserted_entry list k q j hk hj = elim (cases_lt j k) [
  | inl h ↦ (j, omega arith, get_or-insert_below list k (q, false) (0, false) j h hk)
  | inr h ↦ (j + 1, omega arith, get_or-insert_above list k (q, false) (0, false) j h hk)
]

old_entry : (list : List (ℕ × Bool)) (k q i : ℕ) → k ≤ length list → i < length list + 1 → ((j : ℕ) × (j < length list) × (entry (insert list k (q, false)) i ≡ entry list j)) ⊎ (entry (insert list k (q, false)) i ≡ (q, false))
old_entry list k q i hk hi = elim (place_of k i) [
  | below h ↦ inl (i, omega arith, get_or-insert_below list k (q, false) (0, false) i h hk)
  | here h ↦ inr (ap (λ m. entry (insert list k (q, false)) m) h ∙ get_or-insert_at list k (q, false) (0, false) hk)
  | above j h e ↦ inl (j, omega arith, ap (λ m. entry (insert list k (q, false)) m) e ∙ get_or-insert_above list k (q, false) (0, false) j h hk)
]

pub gains_neighbour : (old new : Seen) (q : ℕ) → Gains old new q → (u : ℕ) → IsNeighbour new u ↔ (IsNeighbour old u ⊎ (u ≡ q))
gains_neighbour old new q (k, hk, is) u = (to, from)
  where
    len : length new.list ≡ length old.list + 1
    len = ap length is ∙ length-insert old.list k (q, false) hk

    to : IsNeighbour new u → IsNeighbour old u ⊎ (u ≡ q)
    to (i, (hi, at)) =
        let here_too : entry (insert old.list k (q, false)) i ≡ entry new.list i = ap (λ xs. entry xs i) (sym is) in
        elim (old_entry old.list k q i hk (omega (arith, len))) [
          | inl (j, hj, e) ↦ inl (j, (hj, ap (λ (p : ℕ × Bool). p.0) (sym e ∙ here_too) ∙ at))
          | inr e ↦ inr (sym at ∙ ap (λ (p : ℕ × Bool). p.0) (sym here_too ∙ e))
        ]

    from : IsNeighbour old u ⊎ (u ≡ q) → IsNeighbour new u
    from (inl (j, (hj, at))) =
        let (i, hi, e) = inserted_entry old.list k q j hk hj in
        (i, (omega (arith, len), ap (λ xs. (entry xs i).0) is ∙ ap (λ (p : ℕ × Bool). p.0) e ∙ at))
    from (inr h) = (k, (omega (arith, len), ap (λ xs. (entry xs k).0) is ∙ ap (λ (p : ℕ × Bool). p.0) (get_or-insert_at old.list k (q, false) (0, false) hk) ∙ sym h))

pub gains_mark : (old new : Seen) (q : ℕ) → Gains old new q → (u : ℕ) → HasMark new u true ↔ HasMark old u true
gains_mark old new q (k, hk, is) u = (to, from)
  where
    len : length new.list ≡ length old.list + 1
    len = ap length is ∙ length-insert old.list k (q, false) hk

    to : HasMark new u true → HasMark old u true
    to (i, hi, at) =
        let here_too : entry (insert old.list k (q, false)) i ≡ entry new.list i = ap (λ xs. entry xs i) (sym is) in
        elim (old_entry old.list k q i hk (omega (arith, len))) [
          | inl (j, hj, e) ↦ (j, hj, sym e ∙ here_too ∙ at)
          | inr e ↦ absurd (false≢true (ap (λ (p : ℕ × Bool). p.1) (sym e ∙ here_too ∙ at)))
        ]

    from : HasMark old u true → HasMark new u true
    from (j, hj, at) =
        let (i, hi, e) = inserted_entry old.list k q j hk hj in
        (i, omega (arith, len), ap (λ xs. entry xs i) is ∙ e ∙ at)

-- the new neighbour isn't kept
pub gains_spare : (old new : Seen) (q : ℕ) → Gains old new q → HasMark new q false
gains_spare old new q (k, hk, is) = (k, omega (arith, ap length is ∙ length-insert old.list k (q, false) hk), ap (λ xs. entry xs k) is ∙ get_or-insert_at old.list k (q, false) (0, false) hk)

-- a mark leaves the names
marked_entry : (list : List (ℕ × Bool)) (k q j : ℕ) (b : Bool) → k < length list → (entry list k).0 ≡ q → (entry (set list k (q, b)) j).0 ≡ (entry list j).0
marked_entry list k q j b hk at = elim (equal_or_not j k) [
  | inl e ↦ ap (λ i. (entry (set list k (q, b)) i).0) e ∙ ap (λ (p : ℕ × Bool). p.0) (get_or-set_same list k (q, b) (0, false) hk) ∙ sym at ∙ ap (λ i. (entry list i).0) (sym e)
  | inr ne ↦ ap (λ (p : ℕ × Bool). p.0) (get_or-set_other list k j (q, b) (0, false) ne)
]

pub marks_neighbour : (old new : Seen) (q : ℕ) (b : Bool) → Marks old new q b → (u : ℕ) → IsNeighbour new u ↔ IsNeighbour old u
marks_neighbour old new q b (k, stands, is) u =
    let list_is : new.list ≡ set old.list k (q, b) = ap (λ (s : Seen). s.list) is in
    let len : length new.list ≡ length old.list = ap length list_is ∙ length-set old.list k (q, b) in
    let named : (j : ℕ) → (entry new.list j).0 ≡ (entry old.list j).0 = λ j. ap (λ xs. (entry xs j).0) list_is ∙ marked_entry old.list k q j b stands.0 stands.1 in
    (λ n. (n.0, (omega (arith, n.1.0, len), sym (named n.0) ∙ n.1.1)), λ n. (n.0, (omega (arith, n.1.0, len), named n.0 ∙ n.1.1)))

pub keeps_mark : (old new : Seen) (q : ℕ) → Marks old new q true → (u : ℕ) → HasMark new u true ↔ (HasMark old u true ⊎ (u ≡ q))
keeps_mark old new q (k, stands, is) u = (to, from)
  where
    list_is : new.list ≡ set old.list k (q, true)
    list_is = ap (λ (s : Seen). s.list) is

    len : length new.list ≡ length old.list
    len = ap length list_is ∙ length-set old.list k (q, true)

    to : HasMark new u true → HasMark old u true ⊎ (u ≡ q)
    to (j, hj, at) = elim (equal_or_not j k) [
      | inl e ↦ inr (ap (λ (p : ℕ × Bool). p.0) (sym at ∙ ap (λ xs. entry xs j) list_is ∙ ap (λ i. entry (set old.list k (q, true)) i) e ∙ get_or-set_same old.list k (q, true) (0, false) stands.0))
      | inr ne ↦ inl (j, omega (arith, len), sym (get_or-set_other old.list k j (q, true) (0, false) ne) ∙ ap (λ xs. entry xs j) (sym list_is) ∙ at)
    ]

    at_place : (u ≡ q) → HasMark new u true
    at_place h = (k, omega (arith, len, stands.0), ap (λ xs. entry xs k) list_is ∙ get_or-set_same old.list k (q, true) (0, false) stands.0 ∙ ap (λ (n : ℕ). let p : ℕ × Bool = (n, true) in p) (sym h))

    from : HasMark old u true ⊎ (u ≡ q) → HasMark new u true
    from (inr h) = at_place h
    from (inl (j, hj, at)) = elim (equal_or_not j k) [
      | inl e ↦ at_place (ap (λ (p : ℕ × Bool). p.0) (sym at) ∙ ap (λ i. (entry old.list i).0) e ∙ stands.1)
      | inr ne ↦ (j, omega (arith, len), ap (λ xs. entry xs j) list_is ∙ get_or-set_other old.list k j (q, true) (0, false) ne ∙ at)
    ]

-- each name stands once in a list in order
pub one_position : (S : List Point) (c : ℕ) (list : List (ℕ × Bool)) (i j : ℕ) → IsOrderly S c list → i < length list → j < length list → (entry list i).0 ≡ (entry list j).0 → i ≡ j
one_position S c list i j so hi hj e = elim (cases_lt i j) [
  | inl h ↦ absurd (never_before_itself (point S c) (point S (entry list j).0) (subst (λ x. IsBeforeInTurn S c x (entry list j).0) e (so.order i j h hj)))
  | inr h ↦ elim (cases_lt j i) [
    | inl g ↦ absurd (never_before_itself (point S c) (point S (entry list j).0) (subst (λ x. IsBeforeInTurn S c (entry list j).0 x) e (so.order j i g hi)))
    | inr g ↦ omega arith
  ]
]

-- the entries of a list and of the same list without that at k
removed_entry : (list : List (ℕ × Bool)) (k i : ℕ) → k < length list → i < length (remove list k) → (j : ℕ) × (j < length list) × (j ≢ k) × (entry (remove list k) i ≡ entry list j)
removed_entry list k i hk hi =
    let len : length (remove list k) + 1 ≡ length list = omega (arith, length-remove list k hk) in
    elim (cases_lt i k) [
      | inl h ↦ (i, omega arith, omega arith, get_or-remove_below list k (0, false) i h hk)
      | inr h ↦ (i + 1, omega arith, omega arith, get_or-remove_above list k (0, false) i h hk)
    ]

left_entry : (list : List (ℕ × Bool)) (k j : ℕ) → k < length list → j < length list → j ≢ k → (i : ℕ) × (i < length (remove list k)) × (entry (remove list k) i ≡ entry list j)
left_entry list k j hk hj ne =
    let len : length (remove list k) + 1 ≡ length list = omega (arith, length-remove list k hk) in
    elim (cases_lt j k) [
      | inl h ↦ (j, omega arith, get_or-remove_below list k (0, false) j h hk)
      | inr h ↦ (j - 1, omega arith, get_or-remove_above list k (0, false) (j - 1) (omega arith) hk ∙ ap (λ i. entry list i) (omega arith))
    ]

pub loses_neighbour : (old new : Seen) (q : ℕ) → IsStar old → Loses old new q → (u : ℕ) → IsNeighbour new u ↔ (IsNeighbour old u × (u ≢ q))
loses_neighbour old new q so (k, stands, is) u = (to, from)
  where
    to : IsNeighbour new u → IsNeighbour old u × (u ≢ q)
    to (i, (hi, at)) =
        let (j, hj, jk, e) = removed_entry old.list k i stands.0 (subst (λ (xs : List (ℕ × Bool)). i < length xs) is hi) in
        let here : (entry old.list j).0 ≡ u = ap (λ (p : ℕ × Bool). p.0) (sym e) ∙ ap (λ (xs : List (ℕ × Bool)). (entry xs i).0) (sym is) ∙ at in
        ((j, (hj, here)), λ h. jk (one_position old.points old.centre old.list j k so hj stands.0 (here ∙ h ∙ sym stands.1)))

    from : IsNeighbour old u × (u ≢ q) → IsNeighbour new u
    from ((j, (hj, at)), ne) =
        let (i, hi, e) = left_entry old.list k j stands.0 hj (λ h. ne (sym at ∙ ap (λ m. (entry old.list m).0) h ∙ stands.1)) in
        (i, (subst (λ (xs : List (ℕ × Bool)). i < length xs) (sym is) hi, ap (λ (xs : List (ℕ × Bool)). (entry xs i).0) is ∙ ap (λ (p : ℕ × Bool). p.0) e ∙ at))

pub loses_mark : (old new : Seen) (q : ℕ) → IsStar old → Loses old new q → (u : ℕ) → HasMark new u true ↔ (HasMark old u true × (u ≢ q))
loses_mark old new q so (k, stands, is) u = (to, from)
  where
    to : HasMark new u true → HasMark old u true × (u ≢ q)
    to (i, hi, at) =
        let (j, hj, jk, e) = removed_entry old.list k i stands.0 (subst (λ (xs : List (ℕ × Bool)). i < length xs) is hi) in
        let here : entry old.list j ≡ (u, true) = sym e ∙ ap (λ (xs : List (ℕ × Bool)). entry xs i) (sym is) ∙ at in
        ((j, hj, here), λ h. jk (one_position old.points old.centre old.list j k so hj stands.0 (ap (λ (p : ℕ × Bool). p.0) here ∙ h ∙ sym stands.1)))

    from : HasMark old u true × (u ≢ q) → HasMark new u true
    from ((j, hj, at), ne) =
        let (i, hi, e) = left_entry old.list k j stands.0 hj (λ h. ne (sym (ap (λ (p : ℕ × Bool). p.0) at) ∙ ap (λ m. (entry old.list m).0) h ∙ stands.1)) in
        (i, subst (λ (xs : List (ℕ × Bool)). i < length xs) (sym is) hi, ap (λ (xs : List (ℕ × Bool)). entry xs i) is ∙ e ∙ at)

pub drops_mark : (old new : Seen) (q : ℕ) → IsStar old → Marks old new q false → (u : ℕ) → HasMark new u true ↔ (HasMark old u true × (u ≢ q))
drops_mark old new q so (k, stands, is) u = (to, from)
  where
    list_is : new.list ≡ set old.list k (q, false)
    list_is = ap (λ (s : Seen). s.list) is

    to : HasMark new u true → HasMark old u true × (u ≢ q)
    to (j, hj, at) = elim (equal_or_not j k) [
      | inl e ↦ absurd (false≢true (ap (λ (p : ℕ × Bool). p.1) (sym (get_or-set_same old.list k (q, false) (0, false) stands.0) ∙ ap (λ i. entry (set old.list k (q, false)) i) (sym e) ∙ ap (λ xs. entry xs j) (sym list_is) ∙ at)))
      | inr ne ↦
          (let hj' : j < length old.list = omega (arith, ap length list_is ∙ length-set old.list k (q, false)) in
          let here : entry old.list j ≡ (u, true) = sym (get_or-set_other old.list k j (q, false) (0, false) ne) ∙ ap (λ xs. entry xs j) (sym list_is) ∙ at in
          ((j, hj', here), λ h. ne (one_position old.points old.centre old.list j k so hj' stands.0 (ap (λ (p : ℕ × Bool). p.0) here ∙ h ∙ sym stands.1))))
    ]

    from : HasMark old u true × (u ≢ q) → HasMark new u true
    from ((j, hj, at), ne) =
        let jk : j ≢ k = λ h. ne (sym (ap (λ (p : ℕ × Bool). p.0) at) ∙ ap (λ m. (entry old.list m).0) h ∙ stands.1) in
        (j, omega (arith, ap length list_is ∙ length-set old.list k (q, false)), ap (λ xs. entry xs j) list_is ∙ get_or-set_other old.list k j (q, false) (0, false) jk ∙ at)

-- the mark at the position of a neighbour is its mark
pub mark_at : (s : Seen) (q k : ℕ) (b : Bool) → IsStar s → HasMark s q b → StandsAt s k q → (entry s.list k).1 ≡ b
mark_at s q k b so (j, hj, at) stands =
    let e : j ≡ k = one_position s.points s.centre s.list j k so hj stands.0 (ap (λ (p : ℕ × Bool). p.0) at ∙ sym stands.1) in
    ap (λ i. (entry s.list i).1) (sym e) ∙ ap (λ (p : ℕ × Bool). p.1) at

-- a neighbour stands at one position
pub stands_once : (s : Seen) (q i j : ℕ) → IsStar s → StandsAt s i q → StandsAt s j q → i ≡ j
stands_once s q i j so a b = one_position s.points s.centre s.list i j so a.0 b.0 (a.1 ∙ sym b.1)

-- a neighbour has one mark
pub one_mark : (s : Seen) (q : ℕ) → IsStar s → HasMark s q false → HasMark s q true → ⊥
one_mark s q so (i, hi, a) marked =
    false≢true (ap (λ (p : ℕ × Bool). p.1) (sym a) ∙ mark_at s q i true so marked (hi, ap (λ (p : ℕ × Bool). p.0) a))

pub marked_neighbour : (s : Seen) (w : ℕ) (b : Bool) → HasMark s w b → IsNeighbour s w
marked_neighbour s w b (k, h, at) = (k, (h, ap (λ (p : ℕ × Bool). p.0) at))

-- a neighbour that isn't kept is marked so
pub unmarked : (s : Seen) (q : ℕ) → IsNeighbour s q → ¬ HasMark s q true → HasMark s q false
unmarked s q (k, (h, at)) apart = pick ((entry s.list k).1) refl
  where
    marked : (b : Bool) → (entry s.list k).1 ≡ b → HasMark s q b
    marked b e = (k, h, ap (λ (n : ℕ). let p : ℕ × Bool = (n, (entry s.list k).1) in p) at ∙ ap (λ (c : Bool). let p : ℕ × Bool = (q, c) in p) e)

    pick : (b : Bool) → (entry s.list k).1 ≡ b → HasMark s q false
    pick true e = absurd (apart (marked true e))
    pick false e = marked false e

-- there is one neighbour after q
pub one_next : (s : Seen) (q r t : ℕ) → IsStar s → IsNext s q (Some r) → IsNext s q (Some t) → r ≡ t
one_next s q r t so (i, a, b) (j, c, d) = b ∙ ap (λ m. (entry s.list (around (length s.list) (m + 1))).0) (stands_once s q i j so a c) ∙ sym d
