-- The kept answers stay right where an unmarked neighbour comes or goes: positions move, and no link changes.
use Rattle.std.proofs.Common.{◌≡◌, ◌≢◌, ℕ, ◌+◌, ◌-◌, ◌<◌, ◌≤◌, Bool, false, List, length, insert, remove, ◌⊎◌, inl, inr, ◌↔◌, arith, sym, ◌∙◌, ap, subst, refl}
use Rattle.std.proofs.lemmas.Bool.{false≢true, cases_lt}
use Rattle.std.proofs.lemmas.List.Edits.{length-insert, get_or-insert_below, get_or-insert_at, get_or-insert_above, length-remove, get_or-remove_below, get_or-remove_above}
use Rattle.plane.specs.declared.coordinates.Point.{Point}
use Rattle.plane.specs.Geometry.{IsInNeed}
use Rattle.star.specs.Turn.{IsBeforeInTurn, IsInDirection}
use Rattle.star.specs.Stars.{entry, IsOrderly}
use Rattle.star.specs.declared.links.Link.{Link}
use Rattle.star.specs.Gaps.{IsKept, ComesSooner, IsKeptAfter, IsKeptBefore, MissesSome}
use Rattle.star.specs.Links.{link, IsRightLink, HasRightLinks, IsSeat}
use Rattle.star.proofs.Halving.{after_seat}
use Rattle.star.proofs.Listed.{orderly_inserted, orderly_removed}
use Rattle.number_laws.proofs.Naturals.{equal_or_not}

-- the position i of a list is m in the list with one entry more at k
abbrev pub IsShifted : (k i m : ℕ) → Type 0
IsShifted k i m = ((i < k) × (m ≡ i)) ⊎ ((k ≤ i) × (m ≡ i + 1))

pub risen : (k i : ℕ) → (m : ℕ) × IsShifted k i m
risen k i = elim (cases_lt i k) [ inl h ↦ (i, inl (h, refl)) | inr h ↦ (i + 1, inr (h, refl)) ]

pub fallen : (k m : ℕ) → m ≢ k → (i : ℕ) × IsShifted k i m
fallen k m ne = elim (cases_lt m k) [ inl h ↦ (m, inl (h, refl)) | inr h ↦ (m - 1, inr (omega arith, omega arith)) ]

rising : (k a b x y : ℕ) → IsShifted k a x → IsShifted k b y → a < b → x < y
rising k a b x y (inl r) (inl s) h = omega arith
rising k a b x y (inl r) (inr s) h = omega arith
rising k a b x y (inr r) (inl s) h = absurd (omega arith)
rising k a b x y (inr r) (inr s) h = omega arith

falling : (k a b x y : ℕ) → IsShifted k a x → IsShifted k b y → x < y → a < b
falling k a b x y (inl r) (inl s) h = omega arith
falling k a b x y (inl r) (inr s) h = omega arith
falling k a b x y (inr r) (inl s) h = absurd (omega arith)
falling k a b x y (inr r) (inr s) h = omega arith

one_from : (k a b x : ℕ) → IsShifted k a x → IsShifted k b x → a ≡ b
one_from k a b x (inl r) (inl s) = omega arith
one_from k a b x (inl r) (inr s) = absurd (omega arith)
one_from k a b x (inr r) (inl s) = absurd (omega arith)
one_from k a b x (inr r) (inr s) = omega arith

one_to : (k a x y : ℕ) → IsShifted k a x → IsShifted k a y → x ≡ y
one_to k a x y (inl r) (inl s) = omega arith
one_to k a x y (inl r) (inr s) = absurd (omega arith)
one_to k a x y (inr r) (inl s) = absurd (omega arith)
one_to k a x y (inr r) (inr s) = omega arith

come_up : (k a b d x y z : ℕ) → IsShifted k a x → IsShifted k b y → IsShifted k d z → ComesSooner a b d → ComesSooner x y z
come_up k a b d x y z r s t (inl (f, g)) = inl (rising k a b x y r s f, rising k b d y z s t g)
come_up k a b d x y z r s t (inr (inl (f, g))) = inr (inl (rising k b d y z s t f, rising k d a z x t r g))
come_up k a b d x y z r s t (inr (inr (f, g))) = inr (inr (rising k d a z x t r f, rising k a b x y r s g))

come_down : (k a b d x y z : ℕ) → IsShifted k a x → IsShifted k b y → IsShifted k d z → ComesSooner x y z → ComesSooner a b d
come_down k a b d x y z r s t (inl (f, g)) = inl (falling k a b x y r s f, falling k b d y z s t g)
come_down k a b d x y z r s t (inr (inl (f, g))) = inr (inl (falling k b d y z s t f, falling k d a z x t r g))
come_down k a b d x y z r s t (inr (inr (f, g))) = inr (inr (falling k d a z x t r f, falling k a b x y r s g))

-- the second list has one entry more, unmarked at k
pub record IsSpread (small large : List (ℕ × Bool)) (k : ℕ) : Type 0 where
  pub up : (i m : ℕ) → IsShifted k i m → IsKept small i → IsKept large m
  pub down : (m : ℕ) → IsKept large m → (i : ℕ) × IsShifted k i m × IsKept small i
  pub names : (i m : ℕ) → IsShifted k i m → i < length small → (entry large m).0 ≡ (entry small i).0

kept_down : (small large : List (ℕ × Bool)) (k i m : ℕ) → IsSpread small large k → IsShifted k i m → IsKept large m → IsKept small i
kept_down small large k i m sp r km = let (j, s, kj) = sp.down m km in subst (λ x. IsKept small x) (one_from k j i m s r) kj

pub after_up : (small large : List (ℕ × Bool)) (k i j m n : ℕ) → IsSpread small large k → IsKeptAfter small i j → IsShifted k i m → IsShifted k j n → IsKeptAfter large m n
after_up small large k i j m n sp after r s = record {
  kept = sp.up j n s after.kept;
  first = λ z kz zm zn. (let (x, t, kx) = sp.down z kz in
      come_up k i j x m n z r s t (after.first x kx (λ e. zm (one_to k i z m (subst (λ y. IsShifted k y z) e t) r)) (λ e. zn (one_to k j z n (subst (λ y. IsShifted k y z) e t) s))));
}

pub before_up : (small large : List (ℕ × Bool)) (k i j m n : ℕ) → IsSpread small large k → IsKeptBefore small i j → IsShifted k i m → IsShifted k j n → IsKeptBefore large m n
before_up small large k i j m n sp before r s = record {
  kept = sp.up j n s before.kept;
  last = λ z kz zm zn. (let (x, t, kx) = sp.down z kz in
      come_up k j i x n m z s r t (before.last x kx (λ e. zm (one_to k i z m (subst (λ y. IsShifted k y z) e t) r)) (λ e. zn (one_to k j z n (subst (λ y. IsShifted k y z) e t) s))));
}

pub after_down : (small large : List (ℕ × Bool)) (k i j m n : ℕ) → IsSpread small large k → IsKeptAfter large m n → IsShifted k i m → IsShifted k j n → IsKeptAfter small i j
after_down small large k i j m n sp after r s = record {
  kept = kept_down small large k j n sp s after.kept;
  first = λ x kx xi xj. (let (z, t) = risen k x in
      come_down k i j x m n z r s t (after.first z (sp.up x z t kx) (λ e. xi (one_from k x i m (subst (λ y. IsShifted k x y) e t) r)) (λ e. xj (one_from k x j n (subst (λ y. IsShifted k x y) e t) s))));
}

pub before_down : (small large : List (ℕ × Bool)) (k i j m n : ℕ) → IsSpread small large k → IsKeptBefore large m n → IsShifted k i m → IsShifted k j n → IsKeptBefore small i j
before_down small large k i j m n sp before r s = record {
  kept = kept_down small large k j n sp s before.kept;
  last = λ x kx xi xj. (let (z, t) = risen k x in
      come_down k j i x n m z s r t (before.last z (sp.up x z t kx) (λ e. xi (one_from k x i m (subst (λ y. IsShifted k x y) e t) r)) (λ e. xj (one_from k x j n (subst (λ y. IsShifted k x y) e t) s))));
}

pub misses_same : (S : List Point) (c : ℕ) (small large : List (ℕ × Bool)) (k : ℕ) → IsSpread small large k → MissesSome S c small ↔ MissesSome S c large
misses_same S c small large k sp = (
  λ h. (let (u, hu, ne, missed) = h in (u, hu, ne, λ m km t. (let (i, r, ki) = sp.down m km in missed i ki (subst (λ x. IsInNeed S c u x) (sp.names i m r ki.0) t)))),
  λ h. (let (u, hu, ne, missed) = h in (u, hu, ne, λ i ki t. (let (m, r) = risen k i in missed m (sp.up i m r ki) (subst (λ x. IsInNeed S c u x) (sym (sp.names i m r ki.0)) t)))),
)

-- the list with an unmarked entry at k
pub spread_insert : (list : List (ℕ × Bool)) (k q : ℕ) → k ≤ length list → IsSpread list (insert list k (q, false)) k
spread_insert list k q hk = record {
  up = λ i m r ki. up_at i m r ki;
  down = λ m km. down_at m km;
  names = λ i m r h. ap (λ (p : ℕ × Bool). p.0) (moved i m r h);
}
  where
    len : length (insert list k (q, false)) ≡ length list + 1
    len = length-insert list k (q, false) hk

    moved : (i m : ℕ) → IsShifted k i m → i < length list → entry (insert list k (q, false)) m ≡ entry list i
    moved i m (inl (h, e)) hi = ap (λ x. entry (insert list k (q, false)) x) e ∙ get_or-insert_below list k (q, false) (0, false) i h hk
    moved i m (inr (h, e)) hi = ap (λ x. entry (insert list k (q, false)) x) e ∙ get_or-insert_above list k (q, false) (0, false) i h hk

    in_range : (i m : ℕ) → IsShifted k i m → i < length list → m < length (insert list k (q, false))
    in_range i m (inl r) h = omega (arith, len)
    in_range i m (inr r) h = omega (arith, len)

    up_at : (i m : ℕ) → IsShifted k i m → IsKept list i → IsKept (insert list k (q, false)) m
    up_at i m r ki = (in_range i m r ki.0, ap (λ (p : ℕ × Bool). p.1) (moved i m r ki.0) ∙ ki.1)

    from_range : (i m : ℕ) → IsShifted k i m → m < length (insert list k (q, false)) → i < length list
    from_range i m (inl r) h = omega (arith, len)
    from_range i m (inr r) h = omega (arith, len)

    down_at : (m : ℕ) → IsKept (insert list k (q, false)) m → (i : ℕ) × IsShifted k i m × IsKept list i
    down_at m km = elim (equal_or_not m k) [
      | inl e ↦ absurd (false≢true (ap (λ (p : ℕ × Bool). p.1) (sym (get_or-insert_at list k (q, false) (0, false) hk)) ∙ ap (λ x. (entry (insert list k (q, false)) x).1) (sym e) ∙ km.1))
      | inr ne ↦
          (let (i, r) = fallen k m ne in
          let h : i < length list = from_range i m r km.0 in
          (i, r, (h, ap (λ (p : ℕ × Bool). p.1) (sym (moved i m r h)) ∙ km.1)))
    ]

-- the list without the unmarked entry at k
pub spread_remove : (list : List (ℕ × Bool)) (k : ℕ) → k < length list → (¬ IsKept list k) → IsSpread (remove list k) list k
spread_remove list k hk free = record {
  up = λ i m r ki. (in_range i m r ki.0, ap (λ (p : ℕ × Bool). p.1) (sym (moved i m r)) ∙ ki.1);
  down = λ m km. (let (i, r) = fallen k m (λ e. free (subst (λ x. IsKept list x) e km)) in (i, r, (from_range i m r km.0, ap (λ (p : ℕ × Bool). p.1) (moved i m r) ∙ km.1)));
  names = λ i m r h. sym (ap (λ (p : ℕ × Bool). p.0) (moved i m r));
}
  where
    len : length (remove list k) + 1 ≡ length list
    len = omega (arith, length-remove list k hk)

    moved : (i m : ℕ) → IsShifted k i m → entry (remove list k) i ≡ entry list m
    moved i m (inl (h, e)) = get_or-remove_below list k (0, false) i h hk ∙ ap (λ x. entry list x) (sym e)
    moved i m (inr (h, e)) = get_or-remove_above list k (0, false) i h hk ∙ ap (λ x. entry list x) (sym e)

    in_range : (i m : ℕ) → IsShifted k i m → i < length (remove list k) → m < length list
    in_range i m (inl r) h = omega (arith, len)
    in_range i m (inr r) h = omega (arith, len)

    from_range : (i m : ℕ) → IsShifted k i m → m < length list → i < length (remove list k)
    from_range i m (inl r) h = omega (arith, len)
    from_range i m (inr r) h = omega (arith, len)

abbrev pub bare : Link
bare = record { before = 0; after = 0; opens = false }

-- an unmarked entry comes: no link changes
pub spread_by : (S : List Point) (c : ℕ) (small large : List (ℕ × Bool)) (links links' : List Link) (w : Bool) (k : ℕ) → HasRightLinks S c small links w → IsSpread small large k → IsOrderly S c large → length links' ≡ length large
    → ((i m : ℕ) → IsShifted k i m → IsKept small i → link links' m ≡ link links i) → HasRightLinks S c large links' w
spread_by S c small large links links' w k ar sp so len moved = record {
  accepted = ar.accepted;
  order = so;
  len = len;
  right = λ m km. (let (i, r, ki) = sp.down m km in right_up i m r ki);
  wide = (let f = misses_same S c small large k sp in (λ t. f.0 (ar.wide.0 t), λ h. ar.wide.1 (f.1 h)));
}
  where
    right_up : (i m : ℕ) → IsShifted k i m → IsKept small i → IsRightLink S c large m (link links' m)
    right_up i m r ki =
        let g = ar.right i ki in
        let (x, rx) = risen k g.first in
        let (y, ry) = risen k g.second in
        subst (λ l. IsRightLink S c large m l) (sym (moved i m r ki)) (record {
          first = x;
          second = y;
          before = before_up small large k i g.first m x sp g.before r rx;
          after = after_up small large k i g.second m y sp g.after r ry;
          before_name = sp.names g.first x rx g.before.kept.0 ∙ g.before_name;
          after_name = sp.names g.second y ry g.after.kept.0 ∙ g.after_name;
          opens = g.opens;
        })

-- an unmarked entry goes
pub gathered_by : (S : List Point) (c : ℕ) (small large : List (ℕ × Bool)) (links links' : List Link) (w : Bool) (k : ℕ) → HasRightLinks S c large links' w → IsSpread small large k → IsOrderly S c small → length links ≡ length small
    → ((i m : ℕ) → IsShifted k i m → IsKept small i → link links' m ≡ link links i) → HasRightLinks S c small links w
gathered_by S c small large links links' w k ar sp so len moved = record {
  accepted = ar.accepted;
  order = so;
  len = len;
  right = λ i ki. (let (m, r) = risen k i in right_down i m r ki);
  wide = (let f = misses_same S c small large k sp in (λ t. f.1 (ar.wide.0 t), λ h. ar.wide.1 (f.0 h)));
}
  where
    right_down : (i m : ℕ) → IsShifted k i m → IsKept small i → IsRightLink S c small i (link links i)
    right_down i m r ki =
        let g = ar.right m (sp.up i m r ki) in
        let (x, rx, kx) = sp.down g.first g.before.kept in
        let (y, ry, ky) = sp.down g.second g.after.kept in
        subst (λ l. IsRightLink S c small i l) (moved i m r ki) (record {
          first = x;
          second = y;
          before = before_down small large k i x m g.first sp g.before r rx;
          after = after_down small large k i y m g.second sp g.after r ry;
          before_name = sym (sp.names x g.first rx kx.0) ∙ g.before_name;
          after_name = sym (sp.names y g.second ry ky.0) ∙ g.after_name;
          opens = g.opens;
        })

pub insert_done : (S : List Point) (c : ℕ) (list new : List (ℕ × Bool)) (links ls : List Link) (w : Bool) (k q : ℕ) (d : Link) → HasRightLinks S c list links w → k ≤ length list → q < length S → q ≢ c
    → ((j : ℕ) → j < k → IsBeforeInTurn S c (entry list j).0 q) → ((j : ℕ) → k ≤ j → j < length list → IsBeforeInTurn S c q (entry list j).0)
    → new ≡ insert list k (q, false) → ls ≡ insert links k d → HasRightLinks S c new ls w
insert_done S c list new links ls w k q d ar hk hq apart before after e_new e_ls =
    subst (λ z. HasRightLinks S c z ls w) (sym e_new) (subst (λ z. HasRightLinks S c (insert list k (q, false)) z w) (sym e_ls)
    (spread_by S c list (insert list k (q, false)) links (insert links k d) w k ar (spread_insert list k q hk) (orderly_inserted S c list k q ar.accepted ar.order hq apart hk before after)
    (omega (arith, length-insert links k d hk', length-insert list k (q, false) hk, ar.len)) (λ i m r ki. here i m r)))
  where
    hk' : k ≤ length links
    hk' = omega (arith, ar.len)

    here : (i m : ℕ) → IsShifted k i m → link (insert links k d) m ≡ link links i
    here i m (inl (h, e)) = ap (λ x. link (insert links k d) x) e ∙ get_or-insert_below links k d bare i h hk'
    here i m (inr (h, e)) = ap (λ x. link (insert links k d) x) e ∙ get_or-insert_above links k d bare i h hk'

pub remove_done : (S : List Point) (c : ℕ) (list new : List (ℕ × Bool)) (links ls : List Link) (w : Bool) (k : ℕ) → HasRightLinks S c list links w → k < length list → (entry list k).1 ≡ false → new ≡ remove list k → ls ≡ remove links k → HasRightLinks S c new ls w
remove_done S c list new links ls w k ar hk spare e_new e_ls =
    subst (λ z. HasRightLinks S c z ls w) (sym e_new) (subst (λ z. HasRightLinks S c (remove list k) z w) (sym e_ls)
    (gathered_by S c (remove list k) list (remove links k) links w k ar (spread_remove list k hk (λ h. false≢true (sym spare ∙ h.1))) (orderly_removed S c list k ar.order hk)
    (omega (arith, length-remove list k hk, length-remove links k hk', ar.len)) (λ i m r ki. here i m r)))
  where
    hk' : k < length links
    hk' = omega (arith, ar.len)

    here : (i m : ℕ) → IsShifted k i m → link links m ≡ link (remove links k) i
    here i m (inl (h, e)) = ap (λ x. link links x) e ∙ sym (get_or-remove_below links k bare i h hk')
    here i m (inr (h, e)) = ap (λ x. link links x) e ∙ sym (get_or-remove_above links k bare i h hk')

-- an unmarked neighbour put in at its seat
pub inserted_at_seat : (S : List Point) (c : ℕ) (list new : List (ℕ × Bool)) (links ls : List Link) (w : Bool) (k q : ℕ) → HasRightLinks S c list links w → q < length S → q ≢ c → ((m : ℕ) → m < length list → ¬ IsInDirection S c (entry list m).0 q)
    → IsSeat S c list q k → new ≡ insert list k (q, false) → ls ≡ insert links k bare → HasRightLinks S c new ls w
inserted_at_seat S c list new links ls w k q ar hq apart free seat e_new e_ls =
    insert_done S c list new links ls w k q bare ar seat.within hq apart seat.passed (after_seat S c list q k ar.accepted ar.order hq apart free seat) e_new e_ls
