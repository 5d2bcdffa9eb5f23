-- The table goes by the lists of stars alone, and the list of v by what is joined to v.
use Rattle.std.proofs.Common.{◌≡◌, ◌≢◌, ℕ, zero, suc, ◌+◌, ◌<◌, Bool, true, cond, List, length, inl, inr, sym, ◌∙◌, ap, subst, refl, Some}
use Rattle.std.proofs.lemmas.Bool.Decides.{same_from_decides}
use Rattle.plane.specs.declared.coordinates.Point.{Point}
use Rattle.plane.specs.declared.segment.Pair.{Pair}
use Rattle.plane.specs.Geometry.{IsInNeed}
use Rattle.plane.specs.Accepted.{AreAccepted}
use Rattle.star.specs.Stars.{Seen, IsNeighbour, HasMark, IsNext, entry, around}
use Rattle.journal_defs.specs.declared.edit.Edit.{Edit}
use Rattle.journal_defs.specs.declared.edit.Edit.TheVariants.{Drop, Keep, Flip}
use Rattle.journal_defs.specs.declared.edit.Why.{Why}
use Rattle.journal_defs.specs.declared.edit.Why.TheVariants.{NotThere, NotKept, NotSpare, Border, Opens, AlreadyThere, NotApex, Bent}
use Rattle.journal_defs.specs.Edits.{State, is_end, touches, IsSound, AreAlikeAt}
use Rattle.star.specs.Gaps.{MeetsWithout, MissesWithout}
use Rattle.journal_defs.specs.Table.{StaysMet, IsOpened, ShowsApex, IsEitherApex, JoinsApexes, IsFresh, Fits, Refuses}
use Rattle.journal_defs.specs.Neighbours.{are_joined, put_in_turn, turned_below, star_list, star_value, IsWhy}
use Rattle.journal_defs.proofs.laws.Members.{is_end_lo, is_end_hi}
use Rattle.journal_defs.proofs.laws.Table.{IsTrueAt, MeetsIn}
use Rattle.journal_defs.proofs.laws.Turned.{Decides-joined, star_is_value}
use Rattle.std.proofs.lemmas.Bool.{or_left, or_right}

-- the two stars have one centre, one list and the same points
abbrev pub AreOne : (s t : Seen) → Type 0
AreOne s t = (s.centre ≡ t.centre) × (s.list ≡ t.list) × (s.points ≡ t.points)

pub one_back : (s t : Seen) → AreOne s t → AreOne t s
one_back s t a = (sym a.0, sym a.1, sym a.2)

near : (s t : Seen) (q : ℕ) → AreOne s t → IsNeighbour s q → IsNeighbour t q
near s t q a h = let P : List (ℕ × Bool) → Type 0 = λ xs. (k : ℕ) × ((k < length xs) × ((entry xs k).0 ≡ q)) in subst P a.1 h

mark : (s t : Seen) (q : ℕ) (b : Bool) → AreOne s t → HasMark s q b → HasMark t q b
mark s t q b a h = let P : List (ℕ × Bool) → Type 0 = λ xs. (k : ℕ) × (k < length xs) × (entry xs k ≡ (q, b)) in subst P a.1 h

next : (s t : Seen) (q r : ℕ) → AreOne s t → IsNext s q (Some r) → IsNext t q (Some r)
next s t q r a h = let P : List (ℕ × Bool) → Type 0 = λ xs. (k : ℕ) × ((k < length xs) × ((entry xs k).0 ≡ q)) × (r ≡ (entry xs (around (length xs) (k + 1))).0) in subst P a.1 h

meets : (s t : Seen) (q : ℕ) → AreOne s t → MeetsWithout s q → MeetsWithout t q
meets s t q a given =
    let h : MeetsIn t.points s q = subst (λ (P : List Point). MeetsIn P s q) a.2 given in
    λ u hu ne. (let (r, apart, m, need) = h u hu (λ e. ne (e ∙ a.0)) in
    (r, apart, mark s t r true a m, subst (λ c. IsInNeed t.points c u r) a.0 need))

-- some need is missed, told of the points P
abbrev MissesIn : List Point → Seen → ℕ → Type 0
MissesIn P s q = (u : ℕ) × (u < length P) × (u ≢ s.centre) × ((r : ℕ) → HasMark s r true → r ≢ q → ¬ IsInNeed P s.centre u r)

misses : (s t : Seen) (q : ℕ) → AreOne s t → MissesWithout s q → MissesWithout t q
misses s t q a given =
    let h : MissesIn t.points s q = subst (λ (P : List Point). MissesIn P s q) a.2 given in
    let (u, hu, ne, none) = h in
    (u, hu, (λ e. ne (e ∙ sym a.0)), λ r m apart need. none r (mark t s r true (one_back s t a) m) apart (subst (λ c. IsInNeed t.points c u r) (sym a.0) need))

stays : (S : List Point) (s t : Seen) (v w : ℕ) → AreOne s t → StaysMet S s v w → StaysMet S t v w
stays S s t v w a h inner = meets s t w a (h inner)

opens : (S : List Point) (s t : Seen) (v w : ℕ) → AreOne s t → IsOpened S s v w → IsOpened S t v w
opens S s t v w a h = (h.0, misses s t w a h.1)

apex : (S : List Point) (at bt : ℕ → Seen) (p q r : ℕ) → AreOne (at p) (bt p) → ShowsApex S (at p) p q r → ShowsApex S (bt p) p q r
apex S at bt p q r a h = (next (at p) (bt p) q r a h.0, h.1)

either : (S : List Point) (at bt : ℕ → Seen) (e : Pair) (v : ℕ) → AreOne (at e.lo) (bt e.lo) → AreOne (at e.hi) (bt e.hi) → IsEitherApex S (at e.lo) (at e.hi) e v → IsEitherApex S (bt e.lo) (bt e.hi) e v
either S at bt e v a b (inl h) = inl (apex S at bt e.lo e.hi v a h)
either S at bt e v a b (inr h) = inr (apex S at bt e.hi e.lo v b h)

joins : (S : List Point) (at bt : ℕ → Seen) (e f : Pair) (k l : ℕ) → AreOne (at e.lo) (bt e.lo) → AreOne (at e.hi) (bt e.hi) → JoinsApexes S (at e.lo) (at e.hi) e f k l → JoinsApexes S (bt e.lo) (bt e.hi) e f k l
joins S at bt e f k l a b h = record { near = apex S at bt e.lo e.hi k a h.near; far = apex S at bt e.hi e.lo l b h.far; ends = h.ends }

fresh : (at bt : ℕ → Seen) (e f : Pair) → AreOne (at e.lo) (bt e.lo) → AreOne (at f.lo) (bt f.lo) → IsFresh (at e.lo) (at f.lo) e f → IsFresh (bt e.lo) (bt f.lo) e f
fresh at bt e f a c h = (
  near (at e.lo) (bt e.lo) e.hi a h.0,
  λ m. h.1 (mark (bt e.lo) (at e.lo) e.hi true (one_back (at e.lo) (bt e.lo) a) m),
  λ m. h.2 (near (bt f.lo) (at f.lo) f.hi (one_back (at f.lo) (bt f.lo) c) m),
)

pub same_fits : (S : List Point) (at bt : ℕ → Seen) (e : Edit) → ((v : ℕ) → touches e v ≡ true → AreOne (at v) (bt v)) → Fits S at e → Fits S bt e
same_fits S at bt (Drop e) one h =
    let a = one e.lo (is_end_lo e) in let b = one e.hi (is_end_hi e) in
    record {
      there = near (at e.lo) (bt e.lo) e.hi a h.there;
      kept = mark (at e.lo) (bt e.lo) e.hi true a h.kept;
      inside = h.inside;
      lower = stays S (at e.lo) (bt e.lo) e.lo e.hi a h.lower;
      upper = stays S (at e.hi) (bt e.hi) e.hi e.lo b h.upper;
    }
same_fits S at bt (Keep e) one h =
    let a = one e.lo (is_end_lo e) in
    record { there = near (at e.lo) (bt e.lo) e.hi a h.there; spare = λ m. h.spare (mark (bt e.lo) (at e.lo) e.hi true (one_back (at e.lo) (bt e.lo) a) m) }
same_fits S at bt (Flip e f) one h =
    let a = one e.lo (or_left (is_end e e.lo) (is_end f e.lo) (is_end_lo e)) in
    let b = one e.hi (or_left (is_end e e.hi) (is_end f e.hi) (is_end_hi e)) in
    let c = one f.lo (or_right (is_end e f.lo) (is_end f f.lo) (is_end_lo f)) in
    let w = fresh at bt e f a c (h.there, h.spare, h.fresh) in
    record { there = w.0; spare = w.1; fresh = w.2; near = h.near; far = h.far; apexes = joins S at bt e f h.near h.far a b h.apexes; lower = h.lower; upper = h.upper }

pub same_refuses : (S : List Point) (at bt : ℕ → Seen) (e : Edit) (why : Why) → ((v : ℕ) → touches e v ≡ true → AreOne (at v) (bt v)) → Refuses S at e why → Refuses S bt e why
same_refuses S at bt (Drop e) why one h = drop why h
  where
    a : AreOne (at e.lo) (bt e.lo)
    a = one e.lo (is_end_lo e)

    b : AreOne (at e.hi) (bt e.hi)
    b = one e.hi (is_end_hi e)

    drop : (why : Why) → Refuses S at (Drop e) why → Refuses S bt (Drop e) why
    drop NotThere h = λ m. h (near (bt e.lo) (at e.lo) e.hi (one_back (at e.lo) (bt e.lo) a) m)
    drop NotKept h = (near (at e.lo) (bt e.lo) e.hi a h.0, λ m. h.1 (mark (bt e.lo) (at e.lo) e.hi true (one_back (at e.lo) (bt e.lo) a) m))
    drop Border h = (near (at e.lo) (bt e.lo) e.hi a h.0, mark (at e.lo) (bt e.lo) e.hi true a h.1, h.2)
    drop (Opens v) h = (
      near (at e.lo) (bt e.lo) e.hi a h.0,
      mark (at e.lo) (bt e.lo) e.hi true a h.1,
      h.2,
      elim h.3 [
        | inl x ↦ inl (x.0, opens S (at e.lo) (bt e.lo) e.lo e.hi a x.1)
        | inr x ↦ inr (x.0, stays S (at e.lo) (bt e.lo) e.lo e.hi a x.1, opens S (at e.hi) (bt e.hi) e.hi e.lo b x.2)
      ],
    )
    drop _ h = h
same_refuses S at bt (Keep e) why one h = keep why h
  where
    a : AreOne (at e.lo) (bt e.lo)
    a = one e.lo (is_end_lo e)

    keep : (why : Why) → Refuses S at (Keep e) why → Refuses S bt (Keep e) why
    keep NotThere h = λ m. h (near (bt e.lo) (at e.lo) e.hi (one_back (at e.lo) (bt e.lo) a) m)
    keep NotSpare h = (near (at e.lo) (bt e.lo) e.hi a h.0, mark (at e.lo) (bt e.lo) e.hi true a h.1)
    keep _ h = h
same_refuses S at bt (Flip e f) why one h = flip why h
  where
    a : AreOne (at e.lo) (bt e.lo)
    a = one e.lo (or_left (is_end e e.lo) (is_end f e.lo) (is_end_lo e))

    b : AreOne (at e.hi) (bt e.hi)
    b = one e.hi (or_left (is_end e e.hi) (is_end f e.hi) (is_end_hi e))

    c : AreOne (at f.lo) (bt f.lo)
    c = one f.lo (or_right (is_end e f.lo) (is_end f f.lo) (is_end_lo f))

    other : (v : ℕ) → ¬ IsEitherApex S (at e.lo) (at e.hi) e v → ¬ IsEitherApex S (bt e.lo) (bt e.hi) e v
    other v h m = h (either S bt at e v (one_back (at e.lo) (bt e.lo) a) (one_back (at e.hi) (bt e.hi) b) m)

    flip : (why : Why) → Refuses S at (Flip e f) why → Refuses S bt (Flip e f) why
    flip NotThere h = λ m. h (near (bt e.lo) (at e.lo) e.hi (one_back (at e.lo) (bt e.lo) a) m)
    flip NotSpare h = (near (at e.lo) (bt e.lo) e.hi a h.0, mark (at e.lo) (bt e.lo) e.hi true a h.1)
    flip AlreadyThere h = (near (at e.lo) (bt e.lo) e.hi a h.0, λ m. h.1 (mark (bt e.lo) (at e.lo) e.hi true (one_back (at e.lo) (bt e.lo) a) m), near (at f.lo) (bt f.lo) f.hi c h.2)
    flip (NotApex v) h = (
      fresh at bt e f a c h.0,
      elim h.1 [
        | inl x ↦ inl (x.0, other f.lo x.1)
        | inr x ↦ inr (x.0, either S at bt e f.lo a b x.1, other f.hi x.2)
      ],
    )
    flip (Bent v) (g, (k, l, apexes, bent)) = (fresh at bt e f a c g, (k, l, joins S at bt e f k l a b apexes, bent))
    flip _ h = h

-- the table's answer on true stars is that of the state
pub true_why : (S : List Point) (s : State) (at : ℕ → Seen) (e : Edit) (why : Why) → AreAccepted S → IsSound S s → ((v : ℕ) → touches e v ≡ true → v < length S) → ((v : ℕ) → touches e v ≡ true → IsTrueAt S s at v) → Refuses S at e why → IsWhy S s e why
true_why S s at e why accepted sound inside so r =
    same_refuses S at (star_value S s) e why (λ v h. ((so v h).centre, star_is_value S s v (at v) accepted sound (inside v h) (so v h), (so v h).points)) r

-- the list of the star of v goes by what is joined to v
alike_below : (S : List Point) (s t : State) (v n : ℕ) → AreAlikeAt s t v → turned_below S s v n ≡ turned_below S t v n
unfolding turned_below
alike_below S s t v zero a = refl
alike_below S s t v (suc n) a =
    let all : are_joined s.all v n ≡ are_joined t.all v n = same_from_decides (are_joined s.all v n) (are_joined t.all v n) (let d = Decides-joined s.all v n in (λ b. (a.all n).0 (d.0 b), λ h. d.1 ((a.all n).1 h))) (Decides-joined t.all v n) in
    let kept : are_joined s.kept v n ≡ are_joined t.kept v n = same_from_decides (are_joined s.kept v n) (are_joined t.kept v n) (let d = Decides-joined s.kept v n in (λ b. (a.kept n).0 (d.0 b), λ h. d.1 ((a.kept n).1 h))) (Decides-joined t.kept v n) in
    ap (λ (b : Bool). cond b (put_in_turn S v (n, are_joined s.kept v n) (turned_below S s v n)) (turned_below S s v n)) all
    ∙ ap (λ (m : Bool). cond (are_joined t.all v n) (put_in_turn S v (n, m) (turned_below S s v n)) (turned_below S s v n)) kept
    ∙ ap (λ (l : List (ℕ × Bool)). cond (are_joined t.all v n) (put_in_turn S v (n, are_joined t.kept v n) l) l) (alike_below S s t v n a)

pub list_alike : (S : List Point) (s t : State) (v : ℕ) → AreAlikeAt s t v → star_list S s v ≡ star_list S t v
list_alike S s t v a = alike_below S s t v (length S) a
