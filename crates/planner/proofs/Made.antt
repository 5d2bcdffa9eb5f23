-- Edits that are made on the stars of a region, and taken back.
use Rattle.std.proofs.Common.{◌≡◌, ℕ, ◌+◌, ◌<◌, Bool, true, false, ◌||◌, List, ◌∷◌, length, inl, inr, arith, sym, ◌∙◌, ap, subst, refl}
use Rattle.std.proofs.lemmas.Bool.{cases_Bool, or_left, or_right, false_from_ne_true}
use Rattle.plane.specs.declared.coordinates.Point.{Point}
use Rattle.plane.specs.declared.segment.Pair.{Pair}
use Rattle.plane.specs.Accepted.{AreAccepted}
use Rattle.partition_defs.specs.Partition.{HasEnds}
use Rattle.star.specs.Stars.{Seen, IsStar, IsNeighbour, HasMark, entry}
use Rattle.star.proofs.laws.Marks.{unmarked, marked_neighbour}
use Rattle.journal_defs.specs.declared.edit.Edit.{Edit}
use Rattle.journal_defs.specs.declared.edit.Edit.TheVariants.{Drop, Keep, Flip}
use Rattle.journal_defs.specs.declared.edit.Why.{Why}
use Rattle.journal_defs.specs.Edits.{inverse, is_end, touches}
use Rattle.journal_defs.specs.Neighbours.{list_after, at_end, leave_out, put_in_turn}
use Rattle.journal_defs.specs.Table.{Fits, FitsFlip, Refuses}
use Rattle.journal_defs.specs.Turns.{stars_after, FitInTurn}
use Rattle.journal_defs.proofs.laws.Members.{is_end_lo, is_end_hi, not_end}
use Rattle.journal_defs.proofs.laws.Mutual.{mutual_after, new_own, marked_own}
use Rattle.journal_defs.proofs.laws.Table.{refused_drop, refused_keep, refused_flip}
use Rattle.journal_defs.proofs.laws.Turned.{In, in_at}
use Rattle.journal_defs.proofs.laws.Follow.{at_end_cases}
use Rattle.journal_defs.proofs.laws.Same.{one_back}
use Rattle.edit.specs.declared.look.Look.{Look}
use Rattle.edit.specs.Plans.{are_touching}
use Rattle.plan_defs.specs.Plans.{Sight, has_look, look_at, star_in}
use Rattle.plan_defs.specs.Shown.{region_after}
use Rattle.plan_defs.proofs.laws.Region.{looked_after, list_there, one_after, same_turn, region_back}
use Rattle.planner.specs.Region.{sights, DoAgree}
use Rattle.planner.specs.Steps.{AreHeld, AreLooked, CanStep, CanTry, HasMade, HasRoomFor, HaveEachOther, IsMark, IsReady, IsTried, held_star, room_at}
use Rattle.planner.proofs.Looks.{seen_same}
use Rattle.planner.proofs.Free.{flip_free, flip_apart, left_free, neighbour_point, next_neighbour}
use Rattle.journal_defs.proofs.laws.Undone.{at_end_is, of_mark, to_mark}

-- what the star of the smaller end says stands at both ends
at_both : (S : List Point) (R : List Look) (e : Pair) (v w : ℕ) (b : Bool) → HaveEachOther S R → has_look (sights R) e.lo ≡ true → has_look (sights R) e.hi ≡ true → HasEnds e v w
    → HasMark (star_in S (sights R) e.lo) e.hi b → HasMark (star_in S (sights R) v) w b
at_both S R e v w b both low high (inl (a, c)) h =
    let P : ℕ → Type 0 = λ n. HasMark (star_in S (sights R) n) w b in
    let Q : ℕ → Type 0 = λ n. HasMark (star_in S (sights R) e.lo) n b in
    subst P a (subst Q c h)
at_both S R e v w b both low high (inr (a, c)) h =
    let P : ℕ → Type 0 = λ n. HasMark (star_in S (sights R) n) w b in
    let Q : ℕ → Type 0 = λ n. HasMark (star_in S (sights R) e.hi) n b in
    subst P c (subst Q a (both e.lo e.hi b low high h))

-- a mark's edit that fits can be made
pub mark_ready : (S : List Point) (R : List Look) (e : Edit) (v : ℕ) → IsMark e → HaveEachOther S R → ((u : ℕ) → touches e u ≡ true → has_look (sights R) u ≡ true) → Fits S (star_in S (sights R)) e → touches e v ≡ true → IsReady S e R v
mark_ready S R (Drop e) v m both looked fits h = record {
  looked = looked v h;
  touched = h;
  can = λ w ends. at_both S R e v w true both (looked e.lo (is_end_lo e)) (looked e.hi (is_end_hi e)) ends fits.kept;
}
mark_ready S R (Keep e) v m both looked fits h = record {
  looked = looked v h;
  touched = h;
  can = λ w ends. at_both S R e v w false both (looked e.lo (is_end_lo e)) (looked e.hi (is_end_hi e)) ends (unmarked (star_in S (sights R) e.lo) e.hi fits.there fits.spare);
}
mark_ready S R (Flip e f) v m both looked fits h = absurd m

-- the ends of a flip's pairs
flip_looked : (R : List Look) (e f : Pair) → ((u : ℕ) → touches (Flip e f) u ≡ true → has_look (sights R) u ≡ true)
    → (has_look (sights R) e.lo ≡ true) × (has_look (sights R) e.hi ≡ true) × (has_look (sights R) f.lo ≡ true) × (has_look (sights R) f.hi ≡ true)
flip_looked R e f looked = (
  looked e.lo (or_left (is_end e e.lo) (is_end f e.lo) (is_end_lo e)),
  looked e.hi (or_left (is_end e e.hi) (is_end f e.hi) (is_end_hi e)),
  looked f.lo (or_right (is_end e f.lo) (is_end f f.lo) (is_end_lo f)),
  looked f.hi (or_right (is_end e f.hi) (is_end f f.hi) (is_end_hi f)),
)

-- the new pair of a flip that fits is of points, as the old one is
pub new_within : (S : List Point) (low high new : Seen) (e f : Pair) → IsStar low → low.points ≡ S → IsStar high → high.points ≡ S → FitsFlip S low high new e f → f.hi < length S
new_within S low high new e f sl pl sh ph fits = tell fits.apexes.ends
  where
    tell : HasEnds f fits.near fits.far → f.hi < length S
    tell (inl a) = subst (λ (n : ℕ). n < length S) (sym a.1) (neighbour_point S high fits.far sh ph (next_neighbour high e.lo fits.far fits.apexes.far.0))
    tell (inr a) = subst (λ (n : ℕ). n < length S) (sym a.1) (neighbour_point S low fits.near sl pl (next_neighbour low e.hi fits.near fits.apexes.near.0))

-- a flip that fits can be made, where there is room
pub flip_ready : (S : List Point) (R : List Look) (e f : Pair) (v : ℕ) → DoAgree S R → ((u : ℕ) → touches (Flip e f) u ≡ true → has_look (sights R) u ≡ true) → HasRoomFor f R → Fits S (star_in S (sights R)) (Flip e f)
    → touches (Flip e f) v ≡ true → IsReady S (Flip e f) R v
flip_ready S R e f v agree looked room fits h =
    let (lo, hi, a, b) = flip_looked R e f looked in
    let V : ℕ → Type 0 = λ u. has_look (sights R) u ≡ true in
    let sl = agree.stars e.lo lo in
    let sh = agree.stars e.hi hi in
    record {
      looked = looked v h;
      touched = h;
      can = record {
        there = λ w ends. marked_neighbour (star_in S (sights R) v) w false (at_both S R e v w false agree.marked lo hi ends (unmarked (star_in S (sights R) e.lo) e.hi fits.there fits.spare));
        free = λ w ends. flip_free S (star_in S (sights R)) V e f agree lo hi a b fits v w ends;
        room = λ t. room v t;
        within = new_within S (star_in S (sights R) e.lo) (star_in S (sights R) e.hi) (star_in S (sights R) f.lo) e f sl.0 refl sh.0 refl fits;
        apart = flip_apart S (star_in S (sights R) e.lo) (star_in S (sights R) e.hi) (star_in S (sights R) f.lo) e f fits v;
      };
    }

-- the region that was made, and one that is like it
list_made : (S : List Point) (e : Edit) (R R' : List Look) (v : ℕ) → sights R' ≡ region_after S e (sights R) → has_look (sights R) v ≡ true → (look_at (sights R') v).list ≡ list_after S v e (look_at (sights R) v).list
list_made S e R R' v is h = ap (λ (T : List Sight). (look_at T v).list) is ∙ list_there S e (sights R) v h

pub looked_made : (S : List Point) (e : Edit) (R R' : List Look) (v : ℕ) → sights R' ≡ region_after S e (sights R) → has_look (sights R') v ≡ has_look (sights R) v
looked_made S e R R' v is = ap (λ (T : List Sight). has_look T v) is ∙ looked_after S e (sights R) v

pub mark_back_ready : (S : List Point) (R R' : List Look) (e : Edit) (v : ℕ) → IsMark e → sights R' ≡ region_after S e (sights R) → IsReady S e R v → IsReady S (inverse e) R' v
mark_back_ready S R R' (Drop e) v m is ready = record {
  looked = looked_made S (Drop e) R R' v is ∙ ready.looked;
  touched = ready.touched;
  can = λ w ends. to_mark (held_star S R' v) w false (subst (λ (l : List (ℕ × Bool)). In (w, false) l) (sym (list_made S (Drop e) R R' v is ready.looked))
      (marked_own e v w false true (look_at (sights R) v).list ends (of_mark (held_star S R v) w true (ready.can w ends))));
}
mark_back_ready S R R' (Keep e) v m is ready = record {
  looked = looked_made S (Keep e) R R' v is ∙ ready.looked;
  touched = ready.touched;
  can = λ w ends. to_mark (held_star S R' v) w true (subst (λ (l : List (ℕ × Bool)). In (w, true) l) (sym (list_made S (Keep e) R R' v is ready.looked))
      (marked_own e v w true false (look_at (sights R) v).list ends (of_mark (held_star S R v) w false (ready.can w ends))));
}
mark_back_ready S R R' (Flip e f) v m is ready = absurd m

at_end_off : (e : Pair) (v : ℕ) (change : ℕ → List (ℕ × Bool)) (list : List (ℕ × Bool)) → is_end e v ≡ false → at_end e v change list ≡ list
at_end_off e v change list off = at_end_cases e v change list (λ m. m ≡ list) (λ x ends. absurd (not_end e v x off ends)) (λ none. refl)

turned : (a b : Bool) → (a || b) ≡ true → (b || a) ≡ true
turned a b h = elim (cases_Bool a) [ inl t ↦ or_right b a t | inr f ↦ or_left b a (subst (λ (x : Bool). (x || b) ≡ true) f h) ]

pub flip_back_ready : (S : List Point) (R R' : List Look) (e f : Pair) (v : ℕ) → AreHeld S R → e.hi < length S → sights R' ≡ region_after S (Flip e f) (sights R)
    → ((is_end e v ≡ true) → room_at R' v ≡ room_at R v + 1) → IsReady S (Flip e f) R v → IsReady S (Flip f e) R' v
flip_back_ready S R R' e f v held within is room ready =
    let l = (look_at (sights R) v).list in
    let list : (look_at (sights R') v).list ≡ list_after S v (Flip e f) l = list_made S (Flip e f) R R' v is ready.looked in
    record {
      looked = looked_made S (Flip e f) R R' v is ∙ ready.looked;
      touched = turned (is_end e v) (is_end f v) ready.touched;
      can = record {
        there = λ w ends. marked_neighbour (held_star S R' v) w false (to_mark (held_star S R' v) w false (subst (λ (m : List (ℕ × Bool)). In (w, false) m) (sym list)
            (new_own S f v w (at_end e v (λ x. leave_out x l) l) ends)));
        free = λ w ends. (let (c, here) = has w (ready.can.there w ends) in
            left_free S (star_in S (sights R) v) w c (look_at (sights R') v).list (room_at R' v) (held.stars v ready.looked).0 refl here (list ∙ gone w ends));
        room = λ t. (let r = room t in omega (arith, r));
        within = within;
        apart = λ a b. ready.can.apart b a;
      };
    }
  where
    has : (w : ℕ) → IsNeighbour (held_star S R v) w → (c : Bool) × In (w, c) (look_at (sights R) v).list
    has w (k, (hk, at)) =
        let x = entry (look_at (sights R) v).list k in
        let P : ℕ → Type 0 = λ n. In (n, x.1) (look_at (sights R) v).list in
        (x.1, subst P at (in_at (look_at (sights R) v).list k hk))

    own : (w : ℕ) → HasEnds e v w → is_end e v ≡ true
    own w (inl a) = subst (λ (n : ℕ). is_end e n ≡ true) a.0 (is_end_lo e)
    own w (inr a) = subst (λ (n : ℕ). is_end e n ≡ true) a.1 (is_end_hi e)

    gone : (w : ℕ) → HasEnds e v w → list_after S v (Flip e f) (look_at (sights R) v).list ≡ leave_out w (look_at (sights R) v).list
    gone w ends =
        let l = (look_at (sights R) v).list in
        let rest = at_end e v (λ x. leave_out x l) l in
        at_end_off f v (λ x. put_in_turn S v (x, false) rest) rest (false_from_ne_true (is_end f v) (λ t. ready.can.apart (own w ends) t))
        ∙ at_end_is e v w (λ x. leave_out x l) l ends

-- a refused edit doesn't fit
pub refused : (S : List Point) (at : ℕ → Seen) (e : Edit) (why : Why) → ((v : ℕ) → touches e v ≡ true → IsStar (at v)) → Refuses S at e why → ¬ Fits S at e
refused S at (Drop e) why stars r = refused_drop S at e why r
refused S at (Keep e) why stars r = refused_keep at e why r
refused S at (Flip e f) why stars r = refused_flip S at e f why
    (stars e.lo (or_left (is_end e e.lo) (is_end f e.lo) (is_end_lo e))) (stars e.hi (or_left (is_end e e.hi) (is_end f e.hi) (is_end_hi e))) r

-- stars that have each other still do
pub still_mutual : (S : List Point) (e : Edit) (R R' : List Look) → sights R' ≡ region_after S e (sights R) → HaveEachOther S R → HaveEachOther S R'
still_mutual S e R R' is both v w b hv hw mark =
    let V : ℕ → Type 0 = λ u. has_look (sights R) u ≡ true in
    let lv : has_look (sights R) v ≡ true = sym (looked_made S e R R' v is) ∙ hv in
    let lw : has_look (sights R) w ≡ true = sym (looked_made S e R R' w is) ∙ hw in
    let at : (ℕ → Seen) = stars_after S e (star_in S (sights R)) in
    let there : HasMark (at v) w b = to_mark (at v) w b (subst (λ (l : List (ℕ × Bool)). In (w, b) l) (list_made S e R R' v is lv) (of_mark (star_in S (sights R') v) w b mark)) in
    let back : HasMark (at w) v b = mutual_after S e (star_in S (sights R)) V both v w b lv lw there in
    to_mark (star_in S (sights R') w) v b (subst (λ (l : List (ℕ × Bool)). In (v, b) l) (sym (list_made S e R R' w is lw)) (of_mark (at w) v b back))

-- the rest is tried on what the first has made
pub can_next : (S : List Point) (e : Edit) (es : List Edit) (R R' : List Look) → CanTry S R (e ∷ es) → HasMade S e R R' → CanTry S R' es
can_next S e es R R' can made = record {
  held = made.held;
  each_other = still_mutual S e R R' made.told can.each_other;
  looked = λ v h. looked_made S e R R' v made.told ∙ can.looked v (or_right (touches e v) (are_touching es v) h);
  marks = can.marks.1;
}

-- the rest fits there as in its turn
pub fit_next : (S : List Point) (e : Edit) (es : List Edit) (R R' : List Look) → AreLooked R (e ∷ es) → sights R' ≡ region_after S e (sights R)
    → (FitInTurn S (star_in S (sights R')) es → FitInTurn S (stars_after S e (star_in S (sights R))) es) × (FitInTurn S (stars_after S e (star_in S (sights R))) es → FitInTurn S (star_in S (sights R')) es)
fit_next S e es R R' looked is =
    let P : List Sight → Type 0 = λ T. FitInTurn S (star_in S T) es in
    let later : (v : ℕ) → are_touching es v ≡ true → has_look (sights R) v ≡ true = λ v h. looked v (or_right (touches e v) (are_touching es v) h) in
    let there = star_in S (region_after S e (sights R)) in
    let turn = stars_after S e (star_in S (sights R)) in (
      λ fit. same_turn S there turn es (λ v h. one_back (turn v) (there v) (one_after S e (sights R) v (later v h))) (subst P is fit),
      λ fit. subst P (sym is) (same_turn S turn there es (λ v h. one_after S e (sights R) v (later v h)) fit),
    )

-- an edit of marks leaves the room as it was
pub mark_room : (S : List Point) (e : Edit) (R R' : List Look) → IsMark e → ((v : ℕ) → touches e v ≡ true → has_look (sights R) v ≡ true) → HasMade S e R R' → (v : ℕ) → room_at R' v ≡ room_at R v
mark_room S (Drop e) R R' m looked made v = elim (cases_Bool (is_end e v)) [ inl t ↦ made.room v (looked v t) t | inr f ↦ made.rest v f ]
mark_room S (Keep e) R R' m looked made v = elim (cases_Bool (is_end e v)) [ inl t ↦ made.room v (looked v t) t | inr f ↦ made.rest v f ]
mark_room S (Flip e f) R R' m looked made v = absurd m

pub inverse_mark : (e : Edit) → IsMark e → IsMark (inverse e)
inverse_mark (Drop e) m = tt
inverse_mark (Keep e) m = tt
inverse_mark (Flip e f) m = absurd m

pub inverse_touches : (e : Edit) (v : ℕ) → touches (inverse e) v ≡ true → touches e v ≡ true
inverse_touches (Drop e) v h = h
inverse_touches (Keep e) v h = h
inverse_touches (Flip e f) v h = turned (is_end f v) (is_end e v) h

-- a region that is like another
pub ready_like : (S : List Point) (e : Edit) (R T : List Look) (v : ℕ) → sights T ≡ sights R → room_at T v ≡ room_at R v → IsReady S e R v → IsReady S e T v
ready_like S e R T v is room ready =
    let same : held_star S T v ≡ held_star S R v = seen_same (held_star S T v) (held_star S R v) refl (ap (λ (X : List Sight). (look_at X v).list) is) room refl in
    record {
      looked = ap (λ (X : List Sight). has_look X v) is ∙ ready.looked;
      touched = ready.touched;
      can = subst (λ (a : Seen). CanStep S (e) a) (sym same) ready.can;
    }

-- the first of the edits can be taken back after the trial of the rest
pub back_ready : (S : List Point) (e : Edit) (es : List Edit) (R R' T : List Look) (v : ℕ) → CanTry S R (e ∷ es) → Fits S (star_in S (sights R)) e → HasMade S e R R' → IsTried S R' T → touches (inverse e) v ≡ true → IsReady S (inverse e) T v
back_ready S e es R R' T v can fits made tried h =
    ready_like S (inverse e) R' T v tried.told (tried.room v)
    (mark_back_ready S R R' e v can.marks.0 made.told
    (mark_ready S R e v can.marks.0 can.each_other (λ u t. can.looked u (or_left (touches e u) (are_touching es u) t)) fits (inverse_touches e v h)))

-- and then all is as it was
pub tried_back : (S : List Point) (e : Edit) (es : List Edit) (R R' T U : List Look) → AreAccepted S → CanTry S R (e ∷ es) → Fits S (star_in S (sights R)) e → HasMade S e R R' → IsTried S R' T → HasMade S (inverse e) T U → IsTried S R U
tried_back S e es R R' T U accepted can fits made tried back =
    let looked : (v : ℕ) → touches e v ≡ true → has_look (sights R) v ≡ true = λ u t. can.looked u (or_left (touches e u) (are_touching es u) t) in
    let mid : sights T ≡ region_after S e (sights R) = tried.told ∙ made.told in
    record {
      held = back.held;
      told = back.told ∙ ap (λ (X : List Sight). region_after S (inverse e) X) mid ∙ region_back S (sights R) e accepted can.held.apart can.held.stars can.each_other looked fits;
      room = λ v. mark_room S (inverse e) T U (inverse_mark e can.marks.0) (λ u t. looked_made S e R T u mid ∙ looked u (inverse_touches e u t)) back v ∙ tried.room v ∙ mark_room S e R R' can.marks.0 looked made v;
    }
