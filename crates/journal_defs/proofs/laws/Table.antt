-- On the true stars of a sound state the table says legality.
use Rattle.std.proofs.Common.{◌≡◌, ◌≢◌, ℕ, ◌<◌, Bool, true, false, List, length, inl, inr, sym, ◌∙◌, ap, subst, refl}
use Rattle.std.specs.List.{Contains}
use Rattle.plane.specs.declared.coordinates.Point.{Point}
use Rattle.plane.specs.declared.segment.Pair.{Pair}
use Rattle.plane.specs.Geometry.{IsInNeed}
use Rattle.partition_defs.specs.Partition.{HasEnds, Joins, MeetsNeedsAt}
use Rattle.partition_defs.specs.Triangulation.{IsApex}
use Rattle.star.specs.Stars.{Seen, IsStar, IsNeighbour, HasMark, entry}
use Rattle.star.specs.StarOf.{IsStarOf}
use Rattle.partition_defs.proofs.laws.Flips.{apex_is_one, apex_turns}
use Rattle.partition_defs.proofs.laws.Joined.{join_back, contains_joins, joins_contains, one_other, among_joins}
use Rattle.star.proofs.laws.Marks.{one_mark, unmarked, marked_neighbour, one_next}
use Rattle.star.proofs.laws.Needs.{not_missed_of_met_without}
use Rattle.star.proofs.laws.Apexes.{apex_is_next, apex_left}
use Rattle.journal_defs.specs.declared.edit.Edit.{Edit}
use Rattle.journal_defs.specs.declared.edit.Edit.TheVariants.{Drop, Keep, Flip}
use Rattle.journal_defs.specs.declared.edit.Why.{Why}
use Rattle.journal_defs.specs.declared.edit.Why.TheVariants.{NotThere, NotKept, NotSpare, Border, Opens, AlreadyThere, NotApex, Bent}
use Rattle.partition_defs.specs.Sets.{without}
use Rattle.journal_defs.specs.Edits.{State, IsLegalDrop, IsSpare, IsLegal, is_end, touches, IsSound}
use Rattle.star.specs.Gaps.{MeetsWithout}
use Rattle.journal_defs.specs.Table.{Shows, ShowsKept, IsFirstOpened, ShowsApex, IsEitherApex, IsFirstNoApex, IsFirstBent, JoinsApexes, IsLowRight, IsHighLeft, FitsDrop, FitsKeep, FitsFlip, Fits, RefusesDrop, RefusesKeep, RefusesFlip, Refuses}
use Rattle.journal_defs.specs.Agree.{AreAgreeing}
use Rattle.partition_defs.proofs.laws.Sets.{joins_without, without_joins}
use Rattle.journal_defs.proofs.laws.Members.{is_end_lo, is_end_hi}
use Rattle.journal_defs.proofs.laws.Edits.{gone_can, can_gone, HasQuad, legal_flippable, flippable_legal}
use Rattle.std.proofs.lemmas.Bool.{or_left, or_right}

-- the star of v is its star in the state
abbrev pub IsTrueAt : List Point → State → (ℕ → Seen) → ℕ → Type 0
IsTrueAt S s at v = IsStarOf S s.all s.kept v (at v)

pub shows_there : (S : List Point) (s : State) (at : ℕ → Seen) (e : Pair) → IsTrueAt S s at e.lo → Shows (at e.lo) e → Contains s.all e
shows_there S s at e so h = joins_contains s.all e ((so.neighbours e.hi).0 h)

pub there_shows : (S : List Point) (s : State) (at : ℕ → Seen) (e : Pair) → IsTrueAt S s at e.lo → Contains s.all e → Shows (at e.lo) e
there_shows S s at e so h = (so.neighbours e.hi).1 (contains_joins s.all e h)

pub shows_kept : (S : List Point) (s : State) (at : ℕ → Seen) (e : Pair) → IsTrueAt S s at e.lo → ShowsKept (at e.lo) e → Contains s.kept e
shows_kept S s at e so h = joins_contains s.kept e ((so.marks e.hi (marked_neighbour (at e.lo) e.hi true h)).0 h)

pub kept_shows : (S : List Point) (s : State) (at : ℕ → Seen) (e : Pair) → IsSound S s → IsTrueAt S s at e.lo → Contains s.kept e → ShowsKept (at e.lo) e
kept_shows S s at e sound so h = (so.marks e.hi (there_shows S s at e so (sound.among e h))).1 (contains_joins s.kept e h)

-- a kept neighbour is a point
neighbour_within : (S : List Point) (s : State) (at : ℕ → Seen) (v r : ℕ) → IsTrueAt S s at v → IsNeighbour (at v) r → r < length S
neighbour_within S s at v r so (k, stands) =
    subst (λ x. x < length S) stands.1 (subst (λ (P : List Point). (entry (at v).list k).0 < length P) so.points (so.star.within k stands.0))

-- the kept neighbours other than q meet all needs of the centre, told of the points P
abbrev pub MeetsIn : List Point → Seen → ℕ → Type 0
MeetsIn P s q = (u : ℕ) → u < length P → u ≢ s.centre → (r : ℕ) × (r ≢ q) × HasMark s r true × IsInNeed P s.centre u r

-- the star's kept neighbours but w meet the needs of v exactly where the kept pairs without that to w do
pub star_meets : (S : List Point) (s : State) (at : ℕ → Seen) (e : Pair) (v w : ℕ) → IsTrueAt S s at v → HasEnds e v w → MeetsWithout (at v) w → MeetsNeedsAt S (without e s.kept) v
star_meets S s at e v w so ends given = λ q hq ne.
    (let meets : MeetsIn S (at v) w = subst (λ (P : List Point). MeetsIn P (at v) w) so.points given in
    let (r, apart, mark, need) = meets q hq (λ same. ne (same ∙ so.centre)) in
    let near = marked_neighbour (at v) r true mark in
    (r, neighbour_within S s at v r so near, without_joins e s.kept v r ((so.marks r near).0 mark) (λ own. apart (sym (one_other e v w r ends own))), subst (λ c. IsInNeed S c q r) so.centre need))

pub meets_star : (S : List Point) (s : State) (at : ℕ → Seen) (e : Pair) (v w : ℕ) → IsSound S s → IsTrueAt S s at v → HasEnds e v w → MeetsNeedsAt S (without e s.kept) v → MeetsWithout (at v) w
meets_star S s at e v w sound so ends meets =
    let told : MeetsIn S (at v) w = λ x hx ne.
    (let (r, hr, join, need) = meets x hx (λ same. ne (same ∙ sym so.centre)) in
    let own = joins_without e s.kept v r join in
    let near : IsNeighbour (at v) r = (so.neighbours r).1 (among_joins s.kept s.all sound.among v r own.0) in
    (r, (λ same. own.1 (subst (λ (y : ℕ). HasEnds e v y) (sym same) ends)), (so.marks r near).1 own.0, subst (λ c. IsInNeed S c x r) (sym so.centre) need)) in
    subst (λ (P : List Point). MeetsIn P (at v) w) (sym so.points) told

pub fits_drop : (S : List Point) (s : State) (at : ℕ → Seen) (e : Pair) → IsSound S s → IsTrueAt S s at e.lo → IsTrueAt S s at e.hi → FitsDrop S (at e.lo) (at e.hi) e → IsLegalDrop S s e
fits_drop S s at e sound low high fits = record {
  kept = shows_kept S s at e low fits.kept;
  partition = can_gone S s.kept e sound.partition (record {
    inside = fits.inside;
    lower = λ inner. star_meets S s at e e.lo e.hi low (inl (refl, refl)) (fits.lower inner);
    upper = λ inner. star_meets S s at e e.hi e.lo high (inr (refl, refl)) (fits.upper inner);
  });
}

pub drop_fits : (S : List Point) (s : State) (at : ℕ → Seen) (e : Pair) → IsSound S s → IsTrueAt S s at e.lo → IsTrueAt S s at e.hi → IsLegalDrop S s e → FitsDrop S (at e.lo) (at e.hi) e
drop_fits S s at e sound low high legal =
    let can = gone_can S s.kept e (sound.partition.within e legal.kept) legal.partition in
    record {
      there = there_shows S s at e low (sound.among e legal.kept);
      kept = kept_shows S s at e sound low legal.kept;
      inside = can.inside;
      lower = λ inner. meets_star S s at e e.lo e.hi sound low (inl (refl, refl)) (can.lower inner);
      upper = λ inner. meets_star S s at e e.hi e.lo sound high (inr (refl, refl)) (can.upper inner);
    }

pub fits_spare : (S : List Point) (s : State) (at : ℕ → Seen) (e : Pair) → IsSound S s → IsTrueAt S s at e.lo → Shows (at e.lo) e → ¬ ShowsKept (at e.lo) e → IsSpare s e
fits_spare S s at e sound low there spare = record { there = shows_there S s at e low there; spare = λ h. spare (kept_shows S s at e sound low h) }

pub spare_not_kept : (S : List Point) (s : State) (at : ℕ → Seen) (e : Pair) → IsTrueAt S s at e.lo → IsSpare s e → ¬ ShowsKept (at e.lo) e
spare_not_kept S s at e low legal h = legal.spare (shows_kept S s at e low h)

-- the apex that a true star shows is the triangulation's
pub shows_apex : (S : List Point) (s : State) (at : ℕ → Seen) (p q r : ℕ) → IsSound S s → IsTrueAt S s at p → ShowsApex S (at p) p q r → IsApex S s.all p q r
shows_apex S s at p q r sound so h = (apex_left S s.all s.kept p q r (at p) sound.triangulation so h.0 h.1).1

pub apex_shows : (S : List Point) (s : State) (at : ℕ → Seen) (p q r : ℕ) → IsSound S s → IsTrueAt S s at p → Joins s.all p q → IsApex S s.all p q r → ShowsApex S (at p) p q r
apex_shows S s at p q r sound so join apex =
    let (k, stands) = (so.neighbours q).1 join in
    ((k, stands, apex_is_next S s.all s.kept p q r k (at p) sound.triangulation so stands apex), apex.left)

-- there is one apex
pub one_apex : (S : List Point) (s : State) (at : ℕ → Seen) (p q r t : ℕ) → IsSound S s → IsTrueAt S s at p → ShowsApex S (at p) p q r → ShowsApex S (at p) p q t → r ≡ t
one_apex S s at p q r t sound so h k =
    apex_is_one S s.all sound.triangulation p q r t (shows_apex S s at p q r sound so h) (shows_apex S s at p q t sound so k)

pub fits_flippable : (S : List Point) (s : State) (at : ℕ → Seen) (e f : Pair) → IsSound S s → IsTrueAt S s at e.lo → IsTrueAt S s at e.hi → FitsFlip S (at e.lo) (at e.hi) (at f.lo) e f → HasQuad S s.all e f
fits_flippable S s at e f sound low high fits = record {
  near = fits.near;
  far = fits.far;
  ends = fits.apexes.ends;
  quad = record {
    joined = (low.neighbours e.hi).0 fits.there;
    left = shows_apex S s at e.lo e.hi fits.near sound low fits.apexes.near;
    right = shows_apex S s at e.hi e.lo fits.far sound high fits.apexes.far;
    first_side = fits.lower;
    second_side = fits.upper;
  };
}

pub flippable_fits : (S : List Point) (s : State) (at : ℕ → Seen) (e f : Pair) → IsSound S s → IsTrueAt S s at e.lo → IsTrueAt S s at e.hi → IsTrueAt S s at f.lo → IsSpare s e → ¬ Contains s.all f → HasQuad S s.all e f → FitsFlip S (at e.lo) (at e.hi) (at f.lo) e f
flippable_fits S s at e f sound low high new spare fresh can =
    let join = contains_joins s.all e spare.there in
    record {
      there = there_shows S s at e low spare.there;
      spare = spare_not_kept S s at e low spare;
      fresh = λ h. fresh (shows_there S s at f new h);
      near = can.near;
      far = can.far;
      apexes = record {
        near = apex_shows S s at e.lo e.hi can.near sound low join can.quad.left;
        far = apex_shows S s at e.hi e.lo can.far sound high (join_back s.all e.lo e.hi join) can.quad.right;
        ends = can.ends;
      };
      lower = can.quad.first_side;
      upper = can.quad.second_side;
    }

-- the table says legality, both ways
pub fits_legal : (S : List Point) (s : State) (at : ℕ → Seen) (e : Edit) → IsSound S s → ((v : ℕ) → touches e v ≡ true → IsTrueAt S s at v) → Fits S at e → IsLegal S s e
fits_legal S s at (Drop e) sound so fits = fits_drop S s at e sound (so e.lo (is_end_lo e)) (so e.hi (is_end_hi e)) fits
fits_legal S s at (Keep e) sound so fits = fits_spare S s at e sound (so e.lo (is_end_lo e)) fits.there fits.spare
fits_legal S s at (Flip e f) sound so fits =
    let low = so e.lo (or_left (is_end e e.lo) (is_end f e.lo) (is_end_lo e)) in
    let high = so e.hi (or_left (is_end e e.hi) (is_end f e.hi) (is_end_hi e)) in
    flippable_legal S s e f sound (fits_spare S s at e sound low fits.there fits.spare) (fits_flippable S s at e f sound low high fits)

pub legal_fits : (S : List Point) (s : State) (at : ℕ → Seen) (e : Edit) → IsSound S s → ((v : ℕ) → touches e v ≡ true → IsTrueAt S s at v) → IsLegal S s e → Fits S at e
legal_fits S s at (Drop e) sound so legal = drop_fits S s at e sound (so e.lo (is_end_lo e)) (so e.hi (is_end_hi e)) legal
legal_fits S s at (Keep e) sound so legal =
    let low = so e.lo (is_end_lo e) in
    record { there = there_shows S s at e low legal.there; spare = spare_not_kept S s at e low legal }
legal_fits S s at (Flip e f) sound so legal =
    let low = so e.lo (or_left (is_end e e.lo) (is_end f e.lo) (is_end_lo e)) in
    let high = so e.hi (or_left (is_end e e.hi) (is_end f e.hi) (is_end_hi e)) in
    let new = so f.lo (or_right (is_end e f.lo) (is_end f f.lo) (is_end_lo f)) in
    flippable_fits S s at e f sound low high new legal.spare legal.fresh (legal_flippable S s e f sound legal)

-- a star shows one apex
pub one_shown : (S : List Point) (at : ℕ → Seen) (p q r t : ℕ) → IsStar (at p) → ShowsApex S (at p) p q r → ShowsApex S (at p) p q t → r ≡ t
one_shown S at p q r t so a b = one_next (at p) q r t so a.0 b.0

-- a refusal and a fit exclude each other
pub refused_drop : (S : List Point) (at : ℕ → Seen) (e : Pair) (why : Why) → RefusesDrop S (at e.lo) (at e.hi) e why → ¬ FitsDrop S (at e.lo) (at e.hi) e
refused_drop S at e NotThere r fits = r fits.there
refused_drop S at e NotKept r fits = r.1 fits.kept
refused_drop S at e Border r fits = fits.inside r.2
refused_drop S at e (Opens v) r fits = elim r.3 [ inl a ↦ not_missed_of_met_without (at e.lo) e.hi (fits.lower a.1.0) a.1.1 | inr a ↦ not_missed_of_met_without (at e.hi) e.lo (fits.upper a.2.0) a.2.1 ]
refused_drop S at e _ r fits = r

pub refused_keep : (at : ℕ → Seen) (e : Pair) (why : Why) → RefusesKeep (at e.lo) e why → ¬ FitsKeep (at e.lo) e
refused_keep at e NotThere r fits = r fits.there
refused_keep at e NotSpare r fits = fits.spare r.1
refused_keep at e _ r fits = r

pub refused_flip : (S : List Point) (at : ℕ → Seen) (e f : Pair) (why : Why) → IsStar (at e.lo) → IsStar (at e.hi) → RefusesFlip S (at e.lo) (at e.hi) (at f.lo) e f why → ¬ FitsFlip S (at e.lo) (at e.hi) (at f.lo) e f
refused_flip S at e f NotThere low high r fits = r fits.there
refused_flip S at e f NotSpare low high r fits = fits.spare r.1
refused_flip S at e f AlreadyThere low high r fits = fits.fresh r.2
refused_flip S at e f (NotApex v) low high r fits = elim r.1 [ inl a ↦ a.1 (either fits.apexes.ends) | inr a ↦ a.2 (other fits.apexes.ends) ]
  where
    either : HasEnds f fits.near fits.far → IsEitherApex S (at e.lo) (at e.hi) e f.lo
    either (inl x) = inl (subst (λ (y : ℕ). ShowsApex S (at e.lo) e.lo e.hi y) (sym x.0) fits.apexes.near)
    either (inr x) = inr (subst (λ (y : ℕ). ShowsApex S (at e.hi) e.hi e.lo y) (sym x.0) fits.apexes.far)

    other : HasEnds f fits.near fits.far → IsEitherApex S (at e.lo) (at e.hi) e f.hi
    other (inl x) = inr (subst (λ (y : ℕ). ShowsApex S (at e.hi) e.hi e.lo y) (sym x.1) fits.apexes.far)
    other (inr x) = inl (subst (λ (y : ℕ). ShowsApex S (at e.lo) e.lo e.hi y) (sym x.1) fits.apexes.near)
refused_flip S at e f (Bent v) low high (fresh, (k, l, apexes, bent)) fits =
    let same : k ≡ fits.near = one_shown S at e.lo e.hi k fits.near low apexes.near fits.apexes.near in
    let alike : l ≡ fits.far = one_shown S at e.hi e.lo l fits.far high apexes.far fits.apexes.far in
    elim bent [
      | inl a ↦ a.1 (subst (λ (y : ℕ). IsLowRight S e k y) (sym alike) (subst (λ (x : ℕ). IsLowRight S e x fits.far) (sym same) fits.lower))
      | inr a ↦ a.2 (subst (λ (y : ℕ). IsHighLeft S e k y) (sym alike) (subst (λ (x : ℕ). IsHighLeft S e x fits.far) (sym same) fits.upper))
    ]
refused_flip S at e f _ low high r fits = r

-- so a refusal by true stars means that the edit isn't legal
pub refused_illegal : (S : List Point) (s : State) (at : ℕ → Seen) (e : Edit) (why : Why) → IsSound S s → ((v : ℕ) → touches e v ≡ true → IsTrueAt S s at v) → Refuses S at e why → ¬ IsLegal S s e
refused_illegal S s at (Drop e) why sound so r legal = refused_drop S at e why r (legal_fits S s at (Drop e) sound so legal)
refused_illegal S s at (Keep e) why sound so r legal = refused_keep at e why r (legal_fits S s at (Keep e) sound so legal)
refused_illegal S s at (Flip e f) why sound so r legal =
    refused_flip S at e f why
    (so e.lo (or_left (is_end e e.lo) (is_end f e.lo) (is_end_lo e))).star
    (so e.hi (or_left (is_end e e.hi) (is_end f e.hi) (is_end_hi e))).star
    r (legal_fits S s at (Flip e f) sound so legal)

-- the first refusal is one
pub one_refusal_drop : (S : List Point) (at : ℕ → Seen) (e : Pair) (a b : Why) → RefusesDrop S (at e.lo) (at e.hi) e a → RefusesDrop S (at e.lo) (at e.hi) e b → a ≡ b
one_refusal_drop S at e NotThere NotThere x y = refl
one_refusal_drop S at e NotThere NotKept x y = absurd (x y.0)
one_refusal_drop S at e NotThere Border x y = absurd (x y.0)
one_refusal_drop S at e NotThere (Opens w) x y = absurd (x y.0)
one_refusal_drop S at e NotThere _ x y = absurd y
one_refusal_drop S at e NotKept NotThere x y = absurd (y x.0)
one_refusal_drop S at e NotKept NotKept x y = refl
one_refusal_drop S at e NotKept Border x y = absurd (x.1 y.1)
one_refusal_drop S at e NotKept (Opens w) x y = absurd (x.1 y.1)
one_refusal_drop S at e NotKept _ x y = absurd y
one_refusal_drop S at e Border NotThere x y = absurd (y x.0)
one_refusal_drop S at e Border NotKept x y = absurd (y.1 x.1)
one_refusal_drop S at e Border Border x y = refl
one_refusal_drop S at e Border (Opens w) x y = absurd (y.2 x.2)
one_refusal_drop S at e Border _ x y = absurd y
one_refusal_drop S at e (Opens v) NotThere x y = absurd (y x.0)
one_refusal_drop S at e (Opens v) NotKept x y = absurd (y.1 x.1)
one_refusal_drop S at e (Opens v) Border x y = absurd (x.2 y.2)
one_refusal_drop S at e (Opens v) (Opens w) x y = ap (λ (u : ℕ). (let z : Why = Opens u in z)) (same x.3 y.3)
  where
    same : IsFirstOpened S (at e.lo) (at e.hi) e v → IsFirstOpened S (at e.lo) (at e.hi) e w → v ≡ w
    same (inl h) (inl k) = h.0 ∙ sym k.0
    same (inl h) (inr k) = absurd (not_missed_of_met_without (at e.lo) e.hi (k.1 h.1.0) h.1.1)
    same (inr h) (inl k) = absurd (not_missed_of_met_without (at e.lo) e.hi (h.1 k.1.0) k.1.1)
    same (inr h) (inr k) = h.0 ∙ sym k.0
one_refusal_drop S at e (Opens v) _ x y = absurd y
one_refusal_drop S at e _ b x y = absurd x

-- the stars of a state agree
pub stars_agree : (S : List Point) (s : State) (at : ℕ → Seen) (V : ℕ → Type 0) → IsSound S s → ((v : ℕ) → V v → v < length S) → ((v : ℕ) → V v → IsTrueAt S s at v) → AreAgreeing S at V
stars_agree S s at V sound inside so = record {
  stars = λ v h. ((so v h).star, (so v h).centre, (so v h).points);
  joined = λ v w hv hw n. ((so w hw).neighbours v).1 (join_back s.all v w (((so v hv).neighbours w).0 n));
  marked = λ v w b hv hw m. mark v w b (so v hv) (so w hw) m;
  needs = λ v h inner x hx ne. (let (r, hr, join, need) = sound.partition.needs v (inside v h) inner x hx ne in
      let near : IsNeighbour (at v) r = ((so v h).neighbours r).1 (among_joins s.kept s.all sound.among v r join) in
      (r, ((so v h).marks r near).1 join, need));
  sides = λ p q hp hq n left. (let join = ((so p hp).neighbours q).0 n in
      let (r, apex) = sound.triangulation.apex p q join left in
      (r, (apex_shows S s at p q r sound (so p hp) join apex).0, (apex_shows S s at q r p sound (so q hq) apex.second (turned p q r join (inside p hp) apex)).0));
}
  where
    turned : (p q r : ℕ) → Joins s.all p q → p < length S → IsApex S s.all p q r → IsApex S s.all q r p
    turned p q r join hp apex = apex_turns S s.all sound.triangulation p q r join apex

    mark : (v w : ℕ) (b : Bool) → IsTrueAt S s at v → IsTrueAt S s at w → HasMark (at v) w b → HasMark (at w) v b
    mark v w true a c m = let join = (a.marks w (marked_neighbour (at v) w true m)).0 m in
        (c.marks v ((c.neighbours v).1 (join_back s.all v w ((a.neighbours w).0 (marked_neighbour (at v) w true m))))).1 (join_back s.kept v w join)
    mark v w false a c m =
        let near = marked_neighbour (at v) w false m in
        let there : IsNeighbour (at w) v = (c.neighbours v).1 (join_back s.all v w ((a.neighbours w).0 near)) in
        unmarked (at w) v there (λ k. one_mark (at v) w a.star m ((a.marks w near).1 (join_back s.kept w v ((c.marks v there).0 k))))

pub one_refusal_keep : (at : ℕ → Seen) (e : Pair) (a b : Why) → RefusesKeep (at e.lo) e a → RefusesKeep (at e.lo) e b → a ≡ b
one_refusal_keep at e NotThere NotThere x y = refl
one_refusal_keep at e NotThere NotSpare x y = absurd (x y.0)
one_refusal_keep at e NotThere _ x y = absurd y
one_refusal_keep at e NotSpare NotThere x y = absurd (y x.0)
one_refusal_keep at e NotSpare NotSpare x y = refl
one_refusal_keep at e NotSpare _ x y = absurd y
one_refusal_keep at e _ b x y = absurd x

-- apexes that f joins are both apexes
joins_both : (S : List Point) (at : ℕ → Seen) (e f : Pair) (k l : ℕ) → JoinsApexes S (at e.lo) (at e.hi) e f k l → IsEitherApex S (at e.lo) (at e.hi) e f.lo × IsEitherApex S (at e.lo) (at e.hi) e f.hi
joins_both S at e f k l so = both so.ends
  where
    both : HasEnds f k l → IsEitherApex S (at e.lo) (at e.hi) e f.lo × IsEitherApex S (at e.lo) (at e.hi) e f.hi
    both (inl x) = (inl (subst (λ (y : ℕ). ShowsApex S (at e.lo) e.lo e.hi y) (sym x.0) so.near), inr (subst (λ (y : ℕ). ShowsApex S (at e.hi) e.hi e.lo y) (sym x.1) so.far))
    both (inr x) = (inr (subst (λ (y : ℕ). ShowsApex S (at e.hi) e.hi e.lo y) (sym x.0) so.far), inl (subst (λ (y : ℕ). ShowsApex S (at e.lo) e.lo e.hi y) (sym x.1) so.near))

pub one_refusal_flip : (S : List Point) (at : ℕ → Seen) (e f : Pair) (a b : Why) → IsStar (at e.lo) → IsStar (at e.hi) → RefusesFlip S (at e.lo) (at e.hi) (at f.lo) e f a → RefusesFlip S (at e.lo) (at e.hi) (at f.lo) e f b → a ≡ b
one_refusal_flip S at e f NotThere NotThere low high x y = refl
one_refusal_flip S at e f NotThere NotSpare low high x y = absurd (x y.0)
one_refusal_flip S at e f NotThere AlreadyThere low high x y = absurd (x y.0)
one_refusal_flip S at e f NotThere (NotApex w) low high x y = absurd (x y.0.0)
one_refusal_flip S at e f NotThere (Bent w) low high x y = absurd (x y.0.0)
one_refusal_flip S at e f NotThere _ low high x y = absurd y
one_refusal_flip S at e f NotSpare NotThere low high x y = absurd (y x.0)
one_refusal_flip S at e f NotSpare NotSpare low high x y = refl
one_refusal_flip S at e f NotSpare AlreadyThere low high x y = absurd (y.1 x.1)
one_refusal_flip S at e f NotSpare (NotApex w) low high x y = absurd (y.0.1 x.1)
one_refusal_flip S at e f NotSpare (Bent w) low high x y = absurd (y.0.1 x.1)
one_refusal_flip S at e f NotSpare _ low high x y = absurd y
one_refusal_flip S at e f AlreadyThere NotThere low high x y = absurd (y x.0)
one_refusal_flip S at e f AlreadyThere NotSpare low high x y = absurd (x.1 y.1)
one_refusal_flip S at e f AlreadyThere AlreadyThere low high x y = refl
one_refusal_flip S at e f AlreadyThere (NotApex w) low high x y = absurd (y.0.2 x.2)
one_refusal_flip S at e f AlreadyThere (Bent w) low high x y = absurd (y.0.2 x.2)
one_refusal_flip S at e f AlreadyThere _ low high x y = absurd y
one_refusal_flip S at e f (NotApex v) NotThere low high x y = absurd (y x.0.0)
one_refusal_flip S at e f (NotApex v) NotSpare low high x y = absurd (x.0.1 y.1)
one_refusal_flip S at e f (NotApex v) AlreadyThere low high x y = absurd (x.0.2 y.2)
one_refusal_flip S at e f (NotApex v) (NotApex w) low high x y = ap (λ (u : ℕ). (let z : Why = NotApex u in z)) (same x.1 y.1)
  where
    same : IsFirstNoApex S (at e.lo) (at e.hi) e f v → IsFirstNoApex S (at e.lo) (at e.hi) e f w → v ≡ w
    same (inl h) (inl k) = h.0 ∙ sym k.0
    same (inl h) (inr k) = absurd (h.1 k.1)
    same (inr h) (inl k) = absurd (k.1 h.1)
    same (inr h) (inr k) = h.0 ∙ sym k.0
one_refusal_flip S at e f (NotApex v) (Bent w) low high x (g, (k, l, apexes, bent)) =
    let r = joins_both S at e f k l apexes in absurd (elim x.1 [ inl h ↦ h.1 r.0 | inr h ↦ h.2 r.1 ])
one_refusal_flip S at e f (NotApex v) _ low high x y = absurd y
one_refusal_flip S at e f (Bent v) NotThere low high x y = absurd (y x.0.0)
one_refusal_flip S at e f (Bent v) NotSpare low high x y = absurd (x.0.1 y.1)
one_refusal_flip S at e f (Bent v) AlreadyThere low high x y = absurd (x.0.2 y.2)
one_refusal_flip S at e f (Bent v) (NotApex w) low high (g, (k, l, apexes, bent)) y =
    let r = joins_both S at e f k l apexes in absurd (elim y.1 [ inl h ↦ h.1 r.0 | inr h ↦ h.2 r.1 ])
one_refusal_flip S at e f (Bent v) (Bent w) low high (g, (k, l, apexes, bent)) (h, (m, n, others, turned)) =
    let one : k ≡ m = one_shown S at e.lo e.hi k m low apexes.near others.near in
    let two : l ≡ n = one_shown S at e.hi e.lo l n high apexes.far others.far in
    ap (λ (u : ℕ). (let z : Why = Bent u in z)) (same bent (subst (λ (y : ℕ). IsFirstBent S e k y w) (sym two) (subst (λ (x : ℕ). IsFirstBent S e x n w) (sym one) turned)))
  where
    same : IsFirstBent S e k l v → IsFirstBent S e k l w → v ≡ w
    same (inl a) (inl b) = a.0 ∙ sym b.0
    same (inl a) (inr b) = absurd (a.1 b.1)
    same (inr a) (inl b) = absurd (b.1 a.1)
    same (inr a) (inr b) = a.0 ∙ sym b.0
one_refusal_flip S at e f (Bent v) _ low high x y = absurd y
one_refusal_flip S at e f _ b low high x y = absurd x
