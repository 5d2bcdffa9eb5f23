-- The answers of the planner.
use Rattle.std.proofs.Common.{◌≡◌, ℕ, Bool, true, false, List, [], ◌∷◌, Option, Some, None, Result, Ok, Err, arith, sym, ◌∙◌, ap, subst, refl}
use Rattle.std.specs.Prelude.{IfOk, IsTrue, ◌↔◌}
use Rattle.std.proofs.lemmas.Bool.{false≢true}
use Rattle.plane.specs.declared.coordinates.Point.{Point}
use Rattle.plane.specs.declared.segment.Pair.{Pair}
use Rattle.cost_defs.specs.Costs.{Costed}
use Rattle.star.specs.Stars.{IsStar}
use Rattle.journal_defs.specs.declared.edit.Edit.{Edit}
use Rattle.journal_defs.specs.declared.edit.Edit.TheVariants.{Drop, Keep, Flip}
use Rattle.edit.specs.declared.look.Look.{Look}
use Rattle.edit.specs.Plans.{Planned, are_touching}
use Rattle.plan_defs.specs.declared.moves.Move.{Move}
use Rattle.plan_defs.specs.declared.moves.Move.TheVariants.{DropOne, Swap, Trade, FlipOne, FlipSwap}
use Rattle.plan_defs.specs.Plans.{Sight, has_look, star_in, AreFitting, HasEdits, IsAcross, IsNoDearer, IsPlanned, IsPlanOf, drops_of}
use Rattle.plan_defs.proofs.laws.Once.{one_across, lo_looked, hi_looked}
use Rattle.journal_defs.specs.Table.{Fits}
use Rattle.journal_defs.specs.Turns.{FitInTurn}
use Rattle.planner.specs.Region.{sights, AreFor, DoAgree, IsAsBefore, IsRegion}
use Rattle.planner.specs.Answers.{IsAnswer, IsAcrossOrNone, IsFlipThen}
use Rattle.planner.specs.Steps.{AreHeld, AreLooked, AreMarks}

-- the answer to the only edits of a move is that to the move
pub planned_of : (S : List Point) (D : List Costed) (R : List Sight) (m : Move) (es : List Edit) (o : Option Planned) → HasEdits S (star_in S R) m es → ((fs : List Edit) → HasEdits S (star_in S R) m fs → AreFitting S D R fs → fs ≡ es) → IsAnswer S D R es o → IsPlanned S D R m o
planned_of S D R m es None has only answer = λ fs h fit. answer (subst (λ (x : List Edit). AreFitting S D R x) (only fs h fit) fit)
planned_of S D R m es (Some p) has only answer = (es, (has, answer.0), answer.1)

pub drop_planned : (S : List Point) (D : List Costed) (R : List Sight) (e : Pair) (o : Option Planned) → IsAnswer S D R (Drop e ∷ []) o → IsPlanned S D R (DropOne e) o
drop_planned S D R e o answer = planned_of S D R (DropOne e) (Drop e ∷ []) o refl (λ fs h fit. h) answer

pub swap_planned : (S : List Point) (D : List Costed) (R : List Sight) (keep first : Pair) (second : Option Pair) (o : Option Planned) → IsAnswer S D R (Keep keep ∷ drops_of first second) o → IsPlanned S D R (Swap keep first second) o
swap_planned S D R keep first second o answer = planned_of S D R (Swap keep first second) (Keep keep ∷ drops_of first second) o refl (λ fs h fit. h) answer

pub trade_planned : (S : List Point) (D : List Costed) (R : List Sight) (keep other first second : Pair) (o : Option Planned) → IsAnswer S D R (Keep keep ∷ Keep other ∷ Drop first ∷ Drop second ∷ []) o → IsPlanned S D R (Trade keep other first second) o
trade_planned S D R keep other first second o answer = planned_of S D R (Trade keep other first second) (Keep keep ∷ Keep other ∷ Drop first ∷ Drop second ∷ []) o refl (λ fs h fit. h) answer

-- the pair across is one
across_one : (S : List Point) (R : List Sight) (e f g : Pair) (es : List Edit) → ((v : ℕ) → has_look R v ≡ true → IsStar (star_in S R v)) → IsAcross S (star_in S R) e f → IsAcross S (star_in S R) e g
    → ((v : ℕ) → are_touching (Flip e g ∷ es) v ≡ true → has_look R v ≡ true) → g ≡ f
across_one S R e f g es stars a b looked = one_across S (star_in S R) e g f (stars e.lo (lo_looked R e g es looked)) (stars e.hi (hi_looked R e g es looked)) b a

pub flip_planned : (S : List Point) (D : List Costed) (R : List Sight) (e f : Pair) (o : Option Planned) → ((v : ℕ) → has_look R v ≡ true → IsStar (star_in S R v)) → IsAcross S (star_in S R) e f → IsAnswer S D R (Flip e f ∷ []) o → IsPlanned S D R (FlipOne e) o
flip_planned S D R e f o stars across answer =
    planned_of S D R (FlipOne e) (Flip e f ∷ []) o (f, across, refl)
    (λ fs h fit. (let (g, other, is) = h in
    is ∙ ap (λ (x : Pair). Flip e x ∷ []) (across_one S R e f g [] stars across other (subst (λ (x : List Edit). (v : ℕ) → are_touching x v ≡ true → has_look R v ≡ true) is fit.looked))))
    answer

pub turn_planned : (S : List Point) (D : List Costed) (R : List Sight) (e f first : Pair) (second : Option Pair) (o : Option Planned) → ((v : ℕ) → has_look R v ≡ true → IsStar (star_in S R v)) → IsAcross S (star_in S R) e f
    → IsAnswer S D R (Flip e f ∷ Keep f ∷ drops_of first second) o → IsPlanned S D R (FlipSwap e first second) o
turn_planned S D R e f first second o stars across answer =
    planned_of S D R (FlipSwap e first second) (Flip e f ∷ Keep f ∷ drops_of first second) o (f, across, refl)
    (λ fs h fit. (let (g, other, is) = h in
    is ∙ ap (λ (x : Pair). Flip e x ∷ Keep x ∷ drops_of first second) (across_one S R e f g (Keep g ∷ drops_of first second) stars across other (subst (λ (x : List Edit). (v : ℕ) → are_touching x v ≡ true → has_look R v ≡ true) is fit.looked))))
    answer

-- where there is no pair across, none of its flips fits
pub flip_none : (S : List Point) (D : List Costed) (R : List Sight) (e : Pair) → IsAcrossOrNone S R e None → IsPlanned S D R (FlipOne e) None
flip_none S D R e none fs (g, other, is) fit =
    let looked : (v : ℕ) → are_touching (Flip e g ∷ []) v ≡ true → has_look R v ≡ true = subst (λ (x : List Edit). (v : ℕ) → are_touching x v ≡ true → has_look R v ≡ true) is fit.looked in
    none (lo_looked R e g [] looked, hi_looked R e g [] looked) g other

pub turn_none : (S : List Point) (D : List Costed) (R : List Sight) (e first : Pair) (second : Option Pair) → IsAcrossOrNone S R e None → IsPlanned S D R (FlipSwap e first second) None
turn_none S D R e first second none fs (g, other, is) fit =
    let rest = Keep g ∷ drops_of first second in
    let looked : (v : ℕ) → are_touching (Flip e g ∷ rest) v ≡ true → has_look R v ≡ true = subst (λ (x : List Edit). (v : ℕ) → are_touching x v ≡ true → has_look R v ≡ true) is fit.looked in
    none (lo_looked R e g rest looked, hi_looked R e g rest looked) g other

-- the answer to edits, as it is come to
pub unlooked : (S : List Point) (D : List Costed) (R : List Look) (es : List Edit) (b : Bool) → IsTrue b ↔ AreLooked R es → b ≡ false → IsAnswer S D (sights R) es None
unlooked S D R es b told off fit = false≢true (sym off ∙ told.1 fit.looked)

pub dearer : (S : List Point) (D : List Costed) (R : List Look) (es : List Edit) (b : Bool) → IsTrue b ↔ IsNoDearer D es → b ≡ false → IsAnswer S D (sights R) es None
dearer S D R es b told off fit = false≢true (sym off ∙ told.1 fit.cheap)

pub unfit : (S : List Point) (D : List Costed) (R : List Look) (es : List Edit) (b : Bool) → IsTrue b ↔ FitInTurn S (star_in S (sights R)) es → b ≡ false → IsAnswer S D (sights R) es None
unfit S D R es b told off fit = false≢true (sym off ∙ told.1 fit.fit)

pub answered : (S : List Point) (D : List Costed) (R R' : List Look) (es : List Edit) (p : Planned) → sights R' ≡ sights R → AreLooked R es → IsNoDearer D es → FitInTurn S (star_in S (sights R)) es → IsPlanOf (sights R') es p → IsAnswer S D (sights R) es (Some p)
answered S D R R' es p is looked cheap fit plan =
    (record { looked = looked; fit = fit; cheap = cheap }, subst (λ (T : List Sight). IsPlanOf T es p) is plan)

-- one edit
pub one_fit : (S : List Point) (D : List Costed) (R : List Look) (e : Edit) (p : Planned) → AreLooked R (e ∷ []) → IsNoDearer D (e ∷ []) → Fits S (star_in S (sights R)) e → IsPlanOf (sights R) (e ∷ []) p → IsAnswer S D (sights R) (e ∷ []) (Some p)
one_fit S D R e p looked cheap fits plan = answered S D R R (e ∷ []) p refl looked cheap (fits, tt) plan

pub one_unfit : (S : List Point) (D : List Costed) (R : List Look) (e : Edit) (b : Bool) → IsTrue b ↔ Fits S (star_in S (sights R)) e → b ≡ false → IsAnswer S D (sights R) (e ∷ []) None
one_unfit S D R e b told off fit = false≢true (sym off ∙ told.1 fit.fit.0)

-- a region that stayed as it was
pub as_before : (S : List Point) (R : List Look) → AreHeld S R → IsAsBefore S R R
as_before S R held = record { told = refl; points = held.points }

-- what is known of each region that agrees
pub held_of : (S : List Point) (R : List Look) → AreFor S R → DoAgree S R → IsRegion R → AreHeld S R
held_of S R points agree region = record { points = points; stars = agree.stars; apart = region.apart }

pub drop_free : (D : List Costed) (e : Pair) → IsNoDearer D (Drop e ∷ [])
drop_free D e = omega arith

pub flip_free_of_cost : (D : List Costed) (e f : Pair) → IsNoDearer D (Flip e f ∷ [])
flip_free_of_cost D e f = omega arith

-- an answer without memory is free
pub ok_then : {E : Type 0} (P Q : Option Planned → Type 0) (r : Result (Option Planned) E) → ((o : Option Planned) → P o → Q o) → IfOk r P → IfOk r Q
ok_then {E} P Q (Ok o) on h = on o h
ok_then {E} P Q (Err e) on h = h

-- the edits of a flip and of marks
pub turn_edits : (e f first : Pair) (second : Option Pair) → IsFlipThen e f (Flip e f ∷ Keep f ∷ drops_of first second)
turn_edits e f first None = (Keep f ∷ Drop first ∷ [], refl, (tt, (tt, tt)))
turn_edits e f first (Some s) = (Keep f ∷ Drop first ∷ Drop s ∷ [], refl, (tt, (tt, (tt, tt))))

-- the rest of a flip's edits
pub rest_is : (from to : Pair) (es rest : List Edit) (first : Edit) → es ≡ first ∷ rest → IsFlipThen from to es → (es ≡ Flip from to ∷ rest) × AreMarks rest
rest_is from to es rest first is (more, same, marks) =
    let e : first ∷ rest ≡ Flip from to ∷ more = sym is ∙ same in
    let tails : more ≡ rest = tail_same first (Flip from to) rest more e in
    (same ∙ ap (λ (x : List Edit). Flip from to ∷ x) tails, subst AreMarks tails marks)
  where
    tail_same : (a b : Edit) (xs ys : List Edit) → a ∷ xs ≡ b ∷ ys → ys ≡ xs
    tail_same a b xs ys e = cc

pub not_empty : (from to : Pair) (es : List Edit) → es ≡ [] → ¬ IsFlipThen from to es
not_empty from to es is (more, same, marks) = clash more (sym is ∙ same)
  where
    clash : (more : List Edit) → ¬ ([] ≡ Flip from to ∷ more)
    clash more e = cc
