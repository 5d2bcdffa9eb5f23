-- Drops that can't fit in their turn.
use Rattle.std.proofs.Common.{◌≡◌, ℕ, zero, suc, ◌<◌, Bool, List, [], ◌∷◌, length, get_or, take, Some, inl, inr, arith, sym, ap, subst}
use Rattle.plane.specs.declared.coordinates.Point.{Point}
use Rattle.plane.specs.declared.segment.Pair.{Pair}
use Rattle.plane.specs.Geometry.{IsInNeed}
use Rattle.star.specs.Stars.{Seen}
use Rattle.journal_defs.specs.declared.edit.Edit.{Edit}
use Rattle.journal_defs.specs.declared.edit.Edit.TheVariants.{Drop, Keep, Flip}
use Rattle.journal_defs.specs.Edits.{touches}
use Rattle.journal_defs.specs.Neighbours.{list_after}
use Rattle.journal_defs.specs.Table.{IsOpened, StaysMet}
use Rattle.journal_defs.specs.Turns.{FitInTurn, stars_after}
use Rattle.edit.specs.declared.look.Look.{Look}
use Rattle.edit.specs.Shown.{IsMetInside}
use Rattle.edit.specs.Plans.{are_touching}
use Rattle.plan_defs.specs.Plans.{star_in}
use Rattle.planner.specs.Region.{sights, star_of_look, AreFor, DoAgree}
use Rattle.planner.specs.Steps.{held_star}
use Rattle.planner.specs.Blocking.{Blocks, OpensUntouched}
use Rattle.planner.proofs.Agreed.{star_held, star_looked}
use Rattle.planner.proofs.Stepping.{untouched_list, left_or, right_or}

unmet : (S : List Point) (s : Seen) (v w : ℕ) → IsOpened S s v w → StaysMet S s v w → ⊥
unmet S s v w (inner, (u, within, apart, none)) stays = let (r, ne, mark, need) = stays inner u within apart in none r mark ne need

-- the edit before leaves the star of v as it is
untouched_next : (S : List Point) (at : ℕ → Seen) (b : Edit) (before : List Edit) (v w : ℕ) → OpensUntouched S at (b ∷ before) v w → OpensUntouched S (stars_after S b at) before v w
untouched_next S at b before v w (off, opened) =
    let same : list_after S v b (at v).list ≡ (at v).list = untouched_list S b v (at v).list (left_or (touches b v) (are_touching before v) off) in
    (right_or (touches b v) (are_touching before v) off, subst (λ (l : List (ℕ × Bool)). IsOpened S (record (at v) { list = l }) v w) (sym same) opened)

blocks_next : (S : List Point) (at : ℕ → Seen) (b : Edit) (before : List Edit) (e : Edit) → Blocks S at (b ∷ before) e → Blocks S (stars_after S b at) before e
blocks_next S at b before (Drop e) (inl o) = inl (untouched_next S at b before e.lo e.hi o)
blocks_next S at b before (Drop e) (inr o) = inr (untouched_next S at b before e.hi e.lo o)
blocks_next S at b before (Keep e) o = absurd o
blocks_next S at b before (Flip e f) o = absurd o

blocks_first : (S : List Point) (at : ℕ → Seen) (e : Edit) (es : List Edit) → Blocks S at [] e → FitInTurn S at (e ∷ es) → ⊥
blocks_first S at (Drop e) es (inl (off, opened)) fit = unmet S (at e.lo) e.lo e.hi opened fit.0.lower
blocks_first S at (Drop e) es (inr (off, opened)) fit = unmet S (at e.hi) e.hi e.lo opened fit.0.upper
blocks_first S at (Keep e) es o fit = absurd o
blocks_first S at (Flip e f) es o fit = absurd o

pub blocked : (S : List Point) (at : ℕ → Seen) (es : List Edit) (k : ℕ) (d : Edit) → k < length es → Blocks S at (take k es) (get_or es k d) → FitInTurn S at es → ⊥
blocked S at [] k d h o fit = absurd (omega (arith, h))
blocked S at (e ∷ es) zero d h o fit = blocks_first S at e es o fit
blocked S at (e ∷ es) (suc k) d h o fit = blocked S (stars_after S e at) es k d (omega (arith, h)) (blocks_next S at e (take k es) (get_or es k d) o) fit.1

-- a drop of which this is known
pub blocks_low : (S : List Point) (at : ℕ → Seen) (before : List Edit) (e : Edit) (p : Pair) (v w : ℕ) → e ≡ Drop p → v ≡ p.lo → w ≡ p.hi → OpensUntouched S at before v w → Blocks S at before e
blocks_low S at before e p v w is lo hi o =
    let one : OpensUntouched S at before p.lo w = subst (λ (x : ℕ). OpensUntouched S at before x w) lo o in
    let two : OpensUntouched S at before p.lo p.hi = subst (λ (x : ℕ). OpensUntouched S at before p.lo x) hi one in
    subst (λ (x : Edit). Blocks S at before x) (sym is) (inl two)

pub blocks_high : (S : List Point) (at : ℕ → Seen) (before : List Edit) (e : Edit) (p : Pair) (v w : ℕ) → e ≡ Drop p → v ≡ p.hi → w ≡ p.lo → OpensUntouched S at before v w → Blocks S at before e
blocks_high S at before e p v w is hi lo o =
    let one : OpensUntouched S at before p.hi w = subst (λ (x : ℕ). OpensUntouched S at before x w) hi o in
    let two : OpensUntouched S at before p.hi p.lo = subst (λ (x : ℕ). OpensUntouched S at before p.hi x) lo one in
    subst (λ (x : Edit). Blocks S at before x) (sym is) (inr two)

-- a star of the region, as the region shows it
pub opened_held : (S : List Point) (R : List Look) (v w : ℕ) (s : Seen) → AreFor S R → star_of_look R v ≡ Some s → IsOpened S s s.centre w → IsOpened S (star_in S (sights R) v) v w
opened_held S R v w s of is opened =
    let held : IsOpened S (held_star S R v) v w = subst (λ (t : Seen). IsOpened S t t.centre w) (star_held S R v s of is) opened in
    held

-- it meets the needs of an inner centre
pub met_held : (S : List Point) (R : List Look) (v : ℕ) (s : Seen) → AreFor S R → DoAgree S R → star_of_look R v ≡ Some s → IsMetInside s
met_held S R v s of agree is = subst IsMetInside (sym (star_held S R v s of is)) met
  where
    met : IsMetInside (held_star S R v)
    met inner u within apart =
        let (r, (k, lt, at), need) = agree.needs v (star_looked R v s is) inner u within apart in
        let P : ℕ × Bool → Type 0 = λ x. IsInNeed S v u x.0 in
        (k, (lt, ap (λ (x : ℕ × Bool). x.1) at), subst P (sym at) need)
