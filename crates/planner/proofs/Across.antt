-- The pair of the apexes of a pair.
use Rattle.std.proofs.Common.{◌≡◌, ℕ, true, List, Option, Some, None, inl, inr, pos, arith, sym, ◌∙◌, ap, subst}
use Rattle.std.specs.Prelude.{◌<ℤ◌}
use Rattle.plane.specs.declared.coordinates.Point.{Point}
use Rattle.plane.specs.declared.segment.Pair.{Pair}
use Rattle.plane.specs.Geometry.{orientation}
use Rattle.partition_defs.specs.Partition.{HasEnds}
use Rattle.star.specs.Stars.{Seen, IsStar, IsNext}
use Rattle.star.proofs.laws.Marks.{one_next}
use Rattle.journal_defs.specs.Table.{ShowsApex}
use Rattle.edit.specs.declared.look.Look.{Look}
use Rattle.plan_defs.specs.Plans.{has_look, star_in}
use Rattle.planner.specs.Region.{sights, star_of_look, AreFor}
use Rattle.planner.specs.Answers.{HasEndsLooked, IsAcrossOrNone, IsPairOf, IsShown}
use Rattle.planner.specs.Steps.{AreHeld, held_star}
use Rattle.planner.proofs.Looks.{look_of}
use Rattle.planner.proofs.Agreed.{star_held}

pub not_shown : (S : List Point) (s : Seen) (c q r : ℕ) → c ≡ s.centre → IsStar s → IsNext s q (Some r) → ¬ (pos 0 <ℤ orientation S c q r) → (t : ℕ) → ¬ ShowsApex S s s.centre q t
not_shown S s c q r at so next right t (first, left) =
    right (subst (λ (n : ℕ). pos 0 <ℤ orientation S n q r) (sym at) (subst (λ (x : ℕ). pos 0 <ℤ orientation S s.centre q x) (one_next s q t r so first next) left))

pub shown_held : (S : List Point) (R : List Look) (p q : ℕ) (s : Seen) (o : Option ℕ) → AreFor S R → star_of_look R p ≡ Some s → IsShown S s s.centre q o → IsShown S (star_in S (sights R) p) p q o
shown_held S R p q s o of is h = told o (subst (λ (t : Seen). IsShown S t t.centre q o) (star_held S R p s of is) h)
  where
    told : (u : Option ℕ) → IsShown S (held_star S R p) p q u → IsShown S (star_in S (sights R) p) p q u
    told None h = h
    told (Some r) h = h

pub no_star : (R : List Look) (v : ℕ) → star_of_look R v ≡ None → ¬ (has_look (sights R) v ≡ true)
no_star R v none h = let (l, is) = look_of R v h in let e : None ≡ Some l.star = sym none ∙ is.star in clash l.star e
  where
    clash : (s : Seen) → ¬ (None ≡ Some s)
    clash s e = cc

one_pair : (f : Pair) (k l : ℕ) → HasEnds f k l → ¬ (k ≡ l)
one_pair f k l (inl h) e = let o = f.ordered in omega (arith, h.0, h.1, o, e)
one_pair f k l (inr h) e = let o = f.ordered in omega (arith, h.0, h.1, o, e)

-- what is shown is what there is
shown_one : (S : List Point) (s : Seen) (p q k : ℕ) (o : Option ℕ) → IsStar s → IsShown S s p q o → ShowsApex S s p q k → o ≡ Some k
shown_one S s p q k None so none h = absurd (none k h)
shown_one S s p q k (Some r) so shown h = ap (λ (x : ℕ). Some x) (one_next s q r k so shown.0 h.0)

pub across_told : (S : List Point) (R : List Look) (e : Pair) (near far : Option ℕ) (o : Option Pair) → AreHeld S R → has_look (sights R) e.lo ≡ true → has_look (sights R) e.hi ≡ true
    → IsShown S (star_in S (sights R) e.lo) e.lo e.hi near → IsShown S (star_in S (sights R) e.hi) e.hi e.lo far → IsPairOf near far o → IsAcrossOrNone S (sights R) e o
across_told S R e near far None held lo hi hn hf none = λ looked f across.
    (let (k, l, joins) = across in
    one_pair f k l joins.ends
    (none k l
    (shown_one S (star_in S (sights R) e.lo) e.lo e.hi k near (held.stars e.lo lo).0 hn joins.near)
    (shown_one S (star_in S (sights R) e.hi) e.hi e.lo l far (held.stars e.hi hi).0 hf joins.far)))
across_told S R e near far (Some f) held lo hi hn hf (k, l, a, b, ends) = (
  k,
  l,
  record {
    near = subst (λ (o : Option ℕ). IsShown S (star_in S (sights R) e.lo) e.lo e.hi o) a hn;
    far = subst (λ (o : Option ℕ). IsShown S (star_in S (sights R) e.hi) e.hi e.lo o) b hf;
    ends = ends;
  },
)

pub across_none : (S : List Point) (R : List Look) (e : Pair) → ¬ HasEndsLooked (sights R) e → IsAcrossOrNone S (sights R) e None
across_none S R e off looked f across = off looked

pub ends_shown : (S : List Point) (R : List Look) (p q v w : ℕ) (o : Option ℕ) → p ≡ v → q ≡ w → has_look (sights R) v ≡ true → (has_look (sights R) p ≡ true → IsShown S (star_in S (sights R) p) p q o) → IsShown S (star_in S (sights R) v) v w o
ends_shown S R p q v w o a b looked h =
    let P : ℕ → ℕ → Type 0 = λ x y. IsShown S (star_in S (sights R) x) x y o in
    subst (λ (x : ℕ). P x w) a (subst (λ (y : ℕ). P p y) b (h (subst (λ (x : ℕ). has_look (sights R) x ≡ true) (sym a) looked)))
