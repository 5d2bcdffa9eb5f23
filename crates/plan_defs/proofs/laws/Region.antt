-- The looks of a region, and what edits make of them.
use Rattle.std.proofs.Common.{◌≡◌, ◌≢◌, ℕ, Bool, true, false, ◌||◌, nat_eq, List, [], ◌∷◌, map, ◌⊎◌, inl, inr, sym, ◌∙◌, ap, ap₂, subst, refl}
use Rattle.std.proofs.lemmas.Bool.{false≢true, cases_Bool, cond_both, or_left, or_right, ne_eqb}
use Rattle.std.proofs.lemmas.Bool.Decides.{Decides-eqb}
use Rattle.plane.specs.declared.coordinates.Point.{Point}
use Rattle.plane.specs.Accepted.{AreAccepted}
use Rattle.star.specs.Stars.{Seen, IsStar}
use Rattle.journal_defs.specs.declared.edit.Edit.{Edit}
use Rattle.journal_defs.specs.Edits.{inverse, touches}
use Rattle.journal_defs.specs.Table.{Fits}
use Rattle.journal_defs.specs.Neighbours.{list_after}
use Rattle.journal_defs.specs.Turns.{stars_after, FitInTurn, AreMutual}
use Rattle.journal_defs.proofs.laws.Same.{AreOne, same_fits}
use Rattle.journal_defs.proofs.laws.Undone.{IsStarAt, undone}
use Rattle.edit.specs.Plans.{are_touching}
use Rattle.plan_defs.specs.Plans.{Sight, has_look, look_at, star_in}
use Rattle.plan_defs.specs.Shown.{AreApart, sight_after, region_after}

-- a look of the region, by recursion
abbrev pub Here : Sight → List Sight → Type 0
Here l [] = ⊥
Here l (m ∷ R) = (m ≡ l) ⊎ Here l R

pub here_looked : (R : List Sight) (l : Sight) → Here l R → has_look R l.vertex ≡ true
here_looked [] l h = absurd h
here_looked (m ∷ R) l (inl h) = or_left (nat_eq m.vertex l.vertex) (has_look R l.vertex) ((Decides-eqb m.vertex l.vertex).1 (ap (λ (x : Sight). x.vertex) h))
here_looked (m ∷ R) l (inr h) = or_right (nat_eq m.vertex l.vertex) (has_look R l.vertex) (here_looked R l h)

-- where no two looks are of one vertex, each is the look at its own
pub own_look : (R : List Sight) (l : Sight) → AreApart R → Here l R → look_at R l.vertex ≡ l
own_look [] l apart h = absurd h
own_look (m ∷ R) l apart (inl h) =
    cond_both (nat_eq m.vertex l.vertex) m (look_at R l.vertex) (λ (z : Sight). z ≡ l)
    (λ t. h)
    (λ f. absurd (false≢true (sym f ∙ (Decides-eqb m.vertex l.vertex).1 (ap (λ (x : Sight). x.vertex) h))))
own_look (m ∷ R) l apart (inr h) =
    cond_both (nat_eq m.vertex l.vertex) m (look_at R l.vertex) (λ (z : Sight). z ≡ l)
    (λ t. absurd (false≢true (sym apart.0 ∙ subst (λ (v : ℕ). has_look R v ≡ true) (sym ((Decides-eqb m.vertex l.vertex).0 t)) (here_looked R l h))))
    (λ f. own_look R l apart.1 h)

-- a look that was found
pub look_vertex : (R : List Sight) (v : ℕ) → has_look R v ≡ true → (look_at R v).vertex ≡ v
look_vertex [] v h = refl
look_vertex (m ∷ R) v h =
    cond_both (nat_eq m.vertex v) m (look_at R v) (λ (z : Sight). z.vertex ≡ v)
    (λ t. (Decides-eqb m.vertex v).0 t)
    (λ f. look_vertex R v (subst (λ (b : Bool). (b || has_look R v) ≡ true) f h))

pub look_here : (R : List Sight) (v : ℕ) → has_look R v ≡ true → Here (look_at R v) R
look_here [] v h = absurd (false≢true h)
look_here (m ∷ R) v h =
    cond_both (nat_eq m.vertex v) m (look_at R v) (λ (z : Sight). (m ≡ z) ⊎ Here z R)
    (λ t. inl refl)
    (λ f. inr (look_here R v (subst (λ (b : Bool). (b || has_look R v) ≡ true) f h)))

-- looks through an edit
pub looked_after : (S : List Point) (e : Edit) (R : List Sight) (v : ℕ) → has_look (region_after S e R) v ≡ has_look R v
looked_after S e [] v = refl
looked_after S e (l ∷ R) v = ap (λ (b : Bool). nat_eq l.vertex v || b) (looked_after S e R v)

pub look_after : (S : List Point) (e : Edit) (R : List Sight) (v : ℕ) → has_look R v ≡ true → look_at (region_after S e R) v ≡ sight_after S e (look_at R v)
look_after S e [] v h = absurd (false≢true h)
look_after S e (l ∷ R) v h =
    elim (cases_Bool (nat_eq l.vertex v)) [
      | inl t ↦ rw t refl
      | inr f ↦ rw f (look_after S e R v (subst (λ (b : Bool). (b || has_look R v) ≡ true) f h))
    ]

pub list_there : (S : List Point) (e : Edit) (R : List Sight) (v : ℕ) → has_look R v ≡ true → (look_at (region_after S e R) v).list ≡ list_after S v e (look_at R v).list
list_there S e R v h =
    ap (λ (z : Sight). z.list) (look_after S e R v h) ∙ ap (λ (w : ℕ). list_after S w e (look_at R v).list) (look_vertex R v h)

pub stamp_there : (S : List Point) (e : Edit) (R : List Sight) (v : ℕ) → has_look R v ≡ true → (look_at (region_after S e R) v).stamp ≡ (look_at R v).stamp
stamp_there S e R v h = ap (λ (z : Sight). z.stamp) (look_after S e R v h)

pub apart_after : (S : List Point) (e : Edit) (R : List Sight) → AreApart R → AreApart (region_after S e R)
apart_after S e [] h = tt
apart_after S e (l ∷ R) h = (looked_after S e R l.vertex ∙ h.0, apart_after S e R h.1)

-- the stars of the region after an edit
pub one_after : (S : List Point) (e : Edit) (R : List Sight) (v : ℕ) → has_look R v ≡ true → AreOne (stars_after S e (star_in S R) v) (star_in S (region_after S e R) v)
one_after S e R v h = (refl, sym (list_there S e R v h), refl)

-- edits fit in turn by the stars that they touch
pub same_turn : (S : List Point) (at bt : ℕ → Seen) (es : List Edit) → ((v : ℕ) → are_touching es v ≡ true → AreOne (at v) (bt v)) → FitInTurn S at es → FitInTurn S bt es
same_turn S at bt [] same fit = tt
same_turn S at bt (e ∷ es) same fit = (
  same_fits S at bt e (λ v h. same v (or_left (touches e v) (are_touching es v) h)) fit.0,
  same_turn S (stars_after S e at) (stars_after S e bt) es
      (λ v h. (let a = same v (or_right (touches e v) (are_touching es v) h) in (a.0, ap (λ (l : List (ℕ × Bool)). list_after S v e l) a.1, a.2)))
      fit.1,
)

-- changes of each look that are taken back
back_all : (f g : Sight → Sight) (R : List Sight) → ((l : Sight) → Here l R → f (g l) ≡ l) → map f (map g R) ≡ R
back_all f g [] h = refl
back_all f g (l ∷ R) h = ap₂ (λ (x : Sight) (xs : List Sight). x ∷ xs) (h l (inl refl)) (back_all f g R (λ m i. h m (inr i)))

-- an edit that fits, and its inverse
pub region_back : (S : List Point) (R : List Sight) (e : Edit) → AreAccepted S → AreApart R
    → ((v : ℕ) → has_look R v ≡ true → IsStarAt S (star_in S R v) v) → AreMutual (star_in S R) (λ v. has_look R v ≡ true)
    → ((v : ℕ) → touches e v ≡ true → has_look R v ≡ true) → Fits S (star_in S R) e
    → region_after S (inverse e) (region_after S e R) ≡ R
region_back S R e accepted apart stars both all fits =
    back_all (sight_after S (inverse e)) (sight_after S e) R
    (λ l here. (let own : look_at R l.vertex ≡ l = own_look R l apart here in
    let P : List (ℕ × Bool) → Type 0 = λ m. list_after S l.vertex (inverse e) (list_after S l.vertex e m) ≡ m in
    let same : list_after S l.vertex (inverse e) (list_after S l.vertex e l.list) ≡ l.list =
    subst P (ap (λ (z : Sight). z.list) own)
    (undone S (star_in S R) (λ v. has_look R v ≡ true) e l.vertex accepted stars both all (here_looked R l here) fits) in
    ap (λ (m : List (ℕ × Bool)). let z : Sight = record { vertex = l.vertex; list = m; stamp = l.stamp } in z) same))
