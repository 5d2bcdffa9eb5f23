-- The looks of a round: at which vertices they are, and that they show one state.
use Rattle.std.proofs.Common.{◌≡◌, ℕ, zero, suc, ◌<◌, ◌≤◌, Bool, true, false, ◌||◌, nat_eq, List, [], ◌∷◌, length, take, map, inl, inr, arith, sym, ◌∙◌, ap, subst, refl}
use Rattle.std.specs.List.{AllByRecursion}
use Rattle.std.proofs.lemmas.Bool.{false≢true, cond_both, cases_Bool}
use Rattle.std.proofs.lemmas.Bool.Decides.{Decides-eqb}
use Rattle.plane.specs.declared.coordinates.Point.{Point}
use Rattle.plane.specs.declared.segment.Pair.{Pair}
use Rattle.plane.specs.Accepted.{AreAccepted}
use Rattle.star.specs.Stars.{Seen}
use Rattle.star.specs.StarOf.{IsStarOf}
use Rattle.journal_defs.specs.declared.commit.Commit.{Commit}
use Rattle.journal_defs.specs.Edits.{State, IsSound}
use Rattle.journal_defs.specs.Journal.{replay, last}
use Rattle.journal_defs.specs.Neighbours.{star_list, are_joined}
use Rattle.journal_defs.proofs.laws.Turned.{In, in_below, below_in, star_is_value}
use Rattle.plan_defs.specs.Plans.{Sight, has_look, look_at}
use Rattle.plan_defs.specs.Shown.{ShowsState}
use Rattle.round_defs.specs.Rounds.{sight_of, looked_at, looks}

-- what stands in a region made of looks f at the vertices vs
sight_there : (f : ℕ → Sight) (vs : List ℕ) (v : ℕ) → ((u : ℕ) → (f u).vertex ≡ u) → has_look (map f vs) v ≡ true → look_at (map f vs) v ≡ f v
sight_there f [] v own h = absurd (false≢true h)
sight_there f (u ∷ us) v own h =
    cond_both (nat_eq (f u).vertex v) (f u) (look_at (map f us) v) (λ (z : Sight). z ≡ f v)
    (λ t. ap f (sym (own u) ∙ (Decides-eqb (f u).vertex v).0 t))
    (λ b. sight_there f us v own (subst (λ (x : Bool). (x || has_look (map f us) v) ≡ true) b h))

-- what holds of each of these vertices holds of one that was looked at
looked_is : (P : ℕ → Type 0) (f : ℕ → Sight) (vs : List ℕ) (v : ℕ) → ((u : ℕ) → (f u).vertex ≡ u) → AllByRecursion P vs → has_look (map f vs) v ≡ true → P v
looked_is P f [] v own all h = absurd (false≢true h)
looked_is P f (u ∷ us) v own all h =
    elim (cases_Bool (nat_eq (f u).vertex v)) [
      | inl t ↦ subst P (sym (own u) ∙ (Decides-eqb (f u).vertex v).0 t) all.0
      | inr b ↦ looked_is P f us v own all.1 (subst (λ (x : Bool). (x || has_look (map f us) v) ≡ true) b h)
    ]

each_take : (P : ℕ → Type 0) (k : ℕ) (vs : List ℕ) → AllByRecursion P vs → AllByRecursion P (take k vs)
each_take P zero vs all = tt
each_take P (suc k) [] all = tt
each_take P (suc k) (v ∷ vs) all = (all.0, each_take P k vs all.1)

each_named : (P : ℕ → Type 0) (list : List (ℕ × Bool)) → ((z : ℕ × Bool) → In z list → P z.0) → AllByRecursion P (map (λ x. x.0) list)
each_named P [] h = tt
each_named P (x ∷ xs) h = (h x (inl refl), each_named P xs (λ z i. h z (inr i)))

-- the vertices of a round's looks are points
pub looked_points : (S : List Point) (s : State) (v : ℕ) → v < length S → AllByRecursion (λ u. u < length S) (looked_at S s v)
looked_points S s v hv =
    (hv, each_take (λ u. u < length S) 15 (map (λ x. x.0) (star_list S s v)) (each_named (λ u. u < length S) (star_list S s v) (λ z h. (in_below S s v (length S) z h).0)))

-- the look at a vertex is that of the definitions
pub look_true : (S : List Point) (start : List Pair) (J : List Commit) (v u : ℕ) → has_look (looks S start J v) u ≡ true → look_at (looks S start J v) u ≡ sight_of S start J u
look_true S start J v u h = sight_there (sight_of S start J) (looked_at S (replay start J) v) u (λ w. refl) h

pub looks_show : (S : List Point) (start : List Pair) (J : List Commit) (v : ℕ) → v < length S → ShowsState S (replay start J) (looks S start J v)
looks_show S start J v hv u h = (
  looked_is (λ w. w < length S) (sight_of S start J) (looked_at S (replay start J) v) u (λ w. refl) (looked_points S (replay start J) v hv) h,
  ap (λ (l : Sight). l.list) (look_true S start J v u h),
)

-- a true star with the last touch as its stamp is the look of the definitions
pub sight_is : (S : List Point) (start : List Pair) (J : List Commit) (u stamp : ℕ) (a : Seen) → AreAccepted S → IsSound S (replay start J) → u < length S → IsStarOf S (replay start J).all (replay start J).kept u a → stamp ≡ last J u
    → (let l : Sight = record { vertex = a.centre; list = a.list; stamp = stamp } in l) ≡ sight_of S start J u
sight_is S start J u stamp a accepted so hu is right =
    let P : ℕ → Sight = λ v. record { vertex = v; list = a.list; stamp = stamp } in
    let Q : List (ℕ × Bool) → Sight = λ z. record { vertex = u; list = z; stamp = stamp } in
    let R : ℕ → Sight = λ t. record { vertex = u; list = star_list S (replay start J) u; stamp = t } in
    ap P is.centre ∙ ap Q (star_is_value S (replay start J) u a accepted so hu is) ∙ ap R right

-- every vertex has a neighbour
pub degree_some : (S : List Point) (s : State) (v : ℕ) → IsSound S s → v < length S → 1 ≤ length (star_list S s v)
degree_some S s v so hv =
    let (w, hw, j) = so.triangulation.met v hv in
    long (star_list S s v) (w, are_joined s.kept v w) (below_in S s v (length S) w hw j)
  where
    long : (list : List (ℕ × Bool)) (z : ℕ × Bool) → In z list → 1 ≤ length list
    long [] z h = absurd h
    long (x ∷ xs) z h = omega arith
