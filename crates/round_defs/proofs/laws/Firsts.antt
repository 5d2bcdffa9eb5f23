-- The walk through candidates: none among the first ones, then the first that fits.
use Rattle.std.proofs.Common.{◌≡◌, List, [], ◌∷◌, ◌++◌, inl, inr, sym, subst, refl, Some, None, Option}
use Rattle.plane.specs.declared.coordinates.Point.{Point}
use Rattle.cost_defs.specs.Costs.{Costed}
use Rattle.journal_defs.specs.declared.edit.Edit.{Edit}
use Rattle.edit.specs.Plans.{Planned}
use Rattle.plan_defs.specs.declared.moves.Move.{Move}
use Rattle.plan_defs.specs.Plans.{Sight, IsFound, IsPlanned}
use Rattle.round_defs.specs.Rounds.{IsFirst}

-- no candidate of the first list fits: the first of both is that of the second
pub first_on : (S : List Point) (D : List Costed) (R : List Sight) (ms ns : List Move) (o : Option (List Edit)) → IsFirst S D R ms None → IsFirst S D R ns o → IsFirst S D R (ms ++ ns) o
first_on S D R [] ns o none h = h
first_on S D R (m ∷ ms) ns o (inl (es, found, is)) h = absurd (let e : None ≡ Some es = is in cc)
first_on S D R (m ∷ ms) ns o (inr (none, rest)) h = inr (none, first_on S D R ms ns o rest h)

-- one does: it is the first of both
pub first_here : (S : List Point) (D : List Costed) (R : List Sight) (ms ns : List Move) (es : List Edit) → IsFirst S D R ms (Some es) → IsFirst S D R (ms ++ ns) (Some es)
first_here S D R [] ns es h = absurd (let e : Some es ≡ None = h in cc)
first_here S D R (m ∷ ms) ns es (inl h) = inl h
first_here S D R (m ∷ ms) ns es (inr (none, rest)) = inr (none, first_here S D R ms ns es rest)

-- what an answer of the planner says of the edits
pub planned_found : (S : List Point) (D : List Costed) (R : List Sight) (m : Move) (p : Planned) → IsPlanned S D R m (Some p) → IsFound S D R m (Some p.edits)
planned_found S D R m p (es, found, is) = subst (λ (x : List Edit). IsFound S D R m (Some x)) (sym is.edits) found

-- What is left to walk through decides the first of all.
abbrev pub Decides : List Point → List Costed → List Sight → (rest all : List Move) → Type 0
Decides S D R rest all = (o : Option (List Edit)) → IsFirst S D R rest o → IsFirst S D R all o

pub skipped : (S : List Point) (D : List Costed) (R : List Sight) (m : Move) (rest all : List Move) → Decides S D R (m ∷ rest) all → IsPlanned S D R m None → Decides S D R rest all
skipped S D R m rest all h none o first = h o (inr (none, first))

pub taken : (S : List Point) (D : List Costed) (R : List Sight) (m : Move) (rest all : List Move) (p : Planned) → Decides S D R (m ∷ rest) all → IsPlanned S D R m (Some p) → IsFirst S D R all (Some p.edits)
taken S D R m rest all p h planned = h (Some p.edits) (inl (p.edits, planned_found S D R m p planned, refl))

pub all_skipped : (S : List Point) (D : List Costed) (R : List Sight) (ms rest all : List Move) → Decides S D R (ms ++ rest) all → IsFirst S D R ms None → Decides S D R rest all
all_skipped S D R ms rest all h none o first = h o (first_on S D R ms rest o none first)

pub some_taken : (S : List Point) (D : List Costed) (R : List Sight) (ms rest all : List Move) (es : List Edit) → Decides S D R (ms ++ rest) all → IsFirst S D R ms (Some es) → IsFirst S D R all (Some es)
some_taken S D R ms rest all es h first = h (Some es) (first_here S D R ms rest es first)
