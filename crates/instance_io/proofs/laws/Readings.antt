-- A reading has one fault or gives one instance, and never both.
use Rattle.std.proofs.Common.{◌≡◌, ◌≢◌, ℕ, List, Result, Ok, sym, ap, ◌∙◌, subst, arith, map}
use Rattle.plane.specs.declared.coordinates.Point.{Point}
use Rattle.plane.specs.declared.coordinates.BadPoints.{BadPoints}
use Rattle.plane.specs.declared.coordinates.BadPoints.TheVariants.{TooFew, TooMany, TooFar, SamePlace, OneLine}
use Rattle.plane.specs.Accepted.{AreAccepted, IsFault}
use Rattle.cost_defs.specs.Costs.{Costed}
use Rattle.cost_defs.proofs.Laws.{costs_once}
use Rattle.text_defs.specs.Costs.{CostItem}
use Rattle.text_defs.specs.Instances.{Parts, Fault}
use Rattle.json_text.proofs.Laws.{ok_same, ok_err}
use Rattle.instance_io.specs.declared.instances.Instance.{Instance}
use Rattle.instance_io.specs.declared.instances.InstanceFault.{InstanceFault}
use Rattle.instance_io.specs.declared.instances.InstanceFault.TheVariants.{NoMemory}
use Rattle.instance_io.specs.Refusal.{Gives, HasFault, IsRead, AreCostsOf, coordinates}
use Rattle.instance_io.proofs.Exact.{exact_ok, same_points}

-- accepted points have no fault
pub accepted_no_fault : (S : List Point) (b : BadPoints) → AreAccepted S → IsFault S b → ⊥
accepted_no_fault S (TooFew n) ok h = omega (arith, ok.count.0, h.1, h.0)
accepted_no_fault S (TooMany n) ok h = omega (arith, ok.count.1, h.1, h.0)
accepted_no_fault S (TooFar i) ok h = h.1.holds (ok.near i h.1.within)
accepted_no_fault S (SamePlace i j) ok h = ok.apart i j h.2.ordered h.2.within h.2.holds
accepted_no_fault S OneLine ok h = let (p, q, r, hp, hq, hr, bent) = ok.spread in bent (h.3 p q r hp hq hr)

-- a reading that gives accepted points has no fault
pub gives_no_fault : (reading : Result Parts Fault) (name : List ℕ) (S : List Point) (D : List Costed) (f : InstanceFault) → Gives reading name S D → AreAccepted S → f ≢ NoMemory → HasFault reading f → ⊥
gives_no_fault reading name S D f gives ok named fault =
    let i : Instance = record { name = name; points = S; costs = D } in
    ok_err ((exact_ok reading name S gives.0 i gives.1 (λ b. accepted_no_fault S b ok) (λ e. ok_err e) f named).1 fault)

abbrev made : List ℕ → List Point → List Costed → Instance
made n S D = record { name = n; points = S; costs = D }

-- costs of the same items are the same
pub costs_of_once : (items : List CostItem) (D E : List Costed) → AreCostsOf items D → AreCostsOf items E → D ≡ E
costs_of_once items D E h k = costs_once D E h.costs k.costs (λ i j l. h.same i j l ∙ sym (k.same i j l))

-- a reading gives one instance
pub gives_once : (reading : Result Parts Fault) (n m : List ℕ) (S T : List Point) (D E : List Costed) → Gives reading n S D → Gives reading m T E → (n ≡ m) × (S ≡ T) × (D ≡ E)
gives_once reading n m S T D E h k =
    let same : (n, map coordinates S, Ok h.0) ≡ (m, map coordinates T, Ok k.0) = ok_same (sym h.1 ∙ k.1) in
    let items : h.0 ≡ k.0 = ok_same (ap (λ (p : Parts). p.2) same) in
    (ap (λ (p : Parts). p.0) same, same_points S T (ap (λ (p : Parts). p.1) same), costs_of_once k.0 D E (subst (λ i. AreCostsOf i D) items h.2) k.2)

-- the same, of instances
pub read_once : (reading : Result Parts Fault) (i j : Instance) → IsRead reading (Ok i) → IsRead reading (Ok j) → i ≡ j
read_once reading i j h k =
    let same = gives_once reading i.name j.name i.points j.points i.costs j.costs h k in
    let names : (n m : List ℕ) (S : List Point) (D : List Costed) → n ≡ m → made n S D ≡ made m S D = λ n m S D e. ap (λ x. made x S D) e in
    let points : (n : List ℕ) (S T : List Point) (D : List Costed) → S ≡ T → made n S D ≡ made n T D = λ n S T D e. ap (λ x. made n x D) e in
    let costs : (n : List ℕ) (S : List Point) (D E : List Costed) → D ≡ E → made n S D ≡ made n S E = λ n S D E e. ap (λ x. made n S x) e in
    names i.name j.name i.points i.costs same.0 ∙ (points j.name i.points j.points i.costs same.1 ∙ costs j.name j.points i.costs j.costs same.2)
