-- A reading has one fault at most.
use Rattle.std.proofs.Common.{◌≡◌, ◌≢◌, ◌⊎◌, inl, inr, ℕ, List, [], ◌∷◌, map, Some, None, Result, Ok, Err, refl, sym, ap, ◌∙◌, subst, arith, ℤ, pos}
use Rattle.plane.specs.declared.coordinates.Point.{Point}
use Rattle.plane.specs.declared.coordinates.BadPoints.{BadPoints}
use Rattle.plane.specs.Accepted.{AreAccepted, IsFault}
use Rattle.json_text.proofs.Laws.{err_same, ok_same, ok_err}
use Rattle.text_defs.specs.Costs.{CostItem, CostFault, bad_costs, too_many_costs, bad_cost}
use Rattle.text_defs.specs.Instances.{Parts, Fault, not_json, no_name, long_name, no_points, bad_point, not_whole, mixed_index, bad_index}
use Rattle.instance_io.specs.Refusal.{HasFault, GivesPoints, GivesBadCosts, IsExact, coordinates}
use Rattle.instance_io.specs.Told.{Tells, TellsCosts, error}
use Rattle.instance_io.specs.declared.instances.Instance.{Instance}
use Rattle.instance_io.specs.declared.instances.InstanceFault.{InstanceFault}
use Rattle.instance_io.specs.declared.instances.InstanceFault.TheVariants.{NotJson, NoName, LongName, NoPoints, BadPoint, NotWhole, MixedIndex, BadIndex, Bad, BadCosts, TooManyCosts, BadCost, NoMemory}
use Rattle.instance_io.proofs.Parts.{told}

abbrev Reading : Type 0
Reading = Result Parts Fault

-- the fault of a text
abbrev named : Fault → InstanceFault
named not_json = NotJson
named no_name = NoName
named (long_name l) = LongName l
named no_points = NoPoints
named (bad_point k) = BadPoint k
named (not_whole k) = NotWhole k
named (mixed_index k) = MixedIndex k
named (bad_index k) = BadIndex k

none_some : {x : Fault} → None ≡ Some x → ⊥
none_some h = grind (arith, h)

some_same : {x y : Fault} → Some x ≡ Some y → y ≡ x
some_same h = grind (arith, h)

tells_none : (f : InstanceFault) → Tells f None → f ≡ NoMemory
tells_none NotJson h = absurd (none_some h)
tells_none NoName h = absurd (none_some h)
tells_none (LongName l) h = absurd (none_some h)
tells_none NoPoints h = absurd (none_some h)
tells_none (BadPoint k) h = absurd (none_some h)
tells_none (NotWhole k) h = absurd (none_some h)
tells_none (MixedIndex k) h = absurd (none_some h)
tells_none (BadIndex k) h = absurd (none_some h)
tells_none (Bad b) h = absurd h
tells_none BadCosts h = absurd h
tells_none (TooManyCosts k) h = absurd h
tells_none (BadCost k) h = absurd h
tells_none NoMemory h = refl

tells_some : (f : InstanceFault) (x : Fault) → f ≢ NoMemory → Tells f (Some x) → f ≡ named x
tells_some NotJson x m h = ap named (some_same h)
tells_some NoName x m h = ap named (some_same h)
tells_some (LongName l) x m h = ap named (some_same h)
tells_some NoPoints x m h = ap named (some_same h)
tells_some (BadPoint k) x m h = ap named (some_same h)
tells_some (NotWhole k) x m h = ap named (some_same h)
tells_some (MixedIndex k) x m h = ap named (some_same h)
tells_some (BadIndex k) x m h = ap named (some_same h)
tells_some (Bad b) x m h = absurd h
tells_some BadCosts x m h = absurd h
tells_some (TooManyCosts k) x m h = absurd h
tells_some (BadCost k) x m h = absurd h
tells_some NoMemory x m h = absurd (m refl)

has_named : (x : Fault) (f : InstanceFault) → f ≢ NoMemory → HasFault (Err x) f → f ≡ named x
has_named x NotJson m h = ap named (err_same h)
has_named x NoName m h = ap named (err_same h)
has_named x (LongName l) m h = ap named (err_same h)
has_named x NoPoints m h = ap named (err_same h)
has_named x (BadPoint k) m h = ap named (err_same h)
has_named x (NotWhole k) m h = ap named (err_same h)
has_named x (MixedIndex k) m h = ap named (err_same h)
has_named x (BadIndex k) m h = ap named (err_same h)
has_named x (Bad b) m h = absurd (ok_err (sym h.3))
has_named x BadCosts m h = absurd (ok_err (sym h.2))
has_named x (TooManyCosts k) m h = absurd (ok_err (sym h.2))
has_named x (BadCost k) m h = absurd (ok_err (sym h.2))
has_named x NoMemory m h = absurd (m refl)

pub exact_text : (reading : Reading) (f : InstanceFault) → Tells f (error reading) → IsExact reading (Err f)
exact_text (Ok v) f h m g n = absurd (m (ap (λ x. Err x) (tells_none f h)))
exact_text (Err x) f h m g n =
    let same : f ≡ named x = tells_some f x (λ e. m (ap (λ y. Err y) e)) h in (
      λ e. subst (λ y. HasFault (Err x) y) (sym (err_same e)) (told (Err x) f h),
      λ q. ap (λ y. Err y) (same ∙ sym (has_named x g n q)),
    )

-- ---- points at fault, and costs

abbrev Read : Type 0
Read = Result (List CostItem) CostFault

ok_points : {a b : List ℕ} {ps qs : List (ℤ × ℤ)} {c d : Read} → ◌≡◌ {A = Reading} (Ok (a, ps, c)) (Ok (b, qs, d)) → ps ≡ qs
ok_points h = ap (λ (p : Parts). p.1) (ok_same h)

ok_costs : {a b : List ℕ} {ps qs : List (ℤ × ℤ)} {c d : Read} → ◌≡◌ {A = Reading} (Ok (a, ps, c)) (Ok (b, qs, d)) → c ≡ d
ok_costs h = ap (λ (p : Parts). p.2) (ok_same h)

abbrev head_of : List (ℤ × ℤ) → Point
head_of [] = record { x = pos 0; y = pos 0 }
head_of (p ∷ ps) = record { x = p.0; y = p.1 }

abbrev tail_of : List (ℤ × ℤ) → List (ℤ × ℤ)
tail_of [] = []
tail_of (p ∷ ps) = ps

-- points with the same coordinates are the same
pub same_points : (ps qs : List Point) → map coordinates ps ≡ map coordinates qs → ps ≡ qs
same_points [] [] h = refl
same_points [] (q ∷ qs) h = absurd (grind (arith, h))
same_points (p ∷ ps) [] h = absurd (grind (arith, h))
same_points (p ∷ ps) (q ∷ qs) h = grind (arith, ap head_of h, same_points ps qs (ap tail_of h))

-- the fault of costs
abbrev named_costs : CostFault → InstanceFault
named_costs bad_costs = BadCosts
named_costs (too_many_costs k) = TooManyCosts k
named_costs (bad_cost k) = BadCost k

-- the fault of a reading that gave points: theirs, or that of the costs where they are accepted
abbrev Found : List Point → Read → InstanceFault → Type 0
Found points costs g = ((b : BadPoints) × (g ≡ Bad b) × IsFault points b)
    ⊎ ((x : CostFault) × (g ≡ named_costs x) × (costs ≡ Err x) × AreAccepted points)

bad_costs_found : (name : List ℕ) (points : List Point) (costs : Read) (x : CostFault) (g : InstanceFault) → g ≡ named_costs x → GivesBadCosts (Ok (name, map coordinates points, costs)) x → Found points costs g
bad_costs_found name points costs x g e h =
    inr (x, e, ok_costs h.2, subst AreAccepted (sym (same_points points h.1 (ok_points h.2))) h.3)

found : (name : List ℕ) (points : List Point) (costs : Read) (g : InstanceFault) → g ≢ NoMemory → HasFault (Ok (name, map coordinates points, costs)) g → Found points costs g
found name points costs NotJson n h = absurd (ok_err h)
found name points costs NoName n h = absurd (ok_err h)
found name points costs (LongName l) n h = absurd (ok_err h)
found name points costs NoPoints n h = absurd (ok_err h)
found name points costs (BadPoint k) n h = absurd (ok_err h)
found name points costs (NotWhole k) n h = absurd (ok_err h)
found name points costs (MixedIndex k) n h = absurd (ok_err h)
found name points costs (BadIndex k) n h = absurd (ok_err h)
found name points costs (Bad b) n h = inl (b, refl, subst (λ ps. IsFault ps b) (sym (same_points points h.1 (ok_points h.3))) h.4)
found name points costs BadCosts n h = bad_costs_found name points costs bad_costs BadCosts refl h
found name points costs (TooManyCosts k) n h = bad_costs_found name points costs (too_many_costs k) (TooManyCosts k) refl h
found name points costs (BadCost k) n h = bad_costs_found name points costs (bad_cost k) (BadCost k) refl h
found name points costs NoMemory n h = absurd (n refl)

found_in : (reading : Reading) (name : List ℕ) (points : List Point) (costs : Read) (g : InstanceFault) → GivesPoints reading name points costs → g ≢ NoMemory → HasFault reading g → Found points costs g
found_in reading name points costs g e n h = found name points costs g n (subst (λ r. HasFault r g) e h)

pub exact_ok : (reading : Reading) (name : List ℕ) (points : List Point) (items : List CostItem) (i : Instance) → GivesPoints reading name points (Ok items) → ((b : BadPoints) → IsFault points b → ⊥) → IsExact reading (Ok i)
exact_ok reading name points items i e none m g n = (
  λ h. absurd (ok_err h),
  λ h. elim (found_in reading name points (Ok items) g e n h) [
    | inl u ↦ absurd (none u.0 u.2)
    | inr u ↦ absurd (ok_err u.2)
  ],
)

pub exact_bad : (reading : Reading) (name : List ℕ) (points : List Point) (costs : Read) (bad : BadPoints) → GivesPoints reading name points costs → IsFault points bad → ((b : BadPoints) → IsFault points b → b ≡ bad)
    → (AreAccepted points → ⊥) → IsExact reading (Err (Bad bad))
exact_bad reading name points costs bad e f one off m g n = (
  λ h. subst (λ y. HasFault reading y) (sym (err_same h)) (name, points, costs, e, f),
  λ h. elim (found_in reading name points costs g e n h) [
    | inl u ↦ sym (ap (λ y. Err y) (u.1 ∙ ap Bad (one u.0 u.2)))
    | inr u ↦ absurd (off u.3)
  ],
)

none_some_costs : {x : CostFault} → None ≡ Some x → ⊥
none_some_costs h = grind (arith, h)

some_same_costs : {x y : CostFault} → Some x ≡ Some y → x ≡ y
some_same_costs h = grind (arith, h)

error_costs : (costs : Read) (x : CostFault) → error costs ≡ Some x → costs ≡ Err x
error_costs (Ok items) x h = absurd (none_some_costs h)
error_costs (Err y) x h = ap (λ z. Err z) (some_same_costs h)

-- the fault of costs that is told is the fault of the reading
pub told_costs : (reading : Reading) (name : List ℕ) (points : List Point) (costs : Read) (f : InstanceFault) → GivesPoints reading name points costs → AreAccepted points → TellsCosts f (error costs) → HasFault reading f
told_costs reading name points costs NotJson e ok h = absurd h
told_costs reading name points costs NoName e ok h = absurd h
told_costs reading name points costs (LongName l) e ok h = absurd h
told_costs reading name points costs NoPoints e ok h = absurd h
told_costs reading name points costs (BadPoint k) e ok h = absurd h
told_costs reading name points costs (NotWhole k) e ok h = absurd h
told_costs reading name points costs (MixedIndex k) e ok h = absurd h
told_costs reading name points costs (BadIndex k) e ok h = absurd h
told_costs reading name points costs (Bad b) e ok h = absurd h
told_costs reading name points costs BadCosts e ok h = (name, points, e ∙ ap (λ c. Ok (name, map coordinates points, c)) (error_costs costs bad_costs h), ok)
told_costs reading name points costs (TooManyCosts k) e ok h = (name, points, e ∙ ap (λ c. Ok (name, map coordinates points, c)) (error_costs costs (too_many_costs k) h), ok)
told_costs reading name points costs (BadCost k) e ok h = (name, points, e ∙ ap (λ c. Ok (name, map coordinates points, c)) (error_costs costs (bad_cost k) h), ok)
told_costs reading name points costs NoMemory e ok h = tt

told_named : (costs : Read) (f : InstanceFault) (x : CostFault) → f ≢ NoMemory → costs ≡ Err x → TellsCosts f (error costs) → f ≡ named_costs x
told_named costs f x n e h = named_of f n (subst (λ c. TellsCosts f (error c)) e h)
  where
    named_of : (f : InstanceFault) → f ≢ NoMemory → TellsCosts f (Some x) → f ≡ named_costs x
    named_of NotJson n h = absurd h
    named_of NoName n h = absurd h
    named_of (LongName l) n h = absurd h
    named_of NoPoints n h = absurd h
    named_of (BadPoint k) n h = absurd h
    named_of (NotWhole k) n h = absurd h
    named_of (MixedIndex k) n h = absurd h
    named_of (BadIndex k) n h = absurd h
    named_of (Bad b) n h = absurd h
    named_of BadCosts n h = ap named_costs (sym (some_same_costs h))
    named_of (TooManyCosts k) n h = ap named_costs (sym (some_same_costs h))
    named_of (BadCost k) n h = ap named_costs (sym (some_same_costs h))
    named_of NoMemory n h = absurd (n refl)

pub exact_costs : (reading : Reading) (name : List ℕ) (points : List Point) (costs : Read) (f : InstanceFault) → GivesPoints reading name points costs → AreAccepted points → ((b : BadPoints) → IsFault points b → ⊥)
    → TellsCosts f (error costs) → IsExact reading (Err f)
exact_costs reading name points costs f e ok none t m g n = (
  λ h. subst (λ y. HasFault reading y) (sym (err_same h)) (told_costs reading name points costs f e ok t),
  λ h. elim (found_in reading name points costs g e n h) [
    | inl u ↦ absurd (none u.0 u.2)
    | inr u ↦ ap (λ y. Err y) (told_named costs f u.0 (λ q. m (ap (λ y. Err y) q)) u.2 t ∙ sym u.1)
  ],
)
