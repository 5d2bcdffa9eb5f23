-- A reading has one fault at most.
use Rattle.std.proofs.Common.{◌≡◌, ◌≢◌, ℕ, List, map, Result, Ok, Err, Vec, Global, refl, sym, ap, ◌∙◌, subst}
use Rattle.plane.specs.declared.segment.Pair.{Pair}
use Rattle.text_defs.specs.Solutions.{Fault, not_json, no_edges, too_many_edges, bad_edge}
use Rattle.json_text.proofs.Laws.{err_same, ok_err}
use Rattle.solution_io.specs.Refusal.{HasFault, IsRead, IsExact}
use Rattle.instance_io.specs.Refusal.{ends}
use Rattle.solution_io.specs.declared.fault.SolutionFault.{SolutionFault}
use Rattle.solution_io.specs.declared.fault.SolutionFault.TheVariants.{NotJson, NoEdges, TooManyEdges, BadEdge, NoMemory}

abbrev Reading : Type 0
Reading = Result (List (ℕ × ℕ)) Fault

abbrev named : Fault → SolutionFault
named not_json = NotJson
named no_edges = NoEdges
named (too_many_edges c) = TooManyEdges c
named (bad_edge k) = BadEdge k

has_named : (x : Fault) (f : SolutionFault) → f ≢ NoMemory → HasFault (Err x) f → f ≡ named x
has_named x NotJson m h = ap named (err_same h)
has_named x NoEdges m h = ap named (err_same h)
has_named x (TooManyEdges c) m h = ap named (err_same h)
has_named x (BadEdge k) m h = ap named (err_same h)
has_named x NoMemory m h = absurd (m refl)

no_fault : (edges : List (ℕ × ℕ)) (f : SolutionFault) → f ≢ NoMemory → HasFault (Ok edges) f → ⊥
no_fault edges NotJson m h = ok_err h
no_fault edges NoEdges m h = ok_err h
no_fault edges (TooManyEdges c) m h = ok_err h
no_fault edges (BadEdge k) m h = ok_err h
no_fault edges NoMemory m h = m refl

exact_err : (reading : Reading) (f : SolutionFault) → HasFault reading f → IsExact reading (Err f)
exact_err (Ok edges) f h m g n = absurd (no_fault edges f (λ e. m (ap (λ y. Err y) e)) h)
exact_err (Err x) f h m g n =
    let same : f ≡ named x = has_named x f (λ e. m (ap (λ y. Err y) e)) h in (
      λ e. subst (λ y. HasFault (Err x) y) (sym (err_same e)) h,
      λ q. ap (λ y. Err y) (same ∙ sym (has_named x g n q)),
    )

pub exact : (reading : Reading) (result : Result (Vec Pair Global) SolutionFault) → IsRead reading result → IsExact reading result
exact reading (Ok pairs) h m g n = (
  λ e. absurd (ok_err e),
  λ q. absurd (no_fault (map ends pairs.items) g n (subst (λ r. HasFault r g) h q)),
)
exact reading (Err f) h m g n = exact_err reading f h m g n
