-- Plans of an edit worker: what a region of looks tells of edits, and what each call of the planner answers.
-- (This project's own.)
use Rattle.std.specs.Prelude.{◌≡◌, ℕ, ◌≤◌, Bool, true, if◌then◌else◌, nat_eq, List, [], ◌∷◌, map, Option, Some, None}
use Rattle.std.specs.List.{All, list_any, sum_by}
use Rattle.plane.specs.declared.coordinates.Point.{Point}
use Rattle.plane.specs.declared.segment.Pair.{Pair}
use Rattle.star.specs.Stars.{Seen}
use Rattle.cost_defs.specs.Costs.{Costed, cost}
use Rattle.journal_defs.specs.declared.edit.Edit.{Edit}
use Rattle.journal_defs.specs.declared.edit.Edit.TheVariants.{Drop, Keep, Flip}
use Rattle.journal_defs.specs.Table.{JoinsApexes}
use Rattle.journal_defs.specs.Turns.{FitInTurn}
use Rattle.edit.specs.Plans.{Planned, IsPlan, are_touching}
use Rattle.plan_defs.specs.declared.moves.Move.{Move}
use Rattle.plan_defs.specs.declared.moves.Move.TheVariants.{DropOne, Swap, Trade, FlipOne, FlipSwap}

-- what a look tells: a vertex, the list of its star, and its stamp
pub record Sight : Type 0 where
  pub vertex : ℕ
  pub list : List (ℕ × Bool)
  pub stamp : ℕ

-- whether the region has a look at v
abbrev pub has_look : List Sight → ℕ → Bool
has_look R v = list_any (λ (l : Sight). nat_eq l.vertex v) R

-- the look at v, or an empty one where there is none
abbrev pub look_at : List Sight → ℕ → Sight
look_at [] v = record { vertex = v; list = []; stamp = 0 }
look_at (l ∷ R) v = if nat_eq l.vertex v then l else look_at R v

-- the star of v in the region, without room
abbrev pub star_in : List Point → List Sight → ℕ → Seen
star_in S R v = record { centre = v; list = (look_at R v).list; spare = 0; points = S }

-- what an edit keeps and what it drops, by cost; a flip counts for nothing
abbrev pub kept_cost : List Costed → Edit → ℕ
kept_cost D (Drop e) = 0
kept_cost D (Keep e) = cost D e.lo e.hi
kept_cost D (Flip e f) = 0

abbrev pub dropped_cost : List Costed → Edit → ℕ
dropped_cost D (Drop e) = cost D e.lo e.hi
dropped_cost D (Keep e) = 0
dropped_cost D (Flip e f) = 0

-- the Keeps don't cost more than the Drops
abbrev pub IsNoDearer : List Costed → List Edit → Type 0
IsNoDearer D es = sum_by (kept_cost D) es ≤ sum_by (dropped_cost D) es

-- The edits fit the region: each touched vertex was looked at, each edit fits in its turn on the region's stars, and the
-- Keeps don't cost more than the Drops.
pub record AreFitting (S : List Point) (D : List Costed) (R : List Sight) (es : List Edit) : Type 0 where
  pub looked : (v : ℕ) → are_touching es v ≡ true → has_look R v ≡ true
  pub fit : FitInTurn S (star_in S R) es
  pub cheap : IsNoDearer D es

-- a touched vertex is claimed with the region's stamp
abbrev pub IsRightClaim : List Sight → List Edit → (vertex stamp : ℕ) → Type 0
IsRightClaim R es v stamp = (are_touching es v ≡ true) × (stamp ≡ (look_at R v).stamp)

-- The plan has these edits, and claims exactly the touched vertices, ascending, with the region's stamps.
pub record IsPlanOf (R : List Sight) (es : List Edit) (p : Planned) : Type 0 where
  pub edits : p.edits ≡ es
  pub covered : IsPlan p.edits p.claims
  pub claimed : All (λ c. IsRightClaim R es c.vertex c.stamp) p.claims

-- one or two drops
abbrev pub drops_of : Pair → Option Pair → List Edit
drops_of first None = Drop first ∷ []
drops_of first (Some second) = Drop first ∷ Drop second ∷ []

-- f joins the apexes of e in the stars
abbrev pub IsAcross : List Point → (ℕ → Seen) → (e f : Pair) → Type 0
IsAcross S at e f = (k : ℕ) × (l : ℕ) × JoinsApexes S (at e.lo) (at e.hi) e f k l

-- the edits of a move; one whose pair lacks an apex has none
abbrev pub HasEdits : List Point → (ℕ → Seen) → Move → List Edit → Type 0
HasEdits S at (DropOne e) es = es ≡ Drop e ∷ []
HasEdits S at (Swap keep first second) es = es ≡ Keep keep ∷ drops_of first second
HasEdits S at (Trade keep other first second) es = es ≡ Keep keep ∷ Keep other ∷ Drop first ∷ Drop second ∷ []
HasEdits S at (FlipOne e) es = (f : Pair) × IsAcross S at e f × (es ≡ Flip e f ∷ [])
HasEdits S at (FlipSwap e first second) es =
    (f : Pair) × IsAcross S at e f × (es ≡ Flip e f ∷ Keep f ∷ drops_of first second)

-- the edits of a move where they fit the region, and none exactly where they don't
abbrev pub IsFound : List Point → List Costed → List Sight → Move → Option (List Edit) → Type 0
IsFound S D R m None = (es : List Edit) → HasEdits S (star_in S R) m es → ¬ AreFitting S D R es
IsFound S D R m (Some es) = HasEdits S (star_in S R) m es × AreFitting S D R es

-- the answer of a call of the planner
abbrev pub IsPlanned : List Point → List Costed → List Sight → Move → Option Planned → Type 0
IsPlanned S D R m None = IsFound S D R m None
IsPlanned S D R m (Some p) = (es : List Edit) × IsFound S D R m (Some es) × IsPlanOf R es p
