-- A plan handed in with its stamps, as a board with one pass and room answers it: refused where it is stale, then
-- refreshed and handed in once more.
use Rattle.std.specs.Prelude.{◌≡◌, ◌<◌, ◌⊎◌, List, [], ◌∷◌, ◌++◌, map}
use Rattle.std.specs.List.{AllByRecursion}
use Rattle.plane.specs.declared.coordinates.Point.{Point}
use Rattle.plane.specs.declared.segment.Pair.{Pair}
use Rattle.journal_defs.specs.declared.edit.Claim.{Claim}
use Rattle.journal_defs.specs.declared.commit.Commit.{Commit}
use Rattle.journal_defs.specs.Journal.{replay, AreLegal, last}
use Rattle.journal_defs.specs.Weave.{next_commit}
use Rattle.edit.specs.Plans.{Planned}
use Rattle.hands.specs.Answers.{IsFresh}

-- each stamp is the number of the last commit that touches its vertex
abbrev pub AreFresh : List Commit → List Claim → Type 0
AreFresh J claims = AllByRecursion (IsFresh J) claims

-- the first claim that isn't fresh has an older stamp
abbrev pub IsStale : List Commit → List Claim → Type 0
IsStale J [] = ⊥
IsStale J (c ∷ claims) = (c.stamp < last J c.vertex) ⊎ (IsFresh J c × IsStale J claims)

-- the plan with the stamps after J
abbrev pub refreshed : List Commit → Planned → Planned
refreshed J p = record {
  edits = p.edits;
  claims = map (λ c. record { vertex = c.vertex; stamp = last J c.vertex }) p.claims;
}

-- the plan is taken: all its stamps are fresh, and its edits are legal in turn
abbrev pub IsTaken : List Point → List Pair → List Commit → Planned → Type 0
IsTaken S start J p = AreFresh J p.claims × AreLegal S (replay start J) p.edits

-- what handing in once makes of the journal
abbrev pub IsTried : List Point → List Pair → List Commit → Planned → List Commit → Type 0
IsTried S start J p J' =
    (IsTaken S start J p × (J' ≡ J ++ next_commit J 1 p.edits ∷ [])) ⊎ (¬ IsTaken S start J p × (J' ≡ J))

-- what it makes of it where a stale plan is refreshed and handed in once more
abbrev pub IsTriedTwice : List Point → List Pair → List Commit → Planned → List Commit → Type 0
IsTriedTwice S start J p J' =
    (¬ IsStale J p.claims × IsTried S start J p J') ⊎ (IsStale J p.claims × IsTried S start J (refreshed J p) J')
