-- The rule of an edit worker that works alone: looks, plans, rounds, a search of many rounds. (This project's own.)
use Rattle.std.specs.Prelude.{◌≡◌, ℕ, ◌%◌, ◌⊎◌, List, [], ◌∷◌, ◌++◌, length, take, map, Option, Some, None}
use Rattle.plane.specs.declared.coordinates.Point.{Point}
use Rattle.plane.specs.declared.segment.Pair.{Pair}
use Rattle.cost_defs.specs.Costs.{Costed}
use Rattle.journal_defs.specs.declared.edit.Edit.{Edit}
use Rattle.journal_defs.specs.declared.commit.Commit.{Commit}
use Rattle.journal_defs.specs.Edits.{State}
use Rattle.journal_defs.specs.Journal.{replay, AreLegal, last}
use Rattle.journal_defs.specs.Neighbours.{star_list}
use Rattle.journal_defs.specs.Weave.{next_commit}
use Rattle.search_defs.specs.Words.{round_words}
use Rattle.plan_defs.specs.declared.moves.Move.{Move}
use Rattle.plan_defs.specs.Plans.{Sight, IsFound}
use Rattle.round_defs.specs.Candidates.{kinds}

-- the look at v after a journal: its star there, and the number of the last commit that touches it
abbrev pub sight_of : List Point → List Pair → List Commit → ℕ → Sight
sight_of S start J v = record { vertex = v; list = star_list S (replay start J) v; stamp = last J v }

-- the vertices of a round's looks: v, and the first 15, or all, of its neighbours in turning order
abbrev pub looked_at : List Point → State → ℕ → List ℕ
looked_at S s v = v ∷ take 15 (map (λ x. x.0) (star_list S s v))

-- the looks of a round at v after a journal
abbrev pub looks : List Point → List Pair → List Commit → ℕ → List Sight
looks S start J v = map (sight_of S start J) (looked_at S (replay start J) v)

-- the edits of the first candidate that fits the region, or none where none fits
abbrev pub IsFirst : List Point → List Costed → List Sight → List Move → Option (List Edit) → Type 0
IsFirst S D R [] o = o ≡ None
IsFirst S D R (m ∷ ms) o =
    ((es : List Edit) × IsFound S D R m (Some es) × (o ≡ Some es)) ⊎ (IsFound S D R m None × IsFirst S D R ms o)

-- those of each kind that has one
abbrev pub AreFirsts : List Point → List Costed → List Sight → List (List Move) → List (List Edit) → Type 0
AreFirsts S D R [] found = found ≡ []
AreFirsts S D R (ms ∷ kinds) found =
    ((es : List Edit) × IsFirst S D R ms (Some es)
    × ((rest : List (List Edit)) × (found ≡ es ∷ rest) × AreFirsts S D R kinds rest))
    ⊎ (IsFirst S D R ms None × AreFirsts S D R kinds found)

-- the plans of a round, by their edits: the first of each kind, and of these the first four
abbrev pub ArePlans : List Point → List Costed → List Sight → (v k : ℕ) → List (List Edit) → Type 0
ArePlans S D R v k plans =
    (found : List (List Edit)) × AreFirsts S D R (kinds R v k) found × (plans ≡ take 4 found)

-- a plan handed in: the next commit of caller 1 has its edits where they are legal in turn, and else nothing changes
abbrev pub IsHanded : List Point → List Pair → List Commit → List Edit → List Commit → Type 0
IsHanded S start J es J' =
    (AreLegal S (replay start J) es × (J' ≡ J ++ next_commit J 1 es ∷ []))
    ⊎ (¬ AreLegal S (replay start J) es × (J' ≡ J))

-- plans handed in one after the other
abbrev pub AreHanded : List Point → List Pair → List Commit → List (List Edit) → List Commit → Type 0
AreHanded S start J [] J' = J' ≡ J
AreHanded S start J (es ∷ plans) J' =
    (next : List Commit) × IsHanded S start J es next × AreHanded S start next plans J'

-- A round with the words a and b: a picks a vertex, b the neighbour with which the walk begins. All plans are made
-- before the first is handed in.
abbrev pub IsRound : List Point → List Costed → List Pair → List Commit → (a b : ℕ) → List Commit → Type 0
IsRound S D start J a b J' =
    let v = a % length S in
    let k = b % length (star_list S (replay start J) v) in
    (plans : List (List Edit)) × ArePlans S D (looks S start J v) v k plans × AreHanded S start J plans J'

-- rounds one after the other, each with its two words
abbrev pub AreRounds : List Point → List Costed → List Pair → List Commit → List (ℕ × ℕ) → List Commit → Type 0
AreRounds S D start J [] J' = J' ≡ J
AreRounds S D start J (w ∷ words) J' =
    (next : List Commit) × IsRound S D start J w.0 w.1 next × AreRounds S D start next words J'

-- the search of an edit worker that works alone: so many rounds with the words of a seed and stream 1
abbrev pub IsSearched : List Point → List Costed → List Pair → List Commit → (rounds seed : ℕ) → List Commit → Type 0
IsSearched S D start J rounds seed J' = AreRounds S D start J (round_words 1 seed 0 rounds) J'
