-- The commits that undo can take back, one on the other.
use Rattle.std.proofs.Common.{◌≡◌, ℕ, ◌+◌, ◌-◌, ◌≤◌, List, [], ◌∷◌, ◌++◌, length, take, arith, sym, ◌∙◌, ap, subst}
use Rattle.std.proofs.lemmas.List.{take-append-le, take_all, length-append}
use Rattle.std.proofs.Math.Seq.{take-append_seam}
use Rattle.plane.specs.declared.coordinates.Point.{Point}
use Rattle.plane.specs.declared.segment.Pair.{Pair}
use Rattle.journal_defs.specs.declared.edit.Edit.{Edit}
use Rattle.journal_defs.specs.declared.commit.Commit.{Commit}
use Rattle.journal_defs.specs.Edits.{State}
use Rattle.journal_defs.specs.Journal.{replay, opening, after_all, AreLegal}
use Rattle.journal_defs.proofs.laws.Journal.{replay_append, legal_from_append}
use Rattle.rewind.specs.Undone.{HasNumber, IsInverseOf}
use Rattle.rewind.proofs.laws.Earlier.{IsPast}
use Rattle.rewind.proofs.laws.Undoing.{inverse_then, inverse_back}
use Rattle.edit_session.specs.Desks.{IsTower}

-- a longer journal has the same first commits
has_more : (J L : List Commit) (number : ℕ) → HasNumber J number → HasNumber (J ++ L) number
has_more J L number has = (has.0, (let h = length-append J L in omega (arith, h, has.1)))

first_more : (J L : List Commit) (k : ℕ) → k ≤ length J → take k (J ++ L) ≡ take k J
first_more J L k h = take-append-le k J L h

tower_more : (start : List Pair) (J L : List Commit) (s : State) (numbers : List ℕ) → IsTower start J s numbers → IsTower start (J ++ L) s numbers
tower_more start J L s [] h = h
tower_more start J L s (number ∷ rest) h =
    let has = h.0 in
    let low : number - 1 ≤ length J = omega (arith, has.1) in (
      has_more J L number has,
      h.1 ∙ ap (replay start) (sym (first_more J L number has.1)),
      subst (λ (l : List Commit). IsTower start (J ++ L) (replay start l) rest) (sym (first_more J L (number - 1) low)) (tower_more start J L (replay start (take (number - 1) J)) rest h.2),
    )

-- one more commit that can be taken back
pub tower_committed : (start : List Pair) (J : List Commit) (c : Commit) (numbers : List ℕ) → IsTower start J (replay start J) numbers
    → IsTower start (J ++ c ∷ []) (replay start (J ++ c ∷ [])) (length (J ++ c ∷ []) ∷ numbers)
tower_committed start J c numbers h =
    let L : List Commit = J ++ c ∷ [] in
    let n : length L ≡ length J + 1 = length-append J (c ∷ []) in
    let some : 1 ≤ length L = omega arith in
    let same : length L - 1 ≡ length J = omega arith in
    let full : length L ≤ length L = omega arith in (
      (some, full),
      ap (replay start) (sym (take_all (length L) L full)),
      subst (λ (l : List Commit). IsTower start L (replay start l) numbers) (sym (ap (λ (k : ℕ). take k L) same ∙ take-append_seam J (c ∷ [])))
          (tower_more start J (c ∷ []) (replay start J) numbers h),
    )

-- the inverse of the topmost commit is legal
pub tower_legal : (S : List Point) (start : List Pair) (J : List Commit) (number : ℕ) (rest : List ℕ) (edits : List Edit) → IsPast S start J → IsTower start J (replay start J) (number ∷ rest) → IsInverseOf J number edits
    → AreLegal S (replay start J) edits
tower_legal S start J number rest edits past h inverse = subst (λ (s : State). AreLegal S s edits) (sym h.1) (inverse_then S start J number edits past inverse)

-- and takes it off
pub tower_taken : (S : List Point) (start : List Pair) (J : List Commit) (number : ℕ) (rest : List ℕ) (c : Commit) → IsPast S start J → IsTower start J (replay start J) (number ∷ rest) → IsInverseOf J number c.edits
    → IsTower start (J ++ c ∷ []) (replay start (J ++ c ∷ [])) rest
tower_taken S start J number rest c past h inverse =
    let back : replay start (J ++ c ∷ []) ≡ replay start (take (number - 1) J) =
    replay_append J (c ∷ []) (opening start) ∙ ap (after_all c.edits) h.1 ∙ inverse_back S start J number c.edits past inverse in
    subst (λ (s : State). IsTower start (J ++ c ∷ []) s rest) (sym back) (tower_more start J (c ∷ []) (replay start (take (number - 1) J)) rest h.2)

-- a journal with one more legal commit
pub past_more : (S : List Point) (start : List Pair) (J : List Commit) (c : Commit) → IsPast S start J → AreLegal S (replay start J) c.edits → IsPast S start (J ++ c ∷ [])
past_more S start J c past legal = record {
  accepted = past.accepted;
  ascending = past.ascending;
  triangulation = past.triangulation;
  legal = legal_from_append S J (c ∷ []) (opening start) past.legal (legal, tt);
}
