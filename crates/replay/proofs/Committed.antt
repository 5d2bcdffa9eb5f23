-- A core takes a commit, or refuses it.
use Rattle.std.proofs.Common.{◌≡◌, ℕ, ◌+◌, ◌<◌, ◌≤◌, inr, List, [], ◌∷◌, ◌++◌, length, sym, ◌∙◌, ap, subst, refl}
use Rattle.std.proofs.Common.{lit≤}
use Rattle.plane.specs.declared.coordinates.Point.{Point}
use Rattle.plane.specs.declared.segment.Pair.{Pair}
use Rattle.subdivision.specs.Layout.{Layout}
use Rattle.journal_defs.specs.declared.commit.Commit.{Commit}
use Rattle.journal_defs.specs.declared.edit.Edit.{Edit}
use Rattle.journal_defs.specs.declared.edit.Edit.TheVariants.{Drop}
use Rattle.journal_defs.specs.Edits.{after, IsLegal}
use Rattle.journal_defs.specs.Journal.{after_all, AreLegal, HasSize, made, drops}
use Rattle.replay.specs.declared.counts.Counts.{Counts}
use Rattle.replay.specs.declared.fault.ApplyFault.{ApplyFault}
use Rattle.replay.specs.declared.fault.ApplyFault.TheVariants.{WrongSeq, Illegal, NoMemory}
use Rattle.replay.specs.declared.machine.TheConstants.{MOST_COMMITS}
use Rattle.replay.specs.Replayed.{GrowsBy, IsAsBefore}
use Rattle.replay.specs.Applied.{IsNext, IsRefused, IsFirstFault}
use Rattle.replay.specs.Machine.{IsMachine, AreCounts, layers}
use Rattle.replay.specs.Edited.{HasBecome, HasTurned, IsEditFault}
use Rattle.replay.proofs.Cores.{machine_more}

-- the commit of a drop
abbrev pub drop_commit : (n : ℕ) → List Edit → Commit
drop_commit n list = record { caller = 0; seq = n + 1; edits = list }

pub drop_entered : (J K L : List Commit) (n : ℕ) (c : Commit) (e : Pair) → n ≡ made 0 J → c ≡ drop_commit n (Drop e ∷ []) → K ≡ J → L ≡ K ++ c ∷ [] → L ≡ J ++ drops (made 0 J) (e ∷ [])
drop_entered J K L n c e count only same is =
    is ∙ ap (λ (x : List Commit). x ++ c ∷ []) same ∙ ap (λ (x : Commit). J ++ x ∷ []) only ∙ ap (λ (x : ℕ). J ++ drop_commit x (Drop e ∷ []) ∷ []) count

pub machine_dropped : (S : List Point) (start : List Pair) (J L : List Commit) (all new : Layout) (counts next : Counts) (e : Pair) → IsMachine S start J all counts → length J < MOST_COMMITS
    → IsLegal S (layers all) (Drop e) → HasBecome 1 (after (Drop e) (layers all)) all new → L ≡ J ++ drops (made 0 J) (e ∷ []) → AreCounts L next → IsMachine S start L new next
machine_dropped S start J L all new counts next e m few legal become is counted =
    let c : Commit = drop_commit (made 0 J) (Drop e ∷ []) in
    subst (λ x. IsMachine S start x new next) (sym is)
    (machine_more S start J all new counts next c m (lit≤ tt, lit≤ tt) refl (legal, tt)
    (record { points = become.points; subdivision = become.subdivision; state = become.state }) few (subst (λ x. AreCounts x next) is counted))

-- a commit that is taken
pub machine_taken : (S : List Point) (start : List Pair) (J K L : List Commit) (all new : Layout) (counts next : Counts) (c : Commit) (wanted : ℕ) → IsMachine S start J all counts → length J < MOST_COMMITS → HasSize c
    → c.seq ≡ wanted → wanted ≡ made c.caller J + 1 → AreLegal S (layers all) c.edits → HasTurned (after_all c.edits (layers all)) all new → K ≡ J → L ≡ K ++ c ∷ [] → AreCounts L next
    → IsMachine S start L new next
machine_taken S start J K L all new counts next c wanted m few size seq right legal turned same is counted =
    let whole : L ≡ J ++ c ∷ [] = is ∙ ap (λ (x : List Commit). x ++ c ∷ []) same in
    subst (λ x. IsMachine S start x new next) (sym whole) (machine_more S start J all new counts next c m size (seq ∙ right) legal turned few (subst (λ x. AreCounts x next) whole counted))

pub taken_next : (S : List Point) (start : List Pair) (J : List Commit) (n wanted : ℕ) (all : Layout) (counts : Counts) (c : Commit) → IsMachine S start J all counts → c.seq ≡ wanted → wanted ≡ made c.caller J + 1
    → AreLegal S (layers all) c.edits → IsNext (record { points = S; start = start; journal = J; spare = n }) c
taken_next S start J n wanted all counts c m seq right legal = record { sequence = seq ∙ right; edits = subst (λ s. AreLegal S s c.edits) m.state legal }

pub taken_grows : (S : List Point) (start : List Pair) (J K L : List Commit) (n m : ℕ) (c : Commit) → K ≡ J → L ≡ K ++ c ∷ []
    → GrowsBy (record { points = S; start = start; journal = J; spare = n }) (record { points = S; start = start; journal = L; spare = m }) (c ∷ [])
taken_grows S start J K L n m c same is = record { points = refl; start = refl; journal = is ∙ ap (λ (x : List Commit). x ++ c ∷ []) same }

-- a commit that is refused for its edits
pub refused_edits : (S : List Point) (start : List Pair) (J : List Commit) (n wanted : ℕ) (all : Layout) (counts : Counts) (c : Commit) (fault : ApplyFault) → IsMachine S start J all counts → c.seq ≡ wanted
    → wanted ≡ made c.caller J + 1 → IsEditFault S (layers all) c.edits fault → IsRefused (record { points = S; start = start; journal = J; spare = n }) c fault
refused_edits S start J n wanted all counts c (WrongSeq x) m seq right h = absurd h
refused_edits S start J n wanted all counts c (Illegal at why) m seq right h = (seq ∙ right, subst (λ s. IsFirstFault S s c.edits at why) m.state h)
refused_edits S start J n wanted all counts c NoMemory m seq right h = (seq ∙ right, inr h)

pub stays_so : (S : List Point) (start : List Pair) (J K : List Commit) (n m : ℕ) → K ≡ J → n ≤ m
    → IsAsBefore (record { points = S; start = start; journal = J; spare = n }) (record { points = S; start = start; journal = K; spare = m })
stays_so S start J K n m same room = record { points = refl; start = refl; journal = same; room = room }
