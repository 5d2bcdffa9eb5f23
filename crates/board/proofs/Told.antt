-- The whole history is told to each share in turn.
use Rattle.std.proofs.Common.{◌≡◌, ℕ, true, List, [], ◌∷◌, ◌++◌, sym, ◌∙◌, ap, append-nil, append_assoc}
use Rattle.std.specs.List.{AllByRecursion}
use Rattle.index_sets.specs.Indices.{contains}
use Rattle.index_sets.specs.Entries.{entries_of}
use Rattle.index_sets.specs.Prefixes.{longer}
use Rattle.index_sets.proofs.Laws.{contains-right, contains-first}
use Rattle.chronicle.specs.History.{ChronicleSeen, ShareSeen, IsShare, GoesOn}
use Rattle.journal_defs.specs.declared.commit.Commit.{Commit}
use Rattle.journal_defs.specs.Journal.{commit_touches}
use Rattle.seats.specs.Ground.{caller_of}
use Rattle.board.specs.declared.own.Own.{Own}
use Rattle.board.specs.Ended.{IsToldOwn}

-- a share that owns the last part has seen all
pub sees_whole : (of : ChronicleSeen Commit) (J L : List Commit) (whole : ShareSeen Commit) → whole.of ≡ of → contains whole.parts of.last ≡ true → whole.seen ≡ J → GoesOn caller_of commit_touches whole L → L ≡ J
sees_whole of J L whole is owns seen g =
    let last : contains whole.parts whole.of.last ≡ true = ap (λ (x : ChronicleSeen Commit). contains whole.parts x.last) is ∙ owns in
    g.is ∙ (ap (λ (l : List Commit). whole.seen ++ l) (g.whole last) ∙ (append-nil whole.seen ∙ seen))

-- one that is joined with it has been told all
pub told_one : (of : ChronicleSeen Commit) (J : List Commit) (o : Own) (whole now : ShareSeen Commit) → whole.of ≡ of → contains whole.parts of.last ≡ true → whole.seen ≡ J
    → now ≡ record o.share { seen = longer o.share.seen whole.seen; parts = o.share.parts ++ whole.parts } → GoesOn caller_of commit_touches o.share now.seen → GoesOn caller_of commit_touches whole now.seen → IsShare caller_of now
    → IsToldOwn J o
told_one of J o whole now is owns seen joined into from valid =
    let all : now.seen ≡ J = sees_whole of J now.seen whole is owns seen from in
    let caller : now.caller ≡ o.share.caller = ap (λ (s : ShareSeen Commit). s.caller) joined in
    let mine : now.mine ≡ o.share.mine = ap (λ (s : ShareSeen Commit). s.mine) joined in
    record {
      begins = (into.more, sym all ∙ into.is);
      mine = ap (λ (k : ℕ). entries_of caller_of k J) (sym caller) ∙ (ap (entries_of caller_of now.caller) (sym all) ∙ (sym valid.mine ∙ mine));
    }

-- it owns the last part then
pub owns_last : (of : ChronicleSeen Commit) (own whole now : ShareSeen Commit) → contains whole.parts of.last ≡ true → now ≡ record own { seen = longer own.seen whole.seen; parts = own.parts ++ whole.parts } → contains now.parts of.last ≡ true
owns_last of own whole now owns joined =
    ap (λ (s : ShareSeen Commit). contains s.parts of.last) joined ∙ contains-right own.parts whole.parts of.last owns

-- the part that is cut off again is the last
pub still_owns : (of : ChronicleSeen Commit) (now left : ShareSeen Commit) (place : ℕ) → place ≡ of.last → left ≡ record now { caller = 0; mine = []; parts = place ∷ [] } → contains left.parts of.last ≡ true
still_owns of now left place is cut =
    ap (λ (s : ShareSeen Commit). contains s.parts of.last) cut ∙ (ap (λ (p : ℕ). contains (p ∷ []) of.last) is ∙ contains-first [] of.last)

module _ {A : Type 0} where
  -- the last of the elements
  pub all_last : (P : A → Type 0) (xs : List A) (x : A) (ys : List A) → AllByRecursion P (xs ++ x ∷ ys) → P x
  all_last P [] x ys a = a.0
  all_last P (z ∷ xs) x ys a = all_last P xs x ys a.1

-- those that are told, one more
pub told_more : (J : List Commit) (owns rest next done : List Own) (o : Own) → owns ≡ rest ++ done → rest ≡ next ++ o ∷ [] → AllByRecursion (IsToldOwn J) done → IsToldOwn J o
    → (more : List Own) × (owns ≡ next ++ more) × AllByRecursion (IsToldOwn J) more
told_more J owns rest next done o is left all one =
    (o ∷ done, is ∙ (ap (λ (l : List Own). l ++ done) left ∙ append_assoc next (o ∷ []) done), (one, all))
