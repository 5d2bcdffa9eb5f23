-- Stamps of all vertices, commit by commit.
use Rattle.std.proofs.Common.{◌≡◌, ℕ, ◌+◌, ◌<◌, cond, List, length, take, get_or, arith, sym, ◌∙◌, ap}
use Rattle.std.proofs.lemmas.List.{take_more, length-take-le}
use Rattle.journal_defs.specs.declared.commit.Commit.{Commit}
use Rattle.journal_defs.specs.Journal.{last, commit_touches}
use Rattle.hands.proofs.Laws.{last_snoc}
use Rattle.board.specs.Stamping.{AreMarked, AreStampsOf}

pub stamps_more : (J : List Commit) (k : ℕ) (d : Commit) (count n : ℕ) (xs ys : List ℕ) → AreStampsOf (take k J) count xs → k < length J → n ≡ k + 1 → AreMarked (commit_touches (get_or J k d)) n xs ys → AreStampsOf (take (k + 1) J) count ys
stamps_more J k d count n xs ys o lt is m =
    let c = get_or J k d in
    let long : length (take k J) ≡ k = length-take-le k J (omega (arith, lt)) in
    record {
      long = m.long ∙ o.long;
      each = λ v near.
          m.each v (omega (arith, o.long, near))
          ∙ (ap (λ (x : ℕ). cond (commit_touches c v) n x) (o.each v near)
          ∙ (ap (λ (x : ℕ). cond (commit_touches c v) x (last (take k J) v)) (is ∙ ap (λ (x : ℕ). x + 1) (sym long))
          ∙ (sym (last_snoc (take k J) c v) ∙ ap (λ (l : List Commit). last l v) (sym (take_more J k d lt)))));
    }
