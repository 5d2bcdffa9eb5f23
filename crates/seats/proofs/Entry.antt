-- The caller's next commit as the last of the history.
use Rattle.std.proofs.Common.{◌≡◌, ℕ, ◌+◌, ◌≤◌, List, [], ◌∷◌, ◌++◌, length, sym, ◌∙◌, ap, subst}
use Rattle.std.proofs.lemmas.List.Sums.{count_by-le-length}
use Rattle.std.specs.Prelude.{nat_eq}
use Rattle.index_sets.specs.Entries.{entries_of}
use Rattle.chronicle.specs.History.{ShareSeen, IsShare, IsHistory}
use Rattle.vertex_claims.specs.Holding.{HolderSeen}
use Rattle.journal_defs.specs.declared.commit.Commit.{Commit}
use Rattle.journal_defs.specs.Journal.{AreLegal, replay, IsLegalJournal, made, HasSize}
use Rattle.journal_defs.proofs.laws.Later.{legal_more}
use Rattle.seats.specs.declared.cells.Root.{Root}
use Rattle.seats.specs.Ground.{caller_of}
use Rattle.seats.specs.Resting.{seat_of, IsSeatOf}
use Rattle.seats.proofs.Settled.{made_next}

pub made_most : (c : ℕ) (J : List Commit) → made c J ≤ length J
made_most c J = count_by-le-length (λ (x : Commit). nat_eq x.caller c) J

pub entered_seat : (h : HolderSeen Root) (s s2 : ShareSeen Commit) (x : Commit) → s2 ≡ record s { seen = s.seen ++ x ∷ []; mine = s.mine ++ x ∷ [] } → seat_of h s2 ≡ record (seat_of h s) { seen = s.seen ++ x ∷ []; mine = s.mine ++ x ∷ [] }
entered_seat h s s2 x ss = ap (λ (z : ShareSeen Commit). seat_of h z) ss

pub entered : (h : HolderSeen Root) (s s2 : ShareSeen Commit) (me count : ℕ) (x : Commit) → IsSeatOf h s me count → x.caller ≡ me → x.seq ≡ count + 1 → HasSize x → AreLegal h.of.root.points (replay h.of.root.start.items s.seen) x.edits
    → s2 ≡ record s { seen = s.seen ++ x ∷ []; mine = s.mine ++ x ∷ [] } → IsShare caller_of s2 → IsSeatOf h s2 me (count + 1)
entered h s s2 me count x q own seq size edits ss share =
    let of : s2.of ≡ h.of.root.chronicle = ap (λ (z : ShareSeen Commit). z.of) ss ∙ q.of in
    let caller : s2.caller ≡ s.caller = ap (λ (z : ShareSeen Commit). z.caller) ss in
    let seen : s2.seen ≡ s.seen ++ x ∷ [] = ap (λ (z : ShareSeen Commit). z.seen) ss in
    let mine : s.caller ≡ x.caller = q.caller ∙ (sym q.me_is ∙ sym own) in
    record {
      of = of;
      caller = caller ∙ q.caller;
      parts = ap (λ (z : ShareSeen Commit). z.parts) ss ∙ q.parts;
      me_is = q.me_is;
      made = ap (λ (n : ℕ). n + 1) q.made ∙ sym (ap (λ (c : ℕ). made c s2.seen) caller ∙ (ap (λ (l : List Commit). made s.caller l) seen ∙ made_next s.caller s.seen x (sym mine)));
      seat = record {
        shelf = q.seat.shelf;
        legal = subst (IsLegalJournal h.of.root.points h.of.root.start.items) (sym seen) (legal_more h.of.root.points h.of.root.start.items s.seen x q.seat.legal size edits (seq ∙ ap (λ (n : ℕ). n + 1) (q.made ∙ ap (λ (c : ℕ). made c s.seen) mine)));
        least = q.seat.least;
        most = q.seat.most;
        history = subst (λ o. IsHistory caller_of o s2.seen) of share.history;
        mine = share.mine ∙ ap (λ (c : ℕ). entries_of caller_of c s2.seen) (caller ∙ q.caller);
        once = q.seat.once;
      };
    }
