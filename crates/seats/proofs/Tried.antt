-- What a try at a place leaves, and what may be given back.
use Rattle.std.proofs.Common.{◌≡◌, ℕ, ◌+◌, ◌<◌, ◌≤◌, true, false, List, [], ◌∷◌, ◌++◌, length, Vec, Global, Result, Ok, Err, sym, ◌∙◌, ap, subst, refl, append-nil, append_assoc, length-append}
use Rattle.std.specs.Prelude.{IfOk, IfErr}
use Rattle.std.specs.List.{AllByRecursion}
use Rattle.index_sets.specs.Indices.{contains, all_but}
use Rattle.index_sets.specs.Entries.{SparesPlace}
use Rattle.index_sets.specs.Prefixes.{longer}
use Rattle.index_sets.proofs.Laws.{contains-first}
use Rattle.chronicle.specs.History.{ShareSeen, IsShare, GoesOn}
use Rattle.vertex_claims.specs.Holding.{ClaimsSeen, HolderSeen, IsHolder, IsAnother}
use Rattle.journal_defs.specs.declared.commit.Commit.{Commit}
use Rattle.journal_defs.specs.Journal.{replay, IsLegalJournal, commit_touches, made}
use Rattle.edit.specs.declared.look.Look.{Look}
use Rattle.hands.specs.Hands.{hand_of, IsRight, IsStamped}
use Rattle.hands.proofs.Laws.{carry_right, carry_stamp, each_append}
use Rattle.seats.specs.declared.cells.Root.{Root}
use Rattle.seats.specs.Ground.{Grown, caller_of}
use Rattle.seats.specs.Cells.{IsPart, VertexFits}
use Rattle.seats.specs.Seats.{SeatSeen, IsShelf, ground_of}
use Rattle.seats.specs.Claimed.{IsWon, IsMissed, IsLate, IsJournalTaken, IsJournalWon, IsJournalMissed, journal_place}
use Rattle.seats.specs.Resting.{seat_of, IsSeatOf}
use Rattle.seats.proofs.Settled.{longer_has, settled, grown_of, made_on}

-- a place was won, and its share joined
module _ (h h2 : HolderSeen Root) (s s2 part : ShareSeen Commit) (me count place : ℕ) (q : IsSeatOf h s me count) (p : IsPart h.of.root place part)
    (hs : h2 ≡ record h { places = h.places ++ place ∷ []; wins = h.wins ++ place ∷ [] })
    (ss : s2 ≡ record s { seen = longer s.seen part.seen; parts = s.parts ++ part.parts })
    (into : GoesOn caller_of commit_touches s s2.seen) where
  legal_both : IsLegalJournal h.of.root.points h.of.root.start.items s2.seen
  legal_both =
      subst (IsLegalJournal h.of.root.points h.of.root.start.items) (sym (ap (λ (x : ShareSeen Commit). x.seen) ss))
      (longer_has (IsLegalJournal h.of.root.points h.of.root.start.items) s.seen part.seen q.seat.legal p.legal)

  pub joined_seat : seat_of h2 s2 ≡ record (seat_of h s) { seen = s2.seen; held = h.places ++ place ∷ []; wins = h.wins ++ place ∷ [] }
  joined_seat =
      ap (λ (x : HolderSeen Root). seat_of x s2) hs
      ∙ ap (λ (m : List Commit). record (seat_of h s) { seen = s2.seen; mine = m; held = h.places ++ place ∷ []; wins = h.wins ++ place ∷ [] }) (ap (λ (x : ShareSeen Commit). x.mine) ss)

  pub joined_grown : Grown (ground_of h.of) h.number h.places s.seen s2.seen
  joined_grown = grown_of h.of s h.number h.places s2.seen q.seat.shelf q.of q.caller q.parts q.seat.least into legal_both

  pub joined : IsHolder h2 → IsShare caller_of s2 → IsSeatOf h2 s2 me count
  joined holder share =
      let number : h2.number ≡ h.number = ap (λ (x : HolderSeen Root). x.number) hs in
      let own : s2.caller ≡ s.caller = ap (λ (x : ShareSeen Commit). x.caller) ss in
      let of : h2.of ≡ h.of = ap (λ (x : HolderSeen Root). x.of) hs in
      settled h2 s2 me count
      (ap (λ (x : ShareSeen Commit). x.of) ss ∙ (q.of ∙ sym (ap (λ (x : ClaimsSeen Root). x.root.chronicle) of)))
      (own ∙ (q.caller ∙ sym number))
      (ap (λ (x : ShareSeen Commit). x.parts) ss ∙ (ap (λ (l : List ℕ). l ++ part.parts) q.parts ∙ (ap (λ (l : List ℕ). h.places ++ l) p.parts ∙ sym (ap (λ (x : HolderSeen Root). x.places) hs))))
      (q.me_is ∙ sym number)
      (q.made ∙ sym (ap (λ (c : ℕ). made c s2.seen) own ∙ (ap (λ (l : List Commit). made s.caller l) into.is ∙ made_on s.caller s.seen into.more into.lacks)))
      (subst IsShelf (sym of) q.seat.shelf)
      (subst (λ (c : ClaimsSeen Root). IsLegalJournal c.root.points c.root.start.items s2.seen) (sym of) legal_both)
      holder share

-- the star of a point is right after what is seen now
pub won : (h h2 : HolderSeen Root) (s s2 part : ShareSeen Commit) (me count v : ℕ) (look : Look) → IsSeatOf h s me count → VertexFits h.of.root v look part
    → h2 ≡ record h { places = h.places ++ v ∷ []; wins = h.wins ++ v ∷ [] }
    → s2 ≡ record s { seen = longer s.seen part.seen; parts = s.parts ++ part.parts }
    → GoesOn caller_of commit_touches s s2.seen → GoesOn caller_of commit_touches part s2.seen → IsWon (seat_of h s) (seat_of h2 s2) v (hand_of look)
won h h2 s s2 part me count v look q f hs ss into from =
    let S = h.of.root.points in
    let start = h.of.root.start.items in
    let spares : SparesPlace commit_touches from.more look.star.centre = subst (SparesPlace commit_touches from.more) (sym f.centre) (subst (AllByRecursion (SparesPlace commit_touches from.more)) f.part.parts from.spares).0 in
    record {
      seat = joined_seat h h2 s s2 part me count v q f.part hs ss into;
      grown = joined_grown h h2 s s2 part me count v q f.part hs ss into;
      vertex = f.centre;
      right = subst (λ (L : List Commit). IsRight S (replay start L) (hand_of look)) (sym from.is) (carry_right S start part.seen from.more (hand_of look) spares f.right);
      stamped = subst (λ (L : List Commit). IsStamped L (hand_of look)) (sym from.is) (carry_stamp part.seen from.more (hand_of look) spares f.stamped);
    }

-- a try was lost
pub missed : (h h2 : HolderSeen Root) (s : ShareSeen Commit) (place holder : ℕ) → h2 ≡ record h { misses = h.misses ++ (place, holder) ∷ [] } → IsAnother h holder → IsMissed (seat_of h s) (seat_of h2 s) place holder
missed h h2 s place holder hs another = record {
  seat = ap (λ (x : HolderSeen Root). seat_of x s) hs;
  other = record { least = another.least; most = another.most; other = another.other };
}

pub missed_seat : (h h2 : HolderSeen Root) (s : ShareSeen Commit) (me count : ℕ) (l : List (ℕ × ℕ)) → IsSeatOf h s me count → h2 ≡ record h { misses = l } → IsSeatOf h2 s me count
missed_seat h h2 s me count l q hs =
    let w = q.seat in
    subst (λ (x : HolderSeen Root). IsSeatOf x s me count) (sym hs) (record {
      of = q.of;
      caller = q.caller;
      parts = q.parts;
      me_is = q.me_is;
      made = q.made;
      seat = record { shelf = w.shelf; legal = w.legal; least = w.least; most = w.most; history = w.history; mine = w.mine; once = w.once };
    })

-- the journal is all that is seen
pub journal_taken : (h h2 : HolderSeen Root) (s s2 part : ShareSeen Commit) (me count place : ℕ) (commits : List Commit) → IsSeatOf h s me count → place ≡ length h.of.root.points → IsPart h.of.root place part → commits ≡ part.seen → length part.seen ≤ h.of.root.room
    → h2 ≡ record h { places = h.places ++ place ∷ []; wins = h.wins ++ place ∷ [] }
    → s2 ≡ record s { seen = longer s.seen part.seen; parts = s.parts ++ part.parts }
    → GoesOn caller_of commit_touches s s2.seen → GoesOn caller_of commit_touches part s2.seen → IsJournalTaken (seat_of h s) (seat_of h2 s2) commits
journal_taken h h2 s s2 part me count place commits q at p same few hs ss into from =
    let owns : contains part.parts part.of.last ≡ true =
    ap (λ (l : List ℕ). contains l part.of.last) p.parts ∙ (ap (λ (n : ℕ). contains (place ∷ []) n) (ap (λ x. x.last) p.of ∙ (q.seat.shelf.last ∙ sym at)) ∙ contains-first [] place) in
    let whole : s2.seen ≡ part.seen = from.is ∙ (ap (λ (l : List Commit). part.seen ++ l) (from.whole owns) ∙ append-nil part.seen) in
    record {
      seat = joined_seat h h2 s s2 part me count place q p hs ss into ∙ ap (λ (n : ℕ). record (seat_of h s) { seen = s2.seen; held = h.places ++ n ∷ []; wins = h.wins ++ n ∷ [] }) at;
      grown = joined_grown h h2 s s2 part me count place q p hs ss into;
      same = same ∙ sym whole;
      few = subst (λ (l : List Commit). length l ≤ h.of.root.room) (sym whole) few;
    }

-- lost tries at the journal, one more each
pub late_none : (old : SeatSeen) → IsLate old old 0
late_none old = record { missed = []; many = refl; places = tt; seat = ap (λ (l : List (ℕ × ℕ)). record old { misses = l }) (sym (append-nil old.misses)) }

pub late_more : (old mid new : SeatSeen) (k holder : ℕ) → IsLate old mid k → IsMissed mid new (journal_place mid) holder → IsLate old new (k + 1)
late_more old mid new k holder l m =
    let n = journal_place old in
    record {
      missed = l.missed ++ (n, holder) ∷ [];
      many = length-append l.missed ((n, holder) ∷ []) ∙ ap (λ (x : ℕ). x + 1) l.many;
      places = each_append (λ (x : ℕ × ℕ). x.0 ≡ n) l.missed ((n, holder) ∷ []) l.places (refl, tt);
      seat = m.seat ∙ (ap (λ (z : SeatSeen). record z { misses = z.misses ++ (journal_place z, holder) ∷ [] }) l.seat ∙ ap (λ (x : List (ℕ × ℕ)). record old { misses = x }) (append_assoc old.misses l.missed ((n, holder) ∷ [])));
    }

-- in the middle of the tries
pub late_of : (old mid : SeatSeen) (k : ℕ) → IsLate old mid k → mid.of ≡ old.of
late_of old mid k l = ap (λ (z : SeatSeen). z.of) l.seat

pub late_free : (old mid : SeatSeen) (k : ℕ) → IsLate old mid k → contains old.held (journal_place old) ≡ false → contains mid.held (journal_place mid) ≡ false
late_free old mid k l free = ap (λ (z : SeatSeen). contains z.held (journal_place z)) l.seat ∙ free

pub won_late : (old mid new : SeatSeen) (k : ℕ) (commits : List Commit) → IsLate old mid k → k < 64 → IsJournalTaken mid new commits → IsJournalWon old new commits
won_late old mid new k commits l lt t = record { mid = mid; count = k; tries = lt; late = l; won = t }

pub missed_late : (old mid new : SeatSeen) (k holder : ℕ) → IsLate old mid k → k ≡ 63 → IsMissed mid new (journal_place mid) holder → IsJournalMissed old new holder
missed_late old mid new k holder l is m = record {
  mid = mid;
  late = subst (IsLate old mid) is l;
  missed = subst (λ (n : ℕ). IsMissed mid new n holder) (ap journal_place l.seat) m;
}

-- what the answer of a try at the journal says of the tries so far
pub lost_more : (old mid new : SeatSeen) (k : ℕ) (r : Result (Vec Commit Global) ℕ) → IsLate old mid k → ((x : Vec Commit Global) → r ≡ Ok x → ⊥) → IfErr r (λ holder. IsMissed mid new (journal_place mid) holder) → IsLate old new (k + 1)
lost_more old mid new k (Ok journal) l other h = absurd (other journal refl)
lost_more old mid new k (Err holder) l other h = late_more old mid new k holder l h

pub last_won : (old mid new : SeatSeen) (k : ℕ) (r : Result (Vec Commit Global) ℕ) → IsLate old mid k → k < 64 → IfOk r (λ journal. IsJournalTaken mid new journal.items) → IfOk r (λ journal. IsJournalWon old new journal.items)
last_won old mid new k (Ok journal) l lt h = won_late old mid new k journal.items l lt h
last_won old mid new k (Err holder) l lt h = tt

pub last_missed : (old mid new : SeatSeen) (k : ℕ) (r : Result (Vec Commit Global) ℕ) → IsLate old mid k → k ≡ 63 → IfErr r (λ holder. IsMissed mid new (journal_place mid) holder) → IfErr r (λ holder. IsJournalMissed old new holder)
last_missed old mid new k (Ok journal) l is h = tt
last_missed old mid new k (Err holder) l is h = missed_late old mid new k holder l is h

-- a place given back: what lies there meets its fact
pub part_given : (h : HolderSeen Root) (s part : ShareSeen Commit) (me count place : ℕ) → IsSeatOf h s me count → part ≡ record s { caller = 0; mine = []; parts = place ∷ [] } → IsPart h.of.root place part
part_given h s part me count place q is = record {
  of = ap (λ (x : ShareSeen Commit). x.of) is ∙ q.of;
  caller = ap (λ (x : ShareSeen Commit). x.caller) is;
  parts = ap (λ (x : ShareSeen Commit). x.parts) is;
  legal = subst (IsLegalJournal h.of.root.points h.of.root.start.items) (sym (ap (λ (x : ShareSeen Commit). x.seen) is)) q.seat.legal;
}

pub vertex_given : (h : HolderSeen Root) (s part : ShareSeen Commit) (me count : ℕ) (look : Look) → IsSeatOf h s me count → part ≡ record s { caller = 0; mine = []; parts = look.star.centre ∷ [] }
    → IsRight h.of.root.points (replay h.of.root.start.items s.seen) (hand_of look) → IsStamped s.seen (hand_of look) → VertexFits h.of.root look.star.centre look part
vertex_given h s part me count look q is right stamped =
    let seen : part.seen ≡ s.seen = ap (λ (x : ShareSeen Commit). x.seen) is in
    record {
      within = right.within;
      part = part_given h s part me count look.star.centre q is;
      centre = refl;
      right = subst (λ (L : List Commit). IsRight h.of.root.points (replay h.of.root.start.items L) (hand_of look)) (sym seen) right;
      stamped = subst (λ (L : List Commit). IsStamped L (hand_of look)) (sym seen) stamped;
    }

pub given_seat : (h h2 : HolderSeen Root) (s s2 : ShareSeen Commit) (me count place : ℕ) → IsSeatOf h s me count → h2 ≡ record h { places = all_but h.places place } → s2 ≡ record s { parts = all_but s.parts place } → seat_of h2 s2 ≡ record (seat_of h s) { held = all_but h.places place }
given_seat h h2 s s2 me count place q hs ss =
    ap (λ (x : HolderSeen Root). seat_of x s2) hs
    ∙ ap (λ (x : ShareSeen Commit). seat_of (record h { places = all_but h.places place }) x) ss

pub latest_seat : (h h2 : HolderSeen Root) (s s2 : ShareSeen Commit) (me count place : ℕ) (others : List ℕ) → IsSeatOf h s me count → h2 ≡ record h { places = all_but h.places place } → s2 ≡ record s { parts = all_but s.parts place } → h2.places ≡ others → seat_of h2 s2 ≡ record (seat_of h s) { held = others }
latest_seat h h2 s s2 me count place others q hs ss e =
    given_seat h h2 s s2 me count place q hs ss ∙ ap (λ (l : List ℕ). record (seat_of h s) { held = l }) (sym (ap (λ (x : HolderSeen Root). x.places) hs) ∙ e)

pub given : (h h2 : HolderSeen Root) (s s2 : ShareSeen Commit) (me count place : ℕ) → IsSeatOf h s me count → h2 ≡ record h { places = all_but h.places place } → s2 ≡ record s { parts = all_but s.parts place } → IsHolder h2 → IsShare caller_of s2 → IsSeatOf h2 s2 me count
given h h2 s s2 me count place q hs ss holder share =
    let number : h2.number ≡ h.number = ap (λ (x : HolderSeen Root). x.number) hs in
    let own : s2.caller ≡ s.caller = ap (λ (x : ShareSeen Commit). x.caller) ss in
    let seen : s2.seen ≡ s.seen = ap (λ (x : ShareSeen Commit). x.seen) ss in
    let of : h2.of ≡ h.of = ap (λ (x : HolderSeen Root). x.of) hs in
    settled h2 s2 me count
    (ap (λ (x : ShareSeen Commit). x.of) ss ∙ (q.of ∙ sym (ap (λ (x : ClaimsSeen Root). x.root.chronicle) of)))
    (own ∙ (q.caller ∙ sym number))
    (ap (λ (x : ShareSeen Commit). x.parts) ss ∙ (ap (λ (l : List ℕ). all_but l place) q.parts ∙ sym (ap (λ (x : HolderSeen Root). x.places) hs)))
    (q.me_is ∙ sym number)
    (q.made ∙ sym (ap (λ (c : ℕ). made c s2.seen) own ∙ ap (λ (l : List Commit). made s.caller l) seen))
    (subst IsShelf (sym of) q.seat.shelf)
    (subst (λ (c : ClaimsSeen Root). IsLegalJournal c.root.points c.root.start.items s2.seen) (sym of) (subst (IsLegalJournal h.of.root.points h.of.root.start.items) (sym seen) q.seat.legal))
    holder share
