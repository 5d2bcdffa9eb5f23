-- The journal's claim, and the commit as an entry.
use Rattle.std.proofs.Common.{◌≡◌, ℕ, ◌+◌, ◌<◌, ◌≤◌, true, List, [], ◌∷◌, ◌++◌, map, length, take, arith, sym, ◌∙◌, ap, subst, inl, inr, append_assoc, length-append}
use Rattle.std.specs.List.{AllByRecursion, list_any}
use Rattle.std.proofs.lemmas.List.{take_all}
use Rattle.index_sets.specs.Indices.{contains}
use Rattle.index_sets.specs.Entries.{SparesPlace}
use Rattle.index_sets.proofs.Laws.{contains-snoc, contains-left, contains-first, contains-later}
use Rattle.vertex_claims.specs.Holding.{ClaimsSeen}
use Rattle.journal_defs.specs.declared.edit.Edit.{Edit}
use Rattle.journal_defs.specs.declared.edit.Claim.{Claim}
use Rattle.journal_defs.specs.declared.commit.Commit.{Commit}
use Rattle.journal_defs.specs.Edits.{State, IsSound, touches}
use Rattle.journal_defs.specs.Journal.{after_all, AreLegal, opening, replay, IsLegalJournal, made, commit_touches}
use Rattle.journal_defs.proofs.laws.Journal.{replay_append}
use Rattle.journal_defs.proofs.laws.Later.{local_all}
use Rattle.journal_defs.proofs.laws.Start.{sound_legal}
use Rattle.edit.specs.Plans.{IsPlan}
use Rattle.hands.specs.Hands.{Hand, AreRight, AreStamped, IsInHand, AreCovered, hands_after_all, vertices, restamped}
use Rattle.hands.specs.Answers.{claimed, IsFresh, IsMade}
use Rattle.hands.proofs.Laws.{touched_in, spare_in, fresh_on, alike_later, right_after_all, right_restamped, stamped_after_all, stamped_restamped, vertices_after, vertices_restamped, covered_by_plan}
use Rattle.seats.specs.declared.cells.Root.{Root}
use Rattle.seats.specs.Ground.{Ground, Grown, IsOther}
use Rattle.seats.specs.Seats.{SeatSeen, IsShelf, ground_of}
use Rattle.seats.specs.Claimed.{IsMissed, IsJournalTaken, IsJournalWon, IsJournalMissed, journal_place}
use Rattle.board.specs.Answers.{IsLeft, HasPassed, HasWonJournal, HasWonAll, IsBusyVertex, IsBusyJournal, IsFull, IsEntered, next_of}
use Rattle.board.specs.Phases.{IsHolding, IsBusyAt, IsOpen, IsReady, MayLeave}
use Rattle.board.proofs.Held.{grown_on, carried, keys_all}

pub sound_of : (c : ClaimsSeen Root) (J : List Commit) → IsShelf c → IsLegalJournal c.root.points c.root.start.items J → IsSound c.root.points (replay c.root.start.items J)
sound_of c J shelf legal = sound_legal c.root.points c.root.start.items J shelf.accepted shelf.ascending shelf.triangulation legal.edits

-- legal edits are legal after a journal that spares what they touch
legal_on : (c : ClaimsSeen Root) (J more : List Commit) (es : List Edit) (hs : List Hand) → IsShelf c → IsLegalJournal c.root.points c.root.start.items J → IsLegalJournal c.root.points c.root.start.items (J ++ more) → AreCovered hs es
    → AllByRecursion (SparesPlace commit_touches more) (vertices hs) → AreLegal c.root.points (replay c.root.start.items J) es → AreLegal c.root.points (replay c.root.start.items (J ++ more)) es
legal_on c J more es hs shelf a b cov sp legal =
    local_all c.root.points (replay c.root.start.items J) (replay c.root.start.items (J ++ more)) es (sound_of c J shelf a) (sound_of c (J ++ more) shelf b)
    (λ v t. alike_later c.root.start.items J more v (spare_in more hs v sp (touched_in hs es v cov t))) legal

-- the journal was won, told in one step
record Flat (c : ClaimsSeen Root) (mid now : SeatSeen) (journal : List Commit) : Type 0 where
  pub missed : List (ℕ × ℕ)
  pub count : ℕ
  pub few : count < 64
  pub many : length missed ≡ count
  pub places : AllByRecursion (λ (m : ℕ × ℕ). m.0 ≡ length c.root.points) missed
  pub seat : now ≡ record mid { seen = now.seen; held = mid.held ++ length c.root.points ∷ []; wins = mid.wins ++ length c.root.points ∷ []; misses = mid.misses ++ missed }
  pub grown : Grown (ground_of c) mid.caller mid.held mid.seen now.seen
  pub same : journal ≡ now.seen
  pub room : length now.seen ≤ c.root.room

flat_of : (c : ClaimsSeen Root) (mid now : SeatSeen) (journal : List Commit) → mid.of ≡ c → IsJournalWon mid now journal → Flat c mid now journal
flat_of c mid now journal of w =
    let late = w.late in
    let t : IsJournalTaken (record mid { misses = mid.misses ++ late.missed }) now journal = subst (λ (z : SeatSeen). IsJournalTaken z now journal) late.seat w.won in
    subst (λ (x : ClaimsSeen Root). Flat x mid now journal) of (record {
      missed = late.missed;
      count = w.count;
      few = w.tries;
      many = late.many;
      places = late.places;
      seat = t.seat;
      grown = t.grown;
      same = t.same;
      room = t.few;
    })

-- the journal was missed, told in one step
record FlatMiss (c : ClaimsSeen Root) (mid now : SeatSeen) (holder : ℕ) : Type 0 where
  pub missed : List (ℕ × ℕ)
  pub many : length missed ≡ 63
  pub places : AllByRecursion (λ (m : ℕ × ℕ). m.0 ≡ length c.root.points) missed
  pub seat : now ≡ record mid { misses = (mid.misses ++ missed) ++ (length c.root.points, holder) ∷ [] }
  pub other : IsOther (ground_of c) mid.caller holder

flat_miss : (c : ClaimsSeen Root) (mid now : SeatSeen) (holder : ℕ) → mid.of ≡ c → IsJournalMissed mid now holder → FlatMiss c mid now holder
flat_miss c mid now holder of w =
    let late = w.late in
    let t : IsMissed (record mid { misses = mid.misses ++ late.missed }) now (journal_place mid) holder = subst (λ (z : SeatSeen). IsMissed z now (journal_place mid) holder) late.seat w.missed in
    subst (λ (x : ClaimsSeen Root). FlatMiss x mid now holder) of (record {
      missed = late.missed;
      many = late.many;
      places = late.places;
      seat = t.seat;
      other = t.other;
    })

-- what holds once the journal is claimed too
pub record AtEnd (c : ClaimsSeen Root) (edits : List Edit) (claims : List Claim) (old now : SeatSeen) (hs : List Hand) : Type 0 where
  pub first : List Hand
  pub of : now.of ≡ old.of
  pub caller : now.caller ≡ old.caller
  pub mine : now.mine ≡ old.mine
  pub held : now.held ≡ vertices first ++ length c.root.points ∷ []
  pub keys : vertices first ≡ claimed claims
  pub won : HasWonJournal (ground_of c) claims old now
  pub grown : Grown (ground_of c) old.caller [] old.seen now.seen
  pub right : AreRight c.root.points (replay c.root.start.items now.seen) first
  pub stamped : AreStamped now.seen first
  pub passed : HasPassed (ground_of c) edits claims now.seen
  pub made : hs ≡ hands_after_all c.root.points edits first

pub at_end : (c : ClaimsSeen Root) (edits : List Edit) (claims : List Claim) (old mid now : SeatSeen) (hs : List Hand) (journal : List Commit) → IsShelf c → mid.of ≡ c → IsPlan edits claims → IsOpen (ground_of c) edits claims old mid hs → IsJournalWon mid now journal
    → AtEnd c edits claims old now hs
at_end c edits claims old mid now hs journal shelf of plan o won =
    let g = ground_of c in
    let n = length c.root.points in
    let w = flat_of c mid now journal of won in
    let h = o.holding in
    let keys = keys_all g claims old mid o.first h in
    let grown : Grown g old.caller (vertices o.first) mid.seen now.seen = subst (λ (x : ℕ). Grown g x (vertices o.first) mid.seen now.seen) h.caller (subst (λ (l : List ℕ). Grown g mid.caller l mid.seen now.seen) h.held w.grown) in
    let q = carried g old.caller mid.seen now.seen o.first grown h.right h.stamped in
    let legal = subst (λ (L : List Commit). IsLegalJournal g.points g.start L) grown.is grown.legal in
    record {
      first = o.first;
      of = ap (λ (s : SeatSeen). s.of) w.seat ∙ h.of;
      caller = ap (λ (s : SeatSeen). s.caller) w.seat ∙ h.caller;
      mine = ap (λ (s : SeatSeen). s.mine) w.seat ∙ h.mine;
      held = ap (λ (s : SeatSeen). s.held) w.seat ∙ ap (λ (l : List ℕ). l ++ n ∷ []) h.held;
      keys = keys;
      won = record {
        wins = ap (λ (s : SeatSeen). s.wins) w.seat ∙ (ap (λ (l : List ℕ). l ++ n ∷ []) (h.wins ∙ ap (λ (l : List ℕ). old.wins ++ l) (sym h.keys ∙ keys)) ∙ append_assoc old.wins (claimed claims) (n ∷ []));
        count = w.count;
        few = w.few;
        tries = record { missed = w.missed; many = w.many; places = w.places; is = ap (λ (s : SeatSeen). s.misses) w.seat ∙ ap (λ (l : List (ℕ × ℕ)). l ++ w.missed) o.misses };
      };
      grown = grown_on g old.caller (vertices o.first) old.seen mid.seen now.seen h.grown grown;
      right = q.0;
      stamped = q.1;
      passed = record {
        fresh = subst (λ (L : List Commit). AllByRecursion (IsFresh L) claims) (sym grown.is) (fresh_on mid.seen grown.more claims (subst (AllByRecursion (SparesPlace commit_touches grown.more)) keys grown.spares) o.fresh);
        legal = subst (λ (L : List Commit). AreLegal g.points (replay g.start L) edits) (sym grown.is)
            (legal_on c mid.seen grown.more edits o.first shelf h.grown.legal legal (covered_by_plan edits claims o.first plan keys) grown.spares o.legal);
      };
      made = o.made;
    }

-- the whole list of edits
take_whole : (es : List Edit) → take (length es) es ≡ es
take_whole es = take_all (length es) es (omega arith)

-- undone when the journal was missed
pub record Undo (c : ClaimsSeen Root) (es : List Edit) (J : List Commit) (hs : List Hand) : Type 0 where
  pub sound : IsSound c.root.points (replay c.root.start.items J)
  pub legal : AreLegal c.root.points (replay c.root.start.items J) (take (length es) es)
  pub made : IsMade c.root.points (replay c.root.start.items J) (take (length es) es) hs

undo_of : (c : ClaimsSeen Root) (es : List Edit) (J : List Commit) (first hs : List Hand) → IsShelf c → IsLegalJournal c.root.points c.root.start.items J → AreLegal c.root.points (replay c.root.start.items J) es
    → AreRight c.root.points (replay c.root.start.items J) first → hs ≡ hands_after_all c.root.points es first → Undo c es J hs
undo_of c es J first hs shelf journal legal right made = record {
  sound = sound_of c J shelf journal;
  legal = subst (AreLegal c.root.points (replay c.root.start.items J)) (sym (take_whole es)) legal;
  made = record { first = first; right = right; made = made ∙ ap (λ (xs : List Edit). hands_after_all c.root.points xs first) (sym (take_whole es)) };
}

-- what undoing promises
abbrev pub Back : ClaimsSeen Root → List Edit → (hs ks : List Hand) → Type 0
Back c es hs ks = (s : State) (xs : List Hand) → IsSound c.root.points s → AreLegal c.root.points s (take (length es) es) → AreRight c.root.points s xs → hs ≡ hands_after_all c.root.points (take (length es) es) xs → ks ≡ xs

back_to : (c : ClaimsSeen Root) (es : List Edit) (J : List Commit) (first hs ks : List Hand) → IsShelf c → IsLegalJournal c.root.points c.root.start.items J → AreLegal c.root.points (replay c.root.start.items J) es
    → AreRight c.root.points (replay c.root.start.items J) first → hs ≡ hands_after_all c.root.points es first → Back c es hs ks → ks ≡ first
back_to c es J first hs ks shelf journal legal right made back =
    let u = undo_of c es J first hs shelf journal legal right made in
    back (replay c.root.start.items J) first u.sound u.legal right (made ∙ ap (λ (xs : List Edit). hands_after_all c.root.points xs first) (sym (take_whole es)))

pub undo_early : (c : ClaimsSeen Root) (edits : List Edit) (claims : List Claim) (old mid : SeatSeen) (hs : List Hand) → IsShelf c → IsOpen (ground_of c) edits claims old mid hs → Undo c edits mid.seen hs
undo_early c edits claims old mid hs shelf o = undo_of c edits mid.seen o.first hs shelf o.holding.grown.legal o.legal o.holding.right o.made

pub leave_early : (c : ClaimsSeen Root) (edits : List Edit) (claims : List Claim) (old mid now : SeatSeen) (hs ks : List Hand) (holder : ℕ) → IsShelf c → mid.of ≡ c → IsOpen (ground_of c) edits claims old mid hs → IsJournalMissed mid now holder → Back c edits hs ks
    → MayLeave (ground_of c) now ks
leave_early c edits claims old mid now hs ks holder shelf of o miss back =
    let m = flat_miss c mid now holder of miss in
    let same : ks ≡ o.first = back_to c edits mid.seen o.first hs ks shelf o.holding.grown.legal o.legal o.holding.right o.made back in
    let seen : now.seen ≡ mid.seen = ap (λ (s : SeatSeen). s.seen) m.seat in
    record {
      held = ap (λ (s : SeatSeen). s.held) m.seat ∙ (o.holding.held ∙ sym (ap vertices same));
      right = subst (AreRight c.root.points (replay c.root.start.items now.seen)) (sym same) (subst (λ (L : List Commit). AreRight c.root.points (replay c.root.start.items L) o.first) (sym seen) o.holding.right);
      stamped = subst (AreStamped now.seen) (sym same) (subst (λ (L : List Commit). AreStamped L o.first) (sym seen) o.holding.stamped);
    }

pub busy_journal : (c : ClaimsSeen Root) (edits : List Edit) (claims : List Claim) (old mid now end : SeatSeen) (hs : List Hand) (place holder : ℕ) → mid.of ≡ c → IsOpen (ground_of c) edits claims old mid hs → IsJournalMissed mid now holder
    → end ≡ record now { held = [] } → place ≡ length c.root.points → IsBusyJournal (ground_of c) edits claims old end place holder
busy_journal c edits claims old mid now end hs place holder of o miss is at =
    let g = ground_of c in
    let m = flat_miss c mid now holder of miss in
    let h = o.holding in
    let n = length c.root.points in
    let whole : end ≡ record mid { held = []; misses = (mid.misses ++ m.missed) ++ (n, holder) ∷ [] } = is ∙ ap (λ (s : SeatSeen). record s { held = [] }) m.seat in
    let seen : end.seen ≡ mid.seen = ap (λ (s : SeatSeen). s.seen) whole in
    record {
      left = record {
        of = ap (λ (s : SeatSeen). s.of) whole ∙ h.of;
        caller = ap (λ (s : SeatSeen). s.caller) whole ∙ h.caller;
        mine = ap (λ (s : SeatSeen). s.mine) whole ∙ h.mine;
        held = ap (λ (s : SeatSeen). s.held) whole;
        grown = subst (λ (L : List Commit). Grown g old.caller [] old.seen L) (sym seen) h.grown;
      };
      passed = subst (HasPassed g edits claims) (sym seen) (record { fresh = o.fresh; legal = o.legal });
      place_is = at;
      wins = ap (λ (s : SeatSeen). s.wins) whole ∙ (h.wins ∙ ap (λ (l : List ℕ). old.wins ++ l) (sym h.keys ∙ keys_all g claims old mid o.first h));
      before = mid.misses ++ m.missed;
      tries = record { missed = m.missed; many = m.many; places = m.places; is = ap (λ (l : List (ℕ × ℕ)). l ++ m.missed) o.misses };
      misses = ap (λ (s : SeatSeen). s.misses) whole ∙ ap (λ (x : ℕ). (mid.misses ++ m.missed) ++ (x, holder) ∷ []) (sym at);
      other = subst (λ (x : ℕ). IsOther g x holder) h.caller m.other;
    }

-- undone when the journal is full
pub undo_late : (c : ClaimsSeen Root) (edits : List Edit) (claims : List Claim) (old now : SeatSeen) (hs : List Hand) → IsShelf c → AtEnd c edits claims old now hs → Undo c edits now.seen hs
undo_late c edits claims old now hs shelf e = undo_of c edits now.seen e.first hs shelf e.grown.legal e.passed.legal e.right e.made

pub returned : (c : ClaimsSeen Root) (edits : List Edit) (claims : List Claim) (old now fin : SeatSeen) (hs : List Hand) (place : ℕ) → AtEnd c edits claims old now hs → place ≡ length c.root.points
    → ((others : List ℕ) → now.held ≡ others ++ place ∷ [] → fin ≡ record now { held = others }) → (e : AtEnd c edits claims old now hs) → fin ≡ record now { held = vertices e.first }
returned c edits claims old now fin hs place x at latest e = latest (vertices e.first) (e.held ∙ ap (λ (n : ℕ). vertices e.first ++ n ∷ []) (sym at))

pub leave_late : (c : ClaimsSeen Root) (edits : List Edit) (claims : List Claim) (old now fin : SeatSeen) (hs ks : List Hand) → IsShelf c → (e : AtEnd c edits claims old now hs) → Back c edits hs ks → fin ≡ record now { held = vertices e.first } → MayLeave (ground_of c) fin ks
leave_late c edits claims old now fin hs ks shelf e back end =
    let same : ks ≡ e.first = back_to c edits now.seen e.first hs ks shelf e.grown.legal e.passed.legal e.right e.made back in
    let seen : fin.seen ≡ now.seen = ap (λ (s : SeatSeen). s.seen) end in
    record {
      held = ap (λ (s : SeatSeen). s.held) end ∙ sym (ap vertices same);
      right = subst (AreRight c.root.points (replay c.root.start.items fin.seen)) (sym same) (subst (λ (L : List Commit). AreRight c.root.points (replay c.root.start.items L) e.first) (sym seen) e.right);
      stamped = subst (AreStamped fin.seen) (sym same) (subst (λ (L : List Commit). AreStamped L e.first) (sym seen) e.stamped);
    }

pub won_on : (g : Ground) (claims : List Claim) (old now end : SeatSeen) → end.wins ≡ now.wins → end.misses ≡ now.misses → HasWonJournal g claims old now → HasWonJournal g claims old end
won_on g claims old now end wins misses w = record {
  wins = wins ∙ w.wins;
  count = w.count;
  few = w.few;
  tries = record { missed = w.tries.missed; many = w.tries.many; places = w.tries.places; is = misses ∙ w.tries.is };
}

pub full : (c : ClaimsSeen Root) (edits : List Edit) (claims : List Claim) (old now fin end : SeatSeen) (hs : List Hand) → (e : AtEnd c edits claims old now hs) → fin ≡ record now { held = vertices e.first } → end ≡ record fin { held = [] }
    → length now.seen ≡ c.root.room → IsFull (ground_of c) edits claims old end
full c edits claims old now fin end hs e returned is room =
    let g = ground_of c in
    let whole : end ≡ record now { held = [] } = is ∙ ap (λ (s : SeatSeen). record s { held = [] }) returned in
    let seen : end.seen ≡ now.seen = ap (λ (s : SeatSeen). s.seen) whole in
    record {
      left = record {
        of = ap (λ (s : SeatSeen). s.of) whole ∙ e.of;
        caller = ap (λ (s : SeatSeen). s.caller) whole ∙ e.caller;
        mine = ap (λ (s : SeatSeen). s.mine) whole ∙ e.mine;
        held = ap (λ (s : SeatSeen). s.held) whole;
        grown = subst (λ (L : List Commit). Grown g old.caller [] old.seen L) (sym seen) e.grown;
      };
      passed = subst (HasPassed g edits claims) (sym seen) e.passed;
      won = won_on g claims old now end (ap (λ (s : SeatSeen). s.wins) whole) (ap (λ (s : SeatSeen). s.misses) whole) e.won;
      room = ap (λ (L : List Commit). length L) seen ∙ room;
    }

-- the journal as it was won
pub journal_is : (c : ClaimsSeen Root) (mid now : SeatSeen) (journal : List Commit) → mid.of ≡ c → IsJournalWon mid now journal → (journal ≡ now.seen) × (length now.seen ≤ c.root.room)
journal_is c mid now journal of won = let w = flat_of c mid now journal of won in (w.same, w.room)

pub ready : (c : ClaimsSeen Root) (edits : List Edit) (claims : List Claim) (old now : SeatSeen) (hs : List Hand) (journal : List Commit) → IsPlan edits claims → AtEnd c edits claims old now hs → journal ≡ now.seen → length now.seen < c.root.room → IsReady (ground_of c) edits now hs journal
ready c edits claims old now hs journal plan e same room = record {
  first = e.first;
  right = e.right;
  stamped = e.stamped;
  covered = covered_by_plan edits claims e.first plan e.keys;
  legal = e.passed.legal;
  made = e.made;
  held = e.held;
  same = same;
  room = room;
}

-- what is touched is held, and the journal
in_vertices : (hs : List Hand) (v : ℕ) → IsInHand hs v → contains (vertices hs) v ≡ true
in_vertices [] v x = absurd x
in_vertices (h ∷ hs) v (inl a) = subst (λ (x : ℕ). contains (x ∷ vertices hs) v ≡ true) (sym a) (contains-first (vertices hs) v)
in_vertices (h ∷ hs) v (inr b) = contains-later h.vertex (vertices hs) v (in_vertices hs v b)

pub journal_held : (g : Ground) (edits : List Edit) (s : SeatSeen) (hs : List Hand) (journal : List Commit) → IsReady g edits s hs journal → contains s.held (length g.points) ≡ true
journal_held g edits s hs journal r = ap (λ (l : List ℕ). contains l (length g.points)) r.held ∙ contains-snoc (vertices r.first) (length g.points)

pub vertex_held : (g : Ground) (edits : List Edit) (s : SeatSeen) (hs : List Hand) (journal : List Commit) → IsReady g edits s hs journal → (v : ℕ) → list_any (λ e. touches e v) edits ≡ true → contains s.held v ≡ true
vertex_held g edits s hs journal r v t =
    ap (λ (l : List ℕ). contains l v) r.held ∙ contains-left (vertices r.first) (length g.points ∷ []) v (in_vertices r.first v (touched_in r.first edits v r.covered t))

-- after the entry
vertices_entered : (g : Ground) (edits : List Edit) (s : SeatSeen) (hs : List Hand) (journal : List Commit) (x : Commit) (n : ℕ) (r : IsReady g edits s hs journal) → vertices (map (restamped x n) hs) ≡ vertices r.first
vertices_entered g edits s hs journal x n r = vertices_restamped x n hs ∙ (ap vertices r.made ∙ vertices_after g.points edits r.first)

right_entered : (c : ClaimsSeen Root) (edits : List Edit) (s : SeatSeen) (hs : List Hand) (journal : List Commit) (x : Commit) (n : ℕ) → IsShelf c → IsLegalJournal c.root.points c.root.start.items s.seen → IsReady (ground_of c) edits s hs journal → x.edits ≡ edits
    → AreRight c.root.points (replay c.root.start.items (s.seen ++ x ∷ [])) (map (restamped x n) hs)
right_entered c edits s hs journal x n shelf legal r is =
    let S = c.root.points in
    let start = c.root.start.items in
    let one = right_after_all S (replay start s.seen) edits r.first shelf.accepted (sound_of c s.seen shelf legal) r.legal r.right in
    let there : AreRight S (after_all x.edits (replay start s.seen)) hs =
    subst (λ (es : List Edit). AreRight S (after_all es (replay start s.seen)) hs) (sym is) (subst (AreRight S (after_all edits (replay start s.seen))) (sym r.made) one) in
    right_restamped S (replay start (s.seen ++ x ∷ [])) x n hs (subst (λ (t : State). AreRight S t hs) (sym (replay_append s.seen (x ∷ []) (opening start))) there)

stamped_entered : (g : Ground) (edits : List Edit) (s : SeatSeen) (hs : List Hand) (journal : List Commit) (x : Commit) (n : ℕ) → IsReady g edits s hs journal → n ≡ length s.seen + 1 → AreStamped (s.seen ++ x ∷ []) (map (restamped x n) hs)
stamped_entered g edits s hs journal x n r is = stamped_restamped s.seen x n hs is (subst (AreStamped s.seen) (sym r.made) (stamped_after_all g.points s.seen edits r.first r.stamped))

-- the seat after the entry, and after the journal was given back
pub record AtLeave (c : ClaimsSeen Root) (s fin : SeatSeen) (x : Commit) (hs ks : List Hand) : Type 0 where
  pub seat : fin ≡ record s { seen = s.seen ++ x ∷ []; mine = s.mine ++ x ∷ []; held = vertices ks }
  pub leave : MayLeave (ground_of c) fin ks

pub at_leave : (c : ClaimsSeen Root) (edits : List Edit) (s ent fin : SeatSeen) (hs ks : List Hand) (journal : List Commit) (x : Commit) (n place : ℕ) → IsShelf c → IsLegalJournal c.root.points c.root.start.items s.seen → IsReady (ground_of c) edits s hs journal → x.edits ≡ edits
    → ent ≡ record s { seen = s.seen ++ x ∷ []; mine = s.mine ++ x ∷ [] } → n ≡ length ent.seen → ks ≡ map (restamped x n) hs → place ≡ length c.root.points
    → ((others : List ℕ) → ent.held ≡ others ++ place ∷ [] → fin ≡ record ent { held = others }) → AtLeave c s fin x hs ks
at_leave c edits s ent fin hs ks journal x n place shelf legal r is entered number restamped_is at latest =
    let S = c.root.points in
    let start = c.root.start.items in
    let keys : vertices ks ≡ vertices r.first = ap vertices restamped_is ∙ vertices_entered (ground_of c) edits s hs journal x n r in
    let held : ent.held ≡ vertices ks ++ place ∷ [] = ap (λ (z : SeatSeen). z.held) entered ∙ (r.held ∙ (ap (λ (l : List ℕ). l ++ length S ∷ []) (sym keys) ∙ ap (λ (m : ℕ). vertices ks ++ m ∷ []) (sym at))) in
    let end : fin ≡ record s { seen = s.seen ++ x ∷ []; mine = s.mine ++ x ∷ []; held = vertices ks } = latest (vertices ks) held ∙ ap (λ (z : SeatSeen). record z { held = vertices ks }) entered in
    let seen : fin.seen ≡ s.seen ++ x ∷ [] = ap (λ (z : SeatSeen). z.seen) end in
    let count : n ≡ length s.seen + 1 = number ∙ (ap (λ (z : SeatSeen). length z.seen) entered ∙ length-append s.seen (x ∷ [])) in
    record {
      seat = end;
      leave = record {
        held = ap (λ (z : SeatSeen). z.held) end;
        right = subst (λ (L : List Commit). AreRight S (replay start L) ks) (sym seen) (subst (AreRight S (replay start (s.seen ++ x ∷ []))) (sym restamped_is) (right_entered c edits s hs journal x n shelf legal r is));
        stamped = subst (λ (L : List Commit). AreStamped L ks) (sym seen) (subst (AreStamped (s.seen ++ x ∷ [])) (sym restamped_is) (stamped_entered (ground_of c) edits s hs journal x n r count));
      };
    }

pub whole_entry : (c : ClaimsSeen Root) (edits : List Edit) (claims : List Claim) (old now ent end : SeatSeen) (hs : List Hand) (l : List ℕ) (n : ℕ) → AtEnd c edits claims old now hs
    → ent ≡ record now { seen = now.seen ++ next_of now edits now.seen ∷ []; mine = now.mine ++ next_of now edits now.seen ∷ []; held = l }
    → IsLegalJournal c.root.points c.root.start.items ent.seen → n ≡ length ent.seen → end ≡ record ent { held = [] } → IsEntered (ground_of c) edits claims old end n
whole_entry c edits claims old now ent end hs l n e entered legal number is =
    let g = ground_of c in
    let x = next_of now edits now.seen in
    let y = next_of old edits now.seen in
    let next : x ≡ y = ap (λ (k : ℕ). (let z : Commit = record { caller = k; seq = made k now.seen + 1; edits = edits } in z)) e.caller in
    let whole : end ≡ record now { seen = now.seen ++ x ∷ []; mine = now.mine ++ x ∷ []; held = [] } = is ∙ ap (λ (s : SeatSeen). record s { held = [] }) entered in
    let same : end.seen ≡ ent.seen = ap (λ (s : SeatSeen). s.seen) is in
    record {
      before = now.seen;
      grown = e.grown;
      passed = e.passed;
      seen = ap (λ (s : SeatSeen). s.seen) whole ∙ ap (λ (z : Commit). now.seen ++ z ∷ []) next;
      mine = ap (λ (s : SeatSeen). s.mine) whole ∙ (ap (λ (m : List Commit). m ++ x ∷ []) e.mine ∙ ap (λ (z : Commit). old.mine ++ z ∷ []) next);
      number_is = number ∙ ap (λ (L : List Commit). length L) (sym same);
      legal = subst (IsLegalJournal g.points g.start) (sym same) legal;
      of = ap (λ (s : SeatSeen). s.of) whole ∙ e.of;
      caller = ap (λ (s : SeatSeen). s.caller) whole ∙ e.caller;
      held = ap (λ (s : SeatSeen). s.held) whole;
      won = won_on g claims old now end (ap (λ (s : SeatSeen). s.wins) whole) (ap (λ (s : SeatSeen). s.misses) whole) e.won;
    }

-- what the refusals before the gate leave
pub left_of : (g : Ground) (claims : List Claim) (k : ℕ) (old mid end : SeatSeen) (hs : List Hand) → IsHolding g claims k old mid hs → end ≡ record mid { held = [] } → IsLeft g old end
left_of g claims k old mid end hs h is = record {
  of = ap (λ (s : SeatSeen). s.of) is ∙ h.of;
  caller = ap (λ (s : SeatSeen). s.caller) is ∙ h.caller;
  mine = ap (λ (s : SeatSeen). s.mine) is ∙ h.mine;
  held = ap (λ (s : SeatSeen). s.held) is;
  grown = subst (λ (L : List Commit). Grown g old.caller [] old.seen L) (sym (ap (λ (s : SeatSeen). s.seen) is)) h.grown;
}

pub busy_vertex : (g : Ground) (claims : List Claim) (old mid end : SeatSeen) (hs : List Hand) (place holder : ℕ) → IsBusyAt g claims old mid place holder hs → end ≡ record mid { held = [] } → IsBusyVertex g claims old end place holder
busy_vertex g claims old mid end hs place holder b is = record {
  left = left_of g claims b.k old mid end hs b.holding is;
  k = b.k;
  within = b.within;
  place_is = b.place_is;
  wins = ap (λ (s : SeatSeen). s.wins) is ∙ b.holding.wins;
  misses = ap (λ (s : SeatSeen). s.misses) is ∙ b.misses;
  other = b.other;
}

pub won_all : (g : Ground) (claims : List Claim) (old mid end : SeatSeen) (hs : List Hand) → IsHolding g claims (length claims) old mid hs → mid.misses ≡ old.misses → end ≡ record mid { held = [] } → HasWonAll g claims old end
won_all g claims old mid end hs h same is = record {
  left = left_of g claims (length claims) old mid end hs h is;
  wins = ap (λ (s : SeatSeen). s.wins) is ∙ (h.wins ∙ ap (λ (l : List ℕ). old.wins ++ l) (sym h.keys ∙ keys_all g claims old mid hs h));
  misses = ap (λ (s : SeatSeen). s.misses) is ∙ same;
}

-- told of what is the same
pub entered_as : (c b : ClaimsSeen Root) (edits es : List Edit) (claims cs : List Claim) (old was new : SeatSeen) (n : ℕ) → c ≡ b → edits ≡ es → claims ≡ cs → old ≡ was → IsEntered (ground_of c) edits claims old new n → IsEntered (ground_of b) es cs was new n
entered_as c b edits es claims cs old was new n shelf e f o x =
    subst (λ (z : ClaimsSeen Root). IsEntered (ground_of z) es cs was new n) shelf
    (subst (λ (z : List Edit). IsEntered (ground_of c) z cs was new n) e
    (subst (λ (z : List Claim). IsEntered (ground_of c) edits z was new n) f
    (subst (λ (z : SeatSeen). IsEntered (ground_of c) edits claims z new n) o x)))
