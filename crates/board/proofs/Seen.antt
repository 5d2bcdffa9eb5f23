-- One vertex claimed and given back at once: looks, and new stamps.
use Rattle.std.proofs.Common.{◌≡◌, ℕ, ◌+◌, ◌<◌, ◌≤◌, Bool, true, false, cond, List, [], ◌∷◌, ◌++◌, length, get_or, take, arith, sym, ◌∙◌, ap, subst, refl, append_assoc, append-nil}
use Rattle.std.specs.List.{AllByRecursion}
use Rattle.std.proofs.lemmas.List.{take_more, map_push, take_all}
use Rattle.plane.specs.declared.coordinates.Point.{Point}
use Rattle.star.specs.StarOf.{IsStarOf}
use Rattle.vertex_claims.specs.Holding.{ClaimsSeen}
use Rattle.journal_defs.specs.declared.edit.Claim.{Claim}
use Rattle.journal_defs.specs.declared.commit.Commit.{Commit}
use Rattle.journal_defs.specs.Edits.{IsSound}
use Rattle.journal_defs.specs.Journal.{replay, last, last_from, commit_touches, IsLegalJournal}
use Rattle.journal_defs.proofs.laws.Journal.{last_append, last_most}
use Rattle.edit.specs.declared.look.Look.{Look}
use Rattle.edit.specs.Plans.{Planned}
use Rattle.hands.specs.Hands.{Hand, hand_of, IsRight}
use Rattle.hands.specs.Answers.{claimed}
use Rattle.hands.proofs.Laws.{each_append, claimed_at, claimed_length, star_of_right}
use Rattle.seats.specs.declared.cells.Root.{Root}
use Rattle.seats.specs.Ground.{Ground, Grown}
use Rattle.seats.specs.Seats.{SeatSeen, IsSeat, IsShelf, ground_of}
use Rattle.seats.specs.Claimed.{IsWon, IsMissed}
use Rattle.board.specs.Answers.{IsLeft}
use Rattle.board.specs.declared.board.LookFault.TheVariants.{Busy}
use Rattle.board.specs.Looks.{IsShown, IsUnseen, IsSeenOnce, AreBetween, IsRefreshing, IsRefreshed, IsHeldBack}
use Rattle.board.proofs.Held.{grown_on, grown_none, other_of, won_of}
use Rattle.board.proofs.Ends.{sound_of}

-- nothing was seen, and no place is held
pub left_same : (c : ClaimsSeen Root) (old new : SeatSeen) → old.of ≡ c → IsSeat old → old.held ≡ [] → new.of ≡ old.of → new.caller ≡ old.caller → new.mine ≡ old.mine → new.held ≡ old.held → new.seen ≡ old.seen → IsLeft (ground_of c) old new
left_same c old new of seat held o k m h s = record {
  of = o;
  caller = k;
  mine = m;
  held = h ∙ held;
  grown = subst (λ (L : List Commit). Grown (ground_of c) old.caller [] old.seen L) (sym s) (grown_none (ground_of c) old.caller old.seen (subst (λ (x : ClaimsSeen Root). IsLegalJournal x.root.points x.root.start.items old.seen) of seat.legal));
}

pub left_missed : (c : ClaimsSeen Root) (old new : SeatSeen) (v holder : ℕ) → old.of ≡ c → IsSeat old → old.held ≡ [] → IsMissed old new v holder → IsLeft (ground_of c) old new
left_missed c old new v holder of seat held m =
    let e = m.seat in
    left_same c old new of seat held (ap (λ (s : SeatSeen). s.of) e) (ap (λ (s : SeatSeen). s.caller) e) (ap (λ (s : SeatSeen). s.mine) e) (ap (λ (s : SeatSeen). s.held) e) (ap (λ (s : SeatSeen). s.seen) e)

-- what one claim that was won leaves once it is given back
pub held_one : (old mid : SeatSeen) (v : ℕ) (h : Hand) → old.held ≡ [] → IsWon old mid v h → mid.held ≡ [] ++ h.vertex ∷ []
held_one old mid v h held w = ap (λ (s : SeatSeen). s.held) w.seat ∙ (ap (λ (l : List ℕ). l ++ v ∷ []) held ∙ ap (λ (x : ℕ). x ∷ []) (sym w.vertex))

pub left_won : (c : ClaimsSeen Root) (old mid end : SeatSeen) (v : ℕ) (h : Hand) → old.of ≡ c → old.held ≡ [] → IsWon old mid v h → end ≡ record mid { held = [] } → IsLeft (ground_of c) old end
left_won c old mid end v h of held w is =
    let r = won_of c old mid v h of w in
    record {
      of = ap (λ (s : SeatSeen). s.of) is ∙ ap (λ (s : SeatSeen). s.of) w.seat;
      caller = ap (λ (s : SeatSeen). s.caller) is ∙ ap (λ (s : SeatSeen). s.caller) w.seat;
      mine = ap (λ (s : SeatSeen). s.mine) is ∙ ap (λ (s : SeatSeen). s.mine) w.seat;
      held = ap (λ (s : SeatSeen). s.held) is;
      grown = subst (λ (L : List Commit). Grown (ground_of c) old.caller [] old.seen L) (sym (ap (λ (s : SeatSeen). s.seen) is)) (subst (λ (l : List ℕ). Grown (ground_of c) old.caller l old.seen mid.seen) held r.grown);
    }

pub seen_once : (c : ClaimsSeen Root) (old mid end : SeatSeen) (v stamp : ℕ) (h : Hand) → old.of ≡ c → old.held ≡ [] → IsWon old mid v h → end ≡ record mid { held = [] } → stamp ≡ h.stamp → IsSeenOnce (ground_of c) old end v stamp
seen_once c old mid end v stamp h of held w is at = record {
  left = left_won c old mid end v h of held w is;
  wins = ap (λ (s : SeatSeen). s.wins) is ∙ ap (λ (s : SeatSeen). s.wins) w.seat;
  misses = ap (λ (s : SeatSeen). s.misses) is ∙ ap (λ (s : SeatSeen). s.misses) w.seat;
  stamp_is = at ∙ (w.stamped ∙ (ap (last mid.seen) w.vertex ∙ ap (λ (L : List Commit). last L v) (sym (ap (λ (s : SeatSeen). s.seen) is))));
}

-- a copy of a star shows the same
pub hand_same : (a b : Look) → b.star.list ≡ a.star.list → b.star.centre ≡ a.star.centre → b.star.points ≡ a.star.points → b.stamp ≡ a.stamp → hand_of b ≡ hand_of a
hand_same a b list centre points stamp =
    let H : ℕ → List (ℕ × Bool) → List Point → ℕ → Hand = λ v l p s. record { vertex = v; list = l; points = p; stamp = s } in
    ap (λ (v : ℕ). H v b.star.list b.star.points b.stamp) centre ∙ (ap (λ (l : List (ℕ × Bool)). H a.star.centre l b.star.points b.stamp) list
    ∙ (ap (λ (p : List Point). H a.star.centre a.star.list p b.stamp) points ∙ ap (λ (s : ℕ). H a.star.centre a.star.list a.star.points s) stamp))

pub shown : (c : ClaimsSeen Root) (old mid end : SeatSeen) (v : ℕ) (look copy : Look) → IsShelf c → old.of ≡ c → old.held ≡ [] → IsWon old mid v (hand_of look) → end ≡ record mid { held = [] } → hand_of copy ≡ hand_of look → IsShown (ground_of c) old end v copy
shown c old mid end v look copy shelf of held w is same =
    let S = c.root.points in
    let start = c.root.start.items in
    let r = won_of c old mid v (hand_of look) of w in
    let seen : end.seen ≡ mid.seen = ap (λ (s : SeatSeen). s.seen) is in
    let sound : IsSound S (replay start mid.seen) = sound_of c mid.seen shelf r.grown.legal in
    let right : IsRight S (replay start mid.seen) (hand_of copy) = subst (IsRight S (replay start mid.seen)) (sym same) r.right in
    let centre : copy.star.centre ≡ v = ap (λ (h : Hand). h.vertex) same ∙ w.vertex in
    let star : IsStarOf S (replay start mid.seen).all (replay start mid.seen).kept v copy.star =
    subst (λ (x : ℕ). IsStarOf S (replay start mid.seen).all (replay start mid.seen).kept x copy.star) centre (star_of_right S (replay start mid.seen) copy shelf.accepted sound right) in
    let once = seen_once c old mid end v copy.stamp (hand_of look) of held w is (ap (λ (h : Hand). h.stamp) same) in
    record {
      left = once.left;
      wins = once.wins;
      misses = once.misses;
      star = subst (λ (L : List Commit). IsStarOf S (replay start L).all (replay start L).kept v copy.star) (sym seen) star;
      stamp = once.stamp_is;
    }

-- the last touch never falls
least_one : (n best : ℕ) (x : Commit) (L : List Commit) (v : ℕ) → best ≤ last_from (n + 1) (n + 1) L v → best ≤ last_from (n + 1) best L v → best ≤ last_from n best (x ∷ L) v
least_one n best x L v a b = one (commit_touches x v)
  where
    one : (c : Bool) → best ≤ last_from (n + 1) (cond c (n + 1) best) L v
    one true = a
    one false = b

last_from_least : (n best : ℕ) (L : List Commit) (v : ℕ) → best ≤ n → best ≤ last_from n best L v
last_from_least n best [] v le = omega arith
last_from_least n best (x ∷ L) v le =
    least_one n best x L v
    (let z = last_from_least (n + 1) (n + 1) L v (omega arith) in omega (arith, z, le))
    (last_from_least (n + 1) best L v (omega (arith, le)))

pub last_grows : (J more : List Commit) (v : ℕ) → last J v ≤ last (J ++ more) v
last_grows J more v = subst (λ (n : ℕ). last J v ≤ n) (sym (last_append J more v)) (last_from_least (length J) (last J v) more v (last_most J v))

pub last_within : (g : Ground) (caller : ℕ) (held : List ℕ) (J L : List Commit) (v : ℕ) → Grown g caller held J L → last J v ≤ last L v
last_within g caller held J L v w = subst (λ (M : List Commit). last J v ≤ last M v) (sym w.is) (last_grows J w.more v)

-- stamps stay between through a longer journal
between_on : (g : Ground) (caller : ℕ) (J L M : List Commit) (cs : List Claim) → Grown g caller [] L M → AreBetween J L cs → AreBetween J M cs
between_on g caller J L M [] w a = tt
between_on g caller J L M (c ∷ cs) w a =
    let high = a.0.1 in
    let up = last_within g caller [] L M c.vertex w in
    ((a.0.0, omega (arith, high, up)), between_on g caller J L M cs w a.1)

-- new stamps of the first claims, one more
pub refreshing_none : (c : ClaimsSeen Root) (claims : List Claim) (s : SeatSeen) (fresh : List Claim) → s.of ≡ c → IsSeat s → s.held ≡ [] → fresh ≡ [] → IsRefreshing (ground_of c) claims 0 s s fresh
refreshing_none c claims s fresh of seat held none = subst (IsRefreshing (ground_of c) claims 0 s s) (sym none) (record {
  left = left_same c s s of seat held refl refl refl refl refl;
  wins = sym (append-nil s.wins);
  misses = refl;
  vertices = refl;
  stamps = tt;
})

pub refreshing_more : (g : Ground) (claims : List Claim) (k : ℕ) (d : Claim) (old mid new : SeatSeen) (fresh next : List Claim) (stamp : ℕ) → IsRefreshing g claims k old mid fresh → k < length claims → IsSeenOnce g mid new (get_or claims k d).vertex stamp
    → next ≡ fresh ++ record { vertex = (get_or claims k d).vertex; stamp = stamp } ∷ [] → IsRefreshing g claims (k + 1) old new next
refreshing_more g claims k d old mid new fresh next stamp o lt s is =
    let v = (get_or claims k d).vertex in
    let c : Claim = record { vertex = v; stamp = stamp } in
    let more : take (k + 1) (claimed claims) ≡ take k (claimed claims) ++ v ∷ [] =
    take_more (claimed claims) k v (let z = claimed_length claims in omega (arith, z, lt)) ∙ ap (λ (x : ℕ). take k (claimed claims) ++ x ∷ []) (claimed_at claims k d v lt) in
    let l = o.left in
    let step : Grown g old.caller [] mid.seen new.seen = subst (λ (x : ℕ). Grown g x [] mid.seen new.seen) l.caller s.left.grown in
    let P : Claim → Type 0 = λ (x : Claim). (last old.seen x.vertex ≤ x.stamp) × (x.stamp ≤ last new.seen x.vertex) in
    let low = last_within g old.caller [] old.seen mid.seen v l.grown in
    let up = last_within g old.caller [] mid.seen new.seen v step in
    let at = s.stamp_is in
    record {
      left = record {
        of = s.left.of ∙ l.of;
        caller = s.left.caller ∙ l.caller;
        mine = s.left.mine ∙ l.mine;
        held = s.left.held;
        grown = grown_on g old.caller [] old.seen mid.seen new.seen l.grown step;
      };
      wins = s.wins ∙ (ap (λ (x : List ℕ). x ++ v ∷ []) o.wins ∙ (append_assoc old.wins (take k (claimed claims)) (v ∷ []) ∙ ap (λ (x : List ℕ). old.wins ++ x) (sym more)));
      misses = s.misses ∙ o.misses;
      vertices = ap claimed is ∙ (map_push (λ (x : Claim). x.vertex) fresh c ∙ (ap (λ (x : List ℕ). x ++ v ∷ []) o.vertices ∙ sym more));
      stamps = subst (AllByRecursion P) (sym is) (each_append P fresh (c ∷ []) (between_on g old.caller old.seen mid.seen new.seen fresh step o.stamps) ((omega (arith, low, up, at), omega (arith, at)), tt));
    }

pub held_back : (c : ClaimsSeen Root) (claims : List Claim) (k : ℕ) (d : Claim) (old mid new : SeatSeen) (fresh : List Claim) (holder : ℕ) → old.of ≡ c → IsSeat mid → IsRefreshing (ground_of c) claims k old mid fresh → k < length claims → IsMissed mid new (get_or claims k d).vertex holder
    → IsHeldBack (ground_of c) claims old new (get_or claims k d).vertex holder
held_back c claims k d old mid new fresh holder of seat o lt m =
    let l = o.left in
    let same : new.seen ≡ mid.seen = ap (λ (s : SeatSeen). s.seen) m.seat in
    record {
      left = record {
        of = ap (λ (s : SeatSeen). s.of) m.seat ∙ l.of;
        caller = ap (λ (s : SeatSeen). s.caller) m.seat ∙ l.caller;
        mine = ap (λ (s : SeatSeen). s.mine) m.seat ∙ l.mine;
        held = ap (λ (s : SeatSeen). s.held) m.seat ∙ l.held;
        grown = subst (λ (L : List Commit). Grown (ground_of c) old.caller [] old.seen L) (sym same) l.grown;
      };
      k = k;
      within = lt;
      place_is = claimed_at claims k d (get_or claims k d).vertex lt;
      wins = ap (λ (s : SeatSeen). s.wins) m.seat ∙ o.wins;
      misses = ap (λ (s : SeatSeen). s.misses) m.seat ∙ ap (λ (x : List (ℕ × ℕ)). x ++ ((get_or claims k d).vertex, holder) ∷ []) o.misses;
      other = other_of c mid old.caller holder (l.of ∙ of) l.caller m.other;
    }

pub unseen_missed : (c : ClaimsSeen Root) (old new : SeatSeen) (v holder : ℕ) → old.of ≡ c → IsSeat old → old.held ≡ [] → IsMissed old new v holder → IsUnseen (ground_of c) old new v (Busy v holder)
unseen_missed c old new v holder of seat held m = (
  refl,
  left_missed c old new v holder of seat held m,
  ap (λ (s : SeatSeen). s.wins) m.seat,
  ap (λ (s : SeatSeen). s.misses) m.seat,
  other_of c old old.caller holder of refl m.other,
)

-- the whole list of claims
pub refreshed : (g : Ground) (claims : List Claim) (old new : SeatSeen) (fresh : List Claim) (plan next : Planned) → IsRefreshing g claims (length claims) old new fresh → claims ≡ plan.claims → next.edits ≡ plan.edits → next.claims ≡ fresh → IsRefreshed g old new plan next
refreshed g claims old new fresh plan next o is edits given =
    let whole : take (length claims) (claimed claims) ≡ claimed plan.claims = take_all (length claims) (claimed claims) (let z = claimed_length claims in omega (arith, z)) ∙ ap claimed is in
    record {
      left = o.left;
      wins = o.wins ∙ ap (λ (l : List ℕ). old.wins ++ l) whole;
      misses = o.misses;
      edits = edits;
      vertices = ap claimed given ∙ (o.vertices ∙ whole);
      stamps = subst (AreBetween old.seen new.seen) (sym given) o.stamps;
    }
