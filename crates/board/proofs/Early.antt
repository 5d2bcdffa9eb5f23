-- The first half of a commit: what it may make, undo and leave.
use Rattle.std.proofs.Common.{◌≡◌, ℕ, true, List, [], length, take, sym, ◌∙◌, ap, subst}
use Rattle.std.specs.List.{AllByRecursion, list_any}
use Rattle.vertex_claims.specs.Holding.{ClaimsSeen}
use Rattle.journal_defs.specs.declared.edit.Edit.{Edit}
use Rattle.journal_defs.specs.declared.edit.Why.{Why}
use Rattle.journal_defs.specs.declared.edit.Claim.{Claim}
use Rattle.journal_defs.specs.declared.commit.Commit.{Commit}
use Rattle.journal_defs.specs.Edits.{State, IsSound}
use Rattle.journal_defs.specs.Journal.{AreLegal, replay}
use Rattle.edit.specs.Plans.{IsPlan}
use Rattle.hands.specs.declared.refusal.Refusal.{Refusal}
use Rattle.hands.specs.declared.refusal.Refusal.TheVariants.{Busy, Stale, Ahead, NoMemory, Illegal, Full}
use Rattle.hands.specs.Hands.{Hand, is_flip, AreRight, AreStamped, AreCovered, hands_after_all, vertices}
use Rattle.hands.specs.Answers.{IsFresh, IsMade, IsIllegalAt, IsStaleAnswer}
use Rattle.hands.proofs.Laws.{covered_by_plan}
use Rattle.seats.specs.declared.cells.Root.{Root}
use Rattle.seats.specs.Ground.{Ground}
use Rattle.seats.specs.Seats.{SeatSeen, IsSeat, IsShelf, ground_of}
use Rattle.board.specs.Answers.{HasWonAll, IsEarly, IsNotBusy}
use Rattle.board.specs.Phases.{IsHolding, IsOpen, MayLeave}
use Rattle.board.proofs.Held.{keys_all}
use Rattle.board.proofs.Ends.{sound_of, won_all}

-- what holds of the shelf of each seat
pub shelf_of : (c : ClaimsSeen Root) (s : SeatSeen) → s.of ≡ c → IsSeat s → IsShelf c
shelf_of c s of seat = subst IsShelf of seat.shelf

-- what is held may be given back
pub may_leave : (g : Ground) (claims : List Claim) (k : ℕ) (old mid : SeatSeen) (hs ks : List Hand) → IsHolding g claims k old mid hs → ks ≡ hs → MayLeave g mid ks
may_leave g claims k old mid hs ks h same = subst (MayLeave g mid) (sym same) (record { held = h.held; right = h.right; stamped = h.stamped })

right_as : (c : ClaimsSeen Root) (claims : List Claim) (old mid : SeatSeen) (hs ks : List Hand) → IsHolding (ground_of c) claims (length claims) old mid hs → ks ≡ hs → AreRight c.root.points (replay c.root.start.items mid.seen) ks
right_as c claims old mid hs ks h same = subst (AreRight c.root.points (replay c.root.start.items mid.seen)) (sym same) h.right

-- the edits may be tried
pub may_make : (c : ClaimsSeen Root) (claims : List Claim) (old mid : SeatSeen) (hs ks : List Hand) → IsShelf c → IsHolding (ground_of c) claims (length claims) old mid hs → ks ≡ hs
    → (s : State) × IsSound c.root.points s × AreRight c.root.points s ks
may_make c claims old mid hs ks shelf h same =
    (replay c.root.start.items mid.seen, sound_of c mid.seen shelf h.grown.legal, right_as c claims old mid hs ks h same)

pub covers : (g : Ground) (edits : List Edit) (claims : List Claim) (old mid : SeatSeen) (hs ks : List Hand) → IsPlan edits claims → IsHolding g claims (length claims) old mid hs → ks ≡ hs → AreCovered ks edits
covers g edits claims old mid hs ks plan h same = covered_by_plan edits claims ks plan (ap vertices same ∙ keys_all g claims old mid hs h)

-- the edits before the one that isn't legal may be undone
pub undo_part : (c : ClaimsSeen Root) (edits : List Edit) (claims : List Claim) (old mid : SeatSeen) (hs ks made : List Hand) (at : ℕ) (why : Why) → IsShelf c → IsHolding (ground_of c) claims (length claims) old mid hs → ks ≡ hs
    → ((s : State) → IsSound c.root.points s → AreRight c.root.points s ks → IsIllegalAt c.root.points s edits at why) → made ≡ hands_after_all c.root.points (take at edits) ks
    → (s : State) × IsSound c.root.points s × AreLegal c.root.points s (take at edits) × IsMade c.root.points s (take at edits) made
undo_part c edits claims old mid hs ks made at why shelf h same bad is =
    let m = may_make c claims old mid hs ks shelf h same in
    (m.0, m.1, (bad m.0 m.1 m.2).before, record { first = ks; right = m.2; made = is })

pub undone_part : (c : ClaimsSeen Root) (edits : List Edit) (claims : List Claim) (old mid : SeatSeen) (hs ks made last : List Hand) (at : ℕ) (why : Why) → IsShelf c → IsHolding (ground_of c) claims (length claims) old mid hs → ks ≡ hs
    → ((s : State) → IsSound c.root.points s → AreRight c.root.points s ks → IsIllegalAt c.root.points s edits at why) → made ≡ hands_after_all c.root.points (take at edits) ks
    → ((s : State) (xs : List Hand) → IsSound c.root.points s → AreLegal c.root.points s (take at edits) → AreRight c.root.points s xs → made ≡ hands_after_all c.root.points (take at edits) xs → last ≡ xs) → last ≡ hs
undone_part c edits claims old mid hs ks made last at why shelf h same bad is back =
    let m = may_make c claims old mid hs ks shelf h same in
    back m.0 ks m.1 (bad m.0 m.1 m.2).before m.2 is ∙ same

-- all is open
pub opened : (c : ClaimsSeen Root) (edits : List Edit) (claims : List Claim) (old mid : SeatSeen) (hs ks made : List Hand) → IsShelf c → IsHolding (ground_of c) claims (length claims) old mid hs → mid.misses ≡ old.misses → ks ≡ hs
    → ((J : List Commit) → AreStamped J hs → AllByRecursion (IsFresh J) claims)
    → ((s : State) → IsSound c.root.points s → AreRight c.root.points s ks → AreLegal c.root.points s edits) → made ≡ hands_after_all c.root.points edits ks → IsOpen (ground_of c) edits claims old mid made
opened c edits claims old mid hs ks made shelf h misses same fresh legal is =
    record {
      first = hs;
      holding = h;
      misses = misses;
      fresh = fresh mid.seen h.stamped;
      legal = legal (replay c.root.start.items mid.seen) (sound_of c mid.seen shelf h.grown.legal) (right_as c claims old mid hs ks h same);
      made = is ∙ ap (hands_after_all c.root.points edits) same;
    }

-- the refusals
stale_one : (g : Ground) (edits : List Edit) (claims : List Claim) (old end : SeatSeen) (r : Refusal) → HasWonAll g claims old end → IsStaleAnswer end.seen claims r → IsEarly g edits claims old end r
stale_one g edits claims old end (Busy place holder) w s = absurd s
stale_one g edits claims old end (Stale v n) w s = (w, s)
stale_one g edits claims old end (Ahead v n) w s = (w, s)
stale_one g edits claims old end NoMemory w s = absurd s
stale_one g edits claims old end (Illegal k why) w s = absurd s
stale_one g edits claims old end Full w s = absurd s

pub stale_early : (g : Ground) (edits : List Edit) (claims : List Claim) (old mid end : SeatSeen) (hs : List Hand) (r : Refusal) → IsHolding g claims (length claims) old mid hs → mid.misses ≡ old.misses → end ≡ record mid { held = [] }
    → ((J : List Commit) → AreStamped J hs → IsStaleAnswer J claims r) → IsEarly g edits claims old end r
stale_early g edits claims old mid end hs r h misses is stale =
    stale_one g edits claims old end r (won_all g claims old mid end hs h misses is) (subst (λ (L : List Commit). IsStaleAnswer L claims r) (sym (ap (λ (s : SeatSeen). s.seen) is)) (stale mid.seen h.stamped))

stale_apart : (J : List Commit) (claims : List Claim) (r : Refusal) → IsStaleAnswer J claims r → IsNotBusy r
stale_apart J claims (Busy place holder) s = absurd s
stale_apart J claims (Stale v n) s = tt
stale_apart J claims (Ahead v n) s = tt
stale_apart J claims NoMemory s = tt
stale_apart J claims (Illegal k why) s = tt
stale_apart J claims Full s = tt

pub stale_not_busy : (g : Ground) (claims : List Claim) (old mid : SeatSeen) (hs : List Hand) (r : Refusal) → IsHolding g claims (length claims) old mid hs → ((J : List Commit) → AreStamped J hs → IsStaleAnswer J claims r) → IsNotBusy r
stale_not_busy g claims old mid hs r h stale = stale_apart mid.seen claims r (stale mid.seen h.stamped)

pub memory_early : (g : Ground) (edits : List Edit) (claims : List Claim) (old mid end : SeatSeen) (hs : List Hand) → IsHolding g claims (length claims) old mid hs → mid.misses ≡ old.misses → end ≡ record mid { held = [] }
    → ((J : List Commit) → AreStamped J hs → AllByRecursion (IsFresh J) claims) → list_any is_flip edits ≡ true → IsEarly g edits claims old end NoMemory
memory_early g edits claims old mid end hs h misses is fresh flip = (
  won_all g claims old mid end hs h misses is,
  subst (λ (L : List Commit). AllByRecursion (IsFresh L) claims) (sym (ap (λ (s : SeatSeen). s.seen) is)) (fresh mid.seen h.stamped),
  flip,
)

pub illegal_early : (c : ClaimsSeen Root) (edits : List Edit) (claims : List Claim) (old mid end : SeatSeen) (hs ks : List Hand) (at : ℕ) (why : Why) → IsShelf c → IsHolding (ground_of c) claims (length claims) old mid hs → mid.misses ≡ old.misses
    → end ≡ record mid { held = [] } → ks ≡ hs → ((J : List Commit) → AreStamped J hs → AllByRecursion (IsFresh J) claims)
    → ((s : State) → IsSound c.root.points s → AreRight c.root.points s ks → IsIllegalAt c.root.points s edits at why) → IsEarly (ground_of c) edits claims old end (Illegal at why)
illegal_early c edits claims old mid end hs ks at why shelf h misses is same fresh bad =
    let seen : mid.seen ≡ end.seen = sym (ap (λ (s : SeatSeen). s.seen) is) in (
      won_all (ground_of c) claims old mid end hs h misses is,
      subst (λ (L : List Commit). AllByRecursion (IsFresh L) claims) seen (fresh mid.seen h.stamped),
      subst (λ (L : List Commit). IsIllegalAt c.root.points (replay c.root.start.items L) edits at why) seen (bad (replay c.root.start.items mid.seen) (sound_of c mid.seen shelf h.grown.legal) (right_as c claims old mid hs ks h same)),
    )
