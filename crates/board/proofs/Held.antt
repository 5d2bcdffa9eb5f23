-- One claim more, and one less.
use Rattle.std.proofs.Common.{◌≡◌, ℕ, zero, suc, ◌+◌, ◌<◌, ◌≤◌, Bool, true, false, nat_eq, ◌||◌, List, [], ◌∷◌, ◌++◌, length, get_or, take, arith, sym, ◌∙◌, ap, subst, refl, append_assoc, append-nil, ne_eqb}
use Rattle.std.proofs.lemmas.List.{take_more, map_push, take_all, length-take-le}
use Rattle.index_sets.specs.Indices.{contains}
use Rattle.index_sets.proofs.Laws.{contains-snoc}
use Rattle.plane.specs.declared.coordinates.Point.{Point}
use Rattle.vertex_claims.specs.Holding.{ClaimsSeen}
use Rattle.journal_defs.specs.declared.edit.Claim.{Claim}
use Rattle.journal_defs.specs.declared.commit.Commit.{Commit}
use Rattle.journal_defs.specs.Edits.{State}
use Rattle.journal_defs.specs.Journal.{replay, IsLegalJournal}
use Rattle.edit.specs.declared.look.Look.{Look}
use Rattle.hands.specs.Hands.{Hand, hand_of, hands_of, IsRight, AreRight, IsStamped, AreStamped, vertices}
use Rattle.hands.specs.Answers.{claimed, AreRising}
use Rattle.hands.proofs.Laws.{each_at, each_append, append_each, vertices_push, claimed_at, claimed_length, vertices_length, carry}
use Rattle.seats.specs.declared.cells.Root.{Root}
use Rattle.seats.specs.Ground.{Ground, Grown, IsOther, caller_of}
use Rattle.seats.specs.Seats.{SeatSeen, IsSeat, ground_of}
use Rattle.seats.specs.Claimed.{journal_place, IsWon, IsMissed}
use Rattle.board.specs.Answers.{AreWithin}
use Rattle.board.specs.Phases.{IsTaken, IsHolding, IsBusyAt}

-- a rising list has no element twice
free_at : (xs : List ℕ) (k d : ℕ) → AreRising xs → k < length xs → contains (take k xs) (get_or xs k d) ≡ false
free_at xs zero d r lt = refl
free_at [] (suc k) d r lt = absurd (let z : suc k < 0 = lt in omega (arith, z))
free_at (x ∷ xs) (suc k) d r lt =
    let near : k < length xs = (let z : suc k < length (x ∷ xs) = lt in omega (arith, z)) in
    ap (λ (b : Bool). b || contains (take k xs) (get_or xs k d)) (ne_eqb x (get_or xs k d) (λ e. let z = each_at (λ (y : ℕ). x < y) xs k d r.0 near in omega (arith, z, e)))
    ∙ free_at xs k d r.1 near

pub free_claim : (claims : List Claim) (k : ℕ) (d : Claim) (held : List ℕ) → held ≡ take k (claimed claims) → AreRising (claimed claims) → k < length claims → contains held (get_or claims k d).vertex ≡ false
free_claim claims k d held is r lt =
    subst (λ (l : List ℕ). contains l (get_or claims k d).vertex ≡ false) (sym is)
    (subst (λ (v : ℕ). contains (take k (claimed claims)) v ≡ false) (claimed_at claims k d 0 lt)
    (free_at (claimed claims) k 0 r (let z = claimed_length claims in omega (arith, z, lt))))

pub claim_within : (g : Ground) (claims : List Claim) (k : ℕ) (d : Claim) → AreWithin g claims → k < length claims → (get_or claims k d).vertex < length g.points
claim_within g claims k d within lt =
    subst (λ (v : ℕ). v < length g.points) (claimed_at claims k d 0 lt)
    (each_at (λ (v : ℕ). v < length g.points) (claimed claims) k 0 within (let z = claimed_length claims in omega (arith, z, lt)))

-- the journal's place isn't among those that are held
below_all : (S : List Point) (t : State) (hs : List Hand) → AreRight S t hs → contains (vertices hs) (length S) ≡ false
below_all S t [] r = refl
below_all S t (h ∷ hs) r =
    let lt = r.0.within in
    ap (λ (b : Bool). b || contains (vertices hs) (length S)) (ne_eqb h.vertex (length S) (λ e. omega (arith, lt, e))) ∙ below_all S t hs r.1

pub journal_free : (c : ClaimsSeen Root) (claims : List Claim) (k : ℕ) (old mid : SeatSeen) (hs : List Hand) → mid.of ≡ c → IsHolding (ground_of c) claims k old mid hs → contains mid.held (journal_place mid) ≡ false
journal_free c claims k old mid hs of h =
    ap (λ (x : ClaimsSeen Root). contains mid.held (length x.root.points)) of
    ∙ (ap (λ (l : List ℕ). contains l (length c.root.points)) h.held ∙ below_all c.root.points (replay c.root.start.items mid.seen) hs h.right)

pub journal_in : (c : ClaimsSeen Root) (now : SeatSeen) (xs : List ℕ) → now.of ≡ c → now.held ≡ xs ++ length c.root.points ∷ [] → contains now.held (journal_place now) ≡ true
journal_in c now xs of held =
    ap (λ (x : ClaimsSeen Root). contains now.held (length x.root.points)) of ∙ (ap (λ (l : List ℕ). contains l (length c.root.points)) held ∙ contains-snoc xs (length c.root.points))

-- a longer journal of a longer one
pub grown_on : (g : Ground) (caller : ℕ) (held : List ℕ) (J L M : List Commit) → Grown g caller [] J L → Grown g caller held L M → Grown g caller [] J M
grown_on g caller held J L M a b = record {
  more = a.more ++ b.more;
  is = b.is ∙ (ap (λ (x : List Commit). x ++ b.more) a.is ∙ append_assoc J a.more b.more);
  spares = tt;
  lacks = each_append (λ (e : Commit). nat_eq (caller_of e) caller ≡ false) a.more b.more a.lacks b.lacks;
  alone = λ e. ap (λ (x : List Commit). x ++ b.more) (a.alone e) ∙ b.alone e;
  legal = b.legal;
}

pub grown_none : (g : Ground) (caller : ℕ) (J : List Commit) → IsLegalJournal g.points g.start J → Grown g caller [] J J
grown_none g caller J legal = record { more = []; is = sym (append-nil J); spares = tt; lacks = tt; alone = λ e. refl; legal = legal }

-- hands are carried by a join
pub carried : (g : Ground) (caller : ℕ) (J L : List Commit) (hs : List Hand) → Grown g caller (vertices hs) J L → AreRight g.points (replay g.start J) hs → AreStamped J hs → AreRight g.points (replay g.start L) hs × AreStamped L hs
carried g caller J L hs grown r st =
    subst (λ (M : List Commit). AreRight g.points (replay g.start M) hs × AreStamped M hs) (sym grown.is) (carry g.points g.start J grown.more hs grown.spares r st)

pub holding_none : (c : ClaimsSeen Root) (claims : List Claim) (s : SeatSeen) (looks : List Look) → s.of ≡ c → IsSeat s → s.held ≡ [] → looks ≡ [] → IsHolding (ground_of c) claims 0 s s (hands_of looks)
holding_none c claims s looks of seat held none =
    let hs = hands_of looks in
    let bare : hs ≡ [] = ap hands_of none in
    let legal : IsLegalJournal c.root.points c.root.start.items s.seen = subst (λ (x : ClaimsSeen Root). IsLegalJournal x.root.points x.root.start.items s.seen) of seat.legal in
    record {
      of = refl;
      caller = refl;
      mine = refl;
      held = held ∙ sym (ap vertices bare);
      keys = ap vertices bare;
      wins = sym (append-nil s.wins);
      grown = grown_none (ground_of c) s.caller s.seen legal;
      right = subst (AreRight c.root.points (replay c.root.start.items s.seen)) (sym bare) tt;
      stamped = subst (AreStamped s.seen) (sym bare) tt;
    }

-- what was won, told of the shelf
pub record Won (c : ClaimsSeen Root) (mid new : SeatSeen) (v : ℕ) (h : Hand) : Type 0 where
  pub grown : Grown (ground_of c) mid.caller mid.held mid.seen new.seen
  pub right : IsRight c.root.points (replay c.root.start.items new.seen) h

pub won_of : (c : ClaimsSeen Root) (mid new : SeatSeen) (v : ℕ) (h : Hand) → mid.of ≡ c → IsWon mid new v h → Won c mid new v h
won_of c mid new v h of w = subst (λ (x : ClaimsSeen Root). Won x mid new v h) of (record { grown = w.grown; right = w.right })

pub holding_more : (c : ClaimsSeen Root) (claims : List Claim) (k : ℕ) (d : Claim) (old mid new : SeatSeen) (hs ks : List Hand) → old.of ≡ c → IsHolding (ground_of c) claims k old mid hs → IsTaken mid new (get_or claims k d).vertex hs ks → k < length claims
    → IsHolding (ground_of c) claims (k + 1) old new ks
holding_more c claims k d old mid new hs ks of o t lt =
    let g = ground_of c in
    let h = t.hand in
    let w = t.won in
    let v = (get_or claims k d).vertex in
    let r = won_of c mid new v h (o.of ∙ of) w in
    let more : take (k + 1) (claimed claims) ≡ take k (claimed claims) ++ v ∷ [] =
    take_more (claimed claims) k v (let z = claimed_length claims in omega (arith, z, lt)) ∙ ap (λ (x : ℕ). take k (claimed claims) ++ x ∷ []) (claimed_at claims k d v lt) in
    let keys : vertices ks ≡ vertices hs ++ v ∷ [] = ap vertices t.hands ∙ (vertices_push hs h ∙ ap (λ (x : ℕ). vertices hs ++ x ∷ []) w.vertex) in
    let grown : Grown g old.caller (vertices hs) mid.seen new.seen = subst (λ (x : ℕ). Grown g x (vertices hs) mid.seen new.seen) o.caller (subst (λ (l : List ℕ). Grown g mid.caller l mid.seen new.seen) o.held r.grown) in
    let q = carried g old.caller mid.seen new.seen hs grown o.right o.stamped in
    record {
      of = ap (λ (s : SeatSeen). s.of) w.seat ∙ o.of;
      caller = ap (λ (s : SeatSeen). s.caller) w.seat ∙ o.caller;
      mine = ap (λ (s : SeatSeen). s.mine) w.seat ∙ o.mine;
      held = ap (λ (s : SeatSeen). s.held) w.seat ∙ (ap (λ (l : List ℕ). l ++ v ∷ []) o.held ∙ sym keys);
      keys = keys ∙ (ap (λ (l : List ℕ). l ++ v ∷ []) o.keys ∙ sym more);
      wins = ap (λ (s : SeatSeen). s.wins) w.seat ∙ (ap (λ (l : List ℕ). l ++ v ∷ []) o.wins ∙ (append_assoc old.wins (take k (claimed claims)) (v ∷ []) ∙ ap (λ (l : List ℕ). old.wins ++ l) (sym more)));
      grown = grown_on g old.caller (vertices hs) old.seen mid.seen new.seen o.grown grown;
      right = subst (AreRight g.points (replay g.start new.seen)) (sym t.hands) (each_append (IsRight g.points (replay g.start new.seen)) hs (h ∷ []) q.0 (r.right, tt));
      stamped = subst (AreStamped new.seen) (sym t.hands) (each_append (IsStamped new.seen) hs (h ∷ []) q.1 (w.stamped, tt));
    }

pub other_of : (c : ClaimsSeen Root) (s : SeatSeen) (caller holder : ℕ) → s.of ≡ c → s.caller ≡ caller → IsOther (ground_of s.of) s.caller holder → IsOther (ground_of c) caller holder
other_of c s caller holder of own o = subst (λ (x : ℕ). IsOther (ground_of c) x holder) own (subst (λ (x : ClaimsSeen Root). IsOther (ground_of x) s.caller holder) of o)

-- the hands after a miss
pub missed_at : (c : ClaimsSeen Root) (claims : List Claim) (k : ℕ) (d : Claim) (old mid new : SeatSeen) (holder : ℕ) (hs ks : List Hand) → old.of ≡ c → IsHolding (ground_of c) claims k old mid hs → mid.misses ≡ old.misses
    → IsMissed mid new (get_or claims k d).vertex holder → ks ≡ hs → k < length claims → IsBusyAt (ground_of c) claims old new (get_or claims k d).vertex holder ks
missed_at c claims k d old mid new holder hs ks of o same m hands lt =
    let g = ground_of c in
    let seen : new.seen ≡ mid.seen = ap (λ (s : SeatSeen). s.seen) m.seat in
    record {
      k = k;
      within = lt;
      place_is = claimed_at claims k d (get_or claims k d).vertex lt;
      misses = ap (λ (s : SeatSeen). s.misses) m.seat ∙ ap (λ (l : List (ℕ × ℕ)). l ++ ((get_or claims k d).vertex, holder) ∷ []) same;
      other = other_of c mid old.caller holder (o.of ∙ of) o.caller m.other;
      holding = record {
        of = ap (λ (s : SeatSeen). s.of) m.seat ∙ o.of;
        caller = ap (λ (s : SeatSeen). s.caller) m.seat ∙ o.caller;
        mine = ap (λ (s : SeatSeen). s.mine) m.seat ∙ o.mine;
        held = ap (λ (s : SeatSeen). s.held) m.seat ∙ (o.held ∙ sym (ap vertices hands));
        keys = ap vertices hands ∙ o.keys;
        wins = ap (λ (s : SeatSeen). s.wins) m.seat ∙ o.wins;
        grown = subst (λ (l : List Commit). Grown g old.caller [] old.seen l) (sym seen) o.grown;
        right = subst (AreRight g.points (replay g.start new.seen)) (sym hands) (subst (λ (l : List Commit). AreRight g.points (replay g.start l) hs) (sym seen) o.right);
        stamped = subst (AreStamped new.seen) (sym hands) (subst (λ (l : List Commit). AreStamped l hs) (sym seen) o.stamped);
      };
    }

pub keys_all : (g : Ground) (claims : List Claim) (old new : SeatSeen) (hs : List Hand) → IsHolding g claims (length claims) old new hs → vertices hs ≡ claimed claims
keys_all g claims old new hs o = o.keys ∙ take_all (length claims) (claimed claims) (let z = claimed_length claims in omega (arith, z))

-- as many are in hand as were claimed
pub held_count : (g : Ground) (claims : List Claim) (k : ℕ) (old new : SeatSeen) (looks : List Look) → IsHolding g claims k old new (hands_of looks) → k ≤ length claims → length looks ≡ k
held_count g claims k old new looks o le =
    let a = vertices_length (hands_of looks) in
    let b = ap (λ (l : List ℕ). length l) o.keys in
    let d = length-take-le k (claimed claims) (let z = claimed_length claims in omega (arith, z, le)) in
    let e = looks_length looks in
    omega (arith, a, b, d, e)
  where
    looks_length : (ls : List Look) → length (hands_of ls) ≡ length ls
    looks_length [] = refl
    looks_length (l ∷ ls) = ap suc (looks_length ls)

-- giving back the last hand
pub hands_last : (looks : List Look) (l : Look) → hands_of (looks ++ l ∷ []) ≡ hands_of looks ++ hand_of l ∷ []
hands_last looks l = map_push hand_of looks l

-- the hand of a place that was won is in hand last
pub taken_of : (old new : SeatSeen) (v : ℕ) (looks next : List Look) (look : Look) → IsWon old new v (hand_of look) → next ≡ looks ++ look ∷ [] → IsTaken old new v (hands_of looks) (hands_of next)
taken_of old new v looks next look w is = record { hand = hand_of look; hands = ap hands_of is ∙ hands_last looks look; won = w }

-- what is left in the middle of giving back
pub record Leaves (c : ClaimsSeen Root) (was now : SeatSeen) (looks : List Look) : Type 0 where
  pub seat : now ≡ record was { held = vertices (hands_of looks) }
  pub right : AreRight c.root.points (replay c.root.start.items was.seen) (hands_of looks)
  pub stamped : AreStamped was.seen (hands_of looks)

-- what may be given back next
pub record Last (c : ClaimsSeen Root) (was now : SeatSeen) (looks : List Look) (l : Look) : Type 0 where
  pub held : now.held ≡ vertices (hands_of looks) ++ l.star.centre ∷ []
  pub right : IsRight c.root.points (replay c.root.start.items now.seen) (hand_of l)
  pub stamped : IsStamped now.seen (hand_of l)
  pub rights : AreRight c.root.points (replay c.root.start.items was.seen) (hands_of looks)
  pub stampeds : AreStamped was.seen (hands_of looks)

pub last_left : (c : ClaimsSeen Root) (was now : SeatSeen) (looks rest : List Look) (l : Look) → Leaves c was now looks → looks ≡ rest ++ l ∷ [] → Last c was now rest l
last_left c was now looks rest l o is =
    let S = c.root.points in
    let s = replay c.root.start.items was.seen in
    let hands : hands_of looks ≡ hands_of rest ++ hand_of l ∷ [] = ap hands_of is ∙ hands_last rest l in
    let seen : now.seen ≡ was.seen = ap (λ (x : SeatSeen). x.seen) o.seat in
    let r = append_each (IsRight S s) (hands_of rest) (hand_of l ∷ []) (subst (AreRight S s) hands o.right) in
    let t = append_each (IsStamped was.seen) (hands_of rest) (hand_of l ∷ []) (subst (AreStamped was.seen) hands o.stamped) in
    record {
      held = ap (λ (x : SeatSeen). x.held) o.seat ∙ (ap vertices hands ∙ vertices_push (hands_of rest) (hand_of l));
      right = subst (λ (L : List Commit). IsRight S (replay c.root.start.items L) (hand_of l)) (sym seen) r.1.0;
      stamped = subst (λ (L : List Commit). IsStamped L (hand_of l)) (sym seen) t.1.0;
      rights = r.0;
      stampeds = t.0;
    }

pub last_held : (c : ClaimsSeen Root) (was now : SeatSeen) (looks : List Look) (l : Look) → Last c was now looks l → contains now.held l.star.centre ≡ true
last_held c was now looks l o = ap (λ (xs : List ℕ). contains xs l.star.centre) o.held ∙ contains-snoc (vertices (hands_of looks)) l.star.centre

pub one_given : (c : ClaimsSeen Root) (was now new : SeatSeen) (looks rest : List Look) (l : Look) → Leaves c was now looks → looks ≡ rest ++ l ∷ []
    → ((others : List ℕ) → now.held ≡ others ++ l.star.centre ∷ [] → new ≡ record now { held = others }) → Leaves c was new rest
one_given c was now new looks rest l o is latest =
    let x = last_left c was now looks rest l o is in
    record {
      seat = latest (vertices (hands_of rest)) x.held ∙ ap (λ (s : SeatSeen). record s { held = vertices (hands_of rest) }) o.seat;
      right = x.rights;
      stamped = x.stampeds;
    }
