-- The region of a round, look by look.
use Rattle.std.proofs.Common.{◌≡◌, ◌≢◌, ℕ, suc, ◌+◌, ◌<◌, ◌≤◌, min, Bool, false, ◌||◌, nat_eq, List, [], ◌∷◌, ◌++◌, length, map, take, get_or, cond, inl, inr, arith, sym, ◌∙◌, ap, ap₂, subst, refl}
use Rattle.std.specs.List.{AllByRecursion}
use Rattle.std.proofs.lemmas.Bool.{cases_Bool}
use Rattle.std.proofs.lemmas.Bool.Decides.{Decides-eqb}
use Rattle.std.proofs.lemmas.List.{map-append, take_more, take_all, length-take, length-map, get_or-take, get_or-map}
use Rattle.std.proofs.lemmas.List.Elements.{All-cons, All-nil, recursion_from_All}
use Rattle.plane.specs.declared.coordinates.Point.{Point}
use Rattle.star.specs.Stars.{IsOrderly, entry}
use Rattle.star.proofs.laws.Marks.{one_position}
use Rattle.journal_defs.specs.declared.commit.Commit.{Commit}
use Rattle.journal_defs.specs.Journal.{replay}
use Rattle.journal_defs.specs.Neighbours.{star_list}
use Rattle.edit.specs.declared.look.Look.{Look}
use Rattle.plan_defs.specs.Plans.{Sight, has_look, look_at}
use Rattle.planner.specs.Region.{sight, sights, AreFor}
use Rattle.round_defs.specs.Rounds.{sight_of}
use Rattle.seats.specs.Ground.{Ground}
use Rattle.seats.specs.declared.cells.Root.{Root}
use Rattle.vertex_claims.specs.Holding.{ClaimsSeen}
use Rattle.seats.specs.Seats.{SeatSeen, ground_of}
use Rattle.board.specs.Passes.{IsPass}
use Rattle.search_worker.specs.Working.{Begins}
use Rattle.search_worker.specs.Looking.{ShowsNow, IsStill, HasPlaceFor, HasGained, IsGathered}
use Rattle.search_worker.proofs.Further.{begins_on}
use Rattle.search_worker.proofs.Looked.{sight_now, still_on, still_own}

-- the names of the first neighbours
abbrev pub names_of : List (ℕ × Bool) → List ℕ
names_of list = take 15 (map (λ x. x.0) list)

-- the name at a position, and that it is another one than those before it and the centre
pub name_at : (list : List (ℕ × Bool)) (k d : ℕ) → k < length (names_of list) → (k < length list) × (get_or (names_of list) k d ≡ (entry list k).0)
name_at list k d h =
    let all : List ℕ = map (λ (x : ℕ × Bool). x.0) list in
    let few : length (names_of list) ≡ min 15 (length all) = length-take 15 all in
    let many : length all ≡ length list = length-map list (λ (x : ℕ × Bool). x.0) in
    let inside : k < length list = omega (arith, h, few, many) in
    let below : k < 15 = omega (arith, h, few) in
    (inside, get_or-take 15 all k d below ∙ get_or-map (λ (x : ℕ × Bool). x.0) list k (0, false) d inside)

not_there : (f : ℕ → Sight) (vs : List ℕ) (q : ℕ) → ((u : ℕ) → (f u).vertex ≡ u) → AllByRecursion (λ (u : ℕ). u ≢ q) vs → has_look (map f vs) q ≡ false
not_there f [] q own h = refl
not_there f (u ∷ us) q own h =
    elim (cases_Bool (nat_eq (f u).vertex q)) [
      | inl t ↦ absurd (h.0 (sym (own u) ∙ (Decides-eqb (f u).vertex q).0 t))
      | inr b ↦ ap (λ (x : Bool). x || has_look (map f us) q) b ∙ not_there f us q own h.1
    ]

pub others_apart : (S : List Point) (c : ℕ) (list : List (ℕ × Bool)) (k d : ℕ) → IsOrderly S c list → k < length (names_of list)
    → AllByRecursion (λ (u : ℕ). u ≢ get_or (names_of list) k d) (c ∷ take k (names_of list))
others_apart S c list k d order h =
    let here = name_at list k d h in
    let Q : ℕ → Type 0 = λ (u : ℕ). u ≢ get_or (names_of list) k d in
    let long : length (take k (names_of list)) ≡ min k (length (names_of list)) = length-take k (names_of list) in
    let each : (j e : ℕ) → j < length (take k (names_of list)) → Q (get_or (take k (names_of list)) j e) = λ j e lt.
    let less : j < k = omega (arith, lt, long) in
    let inside : j < length (names_of list) = omega (arith, less, h) in
    let there = name_at list j e inside in
    λ same. absurd (
    let one : j ≡ k = one_position S c list j k order there.0 here.0 (sym there.1 ∙ sym (get_or-take k (names_of list) j e less) ∙ same ∙ here.1) in
    omega (arith, one, less)) in
    (λ same. order.apart k here.0 (sym here.1 ∙ sym same), recursion_from_All Q (take k (names_of list)) each)

-- the looks so far: the first, and those at the first k names
pub record IsGathering (g : Ground) (old now : SeatSeen) (look : Look) (k : ℕ) (R : List Look) : Type 0 where
  pub still : IsStill g old now
  pub points : AreFor g.points R
  pub begins : Begins (look ∷ []) R
  pub shown : g.callers ≡ 1 → sights R ≡ map (sight_of g.points g.start old.seen) (look.star.centre ∷ take k (names_of look.star.list))

pub first_gathered : (s : SeatSeen) (look : Look) (R : List Look) → IsPass s → look.star.centre < length s.of.root.points → ShowsNow (ground_of s.of) s.seen look.star.centre look
    → R ≡ look ∷ [] → IsGathering (ground_of s.of) s s look 0 R
first_gathered s look R h hv shows is =
    let g = ground_of s.of in
    let made : IsGathering g s s look 0 (look ∷ []) = record {
      still = still_own g s;
      points = All-cons (λ (x : Look). x.star.points ≡ g.points) look [] shows.star.points (All-nil (λ (x : Look). x.star.points ≡ g.points));
      begins = ([], refl);
      shown = λ alone. ap (λ (x : Sight). x ∷ []) (sight_now s look.star.centre look h hv shows);
    } in
    let P : List Look → Type 0 = λ T. IsGathering g s s look 0 T in
    subst P (sym is) made

-- there is place for the next look
next_place : (g : Ground) (old : SeatSeen) (look : Look) (k d : ℕ) (R : List Look) → IsOrderly g.points look.star.centre look.star.list → k < length (names_of look.star.list)
    → sights R ≡ map (sight_of g.points g.start old.seen) (look.star.centre ∷ take k (names_of look.star.list)) → HasPlaceFor (get_or (names_of look.star.list) k d) R
next_place g old look k d R order h is =
    let names = names_of look.star.list in
    let f : ℕ → Sight = sight_of g.points g.start old.seen in
    let q : ℕ = get_or names k d in
    let looked : List ℕ = look.star.centre ∷ take k names in
    let x : length (sights R) ≡ length R = length-map R sight in
    let y : length (sights R) ≡ length (map f looked) = ap length is in
    let z : length (map f looked) ≡ length looked = length-map looked f in
    let w : length (take k names) ≡ min k (length names) = length-take k names in
    let few : length names ≡ min 15 (length (map (λ (p : ℕ × Bool). p.0) look.star.list)) = length-take 15 (map (λ (p : ℕ × Bool). p.0) look.star.list) in
    let u : length looked ≡ suc (length (take k names)) = refl in (
      omega (arith, x, y, z, w, u, few, h),
      ap (λ (t : List Sight). has_look t q) is ∙ not_there f looked q (λ v. refl) (others_apart g.points look.star.centre look.star.list k d order h),
    )

pub next_gathered : (g : Ground) (old now next : SeatSeen) (look : Look) (k q d : ℕ) (R T : List Look) → IsOrderly g.points look.star.centre look.star.list → k < length (names_of look.star.list)
    → q ≡ get_or (names_of look.star.list) k d → IsGathering g old now look k R → HasGained g now next q R T → IsGathering g old next look (k + 1) T
next_gathered g old now next look k q d R T order h is so gained =
    let names = names_of look.star.list in record {
      still = still_on g old now next so.still gained.still;
      points = gained.points;
      begins = begins_on (look ∷ []) R T so.begins gained.begins;
      shown = λ alone.
          let place = next_place g old look k d R order h (so.shown alone) in
          let P : ℕ → Type 0 = λ u. HasPlaceFor u R in
          let f : ℕ → Sight = sight_of g.points g.start old.seen in
          let F : List Commit → Sight = λ J. sight_of g.points g.start J q in
          let same : sight_of g.points g.start now.seen q ≡ f (get_or names k d) = ap F (so.still.alone alone) ∙ ap f is in
          gained.shown alone (subst P (sym is) place)
          ∙ ap₂ (λ (xs : List Sight) (x : Sight). xs ++ x ∷ []) (so.shown alone) same
          ∙ ap (λ (xs : List Sight). f look.star.centre ∷ xs) (sym (map-append f (take k names) (get_or names k d ∷ [])) ∙ ap (map f) (sym (take_more names k d h)));
    }

-- all looks
pub all_gathered : (s now : SeatSeen) (look : Look) (k : ℕ) (R : List Look) → IsPass s → look.star.centre < length s.of.root.points → ShowsNow (ground_of s.of) s.seen look.star.centre look
    → length (names_of look.star.list) ≤ k → IsGathering (ground_of s.of) s now look k R → IsGathered (ground_of s.of) s now look R
all_gathered s now look k R h hv shows end so =
    let g = ground_of s.of in
    let v = look.star.centre in
    let names = names_of look.star.list in
    let f : ℕ → Sight = sight_of g.points g.start s.seen in
    let all : take k names ≡ names = take_all k names end in
    let list : look.star.list ≡ star_list g.points (replay g.start s.seen) v = ap (λ (x : Sight). x.list) (sight_now s v look h hv shows) in
    let (more, is) = so.begins in record {
      still = so.still;
      points = so.points;
      first = ap (λ (T : List Look). look_at (sights T) v) is
          ∙ ap (λ (b : Bool). cond b (sight look) (look_at (sights more) v)) ((Decides-eqb v v).1 refl);
      shown = λ alone. so.shown alone ∙ ap (λ (ns : List ℕ). map f (v ∷ ns)) all ∙ ap (λ (l : List (ℕ × Bool)). map f (v ∷ names_of l)) list;
    }

-- the same of a board
pub first_at : (b : ClaimsSeen Root) (s : SeatSeen) (look : Look) (R : List Look) → s.of ≡ b → IsPass s → look.star.centre < length b.root.points → ShowsNow (ground_of b) s.seen look.star.centre look
    → R ≡ look ∷ [] → IsGathering (ground_of b) s s look 0 R
first_at b s look R e h =
    let Q : ClaimsSeen Root → Type 0 = λ z. look.star.centre < length z.root.points → ShowsNow (ground_of z) s.seen look.star.centre look → R ≡ look ∷ [] → IsGathering (ground_of z) s s look 0 R in
    subst Q e (first_gathered s look R h)

pub all_at : (b : ClaimsSeen Root) (s now : SeatSeen) (look : Look) (k : ℕ) (R : List Look) → s.of ≡ b → IsPass s → look.star.centre < length b.root.points → ShowsNow (ground_of b) s.seen look.star.centre look
    → length (names_of look.star.list) ≤ k → IsGathering (ground_of b) s now look k R → IsGathered (ground_of b) s now look R
all_at b s now look k R e h =
    let Q : ClaimsSeen Root → Type 0 = λ z. look.star.centre < length z.root.points → ShowsNow (ground_of z) s.seen look.star.centre look
    → length (names_of look.star.list) ≤ k → IsGathering (ground_of z) s now look k R → IsGathered (ground_of z) s now look R in
    subst Q e (all_gathered s now look k R h)

-- the star of the look is orderly for the board's points
pub look_orderly : (g : Ground) (J : List Commit) (look : Look) → ShowsNow g J look.star.centre look → IsOrderly g.points look.star.centre look.star.list
look_orderly g J look shows = subst (λ (S : List Point). IsOrderly S look.star.centre look.star.list) shows.star.points shows.star.star

-- the region that begins with a look
pub one_look : (look : Look) (N R : List Look) → N ≡ [] → (HasPlaceFor look.star.centre N → R ≡ N ++ look ∷ []) → R ≡ look ∷ []
one_look look N R none added =
    let P : List Look → Type 0 = λ z. HasPlaceFor look.star.centre z in
    let place : HasPlaceFor look.star.centre N = subst P (sym none) (omega arith, refl) in
    added place ∙ ap (λ (z : List Look). z ++ look ∷ []) none
