-- What a look shows, and a region with one look more.
use Rattle.std.proofs.Common.{◌≡◌, ℕ, ◌+◌, ◌<◌, List, [], ◌∷◌, ◌++◌, length, Some, None, inl, inr, ◌⊎◌, arith, sym, ◌∙◌, ap, subst, refl, append-nil, length-append}
use Rattle.std.proofs.lemmas.List.{map-append}
use Rattle.std.proofs.lemmas.List.Elements.{All-push}
use Rattle.plane.specs.declared.coordinates.Point.{Point}
use Rattle.journal_defs.specs.declared.commit.Commit.{Commit}
use Rattle.journal_defs.specs.Edits.{IsSound}
use Rattle.journal_defs.specs.Journal.{replay}
use Rattle.journal_defs.proofs.laws.Start.{sound_legal}
use Rattle.edit.specs.declared.look.Look.{Look}
use Rattle.plan_defs.specs.Plans.{Sight}
use Rattle.planner.specs.Region.{sight, sights, AreFor}
use Rattle.round_defs.specs.Rounds.{sight_of}
use Rattle.round_defs.proofs.laws.Looks.{sight_is}
use Rattle.seats.specs.Ground.{Ground}
use Rattle.seats.specs.declared.cells.Root.{Root}
use Rattle.vertex_claims.specs.Holding.{ClaimsSeen}
use Rattle.seats.specs.Seats.{SeatSeen, ground_of}
use Rattle.board.specs.declared.board.LookFault.TheVariants.{Busy}
use Rattle.board.specs.Answers.{IsLeft}
use Rattle.board.specs.Looks.{IsShown, IsUnseen}
use Rattle.board.specs.Passes.{IsPass}
use Rattle.search_worker.specs.Working.{Begins}
use Rattle.search_worker.specs.Looking.{ShowsNow, IsStill, HasLooked, HasPlaceFor, HasGained}
use Rattle.search_worker.proofs.Refused.{grown_alone}

pub left_still : (g : Ground) (old new : SeatSeen) → IsLeft g old new → IsStill g old new
left_still g old new left = record { mine = left.mine; alone = λ a. grown_alone g old.caller [] old.seen new.seen left.grown a }

pub still_own : (g : Ground) (s : SeatSeen) → IsStill g s s
still_own g s = record { mine = refl; alone = λ a. refl }

pub still_on : (g : Ground) (s t u : SeatSeen) → IsStill g s t → IsStill g t u → IsStill g s u
still_on g s t u a b = record { mine = b.mine ∙ a.mine; alone = λ h. b.alone h ∙ a.alone h }

more_tries : (m n k : List ℕ) (p q : List (ℕ × ℕ)) → m ≡ n ++ k → q ≡ p → length m + length q ≡ length n + length p + length k
more_tries m n k p q e f =
    let x : length m ≡ length (n ++ k) = ap length e in let y = length-append n k in let z : length q ≡ length p = ap length f in omega (arith, x, y, z)

-- the two answers of a look
pub looked_shown : (g : Ground) (old new : SeatSeen) (v : ℕ) (look : Look) → IsShown g old new v look → HasLooked g old new v (Some look)
looked_shown g old new v look h = record {
  still = left_still g old new h.left;
  one = more_tries new.wins old.wins (v ∷ []) old.misses new.misses h.wins h.misses;
  shown = record { star = h.star; stamp = h.stamp };
}

pub looked_busy : (g : Ground) (old new : SeatSeen) (v place holder : ℕ) → IsUnseen g old new v (Busy place holder) → (g.callers ≡ 1 → ⊥) → HasLooked g old new v None
looked_busy g old new v place holder h other = record {
  still = left_still g old new h.1;
  one = let x : length new.wins ≡ length old.wins = ap length h.2 in
      let y : length new.misses ≡ length (old.misses ++ (v, holder) ∷ []) = ap length h.3 in
      let z = length-append old.misses ((let p : ℕ × ℕ = (v, holder) in p) ∷ []) in omega (arith, x, y, z);
  shown = other;
}

-- the state after what is seen is sound
pub sound_seen : (s : SeatSeen) → IsPass s → IsSound s.of.root.points (replay s.of.root.start.items s.seen)
sound_seen s h =
    let shelf = h.seat.shelf in
    sound_legal s.of.root.points s.of.root.start.items s.seen shelf.accepted shelf.ascending shelf.triangulation h.seat.legal.edits

-- a look of the board is that of the definitions
pub sight_now : (s : SeatSeen) (v : ℕ) (look : Look) → IsPass s → v < length s.of.root.points → ShowsNow (ground_of s.of) s.seen v look
    → sight look ≡ sight_of s.of.root.points s.of.root.start.items s.seen v
sight_now s v look h hv shows =
    sight_is s.of.root.points s.of.root.start.items s.seen v look.stamp look.star h.seat.shelf.accepted (sound_seen s h) hv shows.star shows.stamp

-- a region with one look more
pub for_more : (S : List Point) (R : List Look) (l : Look) → AreFor S R → l.star.points ≡ S → AreFor S (R ++ l ∷ [])
for_more S R l h e = All-push (λ (x : Look). x.star.points ≡ S) R l h e

sights_more : (R : List Look) (l : Look) → sights (R ++ l ∷ []) ≡ sights R ++ sight l ∷ []
sights_more R l = map-append sight R (l ∷ [])

pub gained_look : (s old : SeatSeen) (v : ℕ) (look : Look) (R T : List Look) → IsPass s → IsStill (ground_of s.of) old s → v < length s.of.root.points → ShowsNow (ground_of s.of) s.seen v look
    → AreFor s.of.root.points R → (HasPlaceFor look.star.centre R → T ≡ R ++ look ∷ []) → (T ≡ R) ⊎ (T ≡ R ++ look ∷ []) → HasGained (ground_of s.of) old s v R T
gained_look s old v look R T h still hv shows points added either = record {
  still = still;
  points = for_either either;
  begins = begin_either either;
  shown = λ alone place.
      let P : ℕ → Type 0 = λ u. HasPlaceFor u R in
      let is : T ≡ R ++ look ∷ [] = added (subst P (sym shows.star.centre) place) in
      let F : List Commit → Sight = λ J. sight_of s.of.root.points s.of.root.start.items J v in
      ap sights is ∙ sights_more R look ∙ ap (λ (l : Sight). sights R ++ l ∷ []) (sight_now s v look h hv shows ∙ ap F (still.alone alone));
} where
  for_either : (T ≡ R) ⊎ (T ≡ R ++ look ∷ []) → AreFor s.of.root.points T
  for_either (inl e) = subst (AreFor s.of.root.points) (sym e) points
  for_either (inr e) = subst (AreFor s.of.root.points) (sym e) (for_more s.of.root.points R look points shows.star.points)

  begin_either : (T ≡ R) ⊎ (T ≡ R ++ look ∷ []) → Begins R T
  begin_either (inl e) = ([], e ∙ sym (append-nil R))
  begin_either (inr e) = (look ∷ [], e)

pub gained_none : (g : Ground) (old new : SeatSeen) (v : ℕ) (R : List Look) → IsStill g old new → AreFor g.points R → (g.callers ≡ 1 → ⊥) → HasGained g old new v R R
gained_none g old new v R still points other = record {
  still = still;
  points = points;
  begins = ([], sym (append-nil R));
  shown = λ alone place. absurd (other alone);
}

-- the same of a board
pub gained_at : (b : ClaimsSeen Root) (s old : SeatSeen) (v : ℕ) (look : Look) (R T : List Look) → s.of ≡ b → IsPass s → IsStill (ground_of b) old s → v < length b.root.points → ShowsNow (ground_of b) s.seen v look
    → AreFor b.root.points R → (HasPlaceFor look.star.centre R → T ≡ R ++ look ∷ []) → (T ≡ R) ⊎ (T ≡ R ++ look ∷ []) → HasGained (ground_of b) old s v R T
gained_at b s old v look R T e h =
    let Q : ClaimsSeen Root → Type 0 = λ z. IsStill (ground_of z) old s → v < length z.root.points → ShowsNow (ground_of z) s.seen v look
    → AreFor z.root.points R → (HasPlaceFor look.star.centre R → T ≡ R ++ look ∷ []) → (T ≡ R) ⊎ (T ≡ R ++ look ∷ []) → HasGained (ground_of z) old s v R T in
    subst Q e (gained_look s old v look R T h)
