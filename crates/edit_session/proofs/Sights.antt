-- The star of a vertex, as it is shown.
use Rattle.std.proofs.Common.{◌≡◌, ℕ, ◌<◌, List, length, true, Bool, ◌↔◌, sym, ◌∙◌, subst}
use Rattle.plane.specs.declared.coordinates.Point.{Point}
use Rattle.plane.specs.declared.segment.Pair.{Pair}
use Rattle.plane.specs.Accepted.{AreAccepted}
use Rattle.partition_defs.specs.Partition.{Joins}
use Rattle.star.specs.Stars.{Seen as TheStar, IsStar, IsNeighbour, HasMark, SamePlace}
use Rattle.star.specs.StarOf.{IsStarOf}
use Rattle.journal_defs.specs.Journal.{last}
use Rattle.journal_defs.proofs.laws.Turned.{star_is_value}
use Rattle.replay.specs.Replayed.{Replayed, IsCore, state_of}
use Rattle.edit_session.specs.Sessions.{IsSight}

-- the same star again
copied : (S : List Point) (T K : List Pair) (v : ℕ) (a b : TheStar) → IsStarOf S T K v a → b.list ≡ a.list → SamePlace a b → IsStar b → IsStarOf S T K v b
copied S T K v a b of list place star = record {
  star = star;
  centre = place.0 ∙ of.centre;
  points = place.1 ∙ of.points;
  neighbours = λ w. subst (λ (l : List (ℕ × Bool)). IsNeighbour (record { centre = 0; list = l; spare = 0; points = S }) w ↔ Joins T v w) (sym list) (of.neighbours w);
  marks = λ w. subst (λ (l : List (ℕ × Bool)). IsNeighbour (record { centre = 0; list = l; spare = 0; points = S }) w → HasMark (record { centre = 0; list = l; spare = 0; points = S }) w true ↔ Joins K v w) (sym list) (of.marks w);
}

-- what a look shows
pub sight : (c : Replayed) (v : ℕ) (a b : TheStar) (stamp : ℕ) → AreAccepted c.points → IsCore c → v < length c.points → IsStarOf c.points (state_of c).all (state_of c).kept v a
    → b.list ≡ a.list → SamePlace a b → IsStar b → stamp ≡ last c.journal v → IsSight c.points c.start c.journal v b stamp
sight c v a b stamp accepted core low of list place star at = record {
  of = copied c.points (state_of c).all (state_of c).kept v a b of list place star;
  list = list ∙ star_is_value c.points (state_of c) v a accepted core.sound low of;
  latest = at;
}
