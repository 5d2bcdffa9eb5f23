-- A core's stars, and the core of stars and a journal.
use Rattle.std.proofs.Common.{◌≡◌, List}
use Rattle.std.proofs.Common.{sym, subst}
use Rattle.plane.specs.declared.coordinates.Point.{Point}
use Rattle.plane.specs.declared.segment.Pair.{Pair}
use Rattle.partition_defs.specs.Sets.{AreSame}
use Rattle.partition_defs.proofs.laws.Joined.{among_joins, same_lists}
use Rattle.star.specs.Stars.{Seen}
use Rattle.subdivision.specs.Layout.{Layout, AreOf, AreStarsOf, IsSubdivision}
use Rattle.journal_defs.specs.declared.commit.Commit.{Commit}
use Rattle.journal_defs.specs.Journal.{replay, IsLegalJournal}
use Rattle.journal_defs.proofs.laws.Start.{sound_legal}
use Rattle.seats.specs.declared.cells.Root.{Root}
use Rattle.board.specs.Laying.{IsBase}

-- the stars after a legal journal are those of one triangulation
pub stars_agree : (r : Root) (J : List Commit) (stars : List Seen) → IsBase r → IsLegalJournal r.points r.start.items J → AreStarsOf r.points (replay r.start.items J).all (replay r.start.items J).kept stars
    → AreOf r.points (replay r.start.items J).all (replay r.start.items J).kept stars
stars_agree r J stars base legal are =
    let sound = sound_legal r.points r.start.items J base.accepted base.ascending base.triangulation legal.edits in
    record {
      triangulation = sound.triangulation;
      among = among_joins (replay r.start.items J).kept (replay r.start.items J).all sound.among;
      round = are;
    }

-- a subdivision of them has the segments of the replay
pub layers_are : (r : Root) (J : List Commit) (a : Layout) → IsBase r → IsLegalJournal r.points r.start.items J → IsSubdivision a → AreSame a.all (replay r.start.items J).all × AreSame a.kept (replay r.start.items J).kept
    → (a.all ≡ (replay r.start.items J).all) × (a.kept ≡ (replay r.start.items J).kept)
layers_are r J a base legal sub same =
    let sound = sound_legal r.points r.start.items J base.accepted base.ascending base.triangulation legal.edits in (
      same_lists a.all (replay r.start.items J).all sub.ascending sound.all_ascending same.0,
      same_lists a.kept (replay r.start.items J).kept sub.kept_ascending sound.kept_ascending same.1,
    )

-- the stars of a subdivision that is the replay
pub stars_of : (S : List Point) (start : List Pair) (J : List Commit) (a : Layout) (stars : List Seen) → IsSubdivision a → a.points ≡ S → a.all ≡ (replay start J).all → a.kept ≡ (replay start J).kept → stars ≡ a.stars
    → AreStarsOf S (replay start J).all (replay start J).kept stars
stars_of S start J a stars sub of all kept is =
    subst (λ (P : List Point). AreStarsOf P (replay start J).all (replay start J).kept stars) of
    (subst (λ (T : List Pair). AreStarsOf a.points T (replay start J).kept stars) all
    (subst (λ (K : List Pair). AreStarsOf a.points a.all K stars) kept
    (subst (λ (xs : List Seen). AreStarsOf a.points a.all a.kept xs) (sym is) sub.agreed.round)))
