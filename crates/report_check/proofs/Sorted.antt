-- Pairs in ascending order.
use Rattle.std.proofs.Common.{◌≡◌, List, length, sym, subst}
use Rattle.plane.specs.declared.segment.Pair.{Pair}
use Rattle.partition_defs.specs.Ascending.{IsAscending}
use Rattle.partition_defs.specs.Sets.{AreSame}
use Rattle.partition_defs.specs.Triangulation.{AreDistinct}
use Rattle.partition_defs.proofs.laws.Joined.{among_joins, same_lists}
use Rattle.replay.specs.Replayed.{Replayed, IsCore, state_of}
use Rattle.subdivision.specs.Listing.{IsSortedFrom}
use Rattle.subdivision.proofs.laws.Sorting.{sorted_ascends}
use Rattle.report_check.specs.Replays.{IsSortedOf}

pub sorted_of : (pairs list : List Pair) → AreDistinct pairs → IsSortedFrom pairs list → length list ≡ length pairs → IsSortedOf pairs list
sorted_of pairs list distinct so count = record {
  ascending = sorted_ascends pairs list distinct so;
  same = λ i j. (λ h. among_joins list pairs (λ e k. (so.members e).0 k) i j h, λ h. among_joins pairs list (λ e k. (so.members e).1 k) i j h);
  count = count;
}

-- the kept pairs of a core ascend
pub kept_ascending : (c : Replayed) → IsCore c → IsAscending (state_of c).kept
kept_ascending c core = core.sound.kept_ascending

pub same_as_sorted : (kept pairs list : List Pair) → IsSortedOf pairs list → kept ≡ list → AreSame kept pairs
same_as_sorted kept pairs list so is = subst (λ K. AreSame K pairs) (sym is) so.same

pub sorted_as_same : (kept pairs list : List Pair) → IsAscending kept → IsSortedOf pairs list → AreSame kept pairs → kept ≡ list
sorted_as_same kept pairs list a so same = same_lists kept list a so.ascending (λ i j. (λ h. (so.same i j).1 ((same i j).0 h), λ h. (same i j).1 ((so.same i j).0 h)))
