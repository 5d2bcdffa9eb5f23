-- The start, sorted, is still the start.
use Rattle.std.proofs.Common.{◌≡◌, ℕ, ◌+◌, ◌↔◌, List, length, Result, Ok, Err, IfOk, sym, ◌∙◌, ap, subst}
use Rattle.std.specs.List.{Contains}
use Rattle.plane.specs.declared.coordinates.Point.{Point}
use Rattle.plane.specs.declared.segment.Pair.{Pair}
use Rattle.partition_defs.specs.Ascending.{IsAscending}
use Rattle.partition_defs.specs.Sets.{AreSame}
use Rattle.subdivision.specs.Layout.{Layout, IsSubdivision}
use Rattle.subdivision.specs.Listing.{IsSortedFrom}
use Rattle.partition_defs.proofs.laws.Joined.{triangulation_same, same_lists, among_joins}
use Rattle.subdivision.proofs.laws.Sorting.{sorted_ascends}
use Rattle.triangulate.specs.Start.{IsStart, IsSortedStart}

same_members : (T U : List Pair) → ((e : Pair) → Contains U e ↔ Contains T e) → AreSame T U
same_members T U members i j = (among_joins T U (λ e. (members e).1) i j, among_joins U T (λ e. (members e).0) i j)

pub sorted_start : (S : List Point) (old new : List Pair) → IsStart S old → IsSortedFrom old new → length new ≡ length old → IsSortedStart S new
sorted_start S old new start sorted count =
    let same = same_members old new sorted.members in
    record {
      ascending = sorted_ascends old new start.distinct sorted;
      start = record {
        distinct = sorted.distinct start.distinct;
        triangulation = triangulation_same S old new same start.triangulation;
        count = λ B list. ap (λ (m : ℕ). m + length B + 3) count ∙ start.count B list;
        sweep = λ e h. start.sweep e ((sorted.members e).0 h);
        set = λ i j h k. (λ joins. (start.set i j h k).0 ((same i j).1 joins), λ sweep. (same i j).0 ((start.set i j h k).1 sweep));
      };
    }

-- a subdivision with the same segments as an ascending list has this list
pub has_list : (P : List Pair → Type 0) (T : List Pair) {E : Type 0} (r : Result Layout E) → IsAscending T → P T → IfOk r (λ s. AreSame s.all T) → IfOk r IsSubdivision → IfOk r (λ s. P s.all)
has_list P T (Ok s) ascends holds same own = subst P (sym (same_lists s.all T own.ascending ascends same)) holds
has_list P T (Err e) ascends holds same own = tt
