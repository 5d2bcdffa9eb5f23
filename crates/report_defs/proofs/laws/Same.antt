-- Being a convex partition, and a minimal one, is a matter of membership.
use Rattle.std.proofs.Common.{◌≡◌, ℕ, ◌<◌, List, length, sym, subst, inl, inr}
use Rattle.std.specs.List.{Contains}
use Rattle.plane.specs.declared.coordinates.Point.{Point}
use Rattle.plane.specs.declared.segment.Pair.{Pair}
use Rattle.partition_defs.specs.Partition.{HasEnds, Joins, IsConvexPartition}
use Rattle.partition_defs.specs.Sets.{without, AreSame, IsMinimal}
use Rattle.partition_defs.proofs.laws.Joined.{contains_same}
use Rattle.partition_defs.proofs.laws.Sets.{joins_without, without_joins}

pub same_back : (K L : List Pair) → AreSame K L → AreSame L K
same_back K L same i j = ((same i j).1, (same i j).0)

pub same_trans : (K L M : List Pair) → AreSame K L → AreSame L M → AreSame K M
same_trans K L M a b i j = (λ h. (b i j).0 ((a i j).0 h), λ h. (a i j).1 ((b i j).1 h))

pub partition_same : (S : List Point) (K L : List Pair) → AreSame K L → IsConvexPartition S K → IsConvexPartition S L
partition_same S K L same part =
    let back = same_back K L same in
    record {
      within = λ e h. part.within e (contains_same L K back e h);
      clear = λ e h. part.clear e (contains_same L K back e h);
      plane = λ e f h k. part.plane e f (contains_same L K back e h) (contains_same L K back f k);
      border = λ i j ij hj b. (same i j).0 (part.border i j ij hj b);
      needs = λ p hp inner q hq qp. (let (r, hr, join, need) = part.needs p hp inner q hq qp in (r, hr, (same p r).0 join, need));
    }

pub without_same : (K L : List Pair) (e : Pair) → AreSame K L → AreSame (without e K) (without e L)
without_same K L e same i j = (
  λ h. (let (a, b) = joins_without e K i j h in without_joins e L i j ((same i j).0 a) b),
  λ h. (let (a, b) = joins_without e L i j h in without_joins e K i j ((same i j).1 a) b),
)

pub minimal_same : (S : List Point) (K L : List Pair) → AreSame K L → IsMinimal S K → IsMinimal S L
minimal_same S K L same minimal e h part =
    let back = same_back K L same in
    minimal e (contains_same L K back e h) (partition_same S (without e L) (without e K) (without_same L K e back) part)
