-- The sweep at its end.
use Rattle.std.proofs.Common.{◌≡◌, ◌≢◌, ℕ, zero, suc, ◌<◌, ◌≤◌, ◌+◌, ◌*◌, List, [], ◌∷◌, length, arith}
use Rattle.plane.specs.declared.coordinates.Point.{Point}
use Rattle.plane.specs.declared.segment.Pair.{Pair}
use Rattle.plane.specs.Accepted.{AreAccepted}
use Rattle.partition_defs.specs.Triangulation.{AreDistinct}
use Rattle.partition_defs.specs.Sweep.{IsSweptBefore}
use Rattle.triangulate.specs.Sides.{UpTo}
use Rattle.triangulate.specs.Swept.{AreWhole, IsSweptWhole}
use Rattle.triangulate.specs.Start.{IsStart}
use Rattle.triangulate.proofs.Triangulated.{is_triangulation, are_sweep_pairs, is_sweep_set}
use Rattle.triangulate.proofs.Border.{triangulation_count}

other_point : (z n : ℕ) → 2 ≤ n → (u : ℕ) × (u < n) × (u ≢ z)
other_point zero n h = (1, omega arith, λ e. omega arith)
other_point (suc z) n h = (0, omega arith, λ e. omega arith)

chains_done : (S : List Point) → AreAccepted S → (T : List Pair) (l l2 : List ℕ) (z : ℕ) → AreWhole S T l l2 z → ((s : ℕ) → s < length S → UpTo (IsSweptBefore S) s z)
    → AreDistinct T → length T + length l + length l2 + 1 ≡ 3 * length S → IsStart S T
chains_done S acc T [] l2 z h all d count = absurd h
chains_done S acc T (t ∷ r) [] z h all d count = absurd h
chains_done S acc T (t ∷ r) (t2 ∷ r2) z h all d count =
    let o = other_point z (length S) (let c : 3 ≤ length S = acc.count.0 in omega arith) in
    record {
      distinct = d;
      triangulation = is_triangulation S acc.apart T r r2 z o.0 h.2 all o.1 o.2;
      count = triangulation_count S acc.apart acc.spread T r r2 z h.2 all count;
      sweep = are_sweep_pairs S acc.apart T r r2 z h.2;
      set = is_sweep_set S acc.apart T r r2 z h.2 all;
    }

pub done : (S : List Point) (T : List Pair) (l l2 : List ℕ) → IsSweptWhole S T l l2 → IsStart S T
done S T l l2 h = chains_done S h.accepted T l l2 h.z h.swept.chains h.all h.swept.distinct h.swept.count
