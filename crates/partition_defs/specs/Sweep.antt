-- The sweep triangulation's segments. (This project's own choice of a fixed start, after the textbook's sweep.)
use Rattle.std.specs.Prelude.{◌≡◌, ℕ, ◌<◌, ◌⊎◌, List, length, ◌<ℤ◌}
use Rattle.plane.specs.declared.coordinates.Point.{Point}
use Rattle.plane.specs.declared.segment.Pair.{Pair}
use Rattle.plane.specs.Geometry.{point, IsClear, AreCrossing}
use Rattle.std.specs.List.{Contains}

-- the sweep meets the point k before the point l: by x, then by y
abbrev pub IsSweptBefore : List Point → (k l : ℕ) → Type 0
IsSweptBefore S k l =
    ((point S k).x <ℤ (point S l).x) ⊎ (((point S k).x ≡ (point S l).x) × ((point S k).y <ℤ (point S l).y))

-- the sweep meets k before the later one of i and j
abbrev pub IsSweptBeforeLater : List Point → (k i j : ℕ) → Type 0
IsSweptBeforeLater S k i j = IsSweptBefore S k i ⊎ IsSweptBefore S k j

-- a sweep pair is clear and crosses no pair of two points that both come before the later of its ends
abbrev pub IsSweepPair : List Point → (i j : ℕ) → Type 0
IsSweepPair S i j = IsClear S i j
    × ((k l : ℕ) → k < length S → l < length S → IsSweptBeforeLater S k i j → IsSweptBeforeLater S l i j → ¬ AreCrossing S i j k l)

abbrev pub AreSweepPairs : List Point → List Pair → Type 0
AreSweepPairs S T = (e : Pair) → Contains T e → IsSweepPair S e.lo e.hi
