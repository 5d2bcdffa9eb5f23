-- All pairs of n points, in rows by their smaller ends, ascend, and so does each choice among them.
use Rattle.std.proofs.Common.{◌≡◌, ℕ, ◌+◌, ◌<◌, ◌≤◌, zero, suc, Bool, filter, inl, inr, arith, sym, ap}
use Rattle.std.proofs.lemmas.Bool.{cases_lt}
use Rattle.std.proofs.lemmas.List.Kept.{AllPairs-filter}
use Rattle.plane.specs.declared.segment.Pair.{Pair}
use Rattle.plane.proofs.laws.Pairs.{pair_same}
use Rattle.partition_defs.specs.Ascending.{ComesFirst, IsAscending}
use Rattle.partition_defs.proofs.laws.Has.{Has, Rises, has_append, append_has, rises_append, ascending_of}
use Rattle.subdivision.specs.Every.{upward, row, rows, every_pair}

has_row : (v j m : ℕ) (e : Pair) → Has e (row v j m) → (e.lo ≡ v) × (v + 1 + j ≤ e.hi) × (e.hi < v + 1 + j + m)
has_row v j zero e h = absurd h
has_row v j (suc m) e (inl h) = let a : v ≡ e.lo = ap (λ (p : Pair). p.lo) h in let b : v + 1 + j ≡ e.hi = ap (λ (p : Pair). p.hi) h in (sym a, omega arith, omega arith)
has_row v j (suc m) e (inr h) = let r = has_row v (suc j) m e h in (r.0, omega (arith, r.1), omega (arith, r.2))

row_has : (v j m : ℕ) (e : Pair) → e.lo ≡ v → v + 1 + j ≤ e.hi → e.hi < v + 1 + j + m → Has e (row v j m)
row_has v j zero e a b c = absurd (omega arith)
row_has v j (suc m) e a b c = elim (cases_lt (v + 1 + j) e.hi) [
  | inl h ↦ inr (row_has v (suc j) m e a (omega arith) (omega arith))
  | inr h ↦ inl (pair_same (upward v j) e (sym a) (omega arith))
]

rises_row : (v j m : ℕ) → Rises (row v j m)
rises_row v j zero = tt
rises_row v j (suc m) = (λ y h. (let r = has_row v (suc j) m y h in inr (sym r.0, omega (arith, r.1))), rises_row v (suc j) m)

pub has_rows : (v m : ℕ) (e : Pair) → Has e (rows v m) → (v ≤ e.lo) × (e.hi < v + m)
has_rows v zero e h = absurd h
has_rows v (suc m) e h = elim (has_append (row v 0 m) (rows (suc v) m) e h) [
  | inl k ↦ (let r = has_row v 0 m e k in (omega (arith, r.0), omega (arith, r.2)))
  | inr k ↦ (let r = has_rows (suc v) m e k in (omega (arith, r.0), omega (arith, r.1)))
]

pub rows_has : (v m : ℕ) (e : Pair) → v ≤ e.lo → e.hi < v + m → Has e (rows v m)
rows_has v zero e a b = absurd (omega (arith, e.ordered))
rows_has v (suc m) e a b = append_has (row v 0 m) (rows (suc v) m) e (elim (cases_lt v e.lo) [
  | inl h ↦ inr (rows_has (suc v) m e (omega arith) (omega arith))
  | inr h ↦ inl (row_has v 0 m e (omega arith) (omega (arith, e.ordered)) (omega arith))
])

rises_rows : (v m : ℕ) → Rises (rows v m)
rises_rows v zero = tt
rises_rows v (suc m) = rises_append (row v 0 m) (rows (suc v) m) (rises_row v 0 m) (rises_rows (suc v) m) (λ e f a b. (let r = has_row v 0 m e a in let s = has_rows (suc v) m f b in inl (omega (arith, r.0, s.0))))

-- the segments that pass a test, ascending
pub chosen_ascending : (p : Pair → Bool) (n : ℕ) → IsAscending (filter p (every_pair n))
chosen_ascending p n = AllPairs-filter ComesFirst p (every_pair n) (ascending_of (every_pair n) (rises_rows 0 n))
