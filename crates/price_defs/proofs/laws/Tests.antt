-- The tests answer exactly their relations.
use Rattle.std.proofs.Common.{◌≡◌, ℕ, ℤ, pos, Bool, false, List, ap, arith}
use Rattle.std.specs.Prelude.{not, ◌&&◌, ◌||◌, nat_eq, int_lt, ◌<ℤ◌}
use Rattle.std.specs.Ordering.{int_eq}
use Rattle.std.specs.Bool.{Decides}
use Rattle.std.proofs.lemmas.Bool.{false≢true}
use Rattle.std.proofs.lemmas.Int.{ints}
use Rattle.std.proofs.lemmas.Bool.Decides.{Decides-eqb, Decides-int_eq, Decides-not, Decides-and, Decides-or, Decides-like}
use Rattle.plane.specs.declared.coordinates.Point.{Point}
use Rattle.plane.specs.declared.segment.Pair.{Pair}
use Rattle.plane.specs.Geometry.{point, scalar, orientation, IsBetween, IsInNeed}
use Rattle.plane.proofs.laws.Pairs.{pair_same}
use Rattle.partition_defs.specs.Partition.{HasEnds}
use Rattle.price_defs.specs.declared.row.Row.{Row}
use Rattle.price_defs.specs.declared.row.Row.TheVariants.{Half, Three, Cross, Cap}
use Rattle.cost_defs.specs.Costs.{has_ends}
use Rattle.price_defs.specs.Rows.{Counts, Lessens, is_between, in_need, counts, lessens}

Decides-false : Decides false ⊥
Decides-false = (λ e. false≢true e, λ f. absurd f)

Decides-int_lt : (a b : ℤ) → Decides (int_lt a b) (a <ℤ b)
Decides-int_lt a b = (λ e. grind (arith, ints), λ h. grind (arith, ints))

pub has_ends_decides : (e : Pair) (i j : ℕ) → Decides (has_ends e i j) (HasEnds e i j)
has_ends_decides e i j =
    Decides-or (nat_eq e.lo i && nat_eq e.hi j) (nat_eq e.lo j && nat_eq e.hi i)
    (Decides-and (nat_eq e.lo i) (nat_eq e.hi j) (Decides-eqb e.lo i) (Decides-eqb e.hi j))
    (Decides-and (nat_eq e.lo j) (nat_eq e.hi i) (Decides-eqb e.lo j) (Decides-eqb e.hi i))

-- whether two pairs are the same
abbrev pub same_pair : (e f : Pair) → Bool
same_pair e f = nat_eq e.lo f.lo && nat_eq e.hi f.hi

pub same_pair_decides : (e f : Pair) → Decides (same_pair e f) (e ≡ f)
same_pair_decides e f =
    Decides-like (same_pair e f) (λ h. pair_same e f h.0 h.1) (λ h. (ap (λ (x : Pair). x.lo) h, ap (λ (x : Pair). x.hi) h))
    (Decides-and (nat_eq e.lo f.lo) (nat_eq e.hi f.hi) (Decides-eqb e.lo f.lo) (Decides-eqb e.hi f.hi))

pub is_between_decides : (S : List Point) (p q r : ℕ) → Decides (is_between S p q r) (IsBetween S p q r)
unfolding is_between
is_between_decides S p q r =
    Decides-and (int_eq (orientation S q p r) (pos 0)) (int_lt (scalar (point S p) (point S q) (point S r)) (pos 0))
    (Decides-int_eq (orientation S q p r) (pos 0)) (Decides-int_lt (scalar (point S p) (point S q) (point S r)) (pos 0))

pub in_need_decides : (S : List Point) (p q r : ℕ) → Decides (in_need S p q r) (IsInNeed S p q r)
unfolding in_need
in_need_decides S p q r =
    Decides-and (not (nat_eq r p)) (int_lt (pos 0) (orientation S p q r) || is_between S p q r)
    (Decides-not (nat_eq r p) (Decides-eqb r p))
    (Decides-or (int_lt (pos 0) (orientation S p q r)) (is_between S p q r) (Decides-int_lt (pos 0) (orientation S p q r)) (is_between_decides S p q r))

pub counts_decides : (S : List Point) (row : Row) (i j : ℕ) → Decides (counts S row i j) (Counts S row i j)
unfolding counts
counts_decides S (Half p q w) i j =
    Decides-or (nat_eq i p && in_need S p q j) (nat_eq j p && in_need S p q i)
    (Decides-and (nat_eq i p) (in_need S p q j) (Decides-eqb i p) (in_need_decides S p q j))
    (Decides-and (nat_eq j p) (in_need S p q i) (Decides-eqb j p) (in_need_decides S p q i))
counts_decides S (Three p w) i j = Decides-or (nat_eq i p) (nat_eq j p) (Decides-eqb i p) (Decides-eqb j p)
counts_decides S (Cross e f w) i j = Decides-false
counts_decides S (Cap e w) i j = Decides-false

pub lessens_decides : (row : Row) (i j : ℕ) → Decides (lessens row i j) (Lessens row i j)
unfolding lessens
lessens_decides (Half p q w) i j = Decides-false
lessens_decides (Three p w) i j = Decides-false
lessens_decides (Cross e f w) i j = Decides-or (has_ends e i j) (has_ends f i j) (has_ends_decides e i j) (has_ends_decides f i j)
lessens_decides (Cap e w) i j = has_ends_decides e i j
