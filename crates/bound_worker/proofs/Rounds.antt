-- A round: its trial is valid, and what Cross and Cap rows take off stays.
use Rattle.std.proofs.Common.{◌≡◌, ◌≢◌, ℕ, zero, suc, ◌+◌, ◌*◌, ◌-◌, ◌%◌, ◌<◌, ◌≤◌, List, [], ◌∷◌, length, Bool, true, false, cond, sym, ◌∙◌, ap, refl, subst, arith}
use Rattle.std.specs.Prelude.{nat_le, slice_index}
use Rattle.std.specs.List.{sum_by}
use Rattle.std.proofs.lemmas.Bool.{leb-true, le-leb, false≢true}
use Rattle.plane.specs.declared.coordinates.Point.{Point}
use Rattle.cost_defs.specs.Costs.{Costed}
use Rattle.price_defs.specs.declared.row.Row.{Row}
use Rattle.price_defs.specs.declared.row.Row.TheVariants.{Half}
use Rattle.price_defs.specs.Rows.{IsRight}
use Rattle.price_defs.specs.Loads.{IsValid, lost, value}
use Rattle.price_defs.specs.Floor.{IsInnerList}
use Rattle.raise_laws.proofs.laws.Raises.{raised_valid}
use Rattle.search_defs.specs.Priced.{lowered, opened, IsTrial, taken_of, other_than, IsRound, AreRounds}
use Rattle.search_defs.specs.Words.{stream_word, round_words}
use Rattle.search_defs.proofs.laws.Trials.{lowered_valid, opened_valid, lifted_valid, round_right}
use Rattle.search_defs.proofs.laws.Words.{words_left}
use Rattle.bound_worker.proofs.Lists.{lowered_lost, opened_lost, trial_lost, taken_lost}

pub ready_valid : (S : List Point) (D : List Costed) (q p r : ℕ) (rows : List Row) → IsRight S (Half p r 0) → IsValid S D q rows → IsValid S D q (opened p r (lowered p rows))
ready_valid S D q p r rows right valid = opened_valid S D q p r (lowered p rows) right (lowered_valid S D q p rows valid)

pub ready_lost : (p r : ℕ) (rows : List Row) → sum_by lost (opened p r (lowered p rows)) ≡ sum_by lost rows
ready_lost p r rows = opened_lost p r (lowered p rows) ∙ lowered_lost p rows

pub trial_valid : (S : List Point) (D : List Costed) (q p r : ℕ) (rows out : List Row) → IsRight S (Half p r 0) → IsTrial S D q p r rows out → IsValid S D q rows → IsValid S D q out
trial_valid S D q p r rows out right (mid, lifted, raised) valid =
    raised_valid S D q mid out raised (lifted_valid S D q p r (opened p r (lowered p rows)) mid lifted (ready_valid S D q p r rows right valid))

-- the points of a round
pub record HasDrawn (S : List Point) (inner : List ℕ) (a b p r : ℕ) : Type 0 where
  pub first : p ≡ slice_index inner (a % length inner)
  pub second : r ≡ other_than p (b % (length S - 1))

pub drawn_right : (S : List Point) (inner : List ℕ) (a b p r : ℕ) → HasDrawn S inner a b p r → 3 ≤ length S → IsInnerList S inner → 0 < length inner → IsRight S (Half p r 0)
drawn_right S inner a b p r drawn many list some =
    subst (λ x. IsRight S (Half p x 0)) (sym drawn.second)
    (subst (λ x. IsRight S (Half x (other_than x (b % (length S - 1))) 0)) (sym drawn.first) (round_right S inner a b many list some))

round_of : (S : List Point) (D : List Costed) (q : ℕ) (inner : List ℕ) (a b p r : ℕ) (rows trial out : List Row) → HasDrawn S inner a b p r → IsTrial S D q p r rows trial → out ≡ taken_of q rows trial
    → IsRound S D q inner a b rows out
round_of S D q inner a b p r rows trial out drawn is so = (
  trial,
  subst (λ x. IsTrial S D q x (other_than x (b % (length S - 1))) rows trial) drawn.first (subst (λ x. IsTrial S D q p x rows trial) drawn.second is),
  so,
)

taken_when : (c : Bool) (rows trial : List Row) → c ≡ true → trial ≡ cond c trial rows
taken_when true rows trial h = refl
taken_when false rows trial h = absurd (false≢true h)

left_when : (c : Bool) (rows trial : List Row) → c ≡ false → rows ≡ cond c trial rows
left_when false rows trial h = refl
left_when true rows trial h = absurd (false≢true (sym h))

not_le : (m n : ℕ) → n < m → nat_le m n ≡ false
not_le m n h = elim (nat_le m n) as (λ t. nat_le m n ≡ t → t ≡ false) [ true ↦ λ e. absurd (let l : m ≤ n = leb-true m n e in omega arith) | false ↦ λ e. refl ] refl

-- a trial of no smaller value is taken
pub round_taken : (S : List Point) (D : List Costed) (q : ℕ) (inner : List ℕ) (a b p r : ℕ) (rows trial : List Row) → HasDrawn S inner a b p r → IsTrial S D q p r rows trial
    → value 0 q rows ≤ value 0 q trial → IsRound S D q inner a b rows trial
round_taken S D q inner a b p r rows trial drawn is le =
    round_of S D q inner a b p r rows trial trial drawn is (taken_when (nat_le (value 0 q rows) (value 0 q trial)) rows trial (le-leb (value 0 q rows) (value 0 q trial) le))

-- and one of smaller value is not
pub round_left : (S : List Point) (D : List Costed) (q : ℕ) (inner : List ℕ) (a b p r : ℕ) (rows trial : List Row) → HasDrawn S inner a b p r → IsTrial S D q p r rows trial
    → value 0 q trial < value 0 q rows → IsRound S D q inner a b rows rows
round_left S D q inner a b p r rows trial drawn is less =
    round_of S D q inner a b p r rows trial rows drawn is (left_when (nat_le (value 0 q rows) (value 0 q trial)) rows trial (not_le (value 0 q rows) (value 0 q trial) less))

taken_valid : (S : List Point) (D : List Costed) (q : ℕ) (rows trial : List Row) → IsValid S D q rows → IsValid S D q trial → IsValid S D q (taken_of q rows trial)
taken_valid S D q rows trial a b = elim (nat_le (value 0 q rows) (value 0 q trial)) as (λ t. IsValid S D q (cond t trial rows)) [ true ↦ b | false ↦ a ]

-- what a round keeps
pub round_keeps : (S : List Point) (D : List Costed) (q : ℕ) (inner : List ℕ) (a b : ℕ) (rows out : List Row) → 3 ≤ length S → IsInnerList S inner → 0 < length inner → IsRound S D q inner a b rows out → IsValid S D q rows
    → IsValid S D q out × (sum_by lost out ≡ sum_by lost rows)
round_keeps S D q inner a b rows out many list some (trial, is, so) valid =
    let p : ℕ = slice_index inner (a % length inner) in
    let r : ℕ = other_than p (b % (length S - 1)) in
    let v : IsValid S D q trial = trial_valid S D q p r rows trial (round_right S inner a b many list some) is valid in
    (subst (IsValid S D q) (sym so) (taken_valid S D q rows trial valid v), ap (sum_by lost) so ∙ taken_lost q (sum_by lost rows) rows trial refl (trial_lost S D q p r rows trial is))

-- one round more, of those that are left
pub rounds_more : (S : List Point) (D : List Costed) (q : ℕ) (inner : List ℕ) (stream seed k rounds a b : ℕ) (rows mid out : List Row) → k < rounds → a ≡ stream_word stream seed (2 * k) → b ≡ stream_word stream seed (2 * k + 1)
    → IsRound S D q inner a b rows mid → AreRounds S D q inner (round_words stream seed (k + 1) (rounds - (k + 1))) mid out → AreRounds S D q inner (round_words stream seed k (rounds - k)) rows out
rounds_more S D q inner stream seed k rounds a b rows mid out l ea eb round later =
    subst (λ ws. AreRounds S D q inner ws rows out) (sym (words_left stream seed k rounds l)) (
      mid,
      subst (λ x. IsRound S D q inner (stream_word stream seed (2 * k)) x rows mid) eb (subst (λ x. IsRound S D q inner x b rows mid) ea round),
      later,
    )

pub rounds_end : (S : List Point) (D : List Costed) (q : ℕ) (inner : List ℕ) (stream seed k rounds : ℕ) (rows : List Row) → rounds ≤ k → AreRounds S D q inner (round_words stream seed k (rounds - k)) rows rows
rounds_end S D q inner stream seed k rounds rows l = subst (λ n. AreRounds S D q inner (round_words stream seed k n) rows rows) (let e : 0 ≡ rounds - k = omega arith in e) refl

pub words_some : (stream seed k rounds : ℕ) → 0 < rounds → round_words stream seed k rounds ≢ []
words_some stream seed k zero h e = absurd (omega arith)
words_some stream seed k (suc rounds) h e = cc

pub inner_some : (inner : List ℕ) → 0 < length inner → inner ≢ []
inner_some [] h e = absurd (omega arith)
inner_some (p ∷ ps) h e = cc
