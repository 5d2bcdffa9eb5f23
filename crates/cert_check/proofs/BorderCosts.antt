-- The cost of the border pairs, step by step along the border.
use Rattle.std.proofs.Common.{◌≡◌, ◌≢◌, ℕ, ◌+◌, ◌<◌, ◌≤◌, inl, inr, List, [], ◌∷◌, length, min, max, sym, ◌∙◌, subst, arith}
use Rattle.std.proofs.lemmas.Bool.{cases_lt}
use Rattle.std.proofs.lemmas.List.Elements.{Contains-get_or}
use Rattle.std.proofs.lemmas.List.Kept.{AllPairs-cons}
use Rattle.std.proofs.lemmas.List.Sums.{sum_by-cons}
use Rattle.plane.specs.declared.coordinates.Point.{Point}
use Rattle.plane.specs.declared.coordinates.Turn.TheVariants.{Left}
use Rattle.plane.specs.declared.segment.Pair.{Pair}
use Rattle.plane.specs.Accepted.{AreAccepted}
use Rattle.plane.specs.Geometry.{IsBorderPair}
use Rattle.plane.specs.Hull.{IsBorderStep}
use Rattle.plane.proofs.laws.Border.{step_of_border, border_of_left, border_back, left_step_once, left_of_right}
use Rattle.partition_defs.specs.Partition.{HasEnds, Joins}
use Rattle.partition_defs.specs.Triangulation.{IsBorderList}
use Rattle.partition_defs.proofs.laws.Has.{has_of, contains_of}
use Rattle.partition_defs.proofs.laws.Joined.{joined, joins_of, join_back, ends_of_new}
use Rattle.cost_defs.specs.Costs.{Costed, cost, total}
use Rattle.number_laws.proofs.ListSums.{contains_cases, contains_here, contains_later}
use Rattle.price_defs.proofs.laws.Duality.{border_cost_once}
use Rattle.cert_check.specs.BorderCosts.{IsStepBelow, AreSteps}
use Rattle.cert_check.specs.Answers.{HasBorderCost}
use Rattle.cert_check.proofs.Turning.{no_step_back}

joins_later : (e : Pair) (list : List Pair) (i j : ℕ) → Joins list i j → Joins (e ∷ list) i j
joins_later e list i j h = (let (f, has, ends) = joined list i j h in joins_of (e ∷ list) f i j (has_of (e ∷ list) f (contains_later e list f (contains_of list f has))) ends)

-- a later step isn't one of the earlier pairs
fresh : (S : List Point) (v w : ℕ) (e f : Pair) → AreAccepted S → v < length S → HasEnds e v w → IsBorderStep S Left v w → IsStepBelow S v f → e ≢ f
fresh S v w e f ok vn ends step below same =
    let g : HasEnds e below.v below.w = subst (λ x. HasEnds x below.v below.w) (sym same) below.ends in
    let lt : below.v < v = below.below in
    elim ends [
      | inl a ↦ elim g [
        | inl b ↦ omega (arith, a.0, b.0)
        | inr b ↦ (let x : below.v ≡ w = sym b.1 ∙ a.1 in let y : below.w ≡ v = sym b.0 ∙ a.0 in
            no_step_back S v w ok vn step (subst (λ n. IsBorderStep S Left w n) y (subst (λ n. IsBorderStep S Left n below.w) x below.step)))
      ]
      | inr a ↦ elim g [
        | inl b ↦ (let x : below.v ≡ w = sym b.0 ∙ a.0 in let y : below.w ≡ v = sym b.1 ∙ a.1 in
            no_step_back S v w ok vn step (subst (λ n. IsBorderStep S Left w n) y (subst (λ n. IsBorderStep S Left n below.w) x below.step)))
        | inr b ↦ omega (arith, a.1, b.1)
      ]
    ]

below_more : (S : List Point) (k : ℕ) (e : Pair) → IsStepBelow S k e → IsStepBelow S (k + 1) e
below_more S k e h = record { v = h.v; w = h.w; below = (let l : h.v < k = h.below in omega arith); ends = h.ends; step = h.step }

-- one step more
pub steps_more : (S : List Point) (D : List Costed) (v w h c : ℕ) (e : Pair) → AreAccepted S → v < length S → IsBorderStep S Left v w → e.lo ≡ min v w → e.hi ≡ max v w → c ≡ cost D e.lo e.hi → c ≤ 1000
    → AreSteps S D v h → AreSteps S D (v + 1) (h + c)
steps_more S D v w h c e ok vn step lo hi is small steps =
    let ends : HasEnds e v w = ends_of_new e v w lo hi in
    record {
      list = e ∷ steps.list;
      distinct = AllPairs-cons (λ x y. x ≢ y) e steps.list (λ k d l. fresh S v w e _ ok vn ends step (steps.steps _ (Contains-get_or steps.list k d l))) steps.distinct;
      within = λ f m. elim (contains_cases e steps.list f m) [
        | inl s ↦ (let b : w < length S = step.within in subst (λ x. x.hi < length S) s (omega (arith, hi)))
        | inr g ↦ steps.within f g
      ];
      steps = λ f m. elim (contains_cases e steps.list f m) [
        | inl s ↦ subst (IsStepBelow S (v + 1)) s (record { v = v; w = w; below = omega arith; ends = ends; step = step })
        | inr g ↦ below_more S v f (steps.steps f g)
      ];
      all = λ x y l s. elim (cases_lt x v) [
        | inl m ↦ joins_later e steps.list x y (steps.all x y m s)
        | inr g ↦
            let q : v ≡ x = omega arith in
            let t : IsBorderStep S Left v y = subst (λ n. IsBorderStep S Left n y) (sym q) s in
            let r : w ≡ y = left_step_once S v w y ok vn step t in
            joins_of (e ∷ steps.list) e x y (has_of (e ∷ steps.list) e (contains_here e steps.list)) (subst (λ n. HasEnds e x n) r (subst (λ n. HasEnds e n w) q ends))
      ];
      cost = omega (arith, steps.cost, is, sum_by-cons (λ (x : Pair). cost D x.lo x.hi) e steps.list);
      small = omega (arith, steps.small);
    }

pub steps_less : (S : List Point) (D : List Costed) (v h : ℕ) → ((w : ℕ) → ¬ IsBorderStep S Left v w) → AreSteps S D v h → AreSteps S D (v + 1) h
steps_less S D v h none steps = record {
  list = steps.list;
  distinct = steps.distinct;
  within = steps.within;
  steps = λ f m. below_more S v f (steps.steps f m);
  all = λ x y l s. elim (cases_lt x v) [
    | inl m ↦ steps.all x y m s
    | inr g ↦ (let q : x ≡ v = omega arith in absurd (none y (subst (λ n. IsBorderStep S Left n y) q s)))
  ];
  cost = steps.cost;
  small = omega (arith, steps.small);
}

pub steps_none : (S : List Point) (D : List Costed) → AreSteps S D 0 0
steps_none S D = record {
  list = [];
  distinct = λ i j d l m. absurd (omega arith);
  within = λ e c. absurd (omega (arith, c.1));
  steps = λ e c. absurd (omega (arith, c.1));
  all = λ v w l s. absurd (omega arith);
  cost = omega arith;
  small = omega arith;
}

pub steps_all : (S : List Point) (D : List Costed) (h : ℕ) → AreSteps S D (length S) h → HasBorderCost S D h
steps_all S D h steps = (steps.list, record { within = steps.within; distinct = steps.distinct; exact = λ i j ij jn. (there i j, back i j ij jn) }, steps.cost)
  where
    there : (i j : ℕ) → Joins steps.list i j → IsBorderPair S i j
    there i j h = (let (e, has, ends) = joined steps.list i j h in
        let s : IsStepBelow S (length S) e = steps.steps e (contains_of steps.list e has) in
        let p : IsBorderPair S s.v s.w = border_of_left S s.v s.w s.step in
        elim ends [
          | inl a ↦ elim s.ends [
            | inl b ↦ subst (λ n. IsBorderPair S i n) (sym b.1 ∙ a.1) (subst (λ n. IsBorderPair S n s.w) (sym b.0 ∙ a.0) p)
            | inr b ↦ border_back S j i (subst (λ n. IsBorderPair S j n) (sym b.0 ∙ a.0) (subst (λ n. IsBorderPair S n s.w) (sym b.1 ∙ a.1) p))
          ]
          | inr a ↦ elim s.ends [
            | inl b ↦ border_back S j i (subst (λ n. IsBorderPair S j n) (sym b.1 ∙ a.1) (subst (λ n. IsBorderPair S n s.w) (sym b.0 ∙ a.0) p))
            | inr b ↦ subst (λ n. IsBorderPair S i n) (sym b.0 ∙ a.0) (subst (λ n. IsBorderPair S n s.w) (sym b.1 ∙ a.1) p)
          ]
        ])

    back : (i j : ℕ) → i < j → j < length S → IsBorderPair S i j → Joins steps.list i j
    back i j ij jn p = elim (step_of_border S i j jn (λ e. absurd (omega arith)) p) [
      | inl s ↦ steps.all i j (omega arith) s
      | inr s ↦ join_back steps.list j i (steps.all j i jn (left_of_right S i j (omega arith) s))
    ]

-- it is the cost of every list of the border pairs
pub cost_of_list : (S : List Point) (D : List Costed) (h : ℕ) (B : List Pair) → HasBorderCost S D h → IsBorderList S B → h ≡ total D B
cost_of_list S D h B has list = has.2 ∙ border_cost_once S D has.0 B has.1 list
