-- Words by their position, and the points of a scatter that they give.
use Rattle.std.proofs.Common.{◌≡◌, ℕ, zero, suc, ◌+◌, ◌*◌, ◌%◌, ◌<◌, List, [], ◌∷◌, ◌++◌, length, refl, ap, sym, ◌∙◌, arith}
use Rattle.std.proofs.lemmas.Grind.{common_steps}
use Rattle.rand_pcg.specs.Lcg.{Lcg, next, next_state, state_after}
use Rattle.rand_pcg.specs.Pcg.{multiplier_64, output_xsh_rr, pcg32}
use Rattle.plane.specs.declared.coordinates.Point.{Point}
use Rattle.plane.specs.Geometry.{point}
use Rattle.generator.specs.Words.{begun, at_position, word}
use Rattle.generator.specs.Kinds.{place, width, scatter_point}

step_last : (w m i n s : ℕ) → next_state w m i (state_after w m i n s) ≡ state_after w m i (suc n) s
unfolding state_after
step_last w m i zero s = refl
step_last w m i (suc n) s = step_last w m i n (next_state w m i s)

pub at_begin : (seed : ℕ) → begun seed ≡ at_position seed 0
unfolding state_after
at_begin seed = refl

-- the generator after its next word
pub at_next : (seed k l : ℕ) → l ≡ suc k → next 64 multiplier_64 (at_position seed k) ≡ at_position seed l
at_next seed k l e = ap (λ s. let g : Lcg = record { state = s; increment = (begun seed).increment } in g) (step_last 64 multiplier_64 (begun seed).increment k (begun seed).state) ∙ ap (at_position seed) (sym e)

pub word_at : (seed k : ℕ) → output_xsh_rr (at_position seed k).state ≡ word seed k
unfolding word
word_at seed k = refl

pub corner_points : (n seed k : ℕ) (S : List Point) → S ≡ place 0 0 ∷ place (width n) 0 ∷ place 0 (width n) ∷ [] → k < 3 → point S k ≡ scatter_point n seed k
corner_points n seed zero S e h = rw e refl
corner_points n seed (suc zero) S e h = rw e refl
corner_points n seed (suc (suc zero)) S e h = rw e refl
corner_points n seed (suc (suc (suc k))) S e h = absurd (omega arith)

-- the point in strip j
pub strip : (n seed j k : ℕ) (p : Point) (a b : ℕ) → k ≡ j + 3 → a ≡ word seed (2 * j) → b ≡ word seed (2 * j + 1) → p ≡ place (1000 * (j + 1) + a % 1000) (1 + b % width n) → p ≡ scatter_point n seed k
strip n seed j zero p a b e ea eb ep = absurd (omega arith)
strip n seed j (suc zero) p a b e ea eb ep = absurd (omega arith)
strip n seed j (suc (suc zero)) p a b e ea eb ep = absurd (omega arith)
strip n seed j (suc (suc (suc i))) p a b e ea eb ep =
    let same : i ≡ j = omega arith in rw (ep, ea, eb, same) refl

-- one more point at the end
pub one_more : (f : ℕ → Point) (S : List Point) (p : Point) (count : ℕ) → length S ≡ count → ((k : ℕ) → k < count → point S k ≡ f k) → p ≡ f count → (k : ℕ) → k < count + 1 → point (S ++ p ∷ []) k ≡ f k
one_more f S p count len each last k h = grind (arith, common_steps, each k)

-- two words one after the other
pub two_words : (seed j a b : ℕ) (g h i : Lcg) → g ≡ at_position seed (2 * j) → (a, h) ≡ pcg32 g → (b, i) ≡ pcg32 h → (a ≡ word seed (2 * j)) × (b ≡ word seed (2 * j + 1)) × (i ≡ at_position seed (2 * (j + 1)))
two_words seed j a b g h i eg eh ei =
    let first : a ≡ output_xsh_rr g.state = ap (λ (p : ℕ × Lcg). p.0) eh in
    let moved : h ≡ next 64 multiplier_64 g = ap (λ (p : ℕ × Lcg). p.1) eh in
    let second : b ≡ output_xsh_rr h.state = ap (λ (p : ℕ × Lcg). p.0) ei in
    let again : i ≡ next 64 multiplier_64 h = ap (λ (p : ℕ × Lcg). p.1) ei in
    let here : h ≡ at_position seed (2 * j + 1) = moved ∙ ap (next 64 multiplier_64) eg ∙ at_next seed (2 * j) (2 * j + 1) (omega arith) in (
      first ∙ ap (λ (s : Lcg). output_xsh_rr s.state) eg ∙ word_at seed (2 * j),
      second ∙ ap (λ (s : Lcg). output_xsh_rr s.state) here ∙ word_at seed (2 * j + 1),
      again ∙ ap (next 64 multiplier_64) here ∙ at_next seed (2 * j + 1) (2 * (j + 1)) (omega arith),
    )
