use Rattle.std.proofs.Common.{◌≡◌, ℕ, zero, suc, ◌+◌, List, [], ◌∷◌, ◌++◌, map, sym, ◌∙◌, ap, refl, arith}
use Rattle.index_sets.specs.Indices.{numbers_from}
use Rattle.workers.specs.declared.jobs.Job.{Job}
use Rattle.workers.specs.Jobs.{bound_job}
use Rattle.workers.proofs.jobs.add_bound_jobs.Goals as goal

-- one number more at the end
more : (s n : ℕ) → numbers_from s (suc n) ≡ numbers_from s n ++ (s + n) ∷ []
more s zero = let same : s ≡ s + 0 = omega arith in ap (λ (m : ℕ). m ∷ []) same
more s (suc n) = let same : suc s + n ≡ s + suc n = omega arith in ap (λ (ms : List ℕ). s ∷ ms) (more (suc s) n ∙ ap (λ (m : ℕ). numbers_from (suc s) n ++ m ∷ []) same)

jobs_append : (ms : List ℕ) (m : ℕ) → map bound_job (ms ++ m ∷ []) ≡ map bound_job ms ++ bound_job m ∷ []
jobs_append [] m = refl
jobs_append (k ∷ ms) m = ap (λ (js : List Job). bound_job k ∷ js) (jobs_append ms m)

apart : (xs ys zs : List Job) → (xs ++ ys) ++ zs ≡ xs ++ (ys ++ zs)
apart [] ys zs = refl
apart (x ∷ xs) ys zs = ap (λ (js : List Job). x ∷ js) (apart xs ys zs)

one_more : (old now new : List Job) (k : ℕ) → now ≡ old ++ map bound_job (numbers_from 1 k) → new ≡ now ++ bound_job (k + 1) ∷ [] → new ≡ old ++ map bound_job (numbers_from 1 (k + 1))
one_more old now new k is pushed =
    let back : 1 + k ≡ k + 1 = omega arith in
    let next : suc k ≡ k + 1 = omega arith in
    let last : map bound_job (numbers_from 1 k) ++ bound_job (k + 1) ∷ [] ≡ map bound_job (numbers_from 1 (k + 1)) =
    ap (λ (m : ℕ). map bound_job (numbers_from 1 k) ++ bound_job m ∷ []) (sym back)
    ∙ sym (jobs_append (numbers_from 1 k) (1 + k))
    ∙ ap (map bound_job) (sym (more 1 k))
    ∙ ap (λ (m : ℕ). map bound_job (numbers_from 1 m)) next in
    pushed
    ∙ ap (λ (js : List Job). js ++ bound_job (k + 1) ∷ []) is
    ∙ apart old (map bound_job (numbers_from 1 k)) (bound_job (k + 1) ∷ [])
    ∙ ap (λ (js : List Job). old ++ js) last

pub loop-k-preserved : goal.loop-k-preserved
loop-k-preserved c = one_more c.args.jobs.now.items c.loop-k.jobs.items c.push.new.self.items c.loop-k.k c.loop-k.invariant c.in_ok-push.ensures.items
