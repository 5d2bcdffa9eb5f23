use Rattle.std.proofs.Common.{ℕ, sym, ◌∙◌, refl, rules}
use Rattle.std.proofs.lemmas.Bool.{false≢true}
use borrow.Author.Count.{below_more}
use Rattle.tree_defs.specs.Leaves.{sets}
use Rattle.tree_defs.specs.Plain.{IsSpent}
use Rattle.tree_defs.proofs.plain.is_starved.Goals as goal

pub loop-r-preserved : goal.loop-r-preserved
loop-r-preserved c =
    below_more (λ (r : ℕ). IsSpent c.args.points.now (sets c.args.taken.now c.args.barred.now) c.args.p c.args.q r) c.loop-r.r c.loop-r.invariant
    (c.is_spent.ensures.0 c.if-not-is_spent.false)

pub returns-then-not-is_spent : goal.returns-then-not-is_spent
returns-then-not-is_spent c = (
  λ t. absurd (false≢true t),
  λ s. absurd (false≢true (sym c.if-not-is_spent.true ∙ c.is_spent.ensures.1 (λ clear need. s.all c.loop-r.r (search rules) clear need))),
)

pub returns : goal.returns
returns c = (λ t. record { within = c.requires.p_in; other = c.requires.q_in; apart = (search rules); inner = c.is_inner.ensures.0 c.if-not-is_inner.false; all = λ r n clear need. c.loop-r.invariant r (search rules) clear need }, λ h. refl)
