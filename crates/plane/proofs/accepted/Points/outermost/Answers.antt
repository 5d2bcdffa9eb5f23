use Rattle.std.proofs.Common.{ℕ, ◌+◌, inl, inr, sym, subst, arith}
use Rattle.plane.proofs.Outermost.{IsOutermost, goes_on, passes, never_opposite}
use Rattle.plane.proofs.accepted.Points.outermost.Goals as goal
use Rattle.plane.proofs.accepted.Points.outermost.Goals.{then-r-v+then-is_further, else-r-v, else-r-v-via-then-r-v+else-is_further, else-r-v-via-else-r-v}

pub loop-r-preserved : goal.loop-r-preserved
loop-r-preserved c =
    let keep : ℕ → Type 0 = λ b. IsOutermost c.args.self.now c.args.side c.args.v c.args.start b (c.loop-r.r + 1) in
    elim c.if-r-v.branch [
      | then-r-v+then-is_further w ↦ subst keep (sym w.best-is) (goes_on _ _ _ _ c.loop-r.best c.loop-r.r c.len-r-end.ensures.accepted c.requires.bent (omega arith) (omega arith) (w.is_further.ensures.0 w.if-is_further.true) c.loop-r.invariant)
      | else-r-v w ↦ subst keep (sym w.best-is) (passes _ _ _ _ c.loop-r.best c.loop-r.r c.len-r-end.ensures.accepted c.requires.bent c.requires.v_in (omega arith)
          (elim w.else-r-v.branch [
            | else-r-v-via-then-r-v+else-is_further w' ↦ inr (λ h. let t = w'.is_further.ensures.1 h in let f = w'.if-is_further.false in cc)
            | else-r-v-via-else-r-v w' ↦ inl (omega arith)
          ])
          c.loop-r.invariant)
    ]

pub returns-clause-found : goal.returns-clause-found
returns-clause-found c = λ w step off. c.loop-r.invariant.met w step off (omega (arith, step.within))

pub returns-clause-turned : goal.returns-clause-turned
returns-clause-turned c = never_opposite _ _ _ _ c.loop-r.best c.loop-r.r c.len-r-end.ensures.accepted c.requires.v_in (omega arith) c.loop-r.invariant
