use Rattle.std.proofs.Common.{rules, ◌-◌, inl, inr, refl, arith}
use Rattle.std.specs.Prelude.{slice_index}
use Rattle.std.proofs.lemmas.List.Elements.{Contains-get_or}
use Rattle.directions.proofs.Cleared.{nearest_clear, untrue}
use Rattle.directions.proofs.clear.is_nearest.Goals as goal
use Rattle.number_laws.proofs.Tests.{refused}

pub returns-then-i-eq0 : goal.returns-then-i-eq0
returns-then-i-eq0 c = (
  λ t. nearest_clear c.args.points.now c.args.p c.args.list.now c.args.i c.len-count.ensures.accepted c.requires.p_in c.requires.fan c.requires.i_in c.requires.above (inl c.if-i-eq0.true),
  λ h. refl,
)

pub between-requires-clause-p_in : goal.between-requires-clause-p_in
between-requires-clause-p_in c = (c.requires.fan.part.within _ (Contains-get_or c.args.list.now (c.args.i - 1) 0 (omega arith))).0

pub between-requires-clause-r_in : goal.between-requires-clause-r_in
between-requires-clause-r_in c = (c.requires.fan.part.within _ (Contains-get_or c.args.list.now c.args.i 0 c.requires.i_in)).0

pub returns : goal.returns
returns c = (
  λ t. nearest_clear c.args.points.now c.args.p c.args.list.now c.args.i c.len-count.ensures.accepted c.requires.p_in c.requires.fan c.requires.i_in c.requires.above
      (inr (refused c.between.result _ (search rules) c.between.ensures.1)),
  λ clear. untrue c.between.result
      (λ e. clear (slice_index c.args.list.now (c.args.i - 1)) (c.requires.fan.part.within _ (Contains-get_or c.args.list.now (c.args.i - 1) 0 (omega arith))).0 (c.between.ensures.0 e)),
)
