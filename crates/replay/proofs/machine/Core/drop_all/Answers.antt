use Rattle.std.proofs.Common.{arith, length, ◌+◌, ◌≤◌, subst, List}
use Rattle.plane.specs.declared.segment.Pair.{Pair}
use Rattle.replay.specs.declared.machine.TheConstants.{MOST_COMMITS}
use Rattle.replay.proofs.Answered.{on_err}
use Rattle.replay.proofs.Sweeping.{kept_within, sweep_few, sweep_begins, tried_on, sweep_part, sweep_whole, sweep_minimal}
use Rattle.replay.proofs.machine.Core.drop_all.Goals as goal

pub try_drop-requires-clause-within : goal.try_drop-requires-clause-within
try_drop-requires-clause-within c =
    kept_within _ _ c.args.kept.now _ c.loop-e.e-index _ c.e-item.result c.requires.core c.requires.kept c.loop-e-test.true c.e-item.is c.loop-e.invariant.0

pub try_drop-requires-clause-few : goal.try_drop-requires-clause-few
try_drop-requires-clause-few c =
    sweep_few _ _ c.args.kept.now c.loop-e.e-index _ c.requires.kept (subst (λ (xs : List Pair). length c.args.self.now.journal + length xs ≤ MOST_COMMITS) c.requires.kept c.requires.few) c.loop-e-test.true c.loop-e.invariant.0

pub loop-e-init : goal.loop-e-init
loop-e-init c = (sweep_begins _, c.requires.core, omega arith)

pub loop-e-preserved : goal.loop-e-preserved
loop-e-preserved c = (
  tried_on _ _ _ c.args.kept.now c.loop-e.e-index c.loop-e.dropped _ c.e-item.result c.loop-e-test.true c.e-item.is c.loop-e.invariant.0 c.in_ok-dropped.ensures.dropped,
  c.in_ok-dropped.ensures.core,
  omega (arith, c.in_ok-dropped.ensures.one, c.loop-e.invariant.2),
)

pub returns-in_err-dropped-clause-stopped : goal.returns-in_err-dropped-clause-stopped
returns-in_err-dropped-clause-stopped c =
    on_err c.from_residual.result (sweep_part _ _ _ c.args.kept.now c.args.kept.now c.loop-e.e-index c.loop-e.dropped c.requires.kept c.loop-e.invariant.0 c.in_err-dropped.ensures.unchanged)

pub returns-clause-minimal : goal.returns-clause-minimal
returns-clause-minimal c =
    let h : length c.args.kept.now ≤ c.loop-e.e-index = omega arith in
    sweep_minimal c.args.self.now c.loop-e.self c.loop-e.dropped c.requires.core (sweep_whole c.args.self.now c.loop-e.self c.args.kept.now c.loop-e.e-index c.loop-e.dropped c.requires.kept h c.loop-e.invariant.0)
