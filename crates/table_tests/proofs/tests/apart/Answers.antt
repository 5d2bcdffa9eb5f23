use Rattle.std.proofs.Common.{◌≡◌, [], ◌∷◌, ◌++◌, subst, sym, rules, vec_len}
use Rattle.std.specs.Prelude.{Some}
use Rattle.std.specs.List.{All}
use Rattle.std.proofs.lemmas.List.Elements.{All-push, All-pop}
use Rattle.vertex_claims.specs.Holding.{HolderSeen}
use Rattle.chronicle.specs.History.{ChronicleSeen}
use Rattle.table_tests.specs.declared.tests.Visit.{Visit}
use Rattle.table_tests.specs.declared.tests.Writer.{Writer}
use Rattle.table_tests.specs.declared.tests.Worker.{Worker}
use Rattle.table_tests.specs.Work.{IsHolding, IsWriting}
use Rattle.table_tests.proofs.tests.apart.Goals as goal

pub loop-worker-preserved : goal.loop-worker-preserved
loop-worker-preserved c =
    let i = c.loop-worker.invariant in
    let H : HolderSeen (ChronicleSeen Visit) → Type 0 = IsHolding c.args.claims.now [] in
    let W : Writer → Type 0 = λ w. IsWriting c.args.chronicle.now [] w.share w.caller (vec_len w.numbers) in
    let hs = All-pop (λ (w : Worker). H w.holder) c.loop-worker.workers.items c.pop.new.self.items (Some c.in-Some.worker) c.in-Some.ensures.items i.2 in
    let ws = All-pop (λ (w : Worker). W w.writer) c.loop-worker.workers.items c.pop.new.self.items (Some c.in-Some.worker) c.in-Some.ensures.items i.3 in
    let holders : c.push.new.self.items ≡ c.loop-worker.holders.items ++ c.in-Some.worker.holder ∷ [] = search rules in
    let writers : c.push-in-Some.new.self.items ≡ c.loop-worker.writers.items ++ c.in-Some.worker.writer ∷ [] = search rules in (
      subst (All H) (sym holders) (All-push H c.loop-worker.holders.items c.in-Some.worker.holder i.0 hs.1),
      subst (All W) (sym writers) (All-push W c.loop-worker.writers.items c.in-Some.worker.writer i.1 ws.1),
      hs.0,
      ws.0,
    )
