use Rattle.std.proofs.Common.{◌≡◌, ◌∷◌, ◌++◌, [], subst, sym, refl, rules, slice_index_or}
use Rattle.std.specs.List.{All}
use Rattle.std.proofs.lemmas.List.Elements.{All-push, Contains-get_or}
use Rattle.cp_judge.specs.declared.turning.End.{End}
use Rattle.cp_judge.specs.Turning.{IsTarget}
use Rattle.cp_judge.proofs.turning.next_run.Goals as goal

pub loop-k-preserved : goal.loop-k-preserved
loop-k-preserved c =
    let d : End = record { at = 0; to = 0 } in
    let z : End = slice_index_or c.args.ends.now c.loop-k.k d in
    let same : c.try_push.new.self.items ≡ c.loop-k.run.items ++ z.to ∷ [] = search rules in
    subst (All (IsTarget c.args.ends.now c.args.p)) (sym same)
    (All-push (IsTarget c.args.ends.now c.args.p) c.loop-k.run.items z.to c.loop-k.invariant (z, Contains-get_or c.args.ends.now c.loop-k.k d c.loop-k-test.true, c.if-end-p.false, refl))

pub returns-then-is_err-clause-run : goal.returns-then-is_err-clause-run
returns-then-is_err-clause-run c =
    let same : c.try_push.new.self.items ≡ c.loop-k.run.items = search rules in
    subst (All (IsTarget c.args.ends.now c.args.p)) (sym same) c.loop-k.invariant
