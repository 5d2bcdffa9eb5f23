use Rattle.std.proofs.Common.{◌≡◌, sym, ap, ◌∙◌, arith, true, leb, drop}
use Rattle.std.proofs.lemmas.List.{drop_all}
use Rattle.std.proofs.lemmas.Bool.Decides.{nat_tests}
use Rattle.text_defs.specs.Levels.{levels}
use Rattle.text_defs.proofs.laws.Levels.{levels-nil}
use Rattle.json_text.proofs.levels.has_few_levels.Goals as goal

pub returns : goal.returns
returns c =
    let gone : levels (drop c.loop-place.place c.args.bytes.now) ≡ 0 = ap levels (drop_all c.loop-place.place c.args.bytes.now c.loop-place-test.false) ∙ levels-nil in
    let zero : leb 0 c.loop-place.room ≡ true = grind (arith, nat_tests) in
    sym zero ∙ ap (λ k. leb k c.loop-place.room) (sym gone) ∙ c.loop-place.invariant.2
