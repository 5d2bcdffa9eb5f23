use Rattle.std.proofs.Common.{◌≡◌, ◌++◌, [], drop, sym, ap, ◌∙◌, append-nil}
use Rattle.std.proofs.lemmas.List.{drop_all}
use Rattle.text_defs.specs.Numbers.{rewritten}
use Rattle.text_defs.proofs.laws.Rewriting.{rewritten-nil}
use Rattle.json_text.proofs.rewriting.plain_numbers.Goals as goal

pub returns : goal.returns
returns c =
    let gone : rewritten (drop c.loop-place.place c.args.bytes.now) ≡ [] = ap rewritten (drop_all c.loop-place.place c.args.bytes.now c.loop-place-test.false) ∙ rewritten-nil in
    sym (append-nil c.loop-place.plain.items) ∙ ap (λ more. c.loop-place.plain.items ++ more) (sym gone) ∙ c.loop-place.invariant.1
