use Rattle.std.proofs.Common.{sym, ◌∙◌, rules, refl, ◌≡◌, ◌<◌, length, arith}
use Rattle.std.proofs.lemmas.List.{get_or_default}
use Rattle.plane.proofs.laws.Pairs.{pair_same}
use Rattle.cp_judge.proofs.doubled.is_repeated.Goals as goal

pub returns-then-eq : goal.returns-then-eq
returns-then-eq c =
    let same : c.index-list-j.result ≡ c.index-list-k.result = pair_same c.index-list-j.result c.index-list-k.result (search rules) (search rules) in
    let lj : c.loop-j.j < length c.args.list.now = omega arith in
    (λ _. (c.index-list-j.result, c.loop-j.j, c.loop-j-test.true, (lj, sym c.index-list-j.is), (c.requires, get_or_default c.args.list.now c.args.k c.index-list-j.result c.index-list-k.result c.requires ∙ sym c.index-list-k.is ∙ sym same)), λ _. refl)
