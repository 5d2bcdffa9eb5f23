use Rattle.std.proofs.Common.{◌∷◌, [], ◌++◌, take, List, sym, ◌∙◌, ap}
use Rattle.std.proofs.lemmas.List.{take_more}
use Rattle.std.specs.BTreeSet.{insert_key}
use Rattle.plane.specs.declared.segment.Pair.{Pair}
use Rattle.rewind.proofs.Keys.{pair_cmp, put_next}
use Rattle.rewind.proofs.keeping.set_of.Goals as goal

pub loop-e-preserved : goal.loop-e-preserved
loop-e-preserved c =
    let e = c.e-item.result in
    let i = c.loop-e.e-index in
    c.in_ok-insert.ensures.keys ∙ ap (λ (l : List Pair). insert_key pair_cmp l e) c.loop-e.invariant
    ∙ put_next c.args.list.now i e c.requires c.loop-e-test.true c.e-item.is
    ∙ sym (take_more c.args.list.now i e c.loop-e-test.true ∙ ap (λ (x : Pair). take i c.args.list.now ++ x ∷ []) (sym c.e-item.is))
