use Rattle.std.proofs.Common.{◌∙◌, List, [], ◌∷◌, map, take, length, Some, ap, sym, arith, length-append}
use Rattle.serde_json.specs.View.{view}
use Rattle.journal_defs.specs.declared.edit.Edit.{Edit}
use Rattle.report_io.specs.Reading.{edit_of}
use Rattle.report_io.specs.Report.{edit_item}
use Rattle.report_io.proofs.Each.{all_of-push_told, all_of-whole, all_of-missing}
use Rattle.report_io.proofs.OtherLengths.{edits_in-few}
use Rattle.report_io.proofs.commits.edits_in.Goals as goal

pub returns-in_default : goal.returns-in_default
returns-in_default c =
    sym (edits_in-few c.args.n c.args.items.now c.requires.some c.requires.few
    ∙ all_of-missing (edit_of c.args.n) c.args.items.now c.loop-item.item-index c.item-item.result (omega arith) c.item-item.is c.in_default.ensures)

pub returns : goal.returns
returns c =
    ap (λ es. Some (map edit_item es)) (c.make.ensures ∙ c.as_slice.ensures.value)
    ∙ sym (edits_in-few c.args.n c.args.items.now c.requires.some c.requires.few
    ∙ all_of-whole (edit_of c.args.n) (map edit_item c.loop-item.edits.items) c.args.items.now c.loop-item.item-index (omega arith) c.loop-item.invariant.0)

pub loop-item-preserved : goal.loop-item-preserved
loop-item-preserved c =
    let more = all_of-push_told edit_item (edit_of c.args.n) c.loop-item.edits.items c.in-Some.edit c.args.items.now c.loop-item.item-index c.item-item.result (omega arith) c.item-item.is c.loop-item.invariant.0 c.in-Some.ensures in
    let count = ap (λ (es : List Edit). length es) c.push.ensures.items in
    let old = c.loop-item.invariant.1 in
    (more ∙ ap (λ es. Some (map edit_item es)) (sym c.push.ensures.items), omega (arith, count, old, length-append c.loop-item.edits.items (c.in-Some.edit ∷ [])))
