use Rattle.std.proofs.Common.{◌≡◌, ◌∙◌, length, map, sym, arith}
use Rattle.serde_json.specs.View.{view}
use Rattle.report_io.proofs.OtherLengths.{edits_of-list, edits_in-none, edits_in-many}
use Rattle.report_io.proofs.commits.edits_of.Goals as goal

pub returns-then-is_empty : goal.returns-then-is_empty
returns-then-is_empty c =
    let vs = c.in_ok-items.items.now in
    let none : length vs ≡ 0 = grind (arith, c.is_empty.ensures, c.if-is_empty.true) in
    sym (edits_of-list c.args.n (view c.args.value.now) vs c.in_ok-items.ensures ∙ edits_in-none c.args.n vs none)

pub returns-then-items-gt-MOST_EDITS : goal.returns-then-items-gt-MOST_EDITS
returns-then-items-gt-MOST_EDITS c =
    let vs = c.in_ok-items.items.now in
    sym (edits_of-list c.args.n (view c.args.value.now) vs c.in_ok-items.ensures ∙ edits_in-many c.args.n vs c.if-items-gt-MOST_EDITS.true)

pub returns : goal.returns
returns c = c.edits_in.ensures ∙ sym (edits_of-list c.args.n (view c.args.value.now) c.in_ok-items.items.now c.in_ok-items.ensures)
