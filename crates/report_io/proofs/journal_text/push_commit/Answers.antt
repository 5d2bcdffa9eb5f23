use Rattle.std.proofs.Common.{◌∷◌, [], ◌++◌, ◌∙◌, ap, sym, codes, decimal, map}
use Rattle.serde_json.specs.Written.{comma_if}
use Rattle.json_text.proofs.Laws.{append-two}
use Rattle.report_io.specs.Answers.{list_text}
use Rattle.report_io.specs.Report.{edit_item, commit_item}
use Rattle.report_io.specs.Texts.{edit_data}
use Rattle.report_io.proofs.Written.{commit_text}
use Rattle.report_io.proofs.journal_text.push_commit.Goals as goal

pub returns : goal.returns
returns c =
    let J = c.args.commit.now in
    append-two _ _ _ (comma_if c.args.later) _ c.in_ok-push_comma.ensures
    (append-two _ _ _ (91 ∷ []) _ c.in_ok-push.ensures.items
    (append-two _ _ _ (decimal J.caller) _ c.in_ok-push_index.ensures
    (append-two _ _ _ (44 ∷ []) _ c.in_ok-push-2.ensures.items
    (append-two _ _ _ (decimal J.seq) _ c.in_ok-push_index-2.ensures
    (append-two _ _ _ (codes ",[") _ c.in_ok-extend_from_slice.ensures.items
    (append-two _ _ _ (list_text (map edit_data (map edit_item J.edits))) (93 ∷ []) (c.in_ok-push_edits.ensures ∙ ap (λ es. c.extend_from_slice.new.self.items ++ list_text (map edit_data (map edit_item es))) c.as_slice.ensures.edits) c.in_ok-push-3.ensures.items))))))
    ∙ ap (λ text. c.args.text.now.items ++ (comma_if c.args.later ++ text)) (sym (commit_text (commit_item J)))
