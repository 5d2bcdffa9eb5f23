use Rattle.std.proofs.Common.{◌∷◌, [], ◌++◌, ◌∙◌, ap, sym, codes, map}
use Rattle.json_text.proofs.Laws.{append-two}
use Rattle.instance_io.specs.Refusal.{ends}
use Rattle.report_io.specs.Answers.{list_text}
use Rattle.report_io.specs.Report.{commit_item, journal_parts}
use Rattle.report_io.specs.Texts.{commit_data, start_data}
use Rattle.report_io.proofs.Written.{journal_text}
use Rattle.report_io.proofs.journal_text.push_journal.Goals as goal

pub returns : goal.returns
returns c =
    append-two _ _ _ (codes "{\"commits\":[") _ c.in_ok-extend_from_slice.ensures.items
    (append-two _ _ _ (list_text (map commit_data (map commit_item c.args.commits.now))) _ c.in_ok-push_commits.ensures
    (append-two _ _ _ (codes ",\"start\":[") _ c.in_ok-extend_from_slice-2.ensures.items
    (append-two _ _ _ (list_text (map start_data (map ends c.args.start.now))) (125 ∷ []) c.in_ok-push_start.ensures c.in_ok-push.ensures.items)))
    ∙ ap (λ text. c.args.text.now.items ++ text) (sym (journal_text (journal_parts c.args.start.now c.args.commits.now)))
