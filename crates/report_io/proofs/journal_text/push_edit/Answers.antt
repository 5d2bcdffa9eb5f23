use Rattle.std.proofs.Common.{◌≡◌, ◌∷◌, [], ◌++◌, ◌∙◌, ℕ, List, ap, codes}
use Rattle.serde_json.specs.Written.{comma_if}
use Rattle.json_text.proofs.Laws.{append-two}
use Rattle.report_io.specs.Answers.{numbers_text}
use Rattle.report_io.proofs.Written.{drop_at, keep_at}
use Rattle.report_io.proofs.journal_text.push_edit.Goals as goal

pub returns-in_ok-push_tagged-in-Drop : goal.returns-in_ok-push_tagged-in-Drop
returns-in_ok-push_tagged-in-Drop c =
    let old = c.args.text.now.items in
    let comma = comma_if c.args.later in
    let same : ◌≡◌ {A = List ℕ} (c.from.result ∷ c.from-in-Drop.result ∷ []) (c.in-Drop.e.lo ∷ c.in-Drop.e.hi ∷ []) = cc in
    append-two old c.push_comma.new.text.items _ comma _ c.in_ok-push_comma.ensures c.in_ok-push_tagged-in-Drop.ensures
    ∙ (ap (λ ns. old ++ (comma ++ (codes "[\"d\"" ++ numbers_text ns))) same ∙ ap (λ t. old ++ (comma ++ t)) (drop_at c.args.edit c.in-Drop.e (cc)))

pub returns-in_ok-push_tagged-in-Keep : goal.returns-in_ok-push_tagged-in-Keep
returns-in_ok-push_tagged-in-Keep c =
    let old = c.args.text.now.items in
    let comma = comma_if c.args.later in
    let same : ◌≡◌ {A = List ℕ} (c.from-in-Keep.result ∷ c.from-in-Keep-2.result ∷ []) (c.in-Keep.e.lo ∷ c.in-Keep.e.hi ∷ []) = cc in
    append-two old c.push_comma.new.text.items _ comma _ c.in_ok-push_comma.ensures c.in_ok-push_tagged-in-Keep.ensures
    ∙ (ap (λ ns. old ++ (comma ++ (codes "[\"k\"" ++ numbers_text ns))) same ∙ ap (λ t. old ++ (comma ++ t)) (keep_at c.args.edit c.in-Keep.e (cc)))
