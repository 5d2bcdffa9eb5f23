use Rattle.std.proofs.Common.{◌≡◌, ◌∷◌, [], ◌++◌, ◌∙◌, ℕ, List, ap, sym, codes}
use Rattle.instance_io.specs.Refusal.{ends}
use Rattle.report_io.specs.Answers.{numbers_text}
use Rattle.report_io.proofs.Written.{flip_text}
use Rattle.report_io.proofs.journal_text.push_flip.Goals as goal

pub returns : goal.returns
returns c =
    let e = c.args.from in
    let f = c.args.to in
    let same : ◌≡◌ {A = List ℕ} (c.from.result ∷ c.from-2.result ∷ c.from-3.result ∷ c.from-4.result ∷ []) (e.lo ∷ e.hi ∷ f.lo ∷ f.hi ∷ []) = cc in
    c.in_ok-push_tagged.ensures ∙ (ap (λ ns. c.args.text.now.items ++ (codes "[\"f\"" ++ numbers_text ns)) same ∙ ap (λ t. c.args.text.now.items ++ t) (sym (flip_text (ends e) (ends f))))
