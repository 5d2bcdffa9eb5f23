use Rattle.std.proofs.Common.{◌≡◌, ◌∷◌, [], ◌++◌, ◌∙◌, ℕ, List, ap, sym, codes}
use Rattle.instance_io.specs.Refusal.{ends}
use Rattle.report_io.specs.Answers.{numbers_text}
use Rattle.report_io.proofs.Written.{cross_text}
use Rattle.report_io.proofs.certificate_text.push_cross.Goals as goal

pub returns : goal.returns
returns c =
    let e = c.args.e in
    let f = c.args.f in
    let same : ◌≡◌ {A = List ℕ} (c.from.result ∷ c.from-2.result ∷ c.from-3.result ∷ c.from-4.result ∷ c.args.w ∷ []) (e.lo ∷ e.hi ∷ f.lo ∷ f.hi ∷ c.args.w ∷ []) = cc in
    c.in_ok-push_tagged.ensures ∙ (ap (λ ns. c.args.text.now.items ++ (codes "[\"x\"" ++ numbers_text ns)) same ∙ ap (λ t. c.args.text.now.items ++ t) (sym (cross_text (ends e) (ends f) c.args.w)))
