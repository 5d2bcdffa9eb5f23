use Rattle.std.proofs.Common.{◌≡◌, ◌∷◌, [], ◌++◌, ◌∙◌, ℕ, List, ap, codes}
use Rattle.serde_json.specs.Written.{comma_if}
use Rattle.json_text.proofs.Laws.{append-two}
use Rattle.report_io.specs.Answers.{numbers_text}
use Rattle.report_io.proofs.Written.{half_at, three_at, cap_at}
use Rattle.report_io.proofs.certificate_text.push_row.Goals as goal

pub returns-in_ok-push_tagged-in-Half : goal.returns-in_ok-push_tagged-in-Half
returns-in_ok-push_tagged-in-Half c =
    let old = c.args.text.now.items in
    let comma = comma_if c.args.later in
    let same : ◌≡◌ {A = List ℕ} (c.from.result ∷ c.from-in-Half.result ∷ c.in-Half.w ∷ []) (c.in-Half.p ∷ c.in-Half.q ∷ c.in-Half.w ∷ []) = cc in
    append-two old c.push_comma.new.text.items _ comma _ c.in_ok-push_comma.ensures c.in_ok-push_tagged-in-Half.ensures
    ∙ (ap (λ ns. old ++ (comma ++ (codes "[\"h\"" ++ numbers_text ns))) same ∙ ap (λ t. old ++ (comma ++ t)) (half_at c.args.row.now c.in-Half.p c.in-Half.q c.in-Half.w (cc)))

pub returns-in_ok-push_tagged-in-Three : goal.returns-in_ok-push_tagged-in-Three
returns-in_ok-push_tagged-in-Three c =
    let old = c.args.text.now.items in
    let comma = comma_if c.args.later in
    let same : ◌≡◌ {A = List ℕ} (c.from-in-Three.result ∷ c.in-Three.w ∷ []) (c.in-Three.p ∷ c.in-Three.w ∷ []) = cc in
    append-two old c.push_comma.new.text.items _ comma _ c.in_ok-push_comma.ensures c.in_ok-push_tagged-in-Three.ensures
    ∙ (ap (λ ns. old ++ (comma ++ (codes "[\"t\"" ++ numbers_text ns))) same ∙ ap (λ t. old ++ (comma ++ t)) (three_at c.args.row.now c.in-Three.p c.in-Three.w (cc)))

pub returns-in_ok-push_tagged-in-Cap : goal.returns-in_ok-push_tagged-in-Cap
returns-in_ok-push_tagged-in-Cap c =
    let old = c.args.text.now.items in
    let comma = comma_if c.args.later in
    let same : ◌≡◌ {A = List ℕ} (c.from-in-Cap.result ∷ c.from-in-Cap-2.result ∷ c.in-Cap.w ∷ []) (c.in-Cap.e.lo ∷ c.in-Cap.e.hi ∷ c.in-Cap.w ∷ []) = cc in
    append-two old c.push_comma.new.text.items _ comma _ c.in_ok-push_comma.ensures c.in_ok-push_tagged-in-Cap.ensures
    ∙ (ap (λ ns. old ++ (comma ++ (codes "[\"c\"" ++ numbers_text ns))) same ∙ ap (λ t. old ++ (comma ++ t)) (cap_at c.args.row.now c.in-Cap.e c.in-Cap.w (cc)))
