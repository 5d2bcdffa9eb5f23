use Rattle.std.proofs.Common.{ℕ, List, [], ◌∷◌, ◌++◌, map, ◌∙◌, ap}
use Rattle.plane.specs.declared.segment.Pair.{Pair}
use Rattle.text_defs.specs.Texts.{solution_text}
use Rattle.instance_io.specs.Refusal.{ends}
use Rattle.report_answers.proofs.Rewinds.{kept_so}
use Rattle.report_answers.proofs.moments.kept_then.Goals as goal

pub returns : goal.returns
returns c =
    let name = c.args.report.now.instance.name in
    kept_so c.args.k c.args.bytes.now c.args.report.now c.in_ok-kept.kept.items c.push.new.self.items (c.requires.gives, c.len-count.ensures.accepted) c.requires.few c.requires.right c.in_ok-kept.ensures
    (c.in_ok-push.ensures.items ∙ ap (λ (l : List ℕ). l ++ 10 ∷ []) (c.in_ok-text.ensures ∙ ap (λ (K : List Pair). solution_text name (map ends K)) c.as_slice.ensures.value))
