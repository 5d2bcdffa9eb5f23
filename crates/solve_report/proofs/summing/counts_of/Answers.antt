use Rattle.std.proofs.Common.{ℕ, ◌+◌, List, [], ◌∷◌, ◌++◌, sym, ◌∙◌, ap₂, arith}
use Rattle.std.proofs.lemmas.List.FromFn.{map-range_with_len_more}
use Rattle.journal_defs.specs.Journal.{made}
use Rattle.solve_report.proofs.summing.counts_of.Goals as goal

pub loop-caller-preserved : goal.loop-caller-preserved
loop-caller-preserved c =
    c.in_ok-push.ensures.items
    ∙ ap₂ (λ (xs : List ℕ) (x : ℕ). xs ++ x ∷ []) c.loop-caller.invariant c.made_by.ensures
    ∙ sym (map-range_with_len_more (λ n. made n c.args.journal.now) 0 c.loop-caller.caller c.loop-caller.caller (omega arith))
