use Rattle.std.proofs.Common.{◌≡◌, ◌≢◌, ◌≤◌, ℕ, Bool, List, length, OnOk, sym, ◌∙◌, ap, subst}
use Rattle.std.specs.List.{AllByRecursion}
use Rattle.round_defs.specs.Candidates.{turned}
use Rattle.round_plans.specs.Listed.{marked, names}
use Rattle.round_plans.proofs.Lists.{none_turned}
use Rattle.round_plans.proofs.Regions.{star_seen, none_seen}
use Rattle.round_plans.proofs.round.list_from.Goals as goal

pub list_turned-requires : goal.list_turned-requires
list_turned-requires c =
    let P : List (ℕ × Bool) → Type 0 = λ l. c.args.from ≤ length l in
    subst P (star_seen c.args.region.now c.args.v c.in-Some.star.now (sym c.in-Some.ensures.star)).1 c.requires

pub returns-in-Some-clause-names : goal.returns-in-Some-clause-names
returns-in-Some-clause-names c =
    let P : List (ℕ × Bool) → Type 0 = λ l. OnOk c.list_turned.result (c.list_turned.new.out.items ≡ names (marked c.args.kept (turned c.args.from l))) in
    subst P (sym (star_seen c.args.region.now c.args.v c.in-Some.star.now (sym c.in-Some.ensures.star)).1) c.list_turned.ensures.names

pub returns-in-Some-clause-apart : goal.returns-in-Some-clause-apart
returns-in-Some-clause-apart c =
    let P : ℕ → Type 0 = λ v. OnOk c.list_turned.result (AllByRecursion (λ (q : ℕ). v ≢ q) c.list_turned.new.out.items) in
    subst P c.in-Some.ensures.centre c.list_turned.ensures.apart

pub returns-in-None-clause-names : goal.returns-in-None-clause-names
returns-in-None-clause-names c =
    let none = none_seen c.args.region.now c.args.v (sym c.in-None.ensures.star) in
    c.clear.ensures.items ∙ sym (ap (λ (l : List (ℕ × Bool)). names (marked c.args.kept (turned c.args.from l))) none.1 ∙ none_turned c.args.kept c.args.from)
