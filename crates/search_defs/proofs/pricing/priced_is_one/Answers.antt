use Rattle.std.proofs.Common.{ℕ, List, subst}
use Rattle.raise_laws.proofs.laws.Once.{inner_once}
use Rattle.search_defs.specs.Priced.{IsPriced}
use Rattle.search_defs.specs.Words.{round_words}
use Rattle.search_defs.proofs.laws.Once.{priced_once}
use Rattle.search_defs.proofs.pricing.priced_is_one.Goals as goal

pub returns : goal.returns
returns c = λ D start a b rounds seed stream x y.
    priced_once c.args.points.now D x.0 (round_words stream seed 0 rounds) start.q start.rows a.q b.q a.rows b.rows x.2
    (subst (λ (inner : List ℕ). IsPriced c.args.points.now D inner (round_words stream seed 0 rounds) start.q start.rows b.q b.rows) (inner_once c.args.points.now y.0 x.0 y.1 x.1) y.2)
