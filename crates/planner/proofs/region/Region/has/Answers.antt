use Rattle.std.proofs.Common.{sym, ◌∙◌, refl}
use Rattle.std.proofs.lemmas.Bool.{false≢true}
use Rattle.planner.proofs.Looks.{place_looked, none_looked}
use Rattle.planner.proofs.region.Region.has.Goals as goal

pub returns-in-Some : goal.returns-in-Some
returns-in-Some c = (λ t. place_looked c.args.self.now c.args.v c.in-Some.field-0 c.in-Some.ensures, λ t. refl)

pub returns-in-None : goal.returns-in-None
returns-in-None c = (λ t. absurd (false≢true t), λ h. absurd (false≢true (sym (none_looked c.args.self.now c.args.v c.in-None.ensures) ∙ h)))
