use Rattle.std.proofs.Common.{ℕ, Option, length, refl, subst}
use Rattle.std.proofs.lemmas.Bool.{false≢true}
use Rattle.plane.specs.First.{IsFirstPairOrNone}
use Rattle.plane.specs.Geometry.{IsBetween}
use Rattle.price_defs.proofs.laws.Alone.{alone_of_none}
use Rattle.cert_check.proofs.Shapes.{not_alone}
use Rattle.cert_check.proofs.shape.has_none.Goals as goal

pub returns-in-Some : goal.returns-in-Some
returns-in-Some c =
    let first = subst (λ (o : Option (ℕ × ℕ)). IsFirstPairOrNone (λ i j. IsBetween c.args.points.now c.args.p i j) (length c.args.points.now) o) c.in-Some.is c.requires in
    ((λ t. absurd (false≢true t)), (λ alone. absurd (not_alone c.args.points.now c.args.p _ _ first alone)))

pub returns-in-None : goal.returns-in-None
returns-in-None c =
    let none = subst (λ (o : Option (ℕ × ℕ)). IsFirstPairOrNone (λ i j. IsBetween c.args.points.now c.args.p i j) (length c.args.points.now) o) c.in-None.is c.requires in
    ((λ t. alone_of_none c.args.points.now c.args.p none), (λ alone. refl))
