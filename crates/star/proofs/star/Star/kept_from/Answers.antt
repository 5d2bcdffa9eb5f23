use Rattle.std.proofs.Common.{List, ℕ, Bool, Some, None, ap, subst, sym, ◌∙◌}
use Rattle.star.specs.Stars.{Seen, entry, IsFirstKept}
use Rattle.star.specs.Links.{IsAfterOrNone}
use Rattle.star.proofs.KeptNext.{first_kept_of_after, none_kept}
use Rattle.star.proofs.star.Star.kept_from.Goals as goal

pub returns-in-None : goal.returns-in-None
returns-in-None c =
    none_kept c.args.self.now c.args.k c.requires.spare
    (subst (λ (xs : List (ℕ × Bool)). IsAfterOrNone xs c.args.k None) (c.deref.ensures.value ∙ ap (λ (s : Seen). s.list) c.self.view_is) c.in-None.ensures)

pub returns-in-Some : goal.returns-in-Some
returns-in-Some c =
    let after = subst (λ (xs : List (ℕ × Bool)). IsAfterOrNone xs c.args.k (Some c.in-Some.j)) (c.deref.ensures.value ∙ ap (λ (s : Seen). s.list) c.self.view_is) c.in-Some.ensures in
    subst (λ r. IsFirstKept c.args.self.now c.args.k r)
    (sym (c.name_at.ensures ∙ ap (λ (xs : List (ℕ × Bool)). (entry xs c.in-Some.j).0) (c.deref-in-Some.ensures.value ∙ ap (λ (s : Seen). s.list) c.self.view_is)))
    (first_kept_of_after c.args.self.now c.args.k c.in-Some.j c.requires.place after.1)
