use Rattle.std.proofs.Common.{List, ◌∙◌, ap}
use Rattle.star.specs.Stars.{Seen}
use Rattle.star.specs.declared.links.Link.{Link}
use Rattle.star.specs.Links.{link}
use Rattle.star.proofs.KeptNext.{first_kept_named}
use Rattle.star.proofs.star.Star.link_after.Goals as goal

pub returns : goal.returns
returns c =
    first_kept_named c.args.self.now c.self.inside.points.value c.self.inside.centre c.self.inside.list.items c.self.inside.links.items c.self.inside.misses c.args.k (ap (λ (s : Seen). s.list) c.self.view_is)
    c.self.invariant.right c.requires c.link_at.result (c.link_at.ensures ∙ ap (λ (xs : List Link). link xs c.args.k) c.deref.ensures.value)
