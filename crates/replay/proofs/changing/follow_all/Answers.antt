use Rattle.std.proofs.Common.{◌≡◌, true, sym, subst}
use Rattle.journal_defs.specs.declared.edit.Edit.{Edit}
use Rattle.journal_defs.specs.Edits.{touches}
use Rattle.std.proofs.lemmas.Bool.{or_left, or_right, false_from_ne_true}
use Rattle.replay.specs.Followed.{AreApart}
use Rattle.replay.proofs.Followed.{still_ready}
use Rattle.replay.proofs.changing.follow_all.Goals as goal

pub follow_ends-requires : goal.follow_ends-requires
follow_ends-requires c = λ v is. c.requires.ready v (subst (λ (x : Edit). touches x v ≡ true) (sym c.in-Drop.is) is)

pub follow_ends-requires-in-Keep : goal.follow_ends-requires-in-Keep
follow_ends-requires-in-Keep c = λ v is. c.requires.ready v (subst (λ (x : Edit). touches x v ≡ true) (sym c.in-Keep.is) is)

pub follow_ends-requires-in-Flip : goal.follow_ends-requires-in-Flip
follow_ends-requires-in-Flip c =
    λ v is. c.requires.ready v (subst (λ (x : Edit). touches x v ≡ true) (sym c.in-Flip.is) (or_left _ _ is))

pub follow_ends-requires-in-Flip-2 : goal.follow_ends-requires-in-Flip-2
follow_ends-requires-in-Flip-2 c =
    λ v is. still_ready _ _ _ _ _ v c.follow_ends-in-Flip.ensures
    (false_from_ne_true _ (λ at. subst AreApart c.in-Flip.is c.requires.apart v at is))
    (c.requires.ready v (subst (λ (x : Edit). touches x v ≡ true) (sym c.in-Flip.is) (or_right _ _ is)))
