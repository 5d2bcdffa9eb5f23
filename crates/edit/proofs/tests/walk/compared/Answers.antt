use Rattle.edit.proofs.tests.walk.compared.Goals as goal

pub is_legal-requires : goal.is_legal-requires
is_legal-requires g c = c.is_within.ensures.0 c.if-not-is_within.false
