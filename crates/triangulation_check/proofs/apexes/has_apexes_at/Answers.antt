use Rattle.partition_defs.proofs.laws.Joined.{join_back}
use Rattle.triangulation_check.proofs.apexes.has_apexes_at.Goals as goal

pub has_apex_at-back-requires-clause-joined : goal.has_apex_at-back-requires-clause-joined
has_apex_at-back-requires-clause-joined c = join_back c.args.list.now c.args.p c.args.q c.requires.joined

pub returns-then-forth : goal.returns-then-forth
returns-then-forth c = (λ h. (c.has_apex_at-forth.ensures.0 c.if-forth.true, c.has_apex_at-back.ensures.0 h), λ p. c.has_apex_at-back.ensures.1 p.1)
