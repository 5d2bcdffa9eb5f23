use Rattle.std.proofs.Common.{◌<◌, sym}
use Rattle.std.proofs.lemmas.List.{take_all}
use Rattle.std.proofs.lemmas.List.Elements.{All-more, All-same}
use Rattle.journal_defs.specs.declared.edit.Claim.{Claim}
use Rattle.board_thread_tests.proofs.tests.making.are_within.Goals as goal

pub loop-k-preserved : goal.loop-k-preserved
loop-k-preserved c = All-more (λ (x : Claim). x.vertex < c.args.count) c.args.claims.now c.loop-k.k (record { vertex = 0; stamp = 0 }) c.loop-k-test.true c.loop-k.invariant c.if-claims-k.false

pub returns : goal.returns
returns c = λ t. All-same (λ (x : Claim). x.vertex < c.args.count) c.args.claims.now _ (sym (take_all c.loop-k.k c.args.claims.now c.loop-k-test.false)) c.loop-k.invariant
