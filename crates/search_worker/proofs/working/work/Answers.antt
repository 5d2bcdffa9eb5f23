use Rattle.std.proofs.Common.{◌≡◌, ◌+◌, ◌∙◌, ℕ, refl, sym, ap, subst}
use Rattle.search_defs.specs.Words.{at_position}
use Rattle.search_defs.proofs.laws.Words.{at_begin}
use Rattle.vertex_claims.specs.Holding.{ClaimsSeen}
use Rattle.seats.specs.declared.cells.Root.{Root}
use Rattle.seats.specs.Seats.{ground_of}
use Rattle.search_worker.specs.declared.log.WorkLog.{WorkLog}
use Rattle.search_worker.proofs.Further.{further_on}
use Rattle.search_worker.proofs.Searched.{caller_one, search_begun, search_more}
use Rattle.search_worker.proofs.working.work.Goals as goal

pub loop-k-init : goal.loop-k-init
loop-k-init g c =
    let s = c.args.pass.now in let b = c.args.board.now in record {
      of = c.requires.of;
      valid = c.caller.ensures.valid;
      searching = search_begun (ground_of b) c.args.costs.now c.args.rounds c.args.seed s c.new-words.result c.empty-log.result
          (λ alone. let P : ClaimsSeen Root → Type 0 = λ z. z.callers ≡ 1 in
          let one : s.caller ≡ 1 = caller_one s c.caller.ensures.valid (subst P (sym c.requires.of) alone) in
          c.new-words.ensures ∙ at_begin c.from.result c.args.seed ∙ ap (λ (n : ℕ). at_position n c.args.seed 0) (c.from.ensures ∙ c.caller.ensures.caller ∙ one))
          c.empty-log.ensures;
    }

pub returns-in_err-one-clause-further : goal.returns-in_err-one-clause-further
returns-in_err-one-clause-further g c = further_on c.args.pass.now c.loop-k.pass c.round.new.pass c.loop-k.invariant.searching.further c.in_err-one.ensures.further

pub loop-k-preserved : goal.loop-k-preserved
loop-k-preserved g c =
    let b = c.args.board.now in let s = c.args.pass.now in let now = c.loop-k.pass in let next = c.round.new.pass in let v = c.loop-k.invariant in let e = c.in_ok-one.ensures in
    let log = c.loop-k.log in let one = c.in_ok-one.one in
    let sum : WorkLog = record { tried = log.tried + one.tried; committed = log.committed + one.committed } in record {
      of = e.further.of ∙ v.of;
      valid = e.valid;
      searching = search_more (ground_of b) c.args.costs.now c.args.rounds c.args.seed c.loop-k.k s now next c.loop-k.words c.round.new.words log one sum
          (v.of ∙ sym c.requires.of) (ap ground_of (sym v.of)) v.valid c.loop-k-test.true v.searching e.turned e.tries e.further refl refl;
    }
