use Rattle.std.proofs.Common.{◌≡◌, ℕ, ◌+◌, ◌-◌, ◌<◌, ◌≤◌, List, length, take, sym, ◌∙◌, ap, subst, arith}
use Rattle.plane.specs.Accepted.{AreAccepted}
use Rattle.journal_defs.specs.declared.commit.Commit.{Commit}
use Rattle.journal_defs.specs.Edits.{inverse_all}
use Rattle.journal_defs.specs.Journal.{replay}
use Rattle.rewind.proofs.laws.Earlier.{StandsAt, past_of, back_leads}
use Rattle.rewind.proofs.Marked.{kept_back}
use Rattle.rewind.proofs.keeping.take_back.Goals as goal

pub loop-left-preserved : goal.loop-left-preserved
loop-left-preserved c =
    let core = c.args.core.now in
    let i : ℕ = c.loop-left.left - 1 in
    let x : Commit = c.index-journal-left.result in
    let J : List Commit = c.journal-journal.result.now in
    let top : c.loop-left.left ≤ length J = c.loop-left.invariant.1 in
    let more : c.args.k < c.loop-left.left = c.loop-left-test.true in
    let next : i + 1 ≡ c.loop-left.left = omega arith in
    let within : i < length J = omega arith in
    let here : StandsAt J i x = record { within = within; is = c.index-journal-left.is } in
    let at : StandsAt core.journal i x = subst (λ (l : List Commit). StandsAt l i x) c.journal-journal.ensures.journal here in
    let past = past_of core (subst AreAccepted c.points.ensures.points c.len-count.ensures.accepted) c.points.ensures.core in
    let so : c.loop-left.kept.keys ≡ (replay core.start (take (i + 1) core.journal)).kept =
    subst (λ (k : ℕ). c.loop-left.kept.keys ≡ (replay core.start (take k core.journal)).kept) (sym next) c.loop-left.invariant.2 in (
      omega arith,
      omega arith,
      kept_back core.start core.journal i x c.as_slice.result.now c.loop-left.kept.keys c.mark_all.new.kept.keys (c.as_slice.ensures.edits ∙ c.inverses.ensures ∙ ap (λ (y : Commit). inverse_all y.edits) (sym c.index-journal-left.is)) c.in_ok-mark_all.ensures
          (back_leads core.points core.start core.journal past i x at) so,
    )
