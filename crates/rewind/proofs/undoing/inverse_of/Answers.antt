use Rattle.std.proofs.Common.{◌≡◌, ℕ, ◌-◌, List, length, take, sym, ◌∙◌, ap, subst, arith}
use Rattle.plane.specs.Accepted.{AreAccepted}
use Rattle.journal_defs.specs.declared.edit.Edit.{Edit}
use Rattle.journal_defs.specs.declared.commit.Commit.{Commit}
use Rattle.journal_defs.specs.Edits.{inverse_all}
use Rattle.journal_defs.specs.Journal.{replay}
use Rattle.replay.specs.Applied.{AreWithin}
use Rattle.rewind.proofs.laws.Earlier.{StandsAt, past_of, sound_then, legal_then, edits_within, inverses_within}
use Rattle.rewind.proofs.undoing.inverse_of.Goals as goal
use Rattle.rewind.proofs.undoing.inverse_of.Goals.{After-inverses}

stands : (c : After-inverses) → StandsAt c.args.core.now.journal (c.args.number - 1) c.index-journal-place.result
stands c =
    let count = ap length c.journal-journal.ensures.journal in
    let here : StandsAt c.journal-journal.result.now (c.args.number - 1) c.index-journal-place.result = record { within = omega (arith, count); is = c.index-journal-place.is } in
    subst (λ (l : List Commit). StandsAt l (c.args.number - 1) c.index-journal-place.result) c.journal-journal.ensures.journal here

inverse : (c : After-inverses) → c.inverses.result ≡ inverse_all c.index-journal-place.result.edits
inverse c = c.inverses.ensures ∙ ap (λ (y : Commit). inverse_all y.edits) (sym c.index-journal-place.is)

pub returns-clause-inverse : goal.returns-clause-inverse
returns-clause-inverse c = record {
  commit = c.index-journal-place.result;
  numbered = record { has = (c.requires.some, c.requires.within); at = sym (stands c).is };
  inverse = inverse c;
}

pub returns-clause-within : goal.returns-clause-within
returns-clause-within c =
    let core = c.args.core.now in
    let i : ℕ = c.args.number - 1 in
    let x : Commit = c.index-journal-place.result in
    let past = past_of core (subst AreAccepted c.points.ensures.points c.len-count.ensures.accepted) c.points.ensures.core in
    subst (λ (es : List Edit). AreWithin (length core.points) es) (sym (inverse c))
    (inverses_within (length core.points) x.edits
    (edits_within core.points (replay core.start (take i core.journal)) x.edits (sound_then core.points core.start core.journal past i) (legal_then core.points core.start core.journal past i x (stands c))))
