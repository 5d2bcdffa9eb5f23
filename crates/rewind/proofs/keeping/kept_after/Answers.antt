use Rattle.std.proofs.Common.{◌∙◌, sym, subst, Result, Ok, Err}
use Rattle.std.specs.Prelude.{IfOk}
use Rattle.plane.specs.Accepted.{AreAccepted}
use Rattle.partition_defs.specs.Ascending.{IsAscending}
use Rattle.rewind.proofs.laws.Earlier.{past_of, sound_then}
use Rattle.rewind.proofs.keeping.kept_after.Goals as goal

if_ok : {A E : Type 0} {P Q : A → Type 0} → (r : Result A E) → IfOk r P → ((x : A) → P x → Q x) → IfOk r Q
if_ok (Ok x) h f = f x h
if_ok (Err e) h f = tt

pub returns-clause-ascending : goal.returns-clause-ascending
returns-clause-ascending c =
    let core = c.args.core.now in
    let past = past_of core (subst AreAccepted c.points.ensures.points c.len-count.ensures.accepted) c.points.ensures.core in
    if_ok c.listed.result c.listed.ensures
    (λ list is. subst IsAscending (sym (is ∙ c.in_ok-take_back.ensures)) (sound_then core.points core.start core.journal past c.args.k).kept_ascending)
