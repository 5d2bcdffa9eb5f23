use Rattle.std.proofs.Common.{arith, get_or, refl, sym}
use Rattle.hands.proofs.Laws.{no_claim, own_at}
use Rattle.hands.proofs.Held.{stamp_at_is, first_stale_at, more_fresh, all_fresh}
use Rattle.hands.proofs.stamps.first_stale.Goals as goal

pub returns-then-claim-last-clause-stale : goal.returns-then-claim-last-clause-stale
returns-then-claim-last-clause-stale c = λ J st.
    let claims = c.args.claims.now in
    let own = sym (own_at claims c.loop-k.k no_claim c.loop-k-test.true) in
    let is = stamp_at_is J claims c.args.hands.now c.loop-k.k c.stamp_at-last.result (get_or claims c.loop-k.k no_claim) c.requires.keys st c.loop-k-test.true own c.stamp_at-last.ensures in
    (c.loop-k.k, get_or claims c.loop-k.k no_claim, first_stale_at J claims c.loop-k.k (get_or claims c.loop-k.k no_claim) c.loop-k-test.true own (c.loop-k.invariant J st) (λ e. let z = c.if-claim-last.true in omega (arith, z, e, is)), refl, is, c.if-claim-last.true)

pub returns-then-last-claim-clause-stale : goal.returns-then-last-claim-clause-stale
returns-then-last-claim-clause-stale c = λ J st.
    let claims = c.args.claims.now in
    let own = sym (own_at claims c.loop-k.k no_claim c.loop-k-test.true) in
    let is = stamp_at_is J claims c.args.hands.now c.loop-k.k c.stamp_at-last.result (get_or claims c.loop-k.k no_claim) c.requires.keys st c.loop-k-test.true own c.stamp_at-last.ensures in
    (c.loop-k.k, get_or claims c.loop-k.k no_claim, first_stale_at J claims c.loop-k.k (get_or claims c.loop-k.k no_claim) c.loop-k-test.true own (c.loop-k.invariant J st) (λ e. let z = c.if-last-claim.true in omega (arith, z, e, is)), refl, is, c.if-last-claim.true)

pub loop-k-preserved : goal.loop-k-preserved
loop-k-preserved c = λ J st.
    let claims = c.args.claims.now in
    let own = sym (own_at claims c.loop-k.k no_claim c.loop-k-test.true) in
    let is = stamp_at_is J claims c.args.hands.now c.loop-k.k c.stamp_at-last.result (get_or claims c.loop-k.k no_claim) c.requires.keys st c.loop-k-test.true own c.stamp_at-last.ensures in
    more_fresh J claims c.loop-k.k (get_or claims c.loop-k.k no_claim) c.loop-k-test.true own (c.loop-k.invariant J st) (let a = c.if-claim-last.false in let b = c.if-last-claim.false in omega (arith, a, b, is))

pub returns-clause-fresh : goal.returns-clause-fresh
returns-clause-fresh c = λ J st. all_fresh J c.args.claims.now c.loop-k.k (omega arith) (c.loop-k.invariant J st)
