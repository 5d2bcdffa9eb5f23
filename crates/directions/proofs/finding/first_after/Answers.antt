use Rattle.std.proofs.Common.{◌-◌, ◌<◌, ℕ, length, sym, ◌∙◌, subst, arith}
use Rattle.std.proofs.lemmas.Bool.{false≢true}
use Rattle.directions.proofs.Found.{IsSearched, searched_first, searched_next, searched_rises, centre_none}
use Rattle.directions.proofs.finding.first_after.Goals as goal

pub returns-then-q-p : goal.returns-then-q-p
returns-then-q-p c = λ r qr rn. centre_none c.args.points.now c.args.p c.args.q r c.if-q-p.true

pub loop-r-init : goal.loop-r-init
loop-r-init c =
    subst (IsSearched c.args.points.now c.args.p c.args.q) (sym c.from-r.ensures)
    (searched_first c.args.points.now c.args.p c.args.q c.args.next.now c.len-count.ensures.accepted c.requires.p_in c.requires.q_in c.if-q-p.false c.requires.next)

pub loop-r-preserved : goal.loop-r-preserved
loop-r-preserved c =
    subst (IsSearched c.args.points.now c.args.p c.args.q) (sym c.from-r-in-loop-r.ensures)
    (searched_next c.args.points.now c.args.p c.args.q c.loop-r.r c.args.next.now c.len-count.ensures.accepted c.requires.p_in c.requires.q_in c.if-q-p.false (omega (arith, c.loop-r-test.true, c.len-count.ensures.count)) c.requires.next
    (λ h. false≢true (sym c.if-between.false ∙ c.between.ensures.1 h)) c.loop-r.invariant)

pub loop-r-smaller : goal.loop-r-smaller
loop-r-smaller c =
    subst (λ (x : ℕ). length c.args.points.now - x < length c.args.points.now - c.loop-r.r) (sym c.from-r-in-loop-r.ensures)
    (searched_rises c.args.points.now c.args.p c.args.q c.loop-r.r c.args.next.now (omega (arith, c.loop-r-test.true, c.len-count.ensures.count)) c.requires.next c.loop-r.invariant)
