use Rattle.std.proofs.Common.{List, ℕ, length, ◌≡◌, sym, subst, subst₂, arith}
use Rattle.border.specs.Chain.{ArePlaces}
use Rattle.border.specs.Marks.{AreOthers}
use Rattle.border.proofs.Marks.{marks_of, border_within}
use Rattle.border.proofs.inner.inner_marks.Goals as goal

pub unmark-requires-clause-places : goal.unmark-requires-clause-places
unmark-requires-clause-places c =
    let e : length c.args.points.now ≡ length c.in_ok-marks.marks.items = omega (arith, c.in_ok-marks.ensures.len, c.in_ok-marks.marks.ok, c.len.ensures.count) in
    subst₂ ArePlaces e (sym c.as_slice.ensures.value) (border_within c.args.points.now c.in_ok-list.list.items c.in_ok-list.ensures)

pub returns : goal.returns
returns c =
    marks_of c.args.points.now c.in_ok-list.list.items c.unmark.new.marks.items c.in_ok-list.ensures
    (omega (arith, c.unmark.ensures.count, c.in_ok-marks.ensures.len, c.in_ok-marks.marks.ok, c.len.ensures.count))
    (subst (λ (xs : List ℕ). AreOthers xs (length xs) c.unmark.new.marks.items) c.as_slice.ensures.value c.unmark.ensures.others)
