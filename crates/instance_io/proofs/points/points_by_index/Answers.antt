use Rattle.std.proofs.Common.{◌≡◌, map, length, ap, ◌∙◌, arith, subst, Bool, true, false, List}
use Rattle.std.proofs.lemmas.List.{length-map, length-set}
use Rattle.serde_json.specs.View.{view}
use Rattle.text_defs.specs.Instances.{point_of}
use Rattle.instance_io.specs.Refusal.{coordinates}
use Rattle.instance_io.specs.Told.{is_seen}
use Rattle.json_text.proofs.Laws.{view-at}
use Rattle.instance_io.proofs.Places.{bad_if_seen, bad_index_found, no_bad_index}
use Rattle.instance_io.proofs.Placed.{step, placed_end}
use Rattle.instance_io.proofs.points.points_by_index.Goals as goal

pub returns-in_default-new_index : goal.returns-in_default-new_index
returns-in_default-new_index c =
    let ds = map view c.args.items.now in
    let count = length-map c.args.items.now view in
    let inv = c.loop-place.invariant in
    let now = c.deref.result.now in
    let all = ap length c.deref.ensures.value in
    let at = view-at c.args.items.now c.loop-place.place c.index-items-place.result (omega arith) c.index-items-place.is in
    let seen = subst (λ (s : List Bool). is_seen s (length now) (view c.index-items-place.result) ≡ true) c.deref.ensures.value c.in_default-new_index.ensures in
    bad_index_found ds c.loop-place.place (omega (arith, count)) inv.stepped.good
    (bad_if_seen c.loop-place.seen.items ds (length now) c.loop-place.place (view c.index-items-place.result) true (omega (arith, all, count, inv.all_seen)) at inv.stepped.seen_is seen)

pub bounds-points-place : goal.bounds-points-place
bounds-points-place c =
    let a = length-map c.args.points.now coordinates in
    let b = length-map (map view c.args.items.now) point_of in
    let d = length-map c.args.items.now view in
    let e = ap length c.requires.all in
    omega (arith, a, b, d, e)

pub loop-place-preserved : goal.loop-place-preserved
loop-place-preserved c =
    let ds = map view c.args.items.now in
    let count = length-map c.args.items.now view in
    let inv = c.loop-place.invariant in
    let now = c.deref.result.now in
    let all = ap length c.deref.ensures.value in
    let at = view-at c.args.items.now c.loop-place.place c.index-items-place.result (omega arith) c.index-items-place.is in
    let seen = subst (λ (s : List Bool). is_seen s (length now) (view c.index-items-place.result) ≡ false) c.deref.ensures.value c.in-Some.ensures.0 in
    record {
      all_seen = length-set c.loop-place.seen.items c.in-Some.index true ∙ inv.all_seen;
      all_placed = length-set c.loop-place.placed.items c.in-Some.index _ ∙ inv.all_placed;
      stepped = step c.loop-place.seen.items c.loop-place.placed.items c.args.points.now ds c.loop-place.place c.in-Some.index (length now) (view c.index-items-place.result)
          (omega (arith, count)) (omega (arith, all, count, inv.all_seen)) (omega (arith, all)) (omega (arith, all, inv.all_seen, inv.all_placed)) at c.requires.all inv.stepped seen c.in-Some.ensures.1 c.in-Some.ensures.2;
    }

pub returns : goal.returns
returns c =
    let ds = map view c.args.items.now in
    let count = length-map c.args.items.now view in
    let inv = c.loop-place.invariant in (
      no_bad_index ds c.loop-place.place (omega (arith, count)) inv.stepped.good,
      placed_end c.loop-place.placed.items ds c.loop-place.place (omega (arith, count)) (omega (arith, count, inv.all_placed)) inv.stepped.placed_is c.requires.indexed,
    )
