use Rattle.std.proofs.Common.{◌≡◌, ◌∙◌, ◌≤◌, subst, pos, arith, List}
use Rattle.std.specs.List.{Contains, sum_by}
use Rattle.plane.specs.declared.segment.Pair.{Pair}
use Rattle.price_defs.specs.Loads.{gives, takes}
use Rattle.branch_tree.proofs.Shown.{AreSums, shown_small, leaf_is}
use Rattle.branch_tree.proofs.leaf.leaf_value_of.Goals as goal

pub loads_of-requires-clause-within : goal.loads_of-requires-clause-within
loads_of-requires-clause-within c = λ e k.
    c.requires.within e (((c.in_ok-free.ensures.part.exact e).0 (subst (λ l. Contains l e) c.as_slice-list.ensures.value k)).0)

pub overflow_add-result-2 : goal.overflow_add-result-2
overflow_add-result-2 c =
    let S = c.args.points.now in
    let seen = c.as_slice-rows.result.now in
    let list = c.as_slice-list.result.now in
    let sums : AreSums c.added_by.result c.lost_by.result c.loads_of.result = record { added = c.added_by.ensures.small; lost = c.lost_by.ensures.small; low = c.loads_of.ensures.low; high = c.loads_of.ensures.high } in
    let v = shown_small c.args.certificate.now.q c.added_by.result c.lost_by.result (sum_by (λ (e : Pair). gives S seen e.lo e.hi) list) (sum_by (λ (e : Pair). takes seen e.lo e.hi) list)
    c.div_ceil-shown.result c.loads_of.result c.max.result c.requires.divisor sums c.loads_of.ensures.sum c.max.ensures.value c.div_ceil-shown.ensures in
    omega (arith, v, c.cost_of.ensures.small, c.requires.base)

pub returns : goal.returns
returns c =
    let sums : AreSums c.added_by.result c.lost_by.result c.loads_of.result = record { added = c.added_by.ensures.small; lost = c.lost_by.ensures.small; low = c.loads_of.ensures.low; high = c.loads_of.ensures.high } in (
      c.in_ok-free.free.items,
      c.in_ok-free.ensures.part,
      leaf_is c.args.points.now c.args.costs.now c.args.base c.args.certificate.now.q c.args.certificate.now.rows c.as_slice-rows.result.now c.in_ok-free.free.items c.as_slice-list.result.now
          c.added_by.result c.lost_by.result c.cost_of.result c.div_ceil-shown.result c.loads_of.result c.max.result
          c.as_slice-rows.ensures c.as_slice-list.ensures.value c.added_by.ensures.sum c.lost_by.ensures.sum c.loads_of.ensures.sum sums c.max.ensures.value c.cost_of.ensures.cost c.div_ceil-shown.ensures,
    )
