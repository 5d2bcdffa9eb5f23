use Rattle.std.proofs.Common.{length, map, All, Ok, IsUtf8, subst, sym, arith}
use Rattle.std.proofs.lemmas.List.{length-map}
use Rattle.text_defs.proofs.laws.Instances.{instance_from-instance_text}
use Rattle.text_defs.proofs.laws.IsPlain.{IsCosted}
use Rattle.text_defs.specs.Instances.{instance_from}
use Rattle.text_defs.specs.Texts.{instance_text}
use Rattle.instance_io.specs.Refusal.{coordinates, cost_item, IsRead}
use Rattle.instance_io.proofs.laws.Written.{near_places, costs_below, costs_apart, costs_of_own}
use Rattle.instance_io.proofs.laws.Readings.{read_once}
use Rattle.instance_io.proofs.laws.instance_reads_back.Goals as goal

pub returns : goal.returns
returns c =
    let i = c.args.instance.now in
    let S = map coordinates i.points in
    let D = map cost_item i.costs in
    let accepted = c.len-count.ensures.accepted in
    let costs = c.list-costs.ensures.costs in
    let count = length-map i.points coordinates in
    let below : All (IsCosted (length S)) D = subst (λ n. All (IsCosted n) D) (sym count) (costs_below (length i.points) i.costs costs.within c.requires.below) in
    let read : IsRead (instance_from (instance_text D i.name S)) (Ok i) = (
      D,
      instance_from-instance_text D i.name S (subst IsUtf8 c.as_str-name.ensures c.as_str-name.utf8) c.requires.short (omega (arith, count, accepted.count.1)) (near_places i.points accepted.near)
          (omega (arith, length-map i.costs cost_item, c.requires.few)) below (costs_apart i.costs costs),
      costs_of_own i.costs costs,
    ) in
    record { read = read; once = λ other h. read_once (instance_from (instance_text D i.name S)) other i h read }
