use Rattle.std.proofs.Common.{◌≡◌, ◌+◌, List, length, get_or, ap, subst, arith}
use Rattle.plane.specs.declared.segment.Pair.{Pair}
use Rattle.subdivision.specs.Listing.{IsSortedFrom}
use Rattle.subdivision.proofs.laws.Sorting.{not_first, sorted_from}
use Rattle.report_check.proofs.Sorted.{sorted_of}
use Rattle.report_check.proofs.result.sorted.Goals as goal

pub returns : goal.returns
returns c =
    let new = c.sort_unstable.new.self.items in
    let same : c.in_ok-list.list.items ≡ c.args.pairs.now = c.in_ok-list.ensures.items_if_clones_equal (λ x y same. same) in
    let so = sorted_from c.in_ok-list.list.items new c.sort_unstable.ensures.permutation (λ k d h. not_first (get_or new k d) (get_or new (k + 1) d) (c.sort_unstable.ensures.sorted k d (omega arith) h)) in
    sorted_of c.args.pairs.now new c.requires (subst (λ (L : List Pair). IsSortedFrom L new) same so)
    (omega (arith, c.sort_unstable.ensures.len, c.sort_unstable.new.self.ok.0, c.in_ok-list.list.ok.0, ap (λ (L : List Pair). length L) same))
