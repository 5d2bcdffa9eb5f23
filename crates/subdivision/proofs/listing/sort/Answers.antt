use Rattle.std.proofs.Common.{get_or, ◌+◌, arith}
use Rattle.subdivision.proofs.laws.Sorting.{not_first, sorted_from}
use Rattle.subdivision.proofs.listing.sort.Goals as goal

pub returns : goal.returns
returns c =
    let new = c.sort.new.self.items in
    sorted_from _ new c.in_ok-sort.ensures.permutation (λ k d h. not_first (get_or new k d) (get_or new (k + 1) d) (c.in_ok-sort.ensures.sorted k d (omega arith) h))
