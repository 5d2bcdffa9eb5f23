use Rattle.std.proofs.Common.{ℕ, nat_eq, subst}
use Rattle.weave.specs.Owned.{owner_in, IsLeastLacking}
use Rattle.weave.proofs.owners.lacking_end.Goals as goal

pub returns : goal.returns
returns c =
    let own = owner_in c.args.owners.now in
    let e = c.args.e in
    c.lesser.ensures own c.args.caller (λ w. nat_eq e.lo w) (λ w. nat_eq e.hi w)
    (subst (λ (x : ℕ). IsLeastLacking own c.args.caller (λ w. nat_eq x w) c.lacking.result) c.lo.ensures c.lacking.ensures)
    (subst (λ (x : ℕ). IsLeastLacking own c.args.caller (λ w. nat_eq x w) c.lacking-2.result) c.hi.ensures c.lacking-2.ensures)
