use Rattle.std.proofs.Common.{rules, ℕ, List, replicate, None, Option, sym, ◌∙◌, subst}
use Rattle.atomic_table.specs.Table.{opening}
use Rattle.vertex_claims.specs.declared.table.About.{About}
use Rattle.vertex_claims.specs.Kept.{Kept, first_view}
use Rattle.vertex_claims.proofs.Moves.{starts}
use Rattle.vertex_claims.proofs.holding.Claims.make.Goals as goal

pub vacant-requires : goal.vacant-requires
vacant-requires g c =
    let a : About g.row.C-Root.Denot = record { callers = c.args.callers; places = c.len-count.result; root = c.of.result } in
    let empty : List (Option g.row.C.Denot) = replicate c.len-count.result None in
    let words = c.as_slice.ensures.value ∙ c.in-Ok-vec.ensures.items_if_clones_equal (search rules) in
    subst (λ (ws : List ℕ). Kept g.C.Held.fits a (opening ws empty (first_view a))) (sym words) (starts g.C.Held.fits a c.requires.callers)
