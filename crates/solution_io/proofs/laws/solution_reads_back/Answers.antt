use Rattle.std.proofs.Common.{◌≡◌, ◌≤◌, ◌<◌, length, map, Ok, IsUtf8, subst, sym, ◌∙◌, arith}
use Rattle.std.proofs.lemmas.List.{length-map}
use Rattle.text_defs.specs.Solutions.{edges_from}
use Rattle.text_defs.specs.Texts.{solution_text}
use Rattle.text_defs.proofs.laws.Solutions.{edges_from-solution_text}
use Rattle.json_text.proofs.Laws.{ok_same}
use Rattle.instance_io.specs.Refusal.{ends}
use Rattle.instance_io.proofs.laws.Written.{ends_below, ends_once}
use Rattle.solution_io.proofs.laws.solution_reads_back.Goals as goal

pub returns : goal.returns
returns c =
    let n = c.args.n in
    let K = map ends c.args.pairs.now in
    let read : edges_from n (solution_text c.args.name.now K) ≡ Ok K =
    edges_from-solution_text n c.args.name.now K (omega (arith, c.ranges.n.fits)) (subst IsUtf8 c.as_str-name.ensures c.as_str-name.utf8)
    (omega (arith, length-map c.args.pairs.now ends, c.requires.few)) (ends_below n c.args.pairs.now c.requires.below) in
    record { read = read; once = λ other h. ends_once other c.args.pairs.now (ok_same (sym h ∙ read)) }
