use Rattle.std.proofs.Common.{◌+◌, ◌++◌, sym, ap, ◌∙◌}
use Rattle.std.proofs.lemmas.List.{take_rest}
use Rattle.text_defs.specs.Pieces.{string_len}
use Rattle.json_text.proofs.Pieces.{pushes_string, pushes_run, pushes_others}
use Rattle.json_text.proofs.rewriting.push_piece.Goals as goal

pub returns-in_ok-extend_from_slice-clause-piece : goal.returns-in_ok-extend_from_slice-clause-piece
returns-in_ok-extend_from_slice-clause-piece c =
    pushes_string _ _ c.args.rest.now _ c.requires c.if-byte-eq34.true
    (ap (λ k. 1 + k) (c.string_len-end.ensures.value ∙ ap string_len (take_rest c.args.rest.now 1))) c.in_ok-extend_from_slice.ensures.items

pub returns-in_ok-extend_from_slice-2-clause-piece : goal.returns-in_ok-extend_from_slice-2-clause-piece
returns-in_ok-extend_from_slice-2-clause-piece c =
    pushes_run _ _ c.args.rest.now _ c.requires (sym c.if-is_number_byte.ensures) c.if-byte-eq34.false c.run_len-end.ensures.value
    (c.in_ok-extend_from_slice-2.ensures.items ∙ ap (λ p. c.args.plain.now.items ++ p) c.plain_run.ensures)

pub returns-in_ok-extend_from_slice-3-clause-piece : goal.returns-in_ok-extend_from_slice-3-clause-piece
returns-in_ok-extend_from_slice-3-clause-piece c =
    pushes_others _ _ c.args.rest.now _ c.others_len-end.ensures.value c.in_ok-extend_from_slice-3.ensures.items
