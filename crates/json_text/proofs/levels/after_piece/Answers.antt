use Rattle.std.proofs.Common.{◌-◌, length, drop, inl, inr, sym, ap, ◌∙◌, arith, length-take}
use Rattle.std.proofs.lemmas.List.{take_rest}
use Rattle.text_defs.specs.Pieces.{string_len}
use Rattle.json_text.proofs.Pieces.{passes_string, passes_run, passes_open, refuses_open, passes_close, passes_other}
use Rattle.json_text.proofs.levels.after_piece.Goals as goal

pub returns-then-byte-eq34 : goal.returns-then-byte-eq34
returns-then-byte-eq34 c =
    passes_string c.args.rest.now c.args.room _ c.requires.some c.if-byte-eq34.true (c.string_len.ensures.value ∙ ap string_len (take_rest c.args.rest.now 1)) (omega (arith, c.string_len.ensures.bound, length-take (length c.args.rest.now - 1) (drop 1 c.args.rest.now)))

pub returns-then-is_number_byte : goal.returns-then-is_number_byte
returns-then-is_number_byte c =
    passes_run c.args.rest.now c.args.room _ c.requires.some (sym c.if-is_number_byte.ensures) c.if-byte-eq34.false c.run_len.ensures.value c.run_len.ensures.bound

pub returns-then-room-eq0 : goal.returns-then-room-eq0
returns-then-room-eq0 c = refuses_open c.args.rest.now c.args.room c.requires.some (sym c.if-is_number_byte.ensures) c.if-byte-eq34.false
    (elim c.if-byte-eq123.either [ inl a ↦ inl a | inr b ↦ inr b.1 ]) c.if-room-eq0.true

pub returns-else-room-eq0 : goal.returns-else-room-eq0
returns-else-room-eq0 c = passes_open c.args.rest.now c.args.room c.requires.some (sym c.if-is_number_byte.ensures) c.if-byte-eq34.false
    (elim c.if-byte-eq123.either [ inl a ↦ inl a | inr b ↦ inr b.1 ]) c.if-room-eq0.false

pub returns-then-byte-eq125 : goal.returns-then-byte-eq125
returns-then-byte-eq125 c = passes_close c.args.rest.now c.args.room c.requires.some (sym c.if-is_number_byte.ensures) c.if-byte-eq34.false
    (elim c.if-byte-eq125.either [ inl a ↦ inl a | inr b ↦ inr b.1 ])

pub returns-else-byte-eq125 : goal.returns-else-byte-eq125
returns-else-byte-eq125 c = passes_other c.args.rest.now c.args.room c.requires.some (sym c.if-is_number_byte.ensures) c.if-byte-eq34.false c.if-byte-eq123.false.0 c.if-byte-eq123.false.1 c.if-byte-eq125.false.0 c.if-byte-eq125.false.1
