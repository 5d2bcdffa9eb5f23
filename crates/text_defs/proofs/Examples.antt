-- The definitions, computed on small texts.
use Rattle.std.proofs.Common.{◌≡◌, codes, refl, Some, None, pos, neg_ℤ}
use Rattle.json.specs.Word.{after_number}
use Rattle.serde_json.specs.Data.{string}
use Rattle.text_defs.specs.Pieces.{pieces}
use Rattle.text_defs.specs.Numbers.{replacement, rewritten}
use Rattle.text_defs.specs.Levels.{unquoted, levels}
use Rattle.text_defs.specs.Whole.{whole}

ten-zero : rewritten (codes "[12.0,-0,-0.0,12.50,1e3,+1,01]") ≡ codes "[12,0,0,null,null,+1,01]"
unfolding rewritten pieces replacement after_number
ten-zero = refl

strings-stay : rewritten (codes "{\"1e3\\\"-0\":-0}") ≡ codes "{\"1e3\\\"-0\":0}"
unfolding rewritten pieces replacement after_number
strings-stay = refl

bounds : rewritten (codes "9223372036854775807 9223372036854775808 -9223372036854775808 -9223372036854775809.0") ≡ codes "9223372036854775807 9223372036854775807 -9223372036854775808 -9223372036854775808"
unfolding rewritten pieces replacement after_number
bounds = refl

four-levels : levels (codes "[[{}\"[[[[\"]{[{") ≡ 4
unfolding levels unquoted pieces
four-levels = refl

below-zero : levels (codes "]][{}[[") ≡ 1
unfolding levels unquoted pieces
below-zero = refl

spelled : whole (string (codes "-0012")) ≡ Some (neg_ℤ (pos 12))
spelled = refl

no-plus : whole (string (codes "+12")) ≡ None
no-plus = refl
