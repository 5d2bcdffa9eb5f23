-- Points that are copied one by one.
use Rattle.std.proofs.Common.{◌≡◌, ℕ, ◌+◌, ◌<◌, List, [], ◌∷◌, ◌++◌, length, take, sym, ◌∙◌, ap, pos}
use Rattle.std.proofs.lemmas.List.{take_more}
use Rattle.plane.specs.declared.coordinates.Point.{Point}
use Rattle.plane.specs.Geometry.{point}

pub take_point : (S T : List Point) (k : ℕ) (p : Point) → k < length S → p ≡ point S k → T ≡ take k S → T ++ p ∷ [] ≡ take (k + 1) S
take_point S T k p h is so = ap (λ (L : List Point). L ++ p ∷ []) so ∙ ap (λ (x : Point). take k S ++ x ∷ []) is ∙ sym (take_more S k (record { x = pos 0; y = pos 0 }) h)
