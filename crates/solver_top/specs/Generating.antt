-- What `gen` answers. (This project's own.)
use Rattle.std.specs.Prelude.{◌≡◌, ℕ, List, [], ◌++◌, map, codes}
use Rattle.plane.specs.declared.coordinates.Point.{Point}
use Rattle.instance_io.specs.Refusal.{coordinates}
use Rattle.text_defs.specs.Texts.{instance_text}
use Rattle.generator.specs.declared.kinds.Kind.{Kind}
use Rattle.generator.specs.Kinds.{AreMade}
use Rattle.generator.specs.Names.{made_name}

-- the instance made from a number, and an LF
abbrev pub IsGenerated : Kind → (n seed : ℕ) → List ℕ → Type 0
IsGenerated kind n seed text = (S : List Point) × AreMade kind n seed S
    × (text ≡ instance_text [] (made_name kind n seed) (map coordinates S) ++ codes "\n")
