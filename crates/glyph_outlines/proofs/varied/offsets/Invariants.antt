use Rattle.std.proofs.Common.{◌≡◌, ◌++◌, drop}
use Rattle.std.specs.Prelude.{map}
use Rattle.shape_font.specs.BoxesAt.{offset_of}
use Rattle.glyph_outlines.proofs.varied.offsets.Given as goal

-- those that were read, and those that are still to be read, are all
abbrev pub invariant-loop-component : goal.invariant-loop-component
invariant-loop-component l = l.offsets.items ++ map offset_of (drop l.component-index l.components) ≡ map offset_of l.components
