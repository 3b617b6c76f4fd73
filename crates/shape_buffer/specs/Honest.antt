-- Flags are seen: if the run has not seen flags, no item has one.
use Rattle.std.specs.Prelude.{◌≡◌, ℕ, false}
use Rattle.shape_items.specs.Buffer.{Buffer}
use Rattle.shape_items.specs.PreservesFlags.{IsDefinedFlag, some_has, has_glyph_flags}

-- if the scratch flag HAS_GLYPH_FLAGS is off, no item has a defined flag
pub record IsHonest (b : Buffer) : Type 0 where
  pub honest : has_glyph_flags b ≡ false → (flag : ℕ) → IsDefinedFlag flag → some_has flag b.items ≡ false
