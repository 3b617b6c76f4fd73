-- What preserves the flags of glyphs.
use Rattle.std.specs.Prelude.{◌≡◌, ℕ, ◌==◌, ◌⊎◌, Bool, true, nat_lt, List}
use Rattle.std.specs.Int.RustNames.{bit_and}
use Rattle.std.specs.List.{list_any}
use Rattle.shape_items.specs.Items.{Item}
use Rattle.shape_items.specs.Buffer.{Buffer}
use Rattle.shape_common.specs.FlagNames.{UNSAFE_TO_BREAK, UNSAFE_TO_CONCAT, SAFE_TO_INSERT_TATWEEL, HAS_GLYPH_FLAGS}

-- one of the three flags of a glyph
abbrev pub IsDefinedFlag : ℕ → Type 0
IsDefinedFlag flag = (flag ≡ UNSAFE_TO_BREAK) ⊎ (flag ≡ UNSAFE_TO_CONCAT) ⊎ (flag ≡ SAFE_TO_INSERT_TATWEEL)

-- the flag stands in the mask
abbrev pub has_flag : ℕ → Item → Bool
has_flag flag item = nat_lt 0 (bit_and item.mask flag)

-- the flag stands in some mask
abbrev pub some_has : ℕ → List Item → Bool
some_has flag xs = list_any (has_flag flag) xs

-- the scratch flag HAS_GLYPH_FLAGS is set
abbrev pub has_glyph_flags : Buffer → Bool
has_glyph_flags b = bit_and b.scratch_flags.0 HAS_GLYPH_FLAGS == HAS_GLYPH_FLAGS

-- a defined flag that no mask of the list had before comes only with the scratch flag HAS_GLYPH_FLAGS; this one stays
-- if it was set, and the buffer's flags stay; nothing is said of one item: a defined flag may go from item to item
-- without the scratch flag, as in deletion
pub record PreservesFlags (before after : Buffer) : Type 0 where
  pub flags : after.flags ≡ before.flags
  pub stays_set : has_glyph_flags before ≡ true → has_glyph_flags after ≡ true
  pub none_new : (flag : ℕ) → IsDefinedFlag flag → some_has flag after.items ≡ true
      → (some_has flag before.items ≡ true) ⊎ (has_glyph_flags after ≡ true)
