-- What the character of an item says of it.
use Rattle.std.specs.Prelude.{ℕ, Bool, ◌==◌, ◌&&◌, ◌||◌, nat_le, if◌then◌else◌}
use Rattle.std.specs.Int.RustNames.{bit_or}
use Rattle.shape_items.specs.Items.{Item}
use Rattle.shape_common.specs.Unicode.{UnicodeMeaning, is_mark}
use Rattle.shape_common.specs.declared.flags.ScratchFlags.{ScratchFlags}
use Rattle.shape_common.specs.FlagNames.{HAS_NON_ASCII, HAS_DEFAULT_IGNORABLES, HAS_CGJ}

-- lookups see U+180B to U+180D, U+180F, U+E0020 to U+E007F and U+034F, though these are ignorable
abbrev pub is_hidden_char : ℕ → Bool
is_hidden_char c = (nat_le 0x180B c && nat_le c 0x180D) || c == 0x180F || (nat_le 0xE0020 c && nat_le c 0xE007F) || c == 0x34F

-- a character past ASCII
abbrev pub beyond_ascii : ℕ → Bool
beyond_ascii c = nat_le 0x80 c

-- the item with the eight properties that depend on its character alone
abbrev pub with_unicode_props : UnicodeMeaning → Item → Item
with_unicode_props unicode item =
    let c = item.codepoint in
    let mark = beyond_ascii c && is_mark unicode c in
    record item {
      properties = record item.properties {
        general_category = unicode.category c;
        modified_ccc = if mark then unicode.ccc c else 0;
        ignorable = beyond_ascii c && unicode.ignorable c;
        hidden = is_hidden_char c;
        continuation = mark;
        zwj = c == 0x200D;
        zwnj = c == 0x200C;
        space_type = 0;
      };
    }

-- flags with one more, if the test holds
abbrev pub flag_if : Bool → ℕ → ℕ → ℕ
flag_if test flag flags = if test then bit_or flags flag else flags

-- the scratch flags once a character was seen: past ASCII, a default ignorable there, U+034F
abbrev pub with_scratch_of : UnicodeMeaning → ℕ → ScratchFlags → ScratchFlags
with_scratch_of unicode c flags = record {
  0 = flag_if (c == 0x34F) HAS_CGJ
      (flag_if (beyond_ascii c && unicode.ignorable c) HAS_DEFAULT_IGNORABLES (flag_if (beyond_ascii c) HAS_NON_ASCII flags.0));
}
