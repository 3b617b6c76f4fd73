-- what one step to the glyph whose image a glyph has does
use Rattle.std.proofs.Common.{◌≡◌, ℕ, suc, ◌<◌, ◌≤◌, ◌+◌, ◌-◌, true, false, Option, Some, None, List, nat_eq, nat_lt, length, refl, arith}
use Rattle.std.proofs.lemmas.Bool.Decides.{nat_tests}
use Rattle.font_bytes.specs.Bytes.{u16_of, u32_of}
use Rattle.bitmap_tables.specs.Sbix.{glyph_bytes, graphic_within, graphic_of}
use Rattle.bitmap_tables.specs.declared.sbix.TheConstants.{DUPE}

pub graphic_first : (t : List ℕ) (strike glyphs glyph : ℕ) → graphic_of t strike glyphs glyph ≡ graphic_within (9 - 0) t strike glyphs glyph
unfolding graphic_of
graphic_first t strike glyphs glyph = refl

pub graphic_none : (t : List ℕ) (strike glyphs glyph i : ℕ) → i < 9 → glyph_bytes t strike glyphs glyph ≡ None
    → graphic_within (9 - i) t strike glyphs glyph ≡ None
graphic_none t strike glyphs glyph i h none =
    let e : 9 - i ≡ suc (9 - (i + 1)) = omega arith in
    rw e (rw (none, graphic_within) refl)

pub graphic_own : (t : List ℕ) (strike glyphs glyph i : ℕ) (g : List ℕ) → i < 9 → glyph_bytes t strike glyphs glyph ≡ Some g
    → nat_eq (u32_of g 4) DUPE ≡ false → graphic_within (9 - i) t strike glyphs glyph ≡ Some g
graphic_own t strike glyphs glyph i g h there own =
    let e : 9 - i ≡ suc (9 - (i + 1)) = omega arith in
    rw e (rw (there, own, graphic_within) refl)

pub graphic_cut : (t : List ℕ) (strike glyphs glyph i : ℕ) (g : List ℕ) → i < 9 → glyph_bytes t strike glyphs glyph ≡ Some g
    → nat_eq (u32_of g 4) DUPE ≡ true → length g < 10 → graphic_within (9 - i) t strike glyphs glyph ≡ None
graphic_cut t strike glyphs glyph i g h there same short =
    let e : 9 - i ≡ suc (9 - (i + 1)) = omega arith in
    let yes : nat_lt (length g) 10 ≡ true = grind (arith, nat_tests, short) in
    rw e (rw (there, same, yes, graphic_within) refl)

pub graphic_next : (t : List ℕ) (strike glyphs glyph i : ℕ) (g : List ℕ) → i < 9 → glyph_bytes t strike glyphs glyph ≡ Some g
    → nat_eq (u32_of g 4) DUPE ≡ true → 10 ≤ length g
    → graphic_within (9 - i) t strike glyphs glyph ≡ graphic_within (9 - (i + 1)) t strike glyphs (u16_of g 8)
graphic_next t strike glyphs glyph i g h there same long =
    let e : 9 - i ≡ suc (9 - (i + 1)) = omega arith in
    let no : nat_lt (length g) 10 ≡ false = grind (arith, nat_tests, long) in
    rw e (rw (there, same, no, graphic_within) refl)

pub graphic_end : (t : List ℕ) (strike glyphs glyph : ℕ) → graphic_within (9 - 9) t strike glyphs glyph ≡ None
graphic_end t strike glyphs glyph = refl
