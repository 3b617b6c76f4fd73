-- What subtables are charged, and what is kerned when what is left doesn't suffice: two glyphs cost 32 a subtable.
use Rattle.std.specs.Prelude.{None, ◌≡◌, ℕ, pos, negsuc, List, [], ◌∷◌, ◌++◌, refl}
use Rattle.std.specs.Int.{int_wrap}
use Rattle.shape_common.specs.Wrapping.{◌+ʷ◌, ◌-ʷ◌}
use Rattle.shape_common.specs.declared.text_types.Direction.TheVariants.{LeftToRight, RightToLeft}
use Rattle.shape_font.specs.Bytes.{i16_of}
use Rattle.shape_items.specs.Buffer.{Buffer}
use Rattle.kern_table.specs.Headers.{first_start, length_of, format_of, coverage_of, header_size}
use Rattle.kern_table.specs.Pairs.{value_of}
use Rattle.kern_table.specs.Tables.{subtable_work, table_kerned}
use Rattle.kern_table.specs.Worked.Kern.{subtable, table, on, line, along, masks, still}

-- glyphs 2 and 3, and so much left
abbrev pub two : ℕ → Buffer
two left = record (line LeftToRight (on 2 0 ∷ on 3 1 ∷ [])) { max_ops = left }

abbrev pub none : ℕ → Buffer
none left = record (line LeftToRight []) { max_ops = left }

-- two subtables that kern by -50, and one that says that it is shorter than its header after the first
abbrev pub twice : List ℕ
twice = table 2 1 ++ subtable 26 1 2

abbrev pub ended : List ℕ
ended = table 2 1 ++ subtable 5 1 2

abbrev pub kerned_by : List ℕ → Buffer → Buffer
kerned_by t b = table_kerned None t 16 b

pub record WorkedCharges : Type 0 where
  pub an_item : subtable_work 1 ≡ 16
  pub items : subtable_work 3 ≡ 48
  pub no_item : subtable_work 0 ≡ 1
  -- 2^60 items cost 2^64, which can't be counted
  pub most : subtable_work 1152921504606846976 ≡ 18446744073709551615
  pub one_subtable : (kerned_by (table 1 1) (two 100)).max_ops ≡ 68
  pub two_subtables : (kerned_by twice (two 100)).max_ops ≡ 36
  pub of_the_other_line : (kerned_by (table 1 0) (two 100)).max_ops ≡ 68
  pub without_items : (kerned_by twice (none 100)).max_ops ≡ 98
  pub short_is_free : (kerned_by ended (two 100)).max_ops ≡ 68
  pub no_mask_is_free : (table_kerned None twice 0 (two 100)).max_ops ≡ 100
  pub suffices : along (kerned_by (table 1 1) (two 32)) ≡ (pos 575, pos 0) ∷ (pos 575, negsuc 24) ∷ []
  pub suffices_exactly : (kerned_by (table 1 1) (two 32)).max_ops ≡ 0
  pub lacks_one : along (kerned_by (table 1 1) (two 31)) ≡ still ∷ still ∷ []
  pub nothing_is_left : (kerned_by (table 1 1) (two 31)).max_ops ≡ 0
  -- no flag is set, either
  pub not_marked : masks (kerned_by (table 1 1) (record (two 31) { flags = record { 0 = 64 } })) ≡ 16 ∷ 16 ∷ []
  -- the first subtable has kerned, and stays
  pub first_alone : along (kerned_by twice (two 63)) ≡ (pos 575, pos 0) ∷ (pos 575, negsuc 24) ∷ []
  pub both : along (kerned_by twice (two 64)) ≡ (pos 550, pos 0) ∷ (pos 550, negsuc 49) ∷ []
  pub backward_too : (kerned_by twice (record (two 63) { direction = RightToLeft })).max_ops ≡ 0

pub worked_charges : WorkedCharges
unfolding i16_of ◌+ʷ◌ ◌-ʷ◌ int_wrap first_start length_of value_of format_of coverage_of header_size
worked_charges = record {
  an_item = refl;
  items = refl;
  no_item = refl;
  most = refl;
  one_subtable = refl;
  two_subtables = refl;
  of_the_other_line = refl;
  without_items = refl;
  short_is_free = refl;
  no_mask_is_free = refl;
  suffices = refl;
  suffices_exactly = refl;
  lacks_one = refl;
  nothing_is_left = refl;
  not_marked = refl;
  first_alone = refl;
  both = refl;
  backward_too = refl;
}
