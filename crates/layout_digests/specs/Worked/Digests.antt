-- Sets of glyphs, and the glyphs that subtables begin at, worked out by hand.
use Rattle.std.specs.Prelude.{◌≡◌, ℕ, true, false, List, [], ◌∷◌, ◌++◌, map, refl}
use Rattle.std.proofs.Common.{lit<, arith}
use Rattle.shape_font.specs.Worked.Glyphs.{words}
use Rattle.layout_tables.specs.declared.lookups.LookupSubtable.{LookupSubtable}
use Rattle.layout_matching.specs.declared.firsts.First.{First}
use Rattle.layout_digests.specs.Coverages.{listed_count, range_count, HasListed, HasRanges, HasCovered}
use Rattle.layout_matching.specs.Firsts.{has_bit, KeepsBits, may_begin, no_first}
use Rattle.layout_digests.specs.Digests.{has, HasBits, HasGlyphs, IsWithin}
use Rattle.layout_digests.specs.Lookups.{begins_at, extension_kind, is_chained_kind, is_context_kind, AreDigests, IsDigest, no_digest}
use Rattle.layout_digests.specs.Stored.{HoldsFirsts}
use Rattle.layout_digests.specs.declared.digest.Digest.{Digest}

-- of the glyph 4660: its bits are 52, 26 (of 2330), 13 (of 1165), 35 (of 291), 8 (of 72) and 9
abbrev pub of_one : Digest
of_one = record { fine = 4503599627370496; halves = 67108864; quarters = 8192; middle = 34359738368; blocks = 256; coarse = 512 }

abbrev pub words_of_one : First
words_of_one = record { fine = of_one.fine; middle = of_one.middle; coarse = of_one.coarse }

pub record WorkedDigests : Type 0 where
  pub bits : map (has_bit 5) (0 ∷ 1 ∷ 2 ∷ 3 ∷ []) ≡ true ∷ false ∷ true ∷ false ∷ []
  pub last_bit : has_bit 0x8000000000000000 63 ≡ true
  pub last_six_bits : has_bit 5 66 ≡ true
  pub its_glyph : has of_one 4660 ≡ true
  pub of_another_number : has of_one 4661 ≡ false
  -- 4724 has the bits 52, 58, 29, 39, 9 and 9, and 564 the bits 52, 26, 13, 35, 8 and 1
  pub of_another_sixteenth : has of_one 4724 ≡ false
  pub of_another_512th : has of_one 564 ≡ false
  pub not_by_fine : has (record of_one { fine = 0 }) 4660 ≡ false
  pub not_by_halves : has (record of_one { halves = 0 }) 4660 ≡ false
  pub not_by_quarters : has (record of_one { quarters = 0 }) 4660 ≡ false
  pub not_by_middle : has (record of_one { middle = 0 }) 4660 ≡ false
  pub not_by_blocks : has (record of_one { blocks = 0 }) 4660 ≡ false
  pub not_by_coarse : has (record of_one { coarse = 0 }) 4660 ≡ false
  -- 32768 further on all six come again
  pub not_put_in : has of_one 37428 ≡ true
  -- the bits of 511 are 63, 63 (of 255), 63 (of 127), 31, 7 and 0
  pub last_of_a_512th : has (record {
    fine = 0x8000000000000000;
    halves = 0x8000000000000000;
    quarters = 0x8000000000000000;
    middle = 0x80000000;
    blocks = 0x80;
    coarse = 1;
  }) 511 ≡ true
  -- the three words that are stored for a subtable
  pub words_its_glyph : may_begin words_of_one 4660 ≡ true
  pub words_of_another_number : may_begin words_of_one 4661 ≡ false
  pub words_of_another_sixteenth : may_begin words_of_one 4724 ≡ false
  pub words_of_another_512th : may_begin words_of_one 564 ≡ false
  pub words_not_by_middle : may_begin (record words_of_one { middle = 0 }) 4660 ≡ false

pub worked_digests : WorkedDigests
unfolding has has_bit
worked_digests = record {
  bits = refl;
  last_bit = refl;
  last_six_bits = refl;
  its_glyph = refl;
  of_another_number = refl;
  of_another_sixteenth = refl;
  of_another_512th = refl;
  not_by_fine = refl;
  not_by_halves = refl;
  not_by_quarters = refl;
  not_by_middle = refl;
  not_by_blocks = refl;
  not_by_coarse = refl;
  not_put_in = refl;
  last_of_a_512th = refl;
  words_its_glyph = refl;
  words_of_another_number = refl;
  words_of_another_sixteenth = refl;
  words_of_another_512th = refl;
  words_not_by_middle = refl;
}

-- a lookup of type 1 with one subtable, at 8, whose Coverage table at 14 has glyph 5
abbrev pub single : List ℕ
single = 0 ∷ 1 ∷ 0 ∷ 0 ∷ 0 ∷ 1 ∷ 0 ∷ 8 ∷ 0 ∷ 1 ∷ 0 ∷ 6 ∷ 0 ∷ 1 ∷ 0 ∷ 1 ∷ 0 ∷ 1 ∷ 0 ∷ 5 ∷ []

-- a context of format 3 with one glyph, whose list at 8 has glyph 5
abbrev pub context : List ℕ
context = 0 ∷ 3 ∷ 0 ∷ 1 ∷ 0 ∷ 0 ∷ 0 ∷ 8 ∷ 0 ∷ 1 ∷ 0 ∷ 1 ∷ 0 ∷ 5 ∷ []

-- a chained context of format 3 with one glyph and none around it, whose list at 12 has glyph 5
abbrev pub chain : List ℕ
chain = 0 ∷ 3 ∷ 0 ∷ 0 ∷ 0 ∷ 1 ∷ 0 ∷ 12 ∷ 0 ∷ 0 ∷ 0 ∷ 0 ∷ 0 ∷ 1 ∷ 0 ∷ 1 ∷ 0 ∷ 5 ∷ []

abbrev pub at : ℕ → ℕ → LookupSubtable
at kind start = record { kind = kind; start = start }

pub record WorkedFirsts : Type 0 where
  pub contexts : map (is_context_kind false) (4 ∷ 5 ∷ 6 ∷ 7 ∷ []) ≡ false ∷ true ∷ true ∷ false ∷ []
  pub contexts_of_positions : map (is_context_kind true) (6 ∷ 7 ∷ 8 ∷ 9 ∷ []) ≡ false ∷ true ∷ true ∷ false ∷ []
  pub chains : map (is_chained_kind false) (5 ∷ 6 ∷ 8 ∷ []) ≡ false ∷ true ∷ false ∷ []
  pub chains_of_positions : map (is_chained_kind true) (6 ∷ 7 ∷ 8 ∷ []) ≡ false ∷ false ∷ true ∷ []
  pub extensions : map extension_kind (false ∷ true ∷ []) ≡ 7 ∷ 9 ∷ []
  pub of_a_list : map (begins_at single false (at 1 8)) (4 ∷ 5 ∷ 6 ∷ []) ≡ false ∷ true ∷ false ∷ []
  pub of_a_context : map (begins_at context false (at 5 0)) (4 ∷ 5 ∷ []) ≡ false ∷ true ∷ []
  -- a context of format 1, whose list at 6 has glyph 5
  pub of_a_context_by_glyphs : map (begins_at (words (1 ∷ 6 ∷ 0 ∷ 1 ∷ 1 ∷ 5 ∷ [])) false (at 5 0)) (4 ∷ 5 ∷ []) ≡ false ∷ true ∷ []
  pub of_a_chain : map (begins_at chain false (at 6 0)) (4 ∷ 5 ∷ []) ≡ false ∷ true ∷ []
  pub of_a_chain_of_positions : map (begins_at chain true (at 8 0)) (4 ∷ 5 ∷ []) ≡ false ∷ true ∷ []
  -- four glyphs are stated and two are there; two ranges and one
  pub listed : listed_count (0 ∷ 1 ∷ 0 ∷ 4 ∷ 0 ∷ 5 ∷ 0 ∷ 9 ∷ []) 0 ≡ 2
  -- one is stated
  pub listed_stated : listed_count (words (1 ∷ 1 ∷ 5 ∷ 9 ∷ [])) 0 ≡ 1
  pub ranges : range_count (0 ∷ 2 ∷ 0 ∷ 2 ∷ 0 ∷ 5 ∷ 0 ∷ 9 ∷ 0 ∷ 0 ∷ []) 0 ≡ 1
  pub listed_no_room : listed_count (words (1 ∷ 4 ∷ []) ++ 7 ∷ []) 0 ≡ 0
  pub ranges_stated : range_count (words (2 ∷ 1 ∷ 5 ∷ 9 ∷ 0 ∷ 10 ∷ 11 ∷ 5 ∷ [])) 0 ≡ 1
  pub no_room_for_a_range : range_count (words (2 ∷ 4 ∷ 5 ∷ 9 ∷ []) ++ 0 ∷ []) 0 ≡ 0
  pub none : AreDigests [] false []
  pub of_the_lookup : (d : Digest) → IsDigest single false 0 d → has d 5 ≡ true

pub worked_firsts : WorkedFirsts
worked_firsts = record {
  contexts = refl;
  contexts_of_positions = refl;
  chains = refl;
  chains_of_positions = refl;
  extensions = refl;
  of_a_list = refl;
  of_a_context = refl;
  of_a_context_by_glyphs = refl;
  of_a_chain = refl;
  of_a_chain_of_positions = refl;
  listed = refl;
  listed_stated = refl;
  ranges = refl;
  listed_no_room = refl;
  ranges_stated = refl;
  no_room_for_a_range = refl;
  none = λ index less. absurd (omega (arith, less));
  of_the_lookup = λ d is. is 0 (lit< tt) (at 1 8) 5 refl refl;
}

-- ---- what isn't said of a set that lacks something

-- `GSUB` with the lookup at 14
abbrev pub one_lookup : List ℕ
one_lookup = words (1 ∷ 0 ∷ 0 ∷ 0 ∷ 10 ∷ 1 ∷ 4 ∷ []) ++ single

-- the words of all glyphs
abbrev pub all_firsts : First
all_firsts = record { fine = 0xFFFFFFFFFFFFFFFF; middle = 0xFFFFFFFFFFFFFFFF; coarse = 0xFFFFFFFFFFFFFFFF }

pub record WorkedLacks : Type 0 where
  -- 7 has bits 0 to 2, and 14 has bits 1 to 3
  pub last_bit : HasBits 7 0 3 → ⊥
  pub first_bit : HasBits 14 0 3 → ⊥
  pub bit_lost : KeepsBits 5 4 → ⊥
  -- neither of the glyphs beside it was put in
  pub glyph_before : HasGlyphs of_one 4659 4660 → ⊥
  pub glyph_behind : HasGlyphs of_one 4660 4661 → ⊥
  pub glyph_lost : IsWithin of_one no_digest → ⊥
  pub last_of_a_list : HasListed (words (1 ∷ 2 ∷ 4660 ∷ 4661 ∷ [])) 0 of_one 2 → ⊥
  pub end_of_a_range : HasRanges (words (2 ∷ 1 ∷ 4660 ∷ 4661 ∷ 0 ∷ [])) 0 of_one 1 → ⊥
  pub covered : HasCovered (words (1 ∷ 1 ∷ 4661 ∷ [])) 0 of_one → ⊥
  pub of_the_last_lookup : AreDigests one_lookup false (no_digest ∷ []) → ⊥
  pub of_the_subtable : HoldsFirsts single false 0 (no_first ∷ []) 0 1 → ⊥
  -- the words of its one subtable are the second ones
  pub of_another_subtable : HoldsFirsts single false 0 (all_firsts ∷ no_first ∷ []) 1 1 → ⊥

pub worked_lacks : WorkedLacks
unfolding has has_bit
worked_lacks = record {
  last_bit = λ bits. let wrong : false ≡ true = bits 3 (omega arith) (omega arith) in cc;
  first_bit = λ bits. let wrong : false ≡ true = bits 0 (omega arith) (omega arith) in cc;
  bit_lost = λ keeps. let wrong : false ≡ true = keeps 0 refl in cc;
  glyph_before = λ all. let wrong : false ≡ true = all 4659 (omega arith) (omega arith) in cc;
  glyph_behind = λ all. let wrong : false ≡ true = all 4661 (omega arith) (omega arith) in cc;
  glyph_lost = λ within. let wrong : false ≡ true = within 4660 refl in cc;
  last_of_a_list = λ all. let wrong : false ≡ true = all 1 (lit< tt) in cc;
  end_of_a_range = λ all. let wrong : false ≡ true = all 0 (lit< tt) 4661 (omega arith) (omega arith) in cc;
  covered = λ all. let wrong : false ≡ true = all 4661 refl in cc;
  of_the_last_lookup = λ are. let wrong : false ≡ true = are 0 (lit< tt) 14 refl 0 (lit< tt) (at 1 22) 5 refl refl in cc;
  of_the_subtable = λ holds. let wrong : true ≡ false = holds 0 5 (lit< tt) refl (at 1 8) refl in cc;
  of_another_subtable = λ holds. let wrong : true ≡ false = holds 0 5 (lit< tt) refl (at 1 8) refl in cc;
}
