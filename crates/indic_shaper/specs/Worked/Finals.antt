-- The steps of final reordering one by one, worked out by hand from Microsoft's specification and HarfBuzz's issues.
use Rattle.std.specs.Prelude.{◌≡◌, ℕ, Bool, true, false, List, [], ◌∷◌, map, refl}
use Rattle.shape_common.specs.declared.general_category.hb_unicode_general_category_t.{hb_unicode_general_category_t}
use Rattle.shape_common.specs.declared.general_category.hb_unicode_general_category_t.TheVariants as gc
use Rattle.shape_items.specs.Clusters.{merge}
use Rattle.shape_items.specs.Items.{Item}
use Rattle.shape_buffer.specs.Walks.{items_mapped}
use Rattle.syllabic.specs.Worked.Items.{buffer, chars, clusters_of, item}
use Rattle.indic_shaper.specs.Glyphs.{category, position}
use Rattle.indic_shaper.specs.Settling.Bases.{after_halants, after_joiners, asking_from, base_at}
use Rattle.indic_shaper.specs.Settling.Bases.{before_signs, below_at, below_placed, below_skipped, first_base}
use Rattle.indic_shaper.specs.Settling.Bases.{has_halant, is_formed, is_lost, is_sign, is_unformed}
use Rattle.indic_shaper.specs.Settling.Bases.{joiner_before, letter_from, placed, placed_if, settled_base}
use Rattle.indic_shaper.specs.Settling.Bases.{stepped_back, viramas_mended}
use Rattle.indic_shaper.specs.Settling.Matras as matras
use Rattle.indic_shaper.specs.Settling.Prefs as prefs
use Rattle.indic_shaper.specs.Settling.Rephs as rephs
use Rattle.indic_shaper.specs.Settling.Syllables.{begins_word, beginning_marked, is_in_word, settled, settled_some}
use Rattle.indic_shaper.specs.Worked.Settling.{after, asking, at, base, below, facts, halant}
use Rattle.indic_shaper.specs.Worked.Settling.{joined, last, letter, matra, reph}
use Rattle.indic_shaper.specs.declared.config.TheConstants.{BENGALI, MALAYALAM, TAMIL, TELUGU}

abbrev zwj : ℕ → Item
zwj cluster = at 0x200D cluster 6 3

abbrev zwnj : ℕ → Item
zwnj cluster = at 0x200C cluster 5 3

abbrev nukta : ℕ → Item
nukta cluster = at 0x93C cluster 3 4

abbrev sorts : List Item → List (ℕ × ℕ)
sorts items = map (λ (x : Item). (category x, position x)) items

abbrev joins : List Item → List (Bool × Bool)
joins items = map (λ (x : Item). (x.properties.ligated, x.properties.multiplied)) items

-- a virama that lookups have joined to something and taken off again
abbrev lost : (glyph : ℕ) → (ligated multiplied : Bool) → Item
lost glyph ligated multiplied =
    let x = item 0x94D 0 1 0x10 in
    record x { glyph_id = glyph; properties = record x.properties { ligated = ligated; multiplied = multiplied } }

-- a letter of another syllable, and a space
abbrev of_category : hb_unicode_general_category_t → Item
of_category c = let x = item 0x995 0 1 0x21 in record x { properties = record x.properties { general_category = c } }

abbrev word : ℕ → Item
word cluster = record (of_category gc.OtherLetter) { cluster = cluster }

abbrev space : ℕ → Item
space cluster = record (of_category gc.SpaceSeparator) { cluster = cluster }

pub record WorkedBases : Type 0 where
  pub losses : map (is_lost 8) (lost 8 true true ∷ lost 8 true false ∷ lost 8 false true ∷ lost 7 true true ∷ [])
      ≡ true ∷ false ∷ false ∷ false ∷ []
  -- such a virama is a Halant (4) again; a font without one has none
  pub mended : map category (viramas_mended 8 (buffer (lost 8 true true ∷ lost 7 true true ∷ []))).items ≡ 4 ∷ 1 ∷ []
  pub mended_alone : joins (viramas_mended 8 (buffer (lost 8 true true ∷ []))).items
      ≡ (false, false) ∷ []
  pub no_virama : map category (viramas_mended 0 (buffer (lost 0 true true ∷ []))).items ≡ 1 ∷ []
  pub virama_1 : map category (viramas_mended 1 (buffer (lost 1 true true ∷ []))).items ≡ 4 ∷ []
  -- what asked for a form before the base (8), from the second item on
  pub asks : asking_from 8 (base 0 ∷ letter 1 ∷ asking 2 ∷ after 3 ∷ []) 1 4 ≡ 2
  pub asks_none : asking_from 8 (base 0 ∷ letter 1 ∷ asking 2 ∷ []) 1 2 ≡ 2
  pub forms_made : map is_formed (joined (asking 0) ∷ asking 0 ∷ []) ≡ true ∷ false ∷ []
  -- a ligature that no lookup of the syllable made, and one that was taken apart
  pub not_made : is_formed (let x = joined (asking 0) in record x { properties = record x.properties { substituted = false } })
      ≡ false
  pub taken_apart : is_formed (let x = joined (asking 0) in record x { properties = record x.properties { multiplied = true } })
      ≡ false
  pub unformed : map (λ i. is_unformed 8 (asking 0 ∷ base 1 ∷ asking 2 ∷ []) i 3) (0 ∷ 1 ∷ 2 ∷ 3 ∷ [])
      ≡ true ∷ true ∷ false ∷ false ∷ []
  pub formed : is_unformed 8 (asking 0 ∷ base 1 ∷ joined (asking 2) ∷ []) 1 3 ≡ false
  pub formed_first : is_unformed 8 (asking 0 ∷ letter 1 ∷ joined (asking 2) ∷ []) 0 3 ≡ false
  -- behind the Halants of the one that has none
  pub halants : after_halants (base 0 ∷ halant 1 ∷ halant 2 ∷ letter 3 ∷ []) 1 4 ≡ 3
  pub base_behind : base_at true 8 (asking 0 ∷ asking 1 ∷ base 2 ∷ []) 0 3 ≡ 1
  pub base_after_halant : base_at true 8 (base 0 ∷ letter 1 ∷ at 0x94D 2 4 11 ∷ letter 3 ∷ []) 0 4 ≡ 4
  pub base_formed : base_at false 8 (base 0 ∷ asking 1 ∷ []) 0 2 ≡ 0
  pub notes : sorts (placed 1 (buffer (base 0 ∷ asking 1 ∷ []))).items ≡ (1, 4) ∷ (15, 4) ∷ []
  pub not_noted : map (λ (x : Bool × ℕ). sorts (placed_if x.0 x.1 1 (buffer (below 0 ∷ below 1 ∷ []))).items)
      ((true, 0) ∷ (false, 0) ∷ (true, 1) ∷ [])
      ≡ ((1, 4) ∷ (1, 8) ∷ []) ∷ ((1, 8) ∷ (1, 8) ∷ []) ∷ ((1, 8) ∷ (1, 8) ∷ []) ∷ []
  -- Malayalam: a letter after a Halant, with joiners before and after that
  pub joiners : after_joiners (base 0 ∷ zwj 1 ∷ zwnj 2 ∷ halant 3 ∷ []) 1 4 ≡ 3
  pub has : map (λ i. has_halant (halant 0 ∷ base 1 ∷ halant 2 ∷ []) i 2) (0 ∷ 1 ∷ 2 ∷ []) ≡ true ∷ false ∷ false ∷ []
  pub letter_after : letter_from (base 0 ∷ zwj 1 ∷ halant 2 ∷ zwnj 3 ∷ below 4 ∷ after 5 ∷ []) 1 6 ≡ 4
  pub no_letter : letter_from (base 0 ∷ zwj 1 ∷ below 2 ∷ after 3 ∷ []) 1 4 ≡ 4
  pub right_after : letter_from (base 0 ∷ halant 1 ∷ below 2 ∷ after 3 ∷ []) 1 4 ≡ 2
  pub two_halants : letter_from (base 0 ∷ halant 1 ∷ halant 2 ∷ after 3 ∷ []) 1 4 ≡ 2
  pub belows : map (λ i. below_at (below 0 ∷ letter 1 ∷ below 2 ∷ []) i 2) (0 ∷ 1 ∷ 2 ∷ [])
      ≡ true ∷ false ∷ false ∷ []
  pub no_consonant : below_at (at 0x94D 0 4 8 ∷ []) 0 1 ≡ false
  pub notes_below : sorts (below_placed 4 (record { base = 0; from = 1 }) (buffer (base 0 ∷ halant 1 ∷ below 2 ∷ after 3 ∷ []))).items
      ≡ (1, 4) ∷ (4, 3) ∷ (1, 4) ∷ (7, 12) ∷ []
  pub notes_none : sorts (below_placed 4 (record { base = 0; from = 1 }) (buffer (base 0 ∷ halant 1 ∷ letter 2 ∷ after 3 ∷ []))).items
      ≡ (1, 4) ∷ (4, 3) ∷ (1, 3) ∷ (7, 12) ∷ []
  -- two forms below the base, of which the last one is the base; a letter in between that asked for none
  pub skips : (below_skipped 0 5 (buffer (base 0 ∷ halant 1 ∷ below 2 ∷ halant 3 ∷ below 4 ∷ []))).1.base ≡ 4
  pub skips_past : (below_skipped 0 5 (buffer (base 0 ∷ halant 1 ∷ letter 2 ∷ halant 3 ∷ below 4 ∷ []))).1.base ≡ 4
  pub ends : (below_skipped 0 3 (buffer (base 0 ∷ halant 1 ∷ below 2 ∷ halant 3 ∷ below 4 ∷ []))).1
      ≡ record { base = 2; from = 3 }
  pub skips_none : (below_skipped 0 1 (buffer (base 0 ∷ halant 1 ∷ below 2 ∷ []))).1 ≡ record { base = 0; from = 1 }
  pub one_round : (below_skipped 0 2 (buffer (base 0 ∷ halant 1 ∷ []))).1 ≡ record { base = 0; from = 2 }
  pub counted : (below_skipped 0 4 (buffer (base 0 ∷ halant 1 ∷ below 2 ∷ halant 3 ∷ []))).1
      ≡ record { base = 2; from = 4 }
  -- an item past the base is none, but the one before it; nor is the first
  pub steps : map (stepped_back (below 0 ∷ base 1 ∷ at 0x93E 2 7 5 ∷ []) 0) (0 ∷ 1 ∷ 2 ∷ []) ≡ 0 ∷ 1 ∷ 1 ∷ []
  pub signs : map is_sign (nukta 0 ∷ halant 0 ∷ zwnj 0 ∷ zwj 0 ∷ base 0 ∷ matra 0 ∷ at 0x93F 0 2 4 ∷ [])
      ≡ true ∷ true ∷ false ∷ false ∷ false ∷ false ∷ false ∷ []
  pub before : before_signs (letter 0 ∷ base 1 ∷ nukta 2 ∷ halant 3 ∷ halant 4 ∷ []) 0 3 ≡ 1
  pub before_first : before_signs (nukta 0 ∷ nukta 1 ∷ base 2 ∷ []) 0 1 ≡ 0
  pub before_second : before_signs (base 0 ∷ nukta 1 ∷ nukta 2 ∷ halant 3 ∷ []) 1 3 ≡ 1
  -- without a base: the end, or the ZWJ there
  pub zwj_last : map (λ end. joiner_before (letter 0 ∷ zwj 1 ∷ halant 2 ∷ zwnj 3 ∷ []) 0 end) (0 ∷ 1 ∷ 2 ∷ 3 ∷ 4 ∷ [])
      ≡ 0 ∷ 1 ∷ 1 ∷ 3 ∷ 4 ∷ []
  pub zwj_outside : joiner_before (letter 0 ∷ zwj 1 ∷ []) 2 2 ≡ 2
  pub no_base : settled_base (letter 0 ∷ zwj 1 ∷ base 2 ∷ []) 0 2 2 ≡ 1
  pub none_before : first_base (letter 0 ∷ letter 1 ∷ []) 0 2 ≡ 2

pub record WorkedMatras : Type 0 where
  pub standing : map matras.is_standing (halant 0 ∷ letter 0 ∷ at 0x94D 0 4 2 ∷ joined (halant 0) ∷ [])
      ≡ true ∷ false ∷ false ∷ false ∷ []
  pub follows : map (λ end. matras.joiner_follows (halant 0 ∷ zwj 1 ∷ []) end 0) (1 ∷ 2 ∷ 3 ∷ [])
      ≡ false ∷ true ∷ true ∷ []
  -- the search goes on past letters, and past a Halant with ZWJ; it ends at a Halant and at a matra
  pub on : map (matras.goes_on (letter 0 ∷ halant 1 ∷ zwj 2 ∷ halant 3 ∷ matra 4 ∷ zwj 5 ∷ []) 6) (0 ∷ 1 ∷ 2 ∷ 3 ∷ 4 ∷ [])
      ≡ true ∷ true ∷ true ∷ false ∷ false ∷ []
  pub back : map (matras.back_while (λ i. true) 1) (0 ∷ 1 ∷ 3 ∷ []) ≡ 0 ∷ 1 ∷ 1 ∷ []
  pub last : map (λ x. matras.last_before x 5) (4 ∷ 5 ∷ []) ≡ 3 ∷ 3 ∷ []
  -- two matras, one after the other; each goes before the last one
  pub both : chars (matras.moved 0 4 2 (buffer (matra 0 ∷ at 0x94E 1 7 2 ∷ halant 2 ∷ base 3 ∷ []))).items
      ≡ 0x94D ∷ 0x93F ∷ 0x94E ∷ 0x937 ∷ []
  pub second : chars (matras.moved 0 4 2 (buffer (letter 0 ∷ matra 1 ∷ halant 2 ∷ base 3 ∷ []))).items
      ≡ 0x915 ∷ 0x94D ∷ 0x93F ∷ 0x937 ∷ []
  pub from_second : chars (matras.moved 1 5 3 (buffer (matra 0 ∷ matra 1 ∷ letter 2 ∷ halant 3 ∷ base 4 ∷ []))).items
      ≡ 0x93F ∷ 0x915 ∷ 0x94D ∷ 0x93F ∷ 0x937 ∷ []
  pub next : map (matras.to_after 1 (buffer (letter 0 ∷ matra 1 ∷ []))) (5 ∷ 3 ∷ []) ≡ 4 ∷ 2 ∷ []
  pub next_other : matras.to_after 0 (buffer (letter 0 ∷ matra 1 ∷ [])) 5 ≡ 5
  -- a matra that stays: merged up to the base
  pub first : map (λ start. matras.first_matra (letter 0 ∷ letter 1 ∷ matra 2 ∷ letter 3 ∷ []) start 4) (0 ∷ 1 ∷ 3 ∷ [])
      ≡ 2 ∷ 2 ∷ 4 ∷ []
  pub merges : clusters_of (matras.merged 0 4 3 (buffer (letter 0 ∷ matra 1 ∷ letter 2 ∷ base 3 ∷ after 4 ∷ []))).items
      ≡ 0 ∷ 1 ∷ 1 ∷ 1 ∷ 4 ∷ []
  pub merges_none : clusters_of (matras.merged 0 3 2 (buffer (letter 0 ∷ letter 1 ∷ base 2 ∷ []))).items
      ≡ 0 ∷ 1 ∷ 2 ∷ []
  pub no_matra : clusters_of (matras.merged 0 3 1 (buffer (letter 0 ∷ matra 1 ∷ base 2 ∷ []))).items ≡ 0 ∷ 1 ∷ 2 ∷ []
  pub ends : map (λ x. matras.base_end x 4) (2 ∷ 3 ∷ 4 ∷ []) ≡ 3 ∷ 4 ∷ 4 ∷ []
  pub moving : map (matras.may_move (matra 0 ∷ halant 1 ∷ matra 2 ∷ []) 0) (0 ∷ 1 ∷ 2 ∷ [])
      ≡ false ∷ true ∷ false ∷ []
  pub first_stays : matras.may_move (halant 0 ∷ halant 1 ∷ []) 0 0 ≡ false
  pub room : map (λ (x : ℕ × ℕ). matras.has_room 1 x.0 x.1) ((1, 4) ∷ (2, 4) ∷ (2, 2) ∷ (2, 3) ∷ (1, 2) ∷ [])
      ≡ false ∷ true ∷ false ∷ true ∷ false ∷ []

pub record WorkedRephs : Type 0 where
  pub begins : map (rephs.begins_with_reph (reph 0 ∷ base 1 ∷ after 2 ∷ []) 0) (1 ∷ 2 ∷ 3 ∷ [])
      ≡ false ∷ true ∷ true ∷ []
  pub none : rephs.begins_with_reph (base 0 ∷ reph 1 ∷ []) 0 2 ≡ false
  pub halant_first : map (rephs.first_halant (reph 0 ∷ letter 1 ∷ halant 2 ∷ base 3 ∷ []) 0) (0 ∷ 1 ∷ 2 ∷ 3 ∷ [])
      ≡ 0 ∷ 1 ∷ 2 ∷ 2 ∷ []
  pub joiner : map (rephs.after_joiner (halant 0 ∷ zwj 1 ∷ base 2 ∷ []) 0) (1 ∷ 2 ∷ []) ≡ 0 ∷ 1 ∷ []
  -- what belongs to the main consonant (5)
  pub mains : map (λ position. rephs.is_of_main (at 0x93E 0 7 position)) (4 ∷ 5 ∷ 6 ∷ []) ≡ true ∷ true ∷ false ∷ []
  pub main : rephs.after_main (letter 0 ∷ base 1 ∷ at 0x93E 2 7 5 ∷ below 3 ∷ []) 1 4 ≡ 2
  -- what stands before post-base forms: not 11, 12 and 13
  pub subs : map (λ position. rephs.is_of_sub (at 0x93E 0 7 position)) (10 ∷ 11 ∷ 12 ∷ 13 ∷ 14 ∷ [])
      ≡ true ∷ false ∷ false ∷ false ∷ true ∷ []
  pub sub : rephs.after_sub (letter 0 ∷ base 1 ∷ below 2 ∷ after 3 ∷ []) 1 4 ≡ 2
  -- before signs that stand last, of which the first item is none
  pub last_signs : map (λ start. rephs.before_last (reph 0 ∷ last 1 ∷ last 2 ∷ []) start 3) (0 ∷ 1 ∷ 2 ∷ [])
      ≡ 0 ∷ 1 ∷ 2 ∷ []
  -- back over the matras between the base and a Halant, up to where the reph has come to: of two, over one
  pub over_matra : map (λ (x : ℕ × ℕ). rephs.before_matra (base 0 ∷ after 1 ∷ last 2 ∷ []) x.0 x.1) ((1, 3) ∷ (1, 1) ∷ (2, 3) ∷ [])
      ≡ 2 ∷ 1 ∷ 3 ∷ []
  pub over_two : rephs.before_matras (base 0 ∷ after 1 ∷ after 2 ∷ at 0x94D 3 4 12 ∷ []) 0 3 2 ≡ 2
  pub over_one : rephs.before_matras (base 0 ∷ nukta 1 ∷ after 2 ∷ at 0x94D 3 4 12 ∷ []) 0 3 2 ≡ 2
  pub last_halant : rephs.last_place (reph 0 ∷ base 1 ∷ after 2 ∷ at 0x94D 3 4 12 ∷ last 4 ∷ []) 0 5 1 ≡ 2
  pub base_matra : rephs.last_place (reph 0 ∷ at 0x93E 1 7 4 ∷ nukta 2 ∷ at 0x94D 3 4 12 ∷ []) 0 4 1 ≡ 3
  pub after_end : map (λ position. rephs.after_base position (reph 0 ∷ letter 1 ∷ after 2 ∷ []) 0 3 3) (5 ∷ 9 ∷ 10 ∷ [])
      ≡ 2 ∷ 2 ∷ 2 ∷ []
  -- the base is one item earlier if the reph goes past it, and not if it stays before it
  pub base_moves : map (λ x. rephs.base_after 10 (reph 0 ∷ base 1 ∷ after 2 ∷ []) 0 3 x) (0 ∷ 1 ∷ []) ≡ 0 ∷ 0 ∷ []
  pub base_stays : rephs.base_after 5 (reph 0 ∷ letter 1 ∷ halant 2 ∷ base 3 ∷ []) 0 4 3 ≡ 3
  pub base_passed : rephs.base_after 5 (reph 0 ∷ base 1 ∷ below 2 ∷ []) 0 3 1 ≡ 0
  pub first_is_base : rephs.base_after 10 (letter 0 ∷ reph 1 ∷ after 2 ∷ []) 1 3 1 ≡ 1
  pub no_reph : rephs.base_after 10 (letter 0 ∷ base 1 ∷ after 2 ∷ []) 0 3 1 ≡ 1

pub record WorkedPrefs : Type 0 where
  pub signs : prefs.after_signs (letter 0 ∷ halant 1 ∷ letter 2 ∷ letter 3 ∷ []) 0 4 ≡ 2
  pub places : map (λ tag. prefs.before_base tag (letter 0 ∷ halant 1 ∷ letter 2 ∷ base 3 ∷ []) 0 3) (TELUGU ∷ MALAYALAM ∷ TAMIL ∷ [])
      ≡ 2 ∷ 3 ∷ 3 ∷ []
  pub follows : map (prefs.follows_halant (halant 0 ∷ letter 1 ∷ halant 2 ∷ []) 0) (0 ∷ 1 ∷ 2 ∷ 3 ∷ [])
      ≡ false ∷ true ∷ false ∷ true ∷ []
  pub inside : prefs.follows_halant (halant 0 ∷ letter 1 ∷ []) 1 1 ≡ false
  -- after a joiner that follows the Halant
  pub past : map (λ end. prefs.past_joiner (halant 0 ∷ zwj 1 ∷ base 2 ∷ []) 0 end 1) (1 ∷ 2 ∷ 3 ∷ []) ≡ 1 ∷ 2 ∷ 2 ∷ []
  pub past_none : prefs.past_joiner (letter 0 ∷ zwj 1 ∷ base 2 ∷ []) 0 3 1 ≡ 1
  pub has : map (λ x. prefs.has_form 8 (base 0 ∷ letter 1 ∷ joined (asking 2) ∷ []) x 3) (0 ∷ 1 ∷ 2 ∷ 3 ∷ [])
      ≡ true ∷ true ∷ false ∷ false ∷ []
  pub own : prefs.has_form 8 (joined (asking 0) ∷ asking 1 ∷ []) 0 2 ≡ false
  pub asking_first : prefs.has_form 8 (asking 0 ∷ joined (asking 1) ∷ []) 0 2 ≡ true
  pub outside : prefs.has_form 8 (base 0 ∷ letter 1 ∷ joined (asking 2) ∷ []) 0 2 ≡ false
  pub own_outside : prefs.has_form 8 (base 0 ∷ asking 1 ∷ joined (asking 2) ∷ []) 1 2 ≡ false
  pub before_outside : prefs.has_form 8 (asking 0 ∷ base 1 ∷ joined (asking 2) ∷ []) 1 2 ≡ false
  pub brings : chars (prefs.settled MALAYALAM 8 0 3 1 (buffer (joined (asking 0) ∷ base 1 ∷ joined (asking 2) ∷ []))).items
      ≡ 0xD30 ∷ 0xD30 ∷ 0x937 ∷ []
  pub brings_second : chars (prefs.settled MALAYALAM 8 0 3 0 (buffer (record (base 0) { mask = 8 }
      ∷ letter 1 ∷ joined (asking 2) ∷ []))).items
      ≡ 0xD30 ∷ 0x937 ∷ 0x915 ∷ []

pub record WorkedWords : Type 0 where
  -- Lu Ll Lt Lm Lo Mn Mc Me, Nd Nl No, Pc Pd Ps Pe Pi Pf Po, Sm Sc Sk So, Zs Zl Zp, Cc, Cf Cs Co Cn
  pub letters : map is_in_word (gc.UppercaseLetter ∷ gc.LowercaseLetter ∷ gc.TitlecaseLetter ∷ gc.ModifierLetter ∷ gc.OtherLetter ∷ [])
      ≡ true ∷ true ∷ true ∷ true ∷ true ∷ []
  pub marks : map is_in_word (gc.NonspacingMark ∷ gc.SpacingMark ∷ gc.EnclosingMark ∷ []) ≡ true ∷ true ∷ true ∷ []
  pub numbers : map is_in_word (gc.DecimalNumber ∷ gc.LetterNumber ∷ gc.OtherNumber ∷ []) ≡ false ∷ false ∷ false ∷ []
  pub punctuation : map is_in_word (gc.ConnectorPunctuation ∷ gc.DashPunctuation ∷ gc.OpenPunctuation
      ∷ gc.ClosePunctuation ∷ gc.InitialPunctuation
      ∷ gc.FinalPunctuation ∷ gc.OtherPunctuation ∷ []) ≡ false ∷ false ∷ false ∷ false ∷ false ∷ false ∷ false ∷ []
  pub symbols : map is_in_word (gc.MathSymbol ∷ gc.CurrencySymbol ∷ gc.ModifierSymbol ∷ gc.OtherSymbol ∷ [])
      ≡ false ∷ false ∷ false ∷ false ∷ []
  pub spaces : map is_in_word (gc.SpaceSeparator ∷ gc.LineSeparator ∷ gc.ParagraphSeparator ∷ gc.Control ∷ [])
      ≡ false ∷ false ∷ false ∷ false ∷ []
  pub others : map is_in_word (gc.Format ∷ gc.Surrogate ∷ gc.PrivateUse ∷ gc.Unassigned ∷ [])
      ≡ true ∷ true ∷ true ∷ true ∷ []
  -- by the item right before
  pub inside : map (begins_word (buffer (word 0 ∷ word 1 ∷ space 2 ∷ word 3 ∷ []))) (0 ∷ 1 ∷ 2 ∷ 3 ∷ [])
      ≡ true ∷ false ∷ false ∷ true ∷ []
  -- the place before a matra alone is unsafe to break
  pub unsafe : map (λ (x : Item). x.mask) (beginning_marked 16 2 (buffer (word 0 ∷ word 1 ∷ matra 2 ∷ base 3 ∷ []))).items
      ≡ 0 ∷ 0 ∷ 3 ∷ 0 ∷ []
  -- nothing is between two equal places
  pub nothing : map (λ (x : Item). x.mask) (settled_some (facts BENGALI) (buffer (matra 0 ∷ base 1 ∷ [])) 0 0).items
      ≡ 0 ∷ 0 ∷ []

pub worked_bases : WorkedBases
unfolding items_mapped
worked_bases = record {
  losses = refl;
  mended = refl;
  mended_alone = refl;
  no_virama = refl;
  virama_1 = refl;
  asks = refl;
  asks_none = refl;
  forms_made = refl;
  not_made = refl;
  taken_apart = refl;
  unformed = refl;
  formed = refl;
  formed_first = refl;
  halants = refl;
  base_behind = refl;
  base_after_halant = refl;
  base_formed = refl;
  notes = refl;
  not_noted = refl;
  joiners = refl;
  has = refl;
  letter_after = refl;
  no_letter = refl;
  right_after = refl;
  two_halants = refl;
  belows = refl;
  no_consonant = refl;
  notes_below = refl;
  notes_none = refl;
  skips = refl;
  skips_past = refl;
  ends = refl;
  skips_none = refl;
  one_round = refl;
  counted = refl;
  steps = refl;
  signs = refl;
  before = refl;
  before_first = refl;
  before_second = refl;
  zwj_last = refl;
  zwj_outside = refl;
  no_base = refl;
  none_before = refl;
}

pub worked_matras : WorkedMatras
unfolding merge
worked_matras = record {
  standing = refl;
  follows = refl;
  on = refl;
  back = refl;
  last = refl;
  both = refl;
  second = refl;
  from_second = refl;
  next = refl;
  next_other = refl;
  first = refl;
  merges = refl;
  merges_none = refl;
  no_matra = refl;
  ends = refl;
  moving = refl;
  first_stays = refl;
  room = refl;
}

pub worked_rephs : WorkedRephs
worked_rephs = record {
  begins = refl;
  none = refl;
  halant_first = refl;
  joiner = refl;
  mains = refl;
  main = refl;
  subs = refl;
  sub = refl;
  last_signs = refl;
  over_matra = refl;
  over_two = refl;
  over_one = refl;
  last_halant = refl;
  base_matra = refl;
  after_end = refl;
  base_moves = refl;
  base_stays = refl;
  base_passed = refl;
  first_is_base = refl;
  no_reph = refl;
}

pub worked_prefs : WorkedPrefs
unfolding merge
worked_prefs = record {
  signs = refl;
  places = refl;
  follows = refl;
  inside = refl;
  past = refl;
  past_none = refl;
  has = refl;
  own = refl;
  asking_first = refl;
  outside = refl;
  own_outside = refl;
  before_outside = refl;
  brings = refl;
  brings_second = refl;
}

pub worked_words : WorkedWords
unfolding merge settled
worked_words = record {
  letters = refl;
  marks = refl;
  numbers = refl;
  punctuation = refl;
  symbols = refl;
  spaces = refl;
  others = refl;
  inside = refl;
  unsafe = refl;
  nothing = refl;
}
