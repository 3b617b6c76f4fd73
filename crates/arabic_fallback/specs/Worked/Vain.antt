-- How far ligatures look in vain, and where a lookup goes on: lam 1 and alef 2 make 9; lam 1, lam 3 and heh 4 make 10; 1 and each of
-- 21 to 25 make 30.
use Rattle.std.specs.Prelude.{◌≡◌, ℕ, Some, None, List, [], ◌∷◌, ◌++◌, map, refl}
use Rattle.shape_common.specs.Positions.{zero_position}
use Rattle.shape_items.specs.Buffer.{Buffer, new_buffer}
use Rattle.shape_items.specs.Clusters.{merge}
use Rattle.shape_items.specs.Items.{Item}
use Rattle.arabic_fallback.specs.Ligating.{ligated}
use Rattle.arabic_fallback.specs.Replaced.{as_ligature}
use Rattle.arabic_fallback.specs.Vain.{count_of, only_of, rows_end, seen_glyph, vain_end}
use Rattle.arabic_fallback.specs.Worked.Forms.{rule}
use Rattle.arabic_fallback.specs.Worked.Ligatures.{after, glyph, glyphs, lam_alef, lellah, mark, of_marks, on_component, shadda_fatha, zwj, zwnj}
use Rattle.arabic_fallback.specs.declared.ligatures.LigatureGlyphs.{LigatureGlyphs}

abbrev pub pair : ℕ → ℕ → ℕ → LigatureGlyphs
pair first second ligature =
    record { components = record { first = first; second = second; third = None }; ligature = record { glyph = ligature; class = None } }

abbrev pub four : List LigatureGlyphs
four = pair 1 21 30 ∷ pair 1 22 30 ∷ pair 1 23 30 ∷ pair 1 24 30 ∷ []

abbrev pub five : List LigatureGlyphs
five = four ++ pair 1 25 30 ∷ []

-- the lookup is off for it
abbrev pub off : Item → Item
off item = record item { mask = 0 }

abbrev pub vain : List LigatureGlyphs → List Item → ℕ
vain rows items = vain_end rule rows items 0

-- in a buffer that asks for marks of what is unsafe to concat (64), or doesn't (0)
abbrev pub made : ℕ → List LigatureGlyphs → List Item → Buffer
made flags rows items = ligated rule rows
    (record new_buffer { items = items; positions = map (λ i. zero_position) items; flags = record { 0 = flags } })

-- 16 the lookup is on, 2 unsafe to concat
abbrev pub masks : List Item → List ℕ
masks items = map (λ (x : Item). x.mask) items

pub record WorkedVain : Type 0 where
  -- up to the glyph that is none, marks passed over, or to the end of the text
  pub found : vain lam_alef (glyph 1 0 ∷ glyph 2 1 ∷ []) ≡ 0
  pub another_letter : vain lam_alef (glyph 1 0 ∷ glyph 3 1 ∷ glyph 2 2 ∷ []) ≡ 2
  pub over_a_mark : vain lam_alef (glyph 1 0 ∷ mark 5 1 ∷ glyph 3 2 ∷ []) ≡ 3
  pub to_the_end : vain lam_alef (glyph 1 0 ∷ mark 5 1 ∷ []) ≡ 2
  pub last_letter : vain lam_alef (glyph 1 0 ∷ []) ≡ 1
  pub not_the_first : vain lam_alef (glyph 2 0 ∷ glyph 3 1 ∷ []) ≡ 0
  pub over_zwj : vain lam_alef (glyph 1 0 ∷ zwj ∷ glyph 3 2 ∷ []) ≡ 3
  pub zwnj_ends : vain lam_alef (glyph 1 0 ∷ zwnj ∷ glyph 2 2 ∷ []) ≡ 2
  -- the third component
  pub third : vain lellah (glyph 1 0 ∷ glyph 3 1 ∷ glyph 2 2 ∷ []) ≡ 3
  pub no_third : vain lellah (glyph 1 0 ∷ glyph 3 1 ∷ []) ≡ 2
  pub three_found : vain lellah (glyph 1 0 ∷ glyph 3 1 ∷ glyph 4 2 ∷ []) ≡ 0
  -- a mark on another component fits, and counts for nothing
  pub of_another : vain_end of_marks shadda_fatha (on_component 7 1 ∷ on_component 8 2 ∷ []) 0 ≡ 0
  -- ligatures before the one that is made
  pub before : vain (lellah ++ lam_alef) (glyph 1 0 ∷ glyph 2 1 ∷ []) ≡ 2
  pub not_after : vain (lam_alef ++ lellah) (glyph 1 0 ∷ glyph 2 1 ∷ []) ≡ 0
  pub greatest : vain (lellah ++ lam_alef) (glyph 1 0 ∷ glyph 3 1 ∷ glyph 2 2 ∷ []) ≡ 3
  -- of more than four that begin alike those with another second component count only if none is made
  pub of_four : vain four (glyph 1 0 ∷ glyph 24 1 ∷ []) ≡ 2
  pub of_five : vain five (glyph 1 0 ∷ glyph 25 1 ∷ []) ≡ 0
  pub all_five : rows_end rule None five (glyph 1 0 ∷ glyph 25 1 ∷ []) 0 ≡ 2
  pub none_of_five : vain five (glyph 1 0 ∷ glyph 2 1 ∷ []) ≡ 2
  pub five_over_zwj : vain five (glyph 1 0 ∷ zwj ∷ glyph 25 2 ∷ []) ≡ 3
  pub count : count_of five 1 ≡ 5
  pub count_of_none : count_of five 21 ≡ 0
  pub only : only_of rule five (glyph 1 0 ∷ mark 5 1 ∷ glyph 25 2 ∷ []) 0 ≡ Some 25
  pub not_of_four : only_of rule four (glyph 1 0 ∷ glyph 24 1 ∷ []) 0 ≡ None
  pub seen_off : seen_glyph rule (off (glyph 25 0) ∷ []) ≡ None
  pub seen_past_zwj : seen_glyph rule (off zwj ∷ glyph 25 1 ∷ []) ≡ Some 25
  pub none_seen : seen_glyph rule (mark 5 0 ∷ []) ≡ None
  -- marked from the place on, if the buffer asks for it
  pub marked : masks (made 64 lam_alef (glyph 1 0 ∷ glyph 3 1 ∷ glyph 2 2 ∷ [])).items ≡ 18 ∷ 18 ∷ 16 ∷ []
  pub scratch_flag : (made 64 lam_alef (glyph 1 0 ∷ [])).scratch_flags.0 ≡ 32
  pub not_asked : masks (made 0 lam_alef (glyph 1 0 ∷ glyph 3 1 ∷ glyph 2 2 ∷ [])).items ≡ 16 ∷ 16 ∷ 16 ∷ []
  pub later_place : masks (made 64 lam_alef (glyph 3 0 ∷ glyph 1 1 ∷ glyph 3 2 ∷ [])).items ≡ 16 ∷ 18 ∷ 18 ∷ []
  pub ligature_keeps_it : masks (made 64 (lellah ++ lam_alef) (glyph 1 0 ∷ glyph 2 1 ∷ glyph 3 2 ∷ [])).items ≡ 18 ∷ 16 ∷ []
  -- the lookup goes on after the last component
  pub goes_on : glyphs (after rule (lam_alef ++ pair 20 2 31 ∷ []) (glyph 1 0 ∷ zwj ∷ glyph 2 2 ∷ glyph 2 3 ∷ [])) ≡ 9 ∷ 20 ∷ 2 ∷ []

pub worked_vain : WorkedVain
unfolding merge as_ligature
worked_vain = record {
  found = refl;
  another_letter = refl;
  over_a_mark = refl;
  to_the_end = refl;
  last_letter = refl;
  not_the_first = refl;
  over_zwj = refl;
  zwnj_ends = refl;
  third = refl;
  no_third = refl;
  three_found = refl;
  of_another = refl;
  before = refl;
  not_after = refl;
  greatest = refl;
  of_four = refl;
  of_five = refl;
  all_five = refl;
  none_of_five = refl;
  five_over_zwj = refl;
  count = refl;
  count_of_none = refl;
  only = refl;
  not_of_four = refl;
  seen_off = refl;
  seen_past_zwj = refl;
  none_seen = refl;
  marked = refl;
  scratch_flag = refl;
  not_asked = refl;
  later_place = refl;
  ligature_keeps_it = refl;
  goes_on = refl;
}
