-- Lookups and stages, by hand from the rules of hb-ot-map.
use Rattle.std.specs.Prelude.{◌≡◌, ℕ, pos, ◌+◌, ◌^◌, true, false, List, [], ◌∷◌, Some, None, map, refl}
use Rattle.shape_font.specs.Bytes.{i16_of}
use Rattle.shape_font.specs.Worked.Glyphs.{words}
use Rattle.shape_buffer.specs.declared.interfaces.map_request.MapRequest.TheVariants.{Pause}
use Rattle.shape_buffer.specs.declared.interfaces.map_request.TableIndex.TheVariants.{GSUB, GPOS}
use Rattle.shape_common.specs.declared.text_types.hb_tag_t.{hb_tag_t}
use Rattle.layout_tables.specs.Worked.Features.{KERN, LIGA, two_features, varied}
use Rattle.layout_tables.specs.Worked.Scripts.{two_scripts, LATN, TRK}
use Rattle.layout_map.specs.Chosen.{Chosen, chosen, required_tag_of, feature_place}
use Rattle.layout_map.specs.Lookups.{gsub_lookups, gpos_lookups}
use Rattle.layout_map.specs.Stages.{Staged, staged, lookups_of, pause_of}
use Rattle.layout_map.specs.Map.{OtMap, compiled, map_meaning, needs_fallback_of, stage_of}
use Rattle.layout_map.specs.declared.features.FeatureMap.{FeatureMap}
use Rattle.layout_map.specs.declared.lookups.LookupMap.{LookupMap}
use Rattle.layout_map.specs.Worked.Settings.{asked}
use Rattle.layout_map.specs.Worked.Bits.{no_table, with_bits}

-- `kern` with lookup 5, `liga` with lookups 5 and 3, of so many lookups; the language system at 52 lists both, that at 62 lists `liga`
-- and requires `kern`
abbrev pub bytes : ℕ → List ℕ
bytes count = words (1 ∷ 0 ∷ 0 ∷ 10 ∷ 38 ∷ 2 ∷ 0x6B65 ∷ 0x726E ∷ 14 ∷ 0x6C69 ∷ 0x6761 ∷ 20
    ∷ 0 ∷ 1 ∷ 5
    ∷ 0 ∷ 2 ∷ 5 ∷ 3
    ∷ count ∷ 1 ∷ 1 ∷ 1 ∷ 1 ∷ 1 ∷ 1
    ∷ 0 ∷ 65535 ∷ 2 ∷ 0 ∷ 1
    ∷ 0 ∷ 0 ∷ 1 ∷ 1 ∷ [])

abbrev pub at_system : ℕ → Chosen
at_system lang_sys = record { bytes = bytes 6; lang_sys = Some lang_sys; substitution = None }

abbrev pub kern_1 : ℕ → FeatureMap
kern_1 stage = with_bits KERN (Some 0) stage 0 1

abbrev pub liga_2 : ℕ → FeatureMap
liga_2 stage = with_bits LIGA (Some 1) stage 1 2

abbrev pub on : ℕ → ℕ → LookupMap
on index mask = record { index = index; mask = mask; auto_zwnj = true; auto_zwj = true; random = false; per_syllable = false }

pub record WorkedLookups : Type 0 where
  pub in_order_once : gsub_lookups (at_system 52) (kern_1 0 ∷ liga_2 0 ∷ []) 0 0 ≡ on 3 32 ∷ on 5 48 ∷ []
  pub of_the_stage : gsub_lookups (at_system 52) (kern_1 0 ∷ liga_2 1 ∷ []) 0 0 ≡ on 5 16 ∷ []
  pub of_the_next_stage : gsub_lookups (at_system 52) (kern_1 0 ∷ liga_2 1 ∷ []) 0 1 ≡ on 3 32 ∷ on 5 32 ∷ []
  pub not_in_gsub : gsub_lookups (at_system 52) (with_bits KERN None 0 0 1 ∷ []) 0 0 ≡ []
  pub past_the_list : gsub_lookups (record { bytes = bytes 5; lang_sys = Some 52; substitution = None }) (kern_1 0 ∷ liga_2 0 ∷ []) 0 0
      ≡ on 3 32 ∷ []
  pub required : gsub_lookups (at_system 62) [] 0 0 ≡ on 5 (2 ^ 31) ∷ []
  pub required_and_asked : gsub_lookups (at_system 62) (liga_2 0 ∷ []) 0 0 ≡ on 3 32 ∷ on 5 (2 ^ 31 + 32) ∷ []
  pub required_in_its_stage : gsub_lookups (at_system 62) [] 1 0 ≡ []
  pub required_in_the_next_stage : gsub_lookups (at_system 62) [] 1 1 ≡ on 5 (2 ^ 31) ∷ []
  -- joiners are skipped if all skip them; the rest is as the first feature says
  pub joiners : map (λ l. l.auto_zwnj) (gsub_lookups (at_system 52) (record (kern_1 0) { auto_zwnj = false } ∷ liga_2 0 ∷ []) 0 0)
      ≡ true ∷ false ∷ []
  pub later_joiners : map (λ l. l.auto_zwj) (gsub_lookups (at_system 52) (kern_1 0 ∷ record (liga_2 0) { auto_zwj = false } ∷ []) 0 0)
      ≡ false ∷ false ∷ []
  pub first_random : map (λ l. l.random) (gsub_lookups (at_system 52) (record (kern_1 0) { random = true } ∷ liga_2 0 ∷ []) 0 0)
      ≡ false ∷ true ∷ []
  pub later_random : map (λ l. l.random) (gsub_lookups (at_system 52) (kern_1 0 ∷ record (liga_2 0) { random = true } ∷ []) 0 0)
      ≡ true ∷ false ∷ []
  pub in_syllables : map (λ l. l.per_syllable) (gsub_lookups (at_system 52) (record (kern_1 0) { per_syllable = true } ∷ []) 0 0)
      ≡ true ∷ []
  pub gpos_has_one_stage : gpos_lookups (at_system 52) (record (kern_1 3) { gpos = Some 0 } ∷ []) ≡ on 5 16 ∷ []
  pub required_of_gpos : gpos_lookups (at_system 62) [] ≡ on 5 (2 ^ 31) ∷ []
  -- each table by its own index of the feature
  pub of_gpos_alone : gpos_lookups (at_system 52) (record (with_bits KERN None 0 0 1) { gpos = Some 0 } ∷ []) ≡ on 5 16 ∷ []
  pub of_gsub_alone : gpos_lookups (at_system 52) (record (kern_1 0) { gpos = None } ∷ []) ≡ []
  pub required_in_no_other_stage : gsub_lookups (at_system 62) [] 0 1 ≡ []

pub worked_lookups : WorkedLookups
worked_lookups = record {
  in_order_once = refl;
  of_the_stage = refl;
  of_the_next_stage = refl;
  not_in_gsub = refl;
  past_the_list = refl;
  required = refl;
  required_and_asked = refl;
  required_in_its_stage = refl;
  required_in_the_next_stage = refl;
  joiners = refl;
  later_joiners = refl;
  first_random = refl;
  later_random = refl;
  in_syllables = refl;
  gpos_has_one_stage = refl;
  required_of_gpos = refl;
  of_gpos_alone = refl;
  of_gsub_alone = refl;
  required_in_no_other_stage = refl;
}

-- `kern` before a pause with the number 7, `liga` after it
abbrev pub two_stages : Staged
two_stages = staged (at_system 52) (kern_1 0 ∷ liga_2 1 ∷ []) 0 (Some 7 ∷ [])

-- the same by requests, `liga` with values up to 3, and a feature that no table has
abbrev pub whole : OtMap
whole = compiled (at_system 52) no_table (asked KERN 1 1 ∷ Pause (Some 7) ∷ asked LIGA 0 3 ∷ asked 10 2 1 ∷ asked 20 1 1 ∷ [])

abbrev pub tag : ℕ → hb_tag_t
tag n = record { 0 = n }

pub record WorkedStages : Type 0 where
  pub first_stage : lookups_of two_stages 0 ≡ on 5 16 ∷ []
  pub second_stage : lookups_of two_stages 1 ≡ on 3 32 ∷ on 5 32 ∷ []
  pub third_stage : lookups_of (record {
    lookups = on 1 16 ∷ on 2 16 ∷ on 3 16 ∷ [];
    stages = record { end = 1; pause = None } ∷ record { end = 2; pause = None } ∷ record { end = 3; pause = None } ∷ [];
  }) 2 ≡ on 3 16 ∷ []
  pub past_the_last : lookups_of two_stages 2 ≡ []
  pub after_the_first : pause_of two_stages 0 ≡ Some 7
  pub after_the_last : pause_of two_stages 1 ≡ None
  pub no_pause : lookups_of (staged (at_system 52) (kern_1 0 ∷ []) 0 []) 0 ≡ on 5 16 ∷ []
  pub empty_stage : lookups_of (staged (at_system 52) (kern_1 1 ∷ []) 0 (None ∷ [])) 0 ≡ []

pub worked_stages : WorkedStages
worked_stages = record {
  first_stage = refl;
  second_stage = refl;
  third_stage = refl;
  past_the_last = refl;
  after_the_first = refl;
  after_the_last = refl;
  no_pause = refl;
  empty_stage = refl;
}

pub record WorkedMap : Type 0 where
  pub global_mask : (map_meaning whole).global_mask ≡ 2 ^ 31
  pub plain_mask : (map_meaning whole).mask (tag KERN) ≡ (2 ^ 31, 31)
  pub plain_one_mask : (map_meaning whole).one_mask (tag KERN) ≡ 2 ^ 31
  -- tag 10 has bit 4, `liga` the next two
  pub mask : (map_meaning whole).mask (tag LIGA) ≡ (96, 5)
  pub one_mask : (map_meaning whole).one_mask (tag LIGA) ≡ 32
  pub fallback_mask : (map_meaning whole).mask (tag 10) ≡ (16, 4)
  pub no_mask : (map_meaning whole).mask (tag 20) ≡ (0, 0)
  pub no_one_mask : (map_meaning whole).one_mask (tag 20) ≡ 0
  pub index : (map_meaning whole).feature_index GSUB (tag LIGA) ≡ Some 1
  pub other_index : (map_meaning whole).feature_index GPOS (tag LIGA) ≡ None
  pub stages : (map_meaning whole).stages ≡ 2
  pub pause : (map_meaning whole).pause_after 0 ≡ Some 7
  pub first_stage : lookups_of whole.gsub 0 ≡ on 5 (2 ^ 31) ∷ []
  pub second_stage : lookups_of whole.gsub 1 ≡ on 3 96 ∷ on 5 96 ∷ []
  pub needs_fallback : needs_fallback_of whole 10 ≡ true
  pub needs_none : needs_fallback_of whole LIGA ≡ false
  pub not_asked_for : needs_fallback_of whole 30 ≡ false
  pub before_the_pause : stage_of whole KERN ≡ Some 0
  pub after_the_pause : stage_of whole LIGA ≡ Some 1
  pub of_a_fallback : stage_of whole 10 ≡ Some 1
  pub of_none : stage_of whole 20 ≡ None

pub worked_map : WorkedMap
worked_map = record {
  global_mask = refl;
  plain_mask = refl;
  plain_one_mask = refl;
  mask = refl;
  one_mask = refl;
  fallback_mask = refl;
  no_mask = refl;
  no_one_mask = refl;
  index = refl;
  other_index = refl;
  stages = refl;
  pause = refl;
  first_stage = refl;
  second_stage = refl;
  needs_fallback = refl;
  needs_none = refl;
  not_asked_for = refl;
  before_the_pause = refl;
  after_the_pause = refl;
  of_a_fallback = refl;
  of_none = refl;
}

-- what is chosen in a table for a text, and what it says of features
pub record WorkedChosen : Type 0 where
  pub language : chosen two_scripts [] (Some LATN) (TRK ∷ []) ≡ record { bytes = two_scripts; lang_sys = Some 56; substitution = None }
  pub no_language : (chosen two_scripts [] (Some LATN) []).lang_sys ≡ Some 44
  pub no_script : (chosen two_scripts [] None (TRK ∷ [])).lang_sys ≡ None
  pub varied_features : (chosen (varied 0 0) [] None []).substitution ≡ Some 72
  pub varied_at_coordinates : (chosen (varied 1 0x4000) (pos 1 ∷ []) None []).substitution ≡ Some 72
  pub required_tag : required_tag_of (record { bytes = two_features; lang_sys = Some 38; substitution = None }) ≡ LIGA
  pub none_required : required_tag_of (record { bytes = two_features; lang_sys = Some 50; substitution = None }) ≡ 0
  pub without_language : required_tag_of (record { bytes = two_features; lang_sys = None; substitution = None }) ≡ 0
  pub place : feature_place (record { bytes = two_features; lang_sys = None; substitution = None }) (Some 1) ≡ Some 30
  pub substituted_place : feature_place (record { bytes = varied 0 0; lang_sys = None; substitution = Some 72 }) (Some 0) ≡ Some 372
  pub no_place : feature_place (record { bytes = two_features; lang_sys = None; substitution = None }) None ≡ None

pub worked_chosen : WorkedChosen
unfolding i16_of
worked_chosen = record {
  language = refl;
  no_language = refl;
  no_script = refl;
  varied_features = refl;
  varied_at_coordinates = refl;
  required_tag = refl;
  none_required = refl;
  without_language = refl;
  place = refl;
  substituted_place = refl;
  no_place = refl;
}
