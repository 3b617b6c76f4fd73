-- What normalising depends on, as functions on characters.
use Rattle.std.specs.Prelude.{ℕ, ℤ, Bool, true, false, ◌||◌, not, Option, None, is_some, if◌then◌else◌}
use Rattle.std.specs.Option.{option_map, option_map_or}
use Rattle.std.specs.Ordering.{int_eq}
use Rattle.canonical_form.specs.Decompositions.{Decompositions}
use Rattle.shape_items.specs.Buffer.{Buffer}
use Rattle.shape_common.specs.Unicode.{UnicodeMeaning}
use Rattle.shape_common.specs.Face.{FaceMeaning}
use Rattle.shape_common.specs.declared.text_types.GlyphId.{GlyphId}
use Rattle.shape_plan.specs.ModeNames.{MODE_NONE, MODE_COMPOSED_DIACRITICS, MODE_COMPOSED_DIACRITICS_NO_SHORT_CIRCUIT, MODE_AUTO}
use Rattle.shape_plan.specs.Plan.{Plan, hooks_of}
use Rattle.shape_plan.specs.Shaper.{ShaperConstants, HookMeaning}

pub record Rules : Type 0 where
  pub unicode : UnicodeMeaning
  -- the split in use, a height that falls along it, and what composes in use
  pub split : ℕ → Option (ℕ × ℕ)
  pub height : ℕ → ℕ
  pub compose : ℕ → ℕ → Option ℕ
  pub face : FaceMeaning
  -- what `reorder_marks` does, if it is given
  pub reorder : Option (Buffer → ℕ → ℕ → Buffer)
  -- whether the shortest expansion is asked for, by whether a character stands in a sequence with marks
  pub short : Bool → Bool
  -- whether marks are composed with their starters again
  pub recomposes : Bool

-- the split is the hook's if it is given and the shaper used, else Unicode's
abbrev pub used_split : UnicodeMeaning → Bool → Option HookMeaning → ℕ → Option (ℕ × ℕ)
used_split unicode given hooks c = option_map_or (λ h. if given then h.split c else unicode.split c) hooks (unicode.split c)

abbrev pub used_height : UnicodeMeaning → Bool → Option HookMeaning → ℕ → ℕ
used_height unicode given hooks c = option_map_or (λ h. if given then h.height c else unicode.height c) hooks (unicode.height c)

-- both, with Unicode's combining classes
abbrev pub used_decompositions : UnicodeMeaning → Bool → Option HookMeaning → Decompositions
used_decompositions unicode given hooks = record {
  split = used_split unicode given hooks;
  height = used_height unicode given hooks;
  ccc = unicode.ccc;
}

-- and so is what composes
abbrev pub used_compose : UnicodeMeaning → Bool → Option HookMeaning → ℕ → ℕ → Option ℕ
used_compose unicode given hooks a b = option_map_or (λ h. if given then h.compose a b else unicode.compose a b) hooks (unicode.compose a b)

-- and what `reorder_marks` does
abbrev pub used_reorder : Bool → Option HookMeaning → Option (Buffer → ℕ → ℕ → Buffer)
used_reorder given hooks = if given then option_map (λ h. h.reorder) hooks else None

-- the mode of normalising: the shaper's preference if it is used, else AUTO
abbrev pub used_mode : {S P D : Type 0} → ℤ → Plan S P D → ℤ
used_mode preference plan = option_map_or (λ shaper. preference) plan.shaper MODE_AUTO

-- in mode NONE each character goes short, in COMPOSED_DIACRITICS those by themselves, in the other two none; AUTO acts
-- as COMPOSED_DIACRITICS
abbrev pub goes_short : ℤ → Bool → Bool
goes_short mode in_sequence =
    if int_eq mode MODE_NONE then true
    else if int_eq mode MODE_COMPOSED_DIACRITICS || int_eq mode MODE_AUTO then not in_sequence
    else false

-- the modes that compose
abbrev pub mode_recomposes : ℤ → Bool
mode_recomposes mode =
    int_eq mode MODE_COMPOSED_DIACRITICS || int_eq mode MODE_COMPOSED_DIACRITICS_NO_SHORT_CIRCUIT || int_eq mode MODE_AUTO

-- by Unicode, the constants and meanings of a shaper, the meaning of faces, a plan and a face
abbrev pub rules_of : {S P D F : Type 0} → UnicodeMeaning → ShaperConstants → (S → Plan S P D → F → HookMeaning) → (F → FaceMeaning)
    → Plan S P D → F → Rules
rules_of unicode constants hooks faces plan face = record {
  unicode = unicode;
  split = used_split unicode constants.has_decompose (hooks_of hooks plan face);
  height = used_height unicode constants.has_decompose (hooks_of hooks plan face);
  compose = used_compose unicode constants.has_compose (hooks_of hooks plan face);
  face = faces face;
  reorder = used_reorder constants.has_reorder_marks (hooks_of hooks plan face);
  short = goes_short (used_mode constants.preference plan);
  recomposes = mode_recomposes (used_mode constants.preference plan);
}

-- the rules if no shaper is used: those of Unicode and a face alone
abbrev pub rules_without_shaper : UnicodeMeaning → FaceMeaning → Rules
rules_without_shaper unicode face = record {
  unicode = unicode;
  split = unicode.split;
  height = unicode.height;
  compose = unicode.compose;
  face = face;
  reorder = None;
  short = goes_short MODE_AUTO;
  recomposes = mode_recomposes MODE_AUTO;
}

-- the splits in use, with their heights and Unicode's combining classes
abbrev pub decompositions : Rules → Decompositions
decompositions rules = record { split = rules.split; height = rules.height; ccc = rules.unicode.ccc }

-- whether a character has a glyph
abbrev pub has_glyph : (ℕ → Option GlyphId) → ℕ → Bool
has_glyph glyph c = is_some (glyph c)
