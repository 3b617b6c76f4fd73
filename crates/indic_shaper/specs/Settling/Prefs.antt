-- Consonants that a lookup has made a form of that goes before the base.
--
-- "1. Only reorder a glyph produced by substitution during application of the <pref> feature. 2. Try to find a target position the
-- same way
-- as for pre-base matra. If it is found, reorder pre-base consonant glyph. 3. If position is not found, reorder immediately before main
-- consonant." (Microsoft, Developing OpenType Fonts for Malayalam Script: Final reordering.)
--
-- HarfBuzz asks whether some lookup has made a ligature of it; and here a position is after a joiner that follows the Halant.
use Rattle.std.specs.Prelude.{ℕ, ◌+◌, ◌-◌, ◌&&◌, not, nat_lt, Bool, if◌then◌else◌, List, slice_range}
use Rattle.std.specs.List.{suffix_len}
use Rattle.shape_items.specs.Buffer.{Buffer}
use Rattle.shape_items.specs.Items.{Item}
use Rattle.syllabic.specs.Moving.{brought_before}
use Rattle.syllabic.specs.Walking.{item_at}
use Rattle.indic_shaper.specs.Glyphs.{is_halant, is_joiner, is_ligature, is_matra_or_halant}
use Rattle.indic_shaper.specs.Settling.Bases.{asking_from}
use Rattle.indic_shaper.specs.Settling.Matras.{has_half_forms}

abbrev pub is_passed : Item → Bool
is_passed item = not (is_matra_or_halant item)

-- after the last matra or Halant before the base
abbrev pub after_signs : List Item → (start base : ℕ) → ℕ
after_signs items start base = base - suffix_len is_passed (slice_range items start base)

abbrev pub before_base : ℕ → List Item → (start base : ℕ) → ℕ
before_base tag items start base = if has_half_forms tag then after_signs items start base else base

abbrev pub follows_halant : List Item → (start to : ℕ) → Bool
follows_halant items start to = nat_lt start to && is_halant (item_at items (to - 1))

abbrev pub past_joiner : List Item → (start end to : ℕ) → ℕ
past_joiner items start end to =
    if follows_halant items start to && (nat_lt to end && is_joiner (item_at items to)) then to + 1 else to

abbrev pub place : ℕ → List Item → (start end base : ℕ) → ℕ
place tag items start end base = past_joiner items start end (before_base tag items start base)

-- the first consonant after the base that asked for a form before it, if a lookup has made a ligature of it
abbrev pub has_form : ℕ → List Item → (base end : ℕ) → Bool
has_form mask items base end =
    nat_lt base end
    && (nat_lt (asking_from mask items (base + 1) end) end && is_ligature (item_at items (asking_from mask items (base + 1) end)))

abbrev pub settled : (tag mask : ℕ) → (start end base : ℕ) → Buffer → Buffer
settled tag mask start end base b =
    if has_form mask b.items base end
    then brought_before (place tag b.items start end base) (asking_from mask b.items (base + 1) end) b else b
