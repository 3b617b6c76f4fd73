-- A chain of the table morx over a text (TrueType Reference Manual, "The 'morx' table", "Metamorphosis Chains"): its flags, and its
-- subtables one after the other.
use Rattle.std.specs.Prelude.{ℕ, List, ◌+◌, ◌*◌, length, map}
use Rattle.shape_font.specs.Bytes.{u32_of}
use Rattle.shape_items.specs.Buffer.{Buffer}
use Rattle.apple_substitution.specs.FeatureRanges.{Request, flags_of, flags_work, request_of}
use Rattle.apple_substitution.specs.Languages.{Spoken, spoken_of}
use Rattle.apple_substitution.specs.Parts.{all_run, places_from}
use Rattle.apple_substitution.specs.Ranges.{STEP_WORK}
use Rattle.apple_substitution.specs.Subtables as subtable_rules
use Rattle.apple_substitution.specs.Subtables.{ran}
use Rattle.apple_substitution.specs.declared.chain_runs.Metamorphosis.{Metamorphosis}
use Rattle.apple_substitution.specs.declared.parts.TheConstants.{CHAIN, SUBTABLE}

-- what chains read: the tables morx and GDEF, how many glyphs the font has, the features that are asked for in ranges of the text, and
-- the languages of the font with that of the text
pub record Source : Type 0 where
  pub morx : List ℕ
  pub gdef : List ℕ
  pub glyphs : ℕ
  pub requests : List Request
  pub languages : Spoken

abbrev pub source_of : Metamorphosis → Source
source_of m = record {
  morx = m.tables.morx.now;
  gdef = m.tables.gdef.now;
  glyphs = m.tables.glyphs;
  requests = map request_of m.features.now;
  languages = spoken_of m.languages;
}

-- what its subtables read
abbrev pub chain_at : Source → ℕ → subtable_rules.Source
chain_at s chain = record { morx = s.morx; gdef = s.gdef; glyphs = s.glyphs; ranges = flags_of s.morx s.languages chain s.requests }

abbrev pub chain_work : Source → ℕ → ℕ
chain_work s chain = flags_work s.morx s.languages chain s.requests

-- ---- its subtables, after its header and its entries of features, of twelve bytes each. Of both it says how many there are

abbrev pub first_subtable : List ℕ → ℕ → ℕ
first_subtable t chain = chain + CHAIN.bytes + 12 * u32_of t (chain + 8)

abbrev pub subtable_count : List ℕ → ℕ → ℕ
subtable_count t chain = u32_of t (chain + 12)

-- whether one runs is a look at each range, beside what its walk costs
abbrev pub subtable_work : subtable_rules.Source → ℕ
subtable_work c = STEP_WORK + length c.ranges

-- n subtables from a place on
abbrev pub subtables_run : subtable_rules.Source → ℕ → ℕ → Buffer → Buffer
subtables_run c first n b = all_run (λ at. subtable_work c) (ran c) (places_from c.morx SUBTABLE n first) b

unfoldable pub chain_run : Source → ℕ → Buffer → Buffer
chain_run s chain b =
    subtables_run (chain_at s chain) (first_subtable s.morx chain) (subtable_count s.morx chain) b
