-- lookups with sets that hold the glyphs that they may begin at
use Rattle.std.specs.Prelude.{◌≡◌, ℕ, true, false, List, ◌+◌, ◌<◌, ◌^◌, length, map}
use Rattle.shape_items.specs.Items.{Item}
use Rattle.layout_matching.specs.Firsts.{AreFirsts}
use Rattle.layout_matching.specs.WholeRules.{AreWholesOf}
use Rattle.layout_matching.specs.Skipping.{nth}
use Rattle.layout_matching.specs.declared.lookup.Lookup.{Lookup}
use Rattle.layout_digests.specs.Digests.{has}
use Rattle.layout_digests.specs.declared.digest.Digest.{Digest}
use Rattle.layout_digests.specs.declared.digested.Digested.{Digested}
use Rattle.layout_positions.specs.Uncovered.{IsUnlisted}

-- a lookup of `GPOS` of which no subtable lists a glyph
pub record IsOut (l : Lookup) (glyph : ℕ) : Type 0 where
  pub positions : l.positioning ≡ true
  pub unlisted : IsUnlisted l glyph

-- the lookup stands near the start of its table, and lists no glyph that the set doesn't hold; so it is with its subtables
pub record IsDigested (d : Digested) : Type 0 where
  pub near : d.lookup.place < 2 ^ 17
  pub out : (glyph : ℕ) → has d.digest glyph ≡ false → IsOut d.lookup glyph
  pub firsts : AreFirsts d.lookup d.firsts
  pub wholes : AreWholesOf d.lookup d.firsts

-- the set holds the first so many glyphs of a list, or all
abbrev pub HoldsFirst : Digest → List Item → ℕ → Type 0
HoldsFirst d items count = (at : ℕ) → at < count → has d (nth items at).glyph_id ≡ true

abbrev pub HoldsGlyphs : Digest → List Item → Type 0
HoldsGlyphs d items = HoldsFirst d items (length items)

-- the set holds none of so many glyphs of a list from a place on
abbrev pub AreUnheld : Digest → List Item → ℕ → ℕ → Type 0
AreUnheld d items from count = (j : ℕ) → j < count → has d (nth items (from + j)).glyph_id ≡ false

abbrev pub lookups_in : List Digested → List Lookup
lookups_in = map (λ (d : Digested). d.lookup)
