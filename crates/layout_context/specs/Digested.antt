-- lookups with sets that hold the glyphs that they may begin at
use Rattle.std.specs.Prelude.{◌≡◌, ℕ, Bool, true, false, List, ◌<◌, ◌^◌, ◌&&◌, not, length, map}
use Rattle.shape_items.specs.Items.{Item}
use Rattle.layout_matching.specs.Firsts.{AreFirsts}
use Rattle.layout_matching.specs.WholeRules.{AreWholesOf}
use Rattle.layout_matching.specs.Skipping.{nth, shares, is_skipped}
use Rattle.layout_matching.specs.declared.lookup.Lookup.{Lookup}
use Rattle.layout_digests.specs.Digests.{has}
use Rattle.layout_digests.specs.declared.digest.Digest.{Digest}
use Rattle.layout_digests.specs.declared.digested.Digested.{Digested}
use Rattle.layout_context.specs.Covered.{IsUncovered}

-- a lookup of `GSUB` that does not cover a glyph
pub record IsOut (l : Lookup) (glyph : ℕ) : Type 0 where
  pub substitutes : l.positioning ≡ false
  pub uncovered : IsUncovered l glyph

-- the lookup stands near the start of its table, and covers no glyph that the set doesn't hold; so it is with its subtables
pub record IsDigested (d : Digested) : Type 0 where
  pub near : d.lookup.place < 2 ^ 17
  pub out : (glyph : ℕ) → has d.digest glyph ≡ false → IsOut d.lookup glyph
  pub firsts : AreFirsts d.lookup d.firsts
  pub wholes : AreWholesOf d.lookup d.firsts

-- the set holds the first so many glyphs of a list, or all
abbrev pub HoldsFirst : Digest → List Item → ℕ → Type 0
HoldsFirst d items count = (at : ℕ) → at < count → has d (nth items at).glyph_id ≡ true

abbrev pub HoldsGlyphs : Digest → List Item → Type 0
HoldsGlyphs d items = HoldsFirst d items (length items)

-- the lookup is on for an item, and its set holds the item's glyph
abbrev pub meets : Digested → Item → Bool
meets d item = shares item.mask d.lookup.mask && has d.digest item.glyph_id && not (is_skipped d.lookup item)

-- the lookup meets none of the first so many items of a list
abbrev pub MeetsNone : Digested → List Item → ℕ → Type 0
MeetsNone d items count = (j : ℕ) → j < count → meets d (nth items j) ≡ false

-- the lookup's set holds no glyph of a set
abbrev pub IsApart : Digest → Digested → Type 0
IsApart run d = (glyph : ℕ) → has run glyph ≡ true → has d.digest glyph ≡ false

abbrev pub lookups_in : List Digested → List Lookup
lookups_in = map (λ (d : Digested). d.lookup)
