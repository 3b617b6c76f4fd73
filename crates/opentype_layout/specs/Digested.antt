-- lookups with digests that hold the glyphs that they may begin at, and the face that stores these
use Rattle.std.specs.Prelude.{◌≡◌, ℕ, Bool, true, false, List, ◌<◌, ◌^◌}
use Rattle.layout_matching.specs.Firsts.{AreFirsts}
use Rattle.layout_matching.specs.WholeRules.{AreWholesOf}
use Rattle.layout_matching.specs.declared.ligature_sets.StoredSets.{StoredSets}
use Rattle.layout_digests.specs.LigatureSets.{HoldSets}
use Rattle.layout_digests.specs.Lookups.{IsDigest}
use Rattle.layout_digests.specs.Stored.{AreStored}
use Rattle.layout_digests.specs.WholeRules.{HoldWholes}
use Rattle.layout_digests.specs.declared.digested.Digested.{Digested}
use Rattle.layout_digests.specs.declared.stored.StoredLookups.{StoredLookups}
use Rattle.shape_font.specs.declared.face.FontFace.{FontFace}
use Rattle.opentype_layout.specs.Classes.{AreProps}
use Rattle.opentype_layout.specs.declared.face.OpenTypeFace.{OpenTypeFace}

-- a lookup near the start of its table, of `GSUB` or of `GPOS`, its digest, and what is stored of its subtables
pub record IsSaid (positioning : Bool) (d : Digested) : Type 0 where
  pub near : d.lookup.place < 2 ^ 17
  pub kind : d.lookup.positioning ≡ positioning
  pub digest : IsDigest d.lookup.table.now positioning d.lookup.place d.digest
  pub firsts : AreFirsts d.lookup d.firsts
  pub wholes : AreWholesOf d.lookup d.firsts

-- what is stored of the lookups of a table, and of their rules of format 3
pub record AreStoredOf (t : List ℕ) (positioning : Bool) (s : StoredLookups) : Type 0 where
  pub lookups : AreStored t positioning s.firsts.items s.lookups.items
  pub wholes : HoldWholes t positioning s.wholes.items

-- the font of the face, opened, what is said of the first glyphs, and what is stored of each lookup of its tables and of its sets of
-- ligatures
pub record IsStored (opened : FontFace) (f : OpenTypeFace) (props : List ℕ) (substitution positioning : StoredLookups)
    (sets : List StoredSets) : Type 0 where
  pub font : opened ≡ f.font
  pub classes : AreProps f.gdef.now props
  pub gsub : AreStoredOf f.gsub.now false substitution
  pub gpos : AreStoredOf f.gpos.now true positioning
  pub ligatures : HoldSets f.gsub.now sets
