-- What the engine takes of the tables of a small font, read by hand.
use Rattle.std.specs.Prelude.{◌≡◌, ℕ, List, [], ◌∷◌, Some, None, Bool, true, false, map, refl}
use Rattle.apple_positioning.specs.OldTables.{kern_run}
use Rattle.apple_positioning.specs.Tracking.{run_tracked}
use Rattle.apple_substitution.specs.Metamorphosis.{metamorphosed}
use Rattle.apple_substitution.specs.Substitution.{substituted}
use Rattle.shape_items.specs.Buffer.{Buffer}
use Rattle.shape_items.specs.Items.{Item, new_item, new_properties}
use Rattle.shape_buffer.specs.MapBuilder.{Builder}
use Rattle.shape_buffer.specs.declared.interfaces.map_request.MapRequest.TheVariants.{Feature}
use Rattle.shape_buffer.specs.declared.interfaces.map_request.TableIndex.TheVariants.{GSUB, GPOS}
use Rattle.shape_common.specs.declared.text_types.hb_tag_t.{hb_tag_t}
use Rattle.shape_common.specs.declared.text_types.Script.{Script}
use Rattle.kern_table.specs.Headers.{first_start, header_size, length_of, format_of, coverage_of}
use Rattle.layout_map.specs.Map.{OtMap, compiled}
use Rattle.layout_map.specs.declared.lookups.LookupMap.{LookupMap}
use Rattle.layout_matching.specs.declared.lookup.Lookup.{Lookup}
use Rattle.shape_font.specs.Directory.{bytes_of}
use Rattle.opentype_layout.specs.Apple.{morx_of, kerx_of}
use Rattle.opentype_layout.specs.Chosen.{script_in, chosen_in}
use Rattle.opentype_layout.specs.Classes.{begun}
use Rattle.opentype_layout.specs.Engine.{gsub_tables, gpos_tables, opentype_layout, opentype_lookups}
use Rattle.opentype_layout.specs.Face.{opentype_face, tables_of}
use Rattle.opentype_layout.specs.Fonts.{units_of}
use Rattle.opentype_layout.specs.Lookups.{least_bit, lookups_of}
use Rattle.opentype_layout.specs.Would.{feature_would}
use Rattle.opentype_layout.specs.Worked.Fonts.{words, gsub, gsub_of_two, gdef, kern, font}
use Rattle.opentype_layout.specs.declared.face.OpenTypeFace.{OpenTypeFace}

abbrev pub tag : ℕ → hb_tag_t
tag n = record { 0 = n }

-- `Latn`, `Grek`, `latn`
abbrev pub latin : Script
latin = record { 0 = tag 0x4C61746E }

abbrev pub greek : Script
greek = record { 0 = tag 0x4772656B }

abbrev pub latn : hb_tag_t
latn = tag 0x6C61746E

-- a lookup that is on for bits 4 and 5
abbrev pub use_of : ℕ → LookupMap
use_of index = record { index = index; mask = 0x30; auto_zwnj = true; auto_zwj = false; random = true; per_syllable = false }

-- where a lookup stands, its flags and set of marks, its mask and the least bit of it
abbrev pub seen : Lookup → List ℕ
seen l = l.place ∷ l.flags ∷ l.mark_set ∷ l.mask ∷ l.unit ∷ []

abbrev pub turned_on : Lookup → List Bool
turned_on l = l.auto_zwnj ∷ l.auto_zwj ∷ l.random ∷ l.per_syllable ∷ l.positioning ∷ []

-- `liga` asked for everywhere, in a text of script `latn`
abbrev pub asked : Builder
asked = record {
  requests = Feature (tag 0x6C696761) 1 1 ∷ [];
  is_simple = true;
  language = None;
  gsub_script = Some latn;
  gpos_script = None;
}

-- whether a feature's lookups would substitute glyphs, if `liga` is what is asked for in a table of two lookups
abbrev pub Would : ℕ → List ℕ → Bool → Type 0
Would feature glyphs is =
    feature_would gsub_of_two (compiled (chosen_in gsub_of_two [] (Some latn) None) (chosen_in [] [] None None) asked.requests) feature glyphs true
    ≡ is

-- glyph `n` of a ligature
abbrev pub ligated : ℕ → Item
ligated n = record (new_item 0x41 0) {
  glyph_id = n;
  properties = record new_properties {
    substituted = true;
    ligated = true;
    ligature_id = 3;
    ligature_component = 1;
    number_of_components = 2;
  };
}

-- and as one of those that a glyph was taken apart into
abbrev pub taken_apart : ℕ → Item
taken_apart n = record (ligated n) { properties = record (ligated n).properties { multiplied = true } }

abbrev pub classes_of : Item → List ℕ
classes_of item = item.properties.glyph_class.0 ∷ item.properties.mark_attachment_class ∷ item.properties.ligature_id
    ∷ item.properties.ligature_component ∷ item.properties.number_of_components ∷ []

pub record WorkedEngine : Type 0 where
  -- the script of the text, one that stands for others, none
  pub script : script_in gsub (Some latin) None ≡ Some latn
  pub other_script : script_in gsub (Some greek) None ≡ Some latn
  pub no_script : script_in [] (Some latin) None ≡ None
  pub lang_sys : (chosen_in gsub [] (Some latn) None).lang_sys ≡ Some 22
  -- tables are read if they are of version 1
  pub read : (f : OpenTypeFace) → f.gsub.now ≡ gsub → (tables_of f).gsub ≡ true
  pub not_read : (f : OpenTypeFace) → f.gpos.now ≡ words (2 ∷ 0 ∷ []) → (tables_of f).gpos ≡ false
  pub no_table : (f : OpenTypeFace) → f.gpos.now ≡ [] → (tables_of f).gpos ≡ false
  pub some_morx : (f : OpenTypeFace) → f.font.apple.morx.now ≡ words (2 ∷ []) → (tables_of f).morx ≡ true
  pub no_morx : (f : OpenTypeFace) → f.font.apple.morx.now ≡ [] → (tables_of f).morx ≡ false
  pub new_kerx : (f : OpenTypeFace) → f.font.apple.kerx.now ≡ words (2 ∷ []) → (tables_of f).kerx ≡ true
  pub old_kerx : (f : OpenTypeFace) → f.font.apple.kerx.now ≡ words (1 ∷ []) → (tables_of f).kerx ≡ false
  pub trak : (f : OpenTypeFace) → f.font.apple.trak.now ≡ words (1 ∷ []) → (tables_of f).trak ≡ true
  pub other_trak : (f : OpenTypeFace) → f.font.apple.trak.now ≡ words (2 ∷ []) → (tables_of f).trak ≡ false
  pub face_says_so : (f : OpenTypeFace) → (opentype_face f).tables ≡ tables_of f
  -- a font of 1000 units
  pub units : units_of font 0 ≡ 1000
  pub no_second_font : units_of font 1 ≡ 0
  pub no_font : units_of [] 0 ≡ 0
  -- masks
  pub no_bit : least_bit 0 ≡ 0
  pub bit : least_bit 0x30 ≡ 0x10
  pub last_bit : least_bit 0x80000000 ≡ 0x80000000
  -- the lookup that the table has, and not the one that it lacks
  pub lookups : (f : OpenTypeFace) → f.gsub.now ≡ gsub
      → map seen (lookups_of (gsub_tables f) (use_of 1 ∷ use_of 0 ∷ [])) ≡ (48 ∷ 8 ∷ 7 ∷ 0x30 ∷ 0x10 ∷ []) ∷ []
  pub uses : (f : OpenTypeFace) → f.gpos.now ≡ gsub
      → map turned_on (lookups_of (gpos_tables f) (use_of 0 ∷ [])) ≡ (true ∷ false ∷ true ∷ false ∷ true ∷ []) ∷ []
  pub uses_in_gsub : (f : OpenTypeFace) → f.gsub.now ≡ gsub
      → map turned_on (lookups_of (gsub_tables f) (use_of 0 ∷ [])) ≡ (true ∷ false ∷ true ∷ false ∷ false ∷ []) ∷ []
  -- devices are those of GPOS
  pub devices : (f : OpenTypeFace) → (gsub_tables f).device_work ∷ (gpos_tables f).device_work ∷ [] ≡ 0 ∷ f.device_work ∷ []
  -- what is asked for, compiled: lookup 0, on everywhere
  pub compiled : (f : OpenTypeFace) → f.gsub.now ≡ gsub → f.gpos.now ≡ []
      → map (λ (m : LookupMap). m.index) ((opentype_layout f).compiled asked).gsub.lookups ≡ 0 ∷ []
  pub in_gsub : (f : OpenTypeFace) → f.gsub.now ≡ gsub → f.gpos.now ≡ []
      → (opentype_layout f).chosen_script (Some latin) None GSUB ≡ Some latn
  pub in_gpos : (f : OpenTypeFace) → f.gsub.now ≡ gsub → f.gpos.now ≡ []
      → (opentype_layout f).chosen_script (Some latin) None GPOS ≡ None
  pub classes : (f : OpenTypeFace) → f.gdef.now ≡ gdef → (opentype_layout f).has_glyph_classes ≡ true
  pub kerns : (f : OpenTypeFace) → f.font.kern.now ≡ kern → (opentype_layout f).has_kerning ≡ true
  pub no_kern : (f : OpenTypeFace) → f.font.kern.now ≡ [] → (opentype_layout f).has_kerning ≡ false
  -- neither a state table nor kerning across the line, or one of them
  pub no_machines : (f : OpenTypeFace) → f.font.kern.now ≡ words (0 ∷ 1 ∷ 0 ∷ 6 ∷ 0x0001 ∷ [])
      → (opentype_layout f).has_machine_kerning ∷ (opentype_layout f).has_cross_kerning ∷ [] ≡ false ∷ false ∷ []
  pub machine : (f : OpenTypeFace) → f.font.kern.now ≡ words (1 ∷ 0 ∷ 0 ∷ 1 ∷ 0 ∷ 8 ∷ 0x0001 ∷ 0 ∷ [])
      → (opentype_layout f).has_machine_kerning ∷ (opentype_layout f).has_cross_kerning ∷ [] ≡ true ∷ false ∷ []
  pub across : (f : OpenTypeFace) → f.font.kern.now ≡ words (1 ∷ 0 ∷ 0 ∷ 1 ∷ 0 ∷ 8 ∷ 0x4000 ∷ 0 ∷ [])
      → (opentype_layout f).has_machine_kerning ∷ (opentype_layout f).has_cross_kerning ∷ [] ≡ false ∷ true ∷ []
  pub kerns_by : (m : OtMap) (f : OpenTypeFace) (b : Buffer) → (opentype_lookups m f).kern 7 b
      ≡ kern_run (record { kern = f.font.kern.now; scale = f.scale; mask = 7 }) b
  -- Apple's tables of the font, its `GDEF`, and how many glyphs and points it has
  pub substitutes : (m : OtMap) (f : OpenTypeFace) (b : Buffer) → f.font.apple.morx.now ≡ []
      → (opentype_lookups m f).aat_substitute [] b ≡ b
  pub by_morx : (f : OpenTypeFace) → morx_of f ≡ record {
    morx = f.font.apple.morx.now;
    feat = f.font.apple.feat.now;
    ltag = f.font.apple.ltag.now;
    gdef = f.gdef.now;
    glyphs = f.font.glyph_count;
  }
  pub by_kerx : (f : OpenTypeFace) → kerx_of f 7 ≡ record {
    kerx = f.font.apple.kerx.now;
    ankr = f.font.apple.ankr.now;
    glyphs = f.font.glyph_count;
    scale = f.scale;
    mask = 7;
  }
  pub tracks : (m : OtMap) (f : OpenTypeFace) (b : Buffer)
      → (opentype_lookups m f).aat_track 7 b ≡ run_tracked f.font.apple.trak.now f.scale f.font.points 7 b
  -- by the first lookup, by the second, by none; for a feature that wasn't asked for
  pub first_would : Would 0x6C696761 (5 ∷ []) true
  pub second_would : Would 0x6C696761 (5 ∷ 6 ∷ []) true
  pub none_would : Would 0x6C696761 (5 ∷ 7 ∷ []) false
  pub not_asked_for : Would 0x68616C66 (5 ∷ []) false
  pub would_in_gsub : (m : OtMap) (f : OpenTypeFace) → f.gsub.now ≡ gsub → (opentype_lookups m f).would_substitute latn (5 ∷ []) true
      ≡ feature_would gsub m 0x6C61746E (5 ∷ []) true
  -- a base, a mark, a glyph of no class, of no ligature any more
  pub base : classes_of (begun gdef (ligated 5)) ≡ 2 ∷ 0 ∷ 0 ∷ 0 ∷ 1 ∷ []
  pub mark : classes_of (begun gdef (ligated 6)) ≡ 8 ∷ 2 ∷ 0 ∷ 0 ∷ 1 ∷ []
  pub other : classes_of (begun gdef (ligated 7)) ≡ 0 ∷ 0 ∷ 0 ∷ 0 ∷ 1 ∷ []
  pub not_made : (begun gdef (ligated 5)).properties.substituted ≡ false
  pub no_ligature : (begun gdef (ligated 5)).properties.ligated ≡ false
  pub not_taken_apart : (begun gdef (taken_apart 5)).properties.multiplied ≡ false

pub worked_engine : WorkedEngine
unfolding lib.Count.count_trailing_zeros bytes_of substituted metamorphosed first_start header_size length_of format_of coverage_of
worked_engine = record {
  script = refl;
  other_script = refl;
  no_script = refl;
  lang_sys = refl;
  read = λ f e. rw e refl;
  not_read = λ f e. rw e refl;
  some_morx = λ f e. rw e refl;
  no_morx = λ f e. rw e refl;
  new_kerx = λ f e. rw e refl;
  old_kerx = λ f e. rw e refl;
  trak = λ f e. rw e refl;
  other_trak = λ f e. rw e refl;
  face_says_so = λ f. refl;
  units = refl;
  no_second_font = refl;
  no_font = refl;
  no_table = λ f e. rw e refl;
  no_bit = refl;
  bit = refl;
  last_bit = refl;
  lookups = λ f e. rw e refl;
  uses = λ f e. rw e refl;
  uses_in_gsub = λ f e. rw e refl;
  devices = λ f. refl;
  compiled = λ f e none. rw e refl;
  in_gsub = λ f e none. rw e refl;
  in_gpos = λ f e none. rw none refl;
  classes = λ f e. rw e refl;
  kerns = λ f e. rw e refl;
  no_kern = λ f e. rw e refl;
  no_machines = λ f e. rw e refl;
  machine = λ f e. rw e refl;
  across = λ f e. rw e refl;
  kerns_by = λ m f b. refl;
  substitutes = λ m f b e. rw e refl;
  by_morx = λ f. refl;
  by_kerx = λ f. refl;
  tracks = λ m f b. refl;
  first_would = refl;
  second_would = refl;
  none_would = refl;
  not_asked_for = refl;
  would_in_gsub = λ m f e. rw e refl;
  base = refl;
  mark = refl;
  other = refl;
  not_made = refl;
  no_ligature = refl;
  not_taken_apart = refl;
}
