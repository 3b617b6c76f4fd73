-- What scripts ask for, what a pause knows of a font, and splits, worked out by hand from HarfBuzz's table of scripts, Microsoft's list of
-- features and Unicode's data.
use Rattle.std.specs.Prelude.{◌≡◌, ◌+◌, ◌==◌, ◌||◌, ℕ, Bool, true, false, Option, Some, None, if◌then◌else◌}
use Rattle.std.specs.Prelude.{[], ◌∷◌, map, refl}
use Rattle.shape_common.specs.PlainUnicode.{plain_unicode}
use Rattle.shape_common.specs.Unicode.{UnicodeMeaning}
use Rattle.shape_common.specs.declared.general_category.hb_unicode_general_category_t.TheVariants as gc
use Rattle.shape_common.specs.declared.text_types.Script.{Script}
use Rattle.shape_common.specs.declared.text_types.hb_tag_t.{hb_tag_t}
use Rattle.shape_buffer.specs.Layout.{LayoutMeaning, LookupMeaning, MapMeaning}
use Rattle.shape_buffer.specs.MapBuilder.{feature, pause}
use Rattle.shape_buffer.specs.NoLookups.{no_layout, no_lookups, no_masks}
use Rattle.shape_buffer.specs.declared.interfaces.map_request.MapRequest.{MapRequest}
use Rattle.indic_shaper.specs.Composing.{composed, split}
use Rattle.indic_shaper.specs.Engine.{facts_of, is_new_script, virama_of, would}
use Rattle.indic_shaper.specs.Requests.{indic_requests, overriding_requests}
use Rattle.indic_shaper.specs.Scripts.{config_of, tag_of}
use Rattle.indic_shaper.specs.Worked.Initial.{facts}
use Rattle.indic_shaper.specs.Worked.Texts.{face}
use Rattle.indic_shaper.specs.declared.config.Config.{Config}
use Rattle.indic_shaper.specs.declared.config.RephMode.{RephMode}
use Rattle.indic_shaper.specs.declared.config.RephMode.TheVariants.{Implicit, Explicit, Encoded}
use Rattle.indic_shaper.specs.declared.engine.Facts.{Facts}

-- a script with fonts of the older specification: its virama, where a reph goes and how it is written, and whether `blwf` is on before
-- the base
abbrev with : (virama reph_position : ℕ) → RephMode → Bool → Config
with virama reph_position mode below = record {
  has_old_spec = true;
  virama = Some virama;
  reph_position = reph_position;
  reph_mode = mode;
  below_before_base = below;
}

pub record WorkedScripts : Type 0 where
  -- a reph goes before forms after the base (10), after those below it (9), before these (7), after the main consonant (5), or after
  -- forms after the base (12)
  pub devanagari : config_of 0x44657661 ≡ with 0x94D 10 Implicit true
  pub bengali : config_of 0x42656E67 ≡ with 0x9CD 9 Implicit true
  pub gurmukhi : config_of 0x47757275 ≡ with 0xA4D 7 Implicit true
  pub gujarati : config_of 0x47756A72 ≡ with 0xACD 10 Implicit true
  pub oriya : config_of 0x4F727961 ≡ with 0xB4D 5 Implicit true
  pub tamil : config_of 0x54616D6C ≡ with 0xBCD 12 Implicit true
  pub telugu : config_of 0x54656C75 ≡ with 0xC4D 12 Explicit false
  pub kannada : config_of 0x4B6E6461 ≡ with 0xCCD 12 Implicit false
  pub malayalam : config_of 0x4D6C796D ≡ with 0xD4D 5 Encoded true
  -- any other script has no virama, and no fonts of the older specification
  pub other : config_of 0x53696E68
      ≡ record { has_old_spec = false; virama = None; reph_position = 10; reph_mode = Implicit; below_before_base = true }

-- ---- what a pause knows

abbrev tag : ℕ → hb_tag_t
tag number = record { 0 = number }

abbrev script : ℕ → Option Script
script number = Some (record { 0 = tag number })

-- the mask of a feature is its tag
abbrev own_masks : MapMeaning
own_masks = record no_masks { one_mask = λ tag. tag.0 }

-- a font for the script `dev2`
abbrev newer : LayoutMeaning Unit
newer = record no_layout { chosen_script = λ _ _ _. Some (tag 0x64657632) }

-- what is asked is whether there may be no context
abbrev context : LookupMeaning
context = record no_lookups { would_substitute = λ tag asked zero. zero }

abbrev known : Bool → Facts
known is_old = record {
  tag = 0x44657661;
  config = with 0x94D 10 Implicit true;
  is_old = is_old;
  masks = record {
    rphf = 0x72706866;
    pref = 0x70726566;
    blwf = 0x626C7766;
    abvf = 0x61627666;
    half = 0x68616C66;
    pstf = 0x70737466;
    init = 0x696E6974;
  };
  virama = 8;
}

pub record WorkedFacts : Type 0 where
  pub tags : map tag_of (None ∷ script 0x54616D6C ∷ []) ≡ 0 ∷ 0x54616D6C ∷ []
  -- `dev2`, `bng2`, `deva`, `dev3`
  pub new_scripts : map is_new_script (None ∷ Some (tag 0x64657632) ∷ Some (tag 0x626E6732) ∷ Some (tag 0x64657661)
      ∷ Some (tag 0x64657633) ∷ [])
      ≡ false ∷ true ∷ true ∷ false ∷ false ∷ []
  pub viramas : map (virama_of face) (config_of 0x44657661 ∷ config_of 0x42656E67 ∷ config_of 0 ∷ []) ≡ 8 ∷ 0 ∷ 0 ∷ []
  pub older_font : facts_of face no_layout own_masks (script 0x44657661) None ≡ known true
  pub newer_font : facts_of face newer own_masks (script 0x44657661) None ≡ known false
  -- a script without an older specification is none of it
  pub no_script : (facts_of face no_layout own_masks None None).is_old ≡ false
  -- a newer font has no context, but in Malayalam
  pub contexts : map (λ (f : Facts). would context f (tag 0) [])
      (facts 0x44657661 false ∷ facts 0x44657661 true ∷ facts 0x4D6C796D false ∷ facts 0x4D6C796D true ∷ [])
      ≡ true ∷ false ∷ false ∷ false ∷ []

-- ---- features: 64 stays in a syllable, 1 is on everywhere, 4 and 8 leave ZWNJ and ZWJ to the shaper

abbrev global : ℕ → MapRequest
global number = feature (tag number) 77 1

abbrev masked : ℕ → MapRequest
masked number = feature (tag number) 76 1

pub record WorkedFeatures : Type 0 where
  -- locl, ccmp; nukt, akhn, rphf, rkrf, pref, blwf, abvf, half, pstf, vatu, cjct, a stage each; init, pres, abvs, blws, psts, haln
  pub requests : indic_requests
      ≡ pause (Some 1)
      ∷ feature (tag 0x6C6F636C) 65 1
      ∷ feature (tag 0x63636D70) 65 1
      ∷ pause (Some 2)
      ∷ global 0x6E756B74
      ∷ pause None
      ∷ global 0x616B686E
      ∷ pause None
      ∷ masked 0x72706866
      ∷ pause None
      ∷ global 0x726B7266
      ∷ pause None
      ∷ masked 0x70726566
      ∷ pause None
      ∷ masked 0x626C7766
      ∷ pause None
      ∷ masked 0x61627666
      ∷ pause None
      ∷ masked 0x68616C66
      ∷ pause None
      ∷ masked 0x70737466
      ∷ pause None
      ∷ global 0x76617475
      ∷ pause None
      ∷ global 0x636A6374
      ∷ pause None
      ∷ pause (Some 3)
      ∷ masked 0x696E6974
      ∷ global 0x70726573
      ∷ global 0x61627673
      ∷ global 0x626C7773
      ∷ global 0x70737473
      ∷ global 0x68616C6E
      ∷ []
  -- no ligatures of Latin, and a stage of its own for what the user asks for
  pub overriding : overriding_requests ≡ feature (tag 0x6C696761) 1 0 ∷ pause None ∷ []

-- ---- splits: letters with a nukta, and vowel signs of two parts

abbrev unicode : UnicodeMeaning
unicode = record plain_unicode {
  category = λ c. if (c == 0x9C7) || (c == 0x9BE) then gc.SpacingMark else gc.OtherLetter;
  split = λ c. Some (c, 0x9BC);
  compose = λ a b. Some (a + b);
}

pub record WorkedSplits : Type 0 where
  -- four letters stay whole
  pub whole : map (split unicode) (0x931 ∷ 0x9DC ∷ 0x9DD ∷ 0xB94 ∷ []) ≡ None ∷ None ∷ None ∷ None ∷ []
  pub others : map (split unicode) (0x930 ∷ 0x932 ∷ 0x9DF ∷ 0xB95 ∷ [])
      ≡ Some (0x930, 0x9BC) ∷ Some (0x932, 0x9BC) ∷ Some (0x9DF, 0x9BC) ∷ Some (0xB95, 0x9BC) ∷ []
  -- the parts of a vowel sign aren't composed; YA and nukta are, and letters as Unicode has it
  pub signs : composed unicode 0x9C7 0x9BE ≡ None
  pub yya : composed unicode 0x9AF 0x9BC ≡ Some 0x9DF
  pub letters : composed unicode 0x9AF 0x9BD ≡ Some 0x136C
  pub other_nukta : composed unicode 0x9A1 0x9BC ≡ Some 0x135D

pub worked_scripts : WorkedScripts
worked_scripts = record {
  devanagari = refl;
  bengali = refl;
  gurmukhi = refl;
  gujarati = refl;
  oriya = refl;
  tamil = refl;
  telugu = refl;
  kannada = refl;
  malayalam = refl;
  other = refl;
}

pub worked_facts : WorkedFacts
worked_facts = record {
  tags = refl;
  new_scripts = refl;
  viramas = refl;
  older_font = refl;
  newer_font = refl;
  no_script = refl;
  contexts = refl;
}

pub worked_features : WorkedFeatures
worked_features = record { requests = refl; overriding = refl }

pub worked_splits : WorkedSplits
worked_splits = record { whole = refl; others = refl; signs = refl; yya = refl; letters = refl; other_nukta = refl }
