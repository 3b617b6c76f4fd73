-- Substitution by the tables of a font, computed by hand on tables of 16-bit words.
use Rattle.std.specs.Prelude.{◌≡◌, ℕ, List, [], ◌∷◌, ◌++◌, Some, true, false, refl}
use Rattle.shape_buffer.specs.Walks.{items_mapped}
use Rattle.shape_common.specs.declared.text_types.Feature.{Feature}
use Rattle.shape_font.specs.Worked.Glyphs.{words}
use Rattle.shape_items.specs.Buffer.{Buffer}
use Rattle.apple_substitution.specs.ChainRuns.{chain_run}
use Rattle.apple_substitution.specs.Chains.{chain_flags}
use Rattle.apple_substitution.specs.FeatureMap.{LAST, requests_of}
use Rattle.apple_substitution.specs.Languages.{is_in}
use Rattle.apple_substitution.specs.Metamorphosis.{is_present, metamorphosed}
use Rattle.apple_substitution.specs.Noncontextual.{all_substituted_by, substituted_by}
use Rattle.apple_substitution.specs.Substitution.{Font, language_of, source_for, substituted}
use Rattle.apple_substitution.specs.Subtables.{acted, acted_in_order, ran}
use Rattle.apple_substitution.specs.Worked.Driving.{glyphs_of, text}
use Rattle.apple_substitution.specs.Worked.Running.{both, replaces}

-- a table of one chain, that has flag 1 by type 1 with setting 2; the flag has a subtable on that has 50 in place of 5 and 60 in place of 6
abbrev fifty : List ℕ
fifty = words (2 ∷ 0 ∷ 0 ∷ 1 ∷ 0 ∷ 0 ∷ 0 ∷ 50 ∷ 0 ∷ 1 ∷ 0 ∷ 1 ∷ 1 ∷ 2 ∷ 0 ∷ 1 ∷ 0xFFFF ∷ 0xFFFF ∷ []) ++ replaces 4 1

-- one of one chain, that has flag 1 for the first language of the font
abbrev english : List ℕ
english = words (2 ∷ 0 ∷ 0 ∷ 1 ∷ 0 ∷ 0 ∷ 0 ∷ 50 ∷ 0 ∷ 1 ∷ 0 ∷ 1 ∷ 39 ∷ 1 ∷ 0 ∷ 1 ∷ 0xFFFF ∷ 0xFFFF ∷ []) ++ replaces 4 1

-- which is English
abbrev names : List ℕ
names = words (0 ∷ 1 ∷ 0 ∷ 0 ∷ 0 ∷ 1 ∷ 16 ∷ 2 ∷ []) ++ (101 ∷ 110 ∷ [])

-- a table that has type 1
abbrev types : List ℕ
types = words (1 ∷ 0 ∷ 1 ∷ 0 ∷ 0 ∷ 0 ∷ 1 ∷ 2 ∷ 0 ∷ 0 ∷ 0 ∷ 0 ∷ [])

abbrev font : List ℕ → List ℕ → Font
font morx feat = record { morx = morx; feat = feat; ltag = []; gdef = []; glyphs = 100 }

-- liga with a value, in cluster 0: it chooses setting 2 of type 1 if the value isn't 0
abbrev asked : ℕ → List Feature
asked value = record { tag = record { 0 = 0x6C696761 }; value = value; start = 0; end = 1 } ∷ []

abbrev run : Font → ℕ → Buffer
run f value = substituted f (asked value) (text both 200)

-- a text in a language
abbrev spoken : List ℕ → List ℕ
spoken language = glyphs_of (substituted (record (font english []) { ltag = names }) [] (record (text both 200) { language = Some language }))

pub record WorkedSubstitutions : Type 0 where
  pub on : glyphs_of (run (font fifty types) 1) ≡ 50 ∷ 6 ∷ []
  pub off : glyphs_of (run (font fifty types) 0) ≡ 5 ∷ 6 ∷ []
  pub not_of_the_font : glyphs_of (run (font fifty []) 1) ≡ 5 ∷ 6 ∷ []
  pub no_table : run (font [] types) 1 ≡ text both 200
  pub in_english : spoken (101 ∷ 110 ∷ []) ≡ 50 ∷ 60 ∷ []
  pub in_french : spoken (102 ∷ 114 ∷ []) ≡ 5 ∷ 6 ∷ []
  pub reads : source_for (record { morx = 1 ∷ []; feat = 2 ∷ []; ltag = 3 ∷ []; gdef = 4 ∷ []; glyphs = 5 }) [] (6 ∷ [])
      ≡ record {
        morx = 1 ∷ [];
        gdef = 4 ∷ [];
        glyphs = 5;
        requests = record { last = LAST; features = [] } ∷ [];
        languages = record { ltag = 3 ∷ []; text = 6 ∷ [] };
      }
  pub of_a_language : language_of (record (text both 0) { language = Some (6 ∷ []) }) ≡ 6 ∷ []
  pub of_no_language : language_of (text both 0) ≡ []
  pub a_version : is_present (words (3 ∷ [])) ≡ true
  pub version_0 : is_present (words (0 ∷ 1 ∷ [])) ≡ false
  pub no_bytes : is_present [] ≡ false

pub worked_substitutions : WorkedSubstitutions
unfolding acted acted_in_order all_substituted_by chain_flags chain_run is_in items_mapped metamorphosed ran requests_of substituted substituted_by
worked_substitutions = record {
  on = refl;
  off = refl;
  not_of_the_font = refl;
  no_table = refl;
  in_english = refl;
  in_french = refl;
  reads = refl;
  of_a_language = refl;
  of_no_language = refl;
  a_version = refl;
  version_0 = refl;
  no_bytes = refl;
}
