-- The definitions on small cases, worked out by hand from UAX 24 and the data of Unicode.
pub mod Texts
use Rattle.std.specs.Prelude.{◌≡◌, ℕ, Bool, true, false, List, [], ◌∷◌, map, replicate, refl}
use Rattle.std.specs.Str.{chars}
use Rattle.ucd_bidi.proofs.Computing.{ucd_bidi}
use Rattle.ucd_script.proofs.Computing.{ucd_script}
use Rattle.ucd_script.specs.declared.Script.{Script}
use Rattle.ucd_script.specs.declared.Script.TheVariants.{Arabic, Common, Devanagari, Greek, Han, Inherited, Katakana, Latin, Mahajani}
use Rattle.text_items.specs.Items.{is_same, joined, singles}
use Rattle.text_items.specs.Ranges.{number_at}
use Rattle.text_items.specs.Scripts.{Context, is_explicit, opened, own_script, with_next}
use Rattle.text_items.specs.declared.clusters.Cluster.{Cluster}
use Rattle.text_items.specs.declared.clusters.Properties.{Properties}
use Rattle.text_items.specs.declared.items.Item.{Item}
use Rattle.text_items.specs.declared.pairs.Open.{Open}
use Rattle.text_items.specs.declared.presentation.Presentation.TheVariants.{Emoji, Text}
use Rattle.text_items.specs.declared.ranges.NumberedRange.{NumberedRange}

-- ---- which script a cluster has by itself

pub record WorkedOwn : Type 0 where
  pub letter : own_script (0x61 ∷ []) ≡ Latin
  pub digit : own_script (0x31 ∷ []) ≡ Common
  -- a base with a mark of another script, and a base of none: NO-BREAK SPACE with a vowel sign
  pub base_first : own_script (0x61 ∷ 0x483 ∷ []) ≡ Latin
  pub generic_base : own_script (0xA0 ∷ 0x941 ∷ []) ≡ Devanagari
  -- COMBINING ACUTE ACCENT is Inherited
  pub mark_alone : own_script (0x301 ∷ []) ≡ Common
  pub inherited : is_explicit Inherited ≡ false
  pub common : is_explicit Common ≡ false
  pub latin : is_explicit Latin ≡ true

pub worked_own : WorkedOwn
unfolding ucd_script
worked_own = record {
  letter = refl;
  digit = refl;
  base_first = refl;
  generic_base = refl;
  mark_alone = refl;
  inherited = refl;
  common = refl;
  latin = refl;
}

-- ---- which one it takes

abbrev pub cluster : ℕ → Script → Cluster
cluster c s = record { start = 0; end = 1; first = c; script = s; next = Common; level = 0; presentation = Text; language = 0; features = 0 }

abbrev pub sign : ℕ → Cluster
sign c = cluster c Common

abbrev pub latin : Cluster
latin = cluster 0x61 Latin

abbrev pub greek : Cluster
greek = cluster 0x3B3 Greek

abbrev pub script_of : Item → Script
script_of item = item.properties.script

abbrev pub scripts : List Cluster → List Script
scripts clusters = map script_of (singles (with_next clusters))

abbrev pub open_in : Script → Open
open_in s = record { closing = 0x29; script = s }

pub record WorkedScripts : Type 0 where
  pub common_after : scripts (latin ∷ sign 0x31 ∷ greek ∷ []) ≡ Latin ∷ Latin ∷ Greek ∷ []
  pub common_before : scripts (sign 0x31 ∷ greek ∷ []) ≡ Greek ∷ Greek ∷ []
  pub common_alone : scripts (sign 0x31 ∷ []) ≡ Common ∷ []
  -- gamma (γ) is
  pub brackets : scripts (latin ∷ sign 0x28 ∷ greek ∷ sign 0x29 ∷ sign 0x20 ∷ []) ≡ Latin ∷ Latin ∷ Greek ∷ Latin ∷ Latin ∷ []
  pub quotation_marks : scripts (latin ∷ sign 0x201C ∷ greek ∷ sign 0x201D ∷ []) ≡ Latin ∷ Latin ∷ Greek ∷ Latin ∷ []
  pub bracket_first : scripts (sign 0x28 ∷ greek ∷ latin ∷ sign 0x29 ∷ []) ≡ Greek ∷ Greek ∷ Latin ∷ Greek ∷ []
  pub equivalent_bracket : scripts (latin ∷ sign 0x3008 ∷ greek ∷ sign 0x232A ∷ []) ≡ Latin ∷ Latin ∷ Greek ∷ Latin ∷ []
  -- an apostrophe closes nothing, and leaves what is open
  pub apostrophe : scripts (latin ∷ sign 0x28 ∷ greek ∷ sign 0x2019 ∷ sign 0x29 ∷ []) ≡ Latin ∷ Latin ∷ Greek ∷ Greek ∷ Latin ∷ []
  -- a pair is closed once, and what opened in it is closed with it
  pub closed_once : scripts (latin ∷ sign 0x28 ∷ sign 0x29 ∷ greek ∷ sign 0x29 ∷ []) ≡ Latin ∷ Latin ∷ Latin ∷ Greek ∷ Greek ∷ []
  pub closed_within : scripts (latin ∷ sign 0x28 ∷ greek ∷ sign 0x5B ∷ sign 0x29 ∷ greek ∷ sign 0x5D ∷ [])
      ≡ Latin ∷ Latin ∷ Greek ∷ Greek ∷ Latin ∷ Greek ∷ Greek ∷ []
  pub sixty_three : opened 0x29 (record { current = Latin; brackets = replicate 62 (open_in Greek) })
      ≡ record { current = Latin; brackets = open_in Latin ∷ replicate 62 (open_in Greek) }
  pub sixty_four : opened 0x29 (record { current = Latin; brackets = replicate 63 (open_in Greek) })
      ≡ record { current = Latin; brackets = replicate 63 (open_in Greek) }

pub worked_scripts : WorkedScripts
unfolding ucd_script ucd_bidi
worked_scripts = record {
  common_after = refl;
  common_before = refl;
  common_alone = refl;
  brackets = refl;
  quotation_marks = refl;
  bracket_first = refl;
  equivalent_bracket = refl;
  apostrophe = refl;
  closed_once = refl;
  closed_within = refl;
  sixty_three = refl;
  sixty_four = refl;
}

pub record WorkedExtensions : Type 0 where
  -- U+30FC is used with Hiragana and Katakana
  pub used_with_the_last : scripts (cluster 0x30AB Katakana ∷ sign 0x30FC ∷ latin ∷ []) ≡ Katakana ∷ Katakana ∷ Latin ∷ []
  pub used_with_the_next : scripts (cluster 0x6F22 Han ∷ sign 0x30FC ∷ cluster 0x30AB Katakana ∷ []) ≡ Han ∷ Katakana ∷ Katakana ∷ []
  pub used_with_none : scripts (latin ∷ sign 0x30FC ∷ greek ∷ []) ≡ Latin ∷ Latin ∷ Greek ∷ []
  -- the next script is that of the next cluster that has one
  pub next_but_one : scripts (latin ∷ sign 0x30FC ∷ sign 0x20 ∷ cluster 0x30AB Katakana ∷ []) ≡ Latin ∷ Katakana ∷ Katakana ∷ Katakana ∷ []
  -- a digit of Devanagari is used with Mahajani, too
  pub digit_in_another : scripts (cluster 0x11150 Mahajani ∷ cluster 0x967 Devanagari ∷ []) ≡ Mahajani ∷ Mahajani ∷ []
  pub digit_in_a_third : scripts (latin ∷ cluster 0x967 Devanagari ∷ []) ≡ Latin ∷ Devanagari ∷ []
  -- a bracket that isn't used with the text before it
  pub bracket_of_the_next : scripts (latin ∷ sign 0x300C ∷ cluster 0x6F22 Han ∷ latin ∷ sign 0x300D ∷ []) ≡ Latin ∷ Han ∷ Han ∷ Latin ∷ Han ∷ []
  pub stretched : scripts (latin ∷ sign 0x640 ∷ cluster 0x628 Arabic ∷ []) ≡ Latin ∷ Arabic ∷ Arabic ∷ []

pub worked_extensions : WorkedExtensions
unfolding ucd_script ucd_bidi
worked_extensions = record {
  used_with_the_last = refl;
  used_with_the_next = refl;
  used_with_none = refl;
  next_but_one = refl;
  digit_in_another = refl;
  digit_in_a_third = refl;
  bracket_of_the_next = refl;
  stretched = refl;
}

-- ---- numbers of ranges, and runs

abbrev pub ranges : List NumberedRange
ranges = record { start = 2; end = 4; number = 7 } ∷ record { start = 4; end = 6; number = 8 } ∷ []

abbrev pub plain : Properties
plain = record { script = Latin; level = 0; presentation = Text; language = 0; features = 0 }

abbrev pub run : ℕ → ℕ → Properties → Item
run start end properties = record { start = start; end = end; properties = properties }

pub record WorkedRuns : Type 0 where
  pub before_a_range : number_at ranges 1 ≡ 0
  pub at_its_start : number_at ranges 2 ≡ 7
  pub before_its_end : number_at ranges 3 ≡ 7
  pub at_its_end : number_at ranges 4 ≡ 8
  pub after_all : number_at ranges 6 ≡ 0
  pub same : is_same plain plain ≡ true
  pub other_script : is_same plain (record plain { script = Greek }) ≡ false
  pub other_level : is_same plain (record plain { level = 1 }) ≡ false
  pub other_presentation : is_same plain (record plain { presentation = Emoji }) ≡ false
  pub other_language : is_same plain (record plain { language = 1 }) ≡ false
  pub other_features : is_same plain (record plain { features = 1 }) ≡ false
  pub two_runs : joined (run 0 1 plain ∷ run 1 3 plain ∷ run 3 4 (record plain { level = 1 }) ∷ [])
      ≡ run 0 3 plain ∷ run 3 4 (record plain { level = 1 }) ∷ []
  pub none : joined [] ≡ []

pub worked_runs : WorkedRuns
worked_runs = record {
  before_a_range = refl;
  at_its_start = refl;
  before_its_end = refl;
  at_its_end = refl;
  after_all = refl;
  same = refl;
  other_script = refl;
  other_level = refl;
  other_presentation = refl;
  other_language = refl;
  other_features = refl;
  two_runs = refl;
  none = refl;
}
