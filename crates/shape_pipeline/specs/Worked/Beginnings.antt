-- What a run begins and ends with, worked out by hand: the text as it enters, the plan for it, a face that is given
-- glyph by glyph, and what the promises on clusters and flags are good for.
use Rattle.std.specs.Prelude.{◌≡◌, ℕ, ℤ, pos, neg_ℤ, int_div, List, [], Contains, Option, None, Some, refl}
use Rattle.std.specs.List.Sorted.{IsNonDecreasing}
use Rattle.std.proofs.Common.{ap}
use Rattle.shape_items.specs.Buffer.{Buffer, new_buffer}
use Rattle.shape_items.specs.ClusterOrder.{IsMonotoneLevel, IsNonIncreasing}
use Rattle.shape_items.specs.Clusters.{clusters}
use Rattle.shape_items.specs.Flags.{HasOneSetOfFlags}
use Rattle.shape_buffer.specs.MapBuilder.{Builder}
use Rattle.shape_common.specs.MapFace.{map_face, advance_of}
use Rattle.shape_common.specs.PlainUnicode.{plain_unicode}
use Rattle.shape_common.specs.declared.text_types.Direction.TheVariants.{LeftToRight, RightToLeft, TopToBottom, BottomToTop}
use Rattle.shape_common.specs.declared.text_types.Direction.{Direction}
use Rattle.shape_common.specs.declared.text_types.GlyphId.{GlyphId}
use Rattle.shape_common.specs.declared.map_face.MapFace.{MapFace}
use Rattle.shape_plan.specs.Decisions.{decided}
use Rattle.shape_plan.specs.Preservation.{RunPreservesFlags}
use Rattle.shape_plan.specs.Planner.{begun_planner, collected_planner, facts_of, compiled_plan, planned}
use Rattle.shape_plan.specs.Requests.{requested}
use Rattle.shape_plan.specs.Run.{Run}
use Rattle.shape_plan.specs.Tags.{tag}
use Rattle.shape_plan.specs.Worked.Decisions.{no_tables}
use Rattle.shape_plan.specs.Worked.Plans.{planning_with, constants_of}
use Rattle.shape_plan.specs.Worked.Requests.{script_of}
use Rattle.shape_plan.specs.Worked.Texts.{telling_layout, german}
use Rattle.shape_pipeline.specs.Headline.{FlagsAreByCluster}
use Rattle.shape_pipeline.specs.Order.{RunOrdersClusters, ClustersComeInOrder}
use Rattle.shape_pipeline.specs.Planned.{planned_for}
use Rattle.shape_pipeline.specs.Shaped.{entered}

-- scratch flags and the last ligature id that an earlier use has left go, and limits come
pub record WorkedEntries : Type 0 where
  pub scratch_flags : (entered (record new_buffer { scratch_flags = record { 0 = 63 } })).scratch_flags ≡ record { 0 = 0 }
  pub limit : (entered new_buffer).length_limit ≡ Some 16384
  pub ops : (entered (record new_buffer { max_ops = 7 })).max_ops ≡ 2621440
  pub serial : (entered (record new_buffer { serial = 7 })).serial ≡ 0

worked_entries : WorkedEntries
worked_entries = record { scratch_flags = refl; limit = refl; ops = refl; serial = refl }

-- a text of script 100, in a language of so many letters
abbrev pub text_in : Option (List ℕ) → Buffer
text_in language = record new_buffer { direction = LeftToRight; script = script_of 100; language = language }

-- the requests of its plan, by an engine that tells script and language by the scripts that it chooses
abbrev pub requests_in : Option (List ℕ) → Builder
requests_in language =
    (planned_for plain_unicode (record (planning_with constants_of) { layouts = λ _. telling_layout })
    no_tables 5 [] (text_in language)).ot_map

-- the engine is asked with the language of the text, and its builder has it
pub record WorkedLanguages : Type 0 where
  pub gsub : (requests_in german).gsub_script ≡ Some (tag 102)
  pub gpos : (requests_in german).gpos_script ≡ Some (tag 1102)
  pub without_language : (requests_in None).gsub_script ≡ Some (tag 100)
  pub language : (requests_in german).language ≡ german
  pub no_language : (requests_in None).language ≡ None

worked_languages : WorkedLanguages
unfolding begun_planner requested collected_planner facts_of decided compiled_plan planned
worked_languages = record { gsub = refl; gpos = refl; without_language = refl; language = refl; no_language = refl }

-- a glyph stands with its middle on a vertical line: half an odd advance is taken towards 0
abbrev pub OriginIsHalf : ℤ → ℤ → Type 0
OriginIsHalf advance half = (face : MapFace) (glyph : GlyphId) → advance_of face glyph ≡ advance → (map_face face).h_origin glyph ≡ half

pub record WorkedOrigins : Type 0 where
  pub even : OriginIsHalf (pos 8) (pos 4)
  pub odd : OriginIsHalf (pos 7) (pos 3)
  pub negative : OriginIsHalf (neg_ℤ (pos 7)) (neg_ℤ (pos 3))

worked_origins : WorkedOrigins
worked_origins = record {
  even = λ face glyph is. ap (λ advance. int_div advance (pos 2)) is;
  odd = λ face glyph is. ap (λ advance. int_div advance (pos 2)) is;
  negative = λ face glyph is. ap (λ advance. int_div advance (pos 2)) is;
}

-- a fact of the clusters of glyphs that is promised in a direction, and what it asks: steps that preserve them, a monotone
-- level, and clusters that never fall
abbrev pub PromisedIn : Direction → (Buffer → Buffer → Type 0) → Type 0
PromisedIn direction Fact =
    (run : Run) (text glyphs : Buffer) → ClustersComeInOrder run direction text glyphs
    → RunOrdersClusters run → IsMonotoneLevel text.cluster_level → IsNonDecreasing (clusters text.items) → Fact text glyphs

abbrev pub Rise : Buffer → Buffer → Type 0
Rise text glyphs = IsNonDecreasing (clusters glyphs.items)

abbrev pub Fall : Buffer → Buffer → Type 0
Fall text glyphs = IsNonIncreasing (clusters glyphs.items)

abbrev pub AreOfText : Buffer → Buffer → Type 0
AreOfText text glyphs = (k : ℕ) → Contains (clusters glyphs.items) k → Contains (clusters text.items) k

pub record WorkedPromises : Type 0 where
  pub rightward : PromisedIn LeftToRight Rise
  pub leftward : PromisedIn RightToLeft Fall
  pub downward : PromisedIn TopToBottom Rise
  pub upward : PromisedIn BottomToTop Fall
  pub from_text : (direction : Direction) → PromisedIn direction AreOfText
  pub one_set : (run : Run) (text glyphs : Buffer) → FlagsAreByCluster run text glyphs → RunPreservesFlags run → HasOneSetOfFlags glyphs.items

worked_promises : WorkedPromises
worked_promises = record {
  rightward = λ run text glyphs promised preserves level rise. (promised preserves level rise).ordered;
  leftward = λ run text glyphs promised preserves level rise. (promised preserves level rise).ordered;
  downward = λ run text glyphs promised preserves level rise. (promised preserves level rise).ordered;
  upward = λ run text glyphs promised preserves level rise. (promised preserves level rise).ordered;
  from_text = λ direction run text glyphs promised preserves level rise. (promised preserves level rise).from_text;
  one_set = λ run text glyphs promised preserves. (promised preserves).one_set;
}

pub record WorkedBeginnings : Type 0 where
  pub entries : WorkedEntries
  pub languages : WorkedLanguages
  pub origins : WorkedOrigins
  pub promises : WorkedPromises

pub worked_beginnings : WorkedBeginnings
worked_beginnings = record { entries = worked_entries; languages = worked_languages; origins = worked_origins; promises = worked_promises }
