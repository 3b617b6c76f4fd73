-- The requests of a plan.
use Rattle.std.specs.Prelude.{ℕ, Bool, true, List, [], ◌∷◌, ◌++◌, Option}
use Rattle.std.specs.Int.RustNames.{bit_or}
use Rattle.shape_common.specs.declared.text_types.hb_tag_t.{hb_tag_t}
use Rattle.shape_buffer.specs.declared.interfaces.map_request.MapRequest.{MapRequest}
use Rattle.shape_buffer.specs.declared.interfaces.map_request.MapRequest.TheVariants.{Feature, Pause, PauseUnless}
use Rattle.shape_buffer.specs.declared.interfaces.map_request.TableIndex.{TableIndex}
use Rattle.shape_buffer.specs.declared.interfaces.map_request.TableIndex.TheVariants.{GSUB, GPOS}
use Rattle.shape_common.specs.FlagNames.{F_GLOBAL}

-- the requests in order, the text's language by the bytes of its name, and the scripts that the engine chose; is_simple
-- begins true, and is false if a collect hook is given or user features are passed
pub record Builder : Type 0 where
  pub requests : List MapRequest
  pub is_simple : Bool
  pub language : Option (List ℕ)
  pub gsub_script : Option hb_tag_t
  pub gpos_script : Option hb_tag_t

-- a builder without requests, for a text in this language
abbrev pub new_builder : Option (List ℕ) → (TableIndex → Option hb_tag_t) → Builder
new_builder language chosen = record { requests = []; is_simple = true; language = language; gsub_script = chosen GSUB; gpos_script = chosen GPOS }

-- the script that was chosen for a table
abbrev pub chosen_script : Builder → TableIndex → Option hb_tag_t
chosen_script builder GSUB = builder.gsub_script
chosen_script builder GPOS = builder.gpos_script

-- more requests at the end
abbrev pub with_requests : Builder → List MapRequest → Builder
with_requests builder more = record builder { requests = builder.requests ++ more }

-- one more request at the end
abbrev pub with_request : Builder → MapRequest → Builder
with_request builder request = with_requests builder (request ∷ [])

-- a feature, with its flags and value
abbrev pub feature : hb_tag_t → ℕ → ℕ → MapRequest
feature tag flags value = Feature tag flags value

-- a feature over the whole text: F_GLOBAL is among its flags
abbrev pub feature_on : hb_tag_t → ℕ → ℕ → MapRequest
feature_on tag flags value = feature tag (bit_or F_GLOBAL flags) value

-- a feature switched off over the whole text
abbrev pub feature_off : hb_tag_t → MapRequest
feature_off tag = feature tag F_GLOBAL 0

-- a pause of substitution, which may have a number
abbrev pub pause : Option ℕ → MapRequest
pause number = Pause number

-- a pause that stands only if the tables lack a feature
abbrev pub pause_unless : hb_tag_t → MapRequest
pause_unless tag = PauseUnless tag
