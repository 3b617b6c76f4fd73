-- What the lookups of a run try, by hand: each stage before its pause, and positioning after what comes before it. And which text and
-- which face a clause speaks of.
use Rattle.std.specs.Prelude.{◌≡◌, ◌+◌, ℕ, List, [], ◌∷◌, length, true, false}
use Rattle.shape_items.specs.Buffer.{Buffer}
use Rattle.shape_buffer.specs.Outcome.{step}
use Rattle.shape_font.specs.Directory.{bytes_of}
use Rattle.shape_glyphs.specs.Substitution.{paused}
use Rattle.shape_glyphs.specs.Zeroing.{zeroed_early}
use Rattle.shape_pipeline.specs.Strings.{string_text}
use Rattle.shape_plan.specs.Run.{Run}
use Rattle.layout_map.specs.Map.{OtMap}
use Rattle.opentype_layout.specs.Tries.{stage_call, position_call, made_by, tries_by}
use Rattle.opentype_layout.specs.declared.face.OpenTypeFace.{OpenTypeFace}
use Rattle.font_shaping.specs.RunTries.{IsWithin, calls_of, stage_calls, lookup_calls, place_calls, position_calls}
use Rattle.font_shaping.specs.Strings.{WithTextOf, WithFaceOf}

pub record WorkedTries (m : OtMap) (f : OpenTypeFace) (run : Run) (b : Buffer) : Type 0 where
  pub no_steps : made_by (calls_of []) b ≡ b
  pub two_steps : (g h : Buffer → Buffer) → made_by (calls_of (step g ∷ step h ∷ [])) b ≡ h (g b)
  pub steps_try_none : (g h : Buffer → Buffer) → tries_by (calls_of (step g ∷ step h ∷ [])) b ≡ 0
  pub no_stage : tries_by (stage_calls m f run 0) b ≡ 0
  pub one_stage : tries_by (stage_calls m f run 1) b ≡ (stage_call m f 0).tries b
  pub two_stages : tries_by (stage_calls m f run 2) b
      ≡ (stage_call m f 0).tries b + (stage_call m f 1).tries (paused run 0 ((stage_call m f 0).makes b))
  -- the table morx stands in the place of the stages
  pub by_morx : run.decisions.apply_morx ≡ true → tries_by (lookup_calls m f run) b ≡ 0
  pub by_gsub : run.decisions.apply_morx ≡ false → run.map.stages ≡ 1 → tries_by (lookup_calls m f run) b ≡ (stage_call m f 0).tries b
  pub by_gpos : run.decisions.apply_gpos ≡ true
      → tries_by (place_calls m f run) b ≡ (position_call m f).tries (zeroed_early run (run.lookups.position_start b))
  pub without_gpos : run.decisions.apply_gpos ≡ false → tries_by (place_calls m f run) b ≡ 0
  pub positions_without_gpos : run.decisions.apply_gpos ≡ false → tries_by (position_calls m f run) b ≡ 0
  -- a text of 65 characters begins with 65 times 40960
  pub all_tried : IsWithin 2662400 0 65
  pub some_left : IsWithin 62400 2600000 65
  pub one_too_many : IsWithin 62401 2600000 65 → ⊥

pub record WorkedStrings : Type 0 where
  -- a fact of `WithTextOf` is one of the string's own text, and one of `WithFaceOf` one of the face of these bytes
  pub of_its_text : (bytes : List ℕ) (n : ℕ) → WithTextOf bytes (λ text. length text.items ≡ n) → length (string_text bytes).items ≡ n
  pub of_its_face : (bytes : List ℕ) (index : ℕ) (gsub : List ℕ) → WithFaceOf bytes index (λ face. face.gsub.now ≡ gsub)
      → bytes_of bytes index 0x47535542 ≡ gsub
  pub at_the_default : (bytes : List ℕ) (index n : ℕ) → WithFaceOf bytes index (λ face. face.device_work ≡ n) → n ≡ 0

pub worked_strings : WorkedStrings
worked_strings = record {
  of_its_text = λ bytes n with_text. let is = with_text.1 in let so = with_text.2 in cc;
  of_its_face = λ bytes index gsub with_face. let is = with_face.1.gsub in let so = with_face.2 in cc;
  at_the_default = λ bytes index n with_face. let is = with_face.1.device_work in let so = with_face.2 in cc;
}
