-- What the steps of a run over a font try, one after the other: subtables, rules and ligatures of `GSUB` and `GPOS`. `kern` draws on the
-- same count, part by part, and tries none of these.
use Prim.Native.Nat.{zero}
use Rattle.std.specs.Prelude.{◌≡◌, ◌+◌, ◌≤◌, ℕ, suc, List, [], ◌∷◌, ◌++◌, ◌&&◌, Some, length, map, if◌then◌else◌}
use Rattle.shape_items.specs.Buffer.{Buffer, run_ops}
use Rattle.shape_buffer.specs.Layout.{LookupMeaning}
use Rattle.shape_buffer.specs.Outcome.{Step, run_steps}
use Rattle.shape_common.specs.declared.text_types.Direction.{Direction}
use Rattle.shape_fallback.specs.DueSteps.{recategorize_step, spaces_step, marks_step}
use Rattle.shape_glyphs.specs.Steps.{advance_steps, close_steps, finish_steps, substitute_pre_steps}
use Rattle.shape_glyphs.specs.Substitution.{glyph_steps, paused}
use Rattle.shape_glyphs.specs.Tables.{kerned, tracked}
use Rattle.shape_glyphs.specs.Zeroing.{zeroed_early, zeroed_late}
use Rattle.shape_normalize.specs.Normalized.{normalized}
use Rattle.shape_plan.specs.Run.{Run, step_if, hook_if}
use Rattle.shape_plan.specs.Shaper.{HookMeaning}
use Rattle.shape_pipeline.specs.Shaped.{all_steps, entered}
use Rattle.shape_prepare.specs.MaskSteps.{mask_steps}
use Rattle.shape_prepare.specs.PrepareSteps.{prepare_steps}
use Rattle.layout_map.specs.Map.{OtMap}
use Rattle.opentype_layout.specs.Engine.{opentype_lookups}
use Rattle.opentype_layout.specs.Tries.{Call, stage_call, position_call, other_call, tries_by, NeverRaises}
use Rattle.opentype_layout.specs.declared.face.OpenTypeFace.{OpenTypeFace}

-- steps that try no lookup
abbrev pub calls_of : List Step → List Call
calls_of = map (λ (s : Step). other_call s.makes)

-- the first n stages in order, each with its pause after it
abbrev pub stage_calls : OtMap → OpenTypeFace → Run → ℕ → List Call
stage_calls m f run zero = []
stage_calls m f run (suc n) = stage_calls m f run n ++ (stage_call m f n ∷ other_call (paused run n) ∷ [])

abbrev pub lookup_calls : OtMap → OpenTypeFace → Run → List Call
lookup_calls m f run =
    if run.decisions.apply_morx then other_call (run.lookups.aat_substitute run.user_features) ∷ [] else stage_calls m f run run.map.stages

-- from masked characters to glyphs
abbrev pub substitute_calls : OtMap → OpenTypeFace → Run → List Call
substitute_calls m f run =
    other_call (recategorize_step run.decisions)
    ∷ (calls_of (glyph_steps run)
    ++ (lookup_calls m f run
    ++ (other_call (step_if (run.decisions.apply_morx && run.decisions.apply_gpos) run.lookups.aat_remove_deleted) ∷ [])))

-- what tables say of positions
abbrev pub place_calls : OtMap → OpenTypeFace → Run → List Call
place_calls m f run =
    other_call run.lookups.position_start
    ∷ other_call (zeroed_early run)
    ∷ (if run.decisions.apply_gpos then position_call m f else other_call (step_if run.decisions.apply_kerx (run.lookups.aat_position run.decisions.kern_mask)))
    ∷ other_call (kerned run.lookups run.decisions)
    ∷ other_call (tracked run.lookups run.decisions)
    ∷ other_call (zeroed_late run)
    ∷ []

abbrev pub position_calls : OtMap → OpenTypeFace → Run → List Call
position_calls m f run =
    calls_of (advance_steps run)
    ++ (other_call (spaces_step run.face)
    ∷ ((place_calls m f run ++ calls_of (close_steps run))
    ++ (other_call (marks_step run.unicode run.face run.direction run.script run.decisions) ∷ [])))

-- a whole run, in the order of its steps
abbrev pub run_calls : OtMap → OpenTypeFace → Run → Direction → List Call
run_calls m f run target =
    calls_of (prepare_steps run target)
    ++ (other_call (normalized run.rules)
    ∷ ((calls_of (mask_steps run) ++ substitute_calls m f run) ++ (position_calls m f run ++ calls_of (finish_steps run))))

-- the buffer as the stages begin, and as tables are asked for positions
abbrev pub before_lookups : Run → Direction → Buffer → Buffer
before_lookups run target b =
    run_steps (glyph_steps run) (recategorize_step run.decisions
    (run_steps (mask_steps run) (normalized run.rules (run_steps (prepare_steps run target) b))))

abbrev pub before_placing : Run → Direction → Buffer → Buffer
before_placing run target b =
    spaces_step run.face (run_steps (advance_steps run) (run_steps (substitute_pre_steps run)
    (run_steps (mask_steps run) (normalized run.rules (run_steps (prepare_steps run target) b)))))

-- no hook of a run raises what lookups may ask for; one that isn't given, or whose shaper isn't used, does nothing
pub record HooksNeverRaise (run : Run) : Type 0 where
  pub preprocess : NeverRaises (hook_if run.constants.has_preprocess_text run.hooks (λ h. h.preprocess))
  pub setup_masks : NeverRaises (hook_if run.constants.has_setup_masks run.hooks (λ h. h.setup_masks))
  pub pauses : (i : ℕ) → NeverRaises (paused run i)
  pub postprocess : NeverRaises (hook_if run.constants.has_postprocess_glyphs run.hooks (λ h. h.postprocess))
  pub reorder : (f : Buffer → ℕ → ℕ → Buffer) → run.rules.reorder ≡ Some f → (b : Buffer) (start end : ℕ)
      → (f b start end).max_ops ≤ b.max_ops

-- the hooks of a shaper under a plan and over a face: none raises it, given or not
pub record NoHookRaises (hooks : HookMeaning) : Type 0 where
  pub preprocess : NeverRaises hooks.preprocess
  pub setup_masks : NeverRaises hooks.setup_masks
  pub pause : (n : ℕ) → NeverRaises (hooks.pause n)
  pub postprocess : NeverRaises hooks.postprocess
  pub reorder : (b : Buffer) (start end : ℕ) → (hooks.reorder b start end).max_ops ≤ b.max_ops

-- no run of a shaper has a hook that does
abbrev pub RunsNeverRaise : {P F : Type 0} → (P → F → Run) → Type 0
RunsNeverRaise {P} {F} run = (plan : P) (face : F) → HooksNeverRaise (run plan face)

-- a run by the lookups of an engine, whose hooks don't raise it
pub record NeverRaisesBy {P F : Type 0} (lookups_of : P → F → LookupMeaning) (face : F) (run : Run) : Type 0 where
  pub map : P
  pub lookups : run.lookups ≡ lookups_of map face
  pub hooks : HooksNeverRaise run

-- what is tried, with what is left then, is at most what a text of so many characters begins with
abbrev pub IsWithin : (tried left count : ℕ) → Type 0
IsWithin tried left count = tried + left ≤ run_ops count

-- no font makes a run try more than it may
pub record TriesWithin (m : OtMap) (f : OpenTypeFace) (run : Run) : Type 0 where
  pub tries : (target : Direction) (text : Buffer)
      → IsWithin (tries_by (run_calls m f run target) (entered text)) (run_steps (all_steps run target) (entered text)).max_ops
      (length text.items)

-- the lookups of a run are those of a map over the face, and by each such map it tries no more than it may
pub record TriesNoMore (f : OpenTypeFace) (run : Run) : Type 0 where
  pub map : OtMap
  pub lookups : run.lookups ≡ opentype_lookups map f
  pub within : (m : OtMap) → run.lookups ≡ opentype_lookups m f → TriesWithin m f run
