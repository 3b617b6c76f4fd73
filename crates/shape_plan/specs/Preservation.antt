-- What is asked of a shaper's hooks and an engine's lookups so that a run preserves the clusters and the flags of its text.
use Rattle.std.specs.Prelude.{◌≡◌, ℕ, ◌<◌, Some, Bool, true, false, ◌||◌}
use Rattle.shape_items.specs.Buffer.{Buffer}
use Rattle.shape_buffer.specs.Preservation.{IsClusterPreserving, IsFlagPreserving}
use Rattle.shape_plan.specs.Run.{Run}
use Rattle.shape_plan.specs.Shaper.{ShaperConstants, HookMeaning}

-- a property of each pause that a run calls: of the numbers that its stages return, if `morx` doesn't stand in their
-- place
abbrev pub EachCalledPause : ((Buffer → Buffer) → Type 0) → Run → HookMeaning → Type 0
EachCalledPause Preserves run hooks =
    run.decisions.apply_morx ≡ false → (i n : ℕ) → i < run.map.stages → run.map.pause_after i ≡ Some n → Preserves (hooks.pause n)

-- a property of each hook that is given and changes a buffer, except for the one that reorders marks; a hook that isn't
-- given is never called
pub record EachHook (Preserves : (Buffer → Buffer) → Type 0) (run : Run) (hooks : HookMeaning) : Type 0 where
  pub preprocess : run.constants.has_preprocess_text ≡ true → Preserves hooks.preprocess
  pub setup_masks : run.constants.has_setup_masks ≡ true → Preserves hooks.setup_masks
  pub postprocess : run.constants.has_postprocess_glyphs ≡ true → Preserves hooks.postprocess
  pub pause : run.constants.has_pause ≡ true → EachCalledPause Preserves run hooks

-- whether any of these is given
abbrev pub has_steps : ShaperConstants → Bool
has_steps constants = constants.has_preprocess_text || constants.has_setup_masks || constants.has_postprocess_glyphs || constants.has_pause

-- a property of each lookup that a run calls: of the tables that its plan applies, by its stages, features and masks
pub record EachCalledLookup (Preserves : (Buffer → Buffer) → Type 0) (run : Run) : Type 0 where
  pub substitute_start : Preserves run.lookups.substitute_start
  pub stage : run.decisions.apply_morx ≡ false → (i : ℕ) → i < run.map.stages → Preserves (run.lookups.stage i)
  pub aat_substitute : run.decisions.apply_morx ≡ true → Preserves (run.lookups.aat_substitute run.user_features)
  pub aat_remove_deleted : run.decisions.apply_morx ≡ true → Preserves run.lookups.aat_remove_deleted
  pub aat_zero_width_deleted : run.decisions.apply_morx ≡ true → Preserves run.lookups.aat_zero_width_deleted
  pub position_start : Preserves run.lookups.position_start
  pub position : run.decisions.apply_gpos ≡ true → Preserves run.lookups.position
  pub position_finish_advances : Preserves run.lookups.position_finish_advances
  pub position_finish_offsets : Preserves run.lookups.position_finish_offsets
  pub aat_position : run.decisions.apply_gpos ≡ false → run.decisions.apply_kerx ≡ true
      → Preserves (run.lookups.aat_position run.decisions.kern_mask)
  pub kern : run.decisions.apply_kern ≡ true → Preserves (run.lookups.kern run.decisions.kern_mask)
  pub aat_track : run.decisions.apply_trak ≡ true → Preserves (run.lookups.aat_track run.decisions.trak_mask)

-- a property of each lookup that is called and of each hook of the shaper, if the plan uses it
pub record EachCall (Preserves : (Buffer → Buffer) → Type 0) (run : Run) : Type 0 where
  pub lookups : EachCalledLookup Preserves run
  pub hooks : (hooks : HookMeaning) → run.hooks ≡ Some hooks → EachHook Preserves run hooks

-- the flag premises
abbrev pub RunPreservesFlags : Run → Type 0
RunPreservesFlags run = EachCall IsFlagPreserving run

-- the cluster premises, except for the hook that reorders marks: normalising asks a premise of its own on that
abbrev pub CallsPreserveClusters : Run → Type 0
CallsPreserveClusters run = EachCall IsClusterPreserving run
