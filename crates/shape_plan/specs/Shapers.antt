-- Shapers that give no hook.
use Rattle.std.specs.Prelude.{refl}
use Rattle.std.proofs.Common.{inl}
use Rattle.shape_items.specs.Buffer.{Buffer}
use Rattle.shape_common.specs.Unicode.{UnicodeMeaning}
use Rattle.shape_plan.specs.Reorder.{ReordersRanges, done}
use Rattle.shape_plan.specs.Shaper.{HookMeaning, ChangesMasksAlone}

-- what hooks do that do nothing of their own: decompositions and compositions are those of Unicode
abbrev pub no_hooks : UnicodeMeaning → HookMeaning
no_hooks unicode = record {
  split = unicode.split;
  height = unicode.height;
  compose = unicode.compose;
  reorder = λ b start end. b;
  preprocess = λ b. b;
  setup_masks = λ b. b;
  postprocess = λ b. b;
  pause = λ n b. b;
}

pub no_reordering-reorders : ReordersRanges (λ b start end. b)
no_reordering-reorders = record { reorders = λ b start end _. done }

pub no_masks-alone : (b : Buffer) → ChangesMasksAlone b b
no_masks-alone b = record { items = refl; scratch = inl refl; rest = refl }
