-- The order in which masks are set, on small cases whose results are worked out by hand.
use Rattle.std.specs.Prelude.{◌≡◌, ℕ, ◌+◌, Bool, true, false, List, [], ◌∷◌, map, None, Some, refl}
use Rattle.shape_items.specs.Buffer.{Buffer, new_buffer}
use Rattle.shape_buffer.specs.Walks.{items_mapped}
use Rattle.shape_items.specs.Items.{Item, new_item}
use Rattle.shape_buffer.specs.Layout.{MapMeaning}
use Rattle.shape_buffer.specs.Outcome.{run_steps}
use Rattle.shape_common.specs.declared.text_types.Direction.TheVariants.{LeftToRight}
use Rattle.shape_common.specs.declared.text_types.Feature.{Feature}
use Rattle.shape_plan.specs.Worked.Plans.{constants_of}
use Rattle.shape_plan.specs.Run.{Run}
use Rattle.shape_plan.specs.Shapers.{no_hooks}
use Rattle.shape_prepare.specs.Fractions.{fractions_masked, slash_masked, features_added}
use Rattle.shape_prepare.specs.MaskSteps.{mask_steps}
use Rattle.shape_prepare.specs.Ranges.{ranges_masked}
use Rattle.shape_prepare.specs.Worked.Fractions.{with_fractions, text, half, masks_of}

-- 0x110 added to each mask
abbrev sixteens_added : Buffer → Buffer
sixteens_added b =
    let change : Item → Item = λ item. record item { mask = item.mask + 0x110 } in
    record b { items = map change b.items }

-- feature 1 has the bits 0x300
abbrev feature_bits : MapMeaning
feature_bits = record {
  global_mask = 0;
  one_mask = λ tag. 0;
  mask = λ tag. (0x300, 8);
  feature_index = λ table tag. None;
  stages = 0;
  pause_after = λ i. None;
}

-- one item
abbrev letter_a : Buffer
letter_a = record new_buffer { items = new_item 0x61 0 ∷ [] }

abbrev first_feature : Feature
first_feature = record { tag = record { 0 = 1 }; value = 2; start = 0; end = 1 }

-- the run that sets masks of fractions, of the shaper if it gives the hook, and of these features
abbrev masking : Run → Bool → List Feature → Run
masking run given features =
    record run {
      constants = record constants_of { has_setup_masks = given };
      map = feature_bits;
      decisions = with_fractions true;
      user_features = features;
    }

-- the run with a shaper whose hook adds 0x110 to each mask, and with none
abbrev hooked : Run → Run
hooked run = record run { hooks = Some (record (no_hooks run.unicode) { setup_masks = sixteens_added }) }

abbrev unhooked : Run → Run
unhooked run = record run { hooks = None }

abbrev masks_after : Run → Buffer → List ℕ
masks_after run b = masks_of (run_steps (mask_steps run) b)

-- a fraction adds 0x300, 0x103 and 0x503, the hook adds 0x110, and then the user sets 2 in 0x300 of the first cluster
pub record RunsOfMasks (run : Run) : Type 0 where
  pub hook_then_user : masks_after (hooked (masking run true (first_feature ∷ []))) letter_a ≡ 0x210 ∷ []
  pub fraction_then_hook : masks_after (hooked (masking run true [])) (text LeftToRight 0 1 half) ≡ 0x410 ∷ 0x213 ∷ 0x613 ∷ []
  pub hook_not_given : masks_after (hooked (masking run false (first_feature ∷ []))) letter_a ≡ 0x200 ∷ []
  pub without_shaper : masks_after (unhooked (masking run true [])) letter_a ≡ 0 ∷ []

-- whatever else a run depends on
abbrev pub WorkedMasks : Type 0
WorkedMasks = (run : Run) → RunsOfMasks run

pub worked_masks : WorkedMasks
unfolding fractions_masked slash_masked features_added ranges_masked items_mapped
worked_masks run = record { hook_then_user = refl; fraction_then_hook = refl; hook_not_given = refl; without_shaper = refl }
