-- The bits of features by their numbers, worked out by hand.
use Rattle.std.specs.Prelude.{◌≡◌, ℕ, [], ◌∷◌, map, Some, None, refl}
use Rattle.shape_buffer.specs.Layout.{MapMeaning}
use Rattle.shape_common.specs.declared.text_types.hb_tag_t.{hb_tag_t}
use Rattle.shape_items.specs.Buffer.{Buffer}
use Rattle.shape_users.specs.Stages.{bit_of, staged_masks, staged_lookups}

-- an engine of three stages, in which every feature has the number 4
abbrev pub fours : MapMeaning
fours = staged_masks 3 (λ tag. Some 4)

pub record WorkedStages : Type 0 where
  -- after the three flags of glyphs
  pub first : map bit_of (Some 0 ∷ Some 1 ∷ Some 2 ∷ []) ≡ (8, 3) ∷ (16, 4) ∷ (32, 5) ∷ []
  pub last : bit_of (Some 27) ≡ (0x40000000, 30)
  pub past_the_last : map bit_of (Some 28 ∷ Some 29 ∷ Some 100 ∷ []) ≡ (0, 0) ∷ (0, 0) ∷ (0, 0) ∷ []
  pub unknown : bit_of None ≡ (0, 0)
  pub one_mask : (tag : hb_tag_t) → fours.one_mask tag ≡ 128
  pub mask : (tag : hb_tag_t) → fours.mask tag ≡ (128, 7)
  pub everywhere : fours.global_mask ≡ 0
  pub stages : fours.stages ≡ 3
  -- each stage is the one that is given with its number
  pub stage : (stage : ℕ → Buffer → Buffer) (i : ℕ) (b : Buffer) → (staged_lookups stage).stage i b ≡ stage i b

pub worked_stages : WorkedStages
worked_stages = record {
  first = refl;
  last = refl;
  past_the_last = refl;
  unknown = refl;
  one_mask = λ tag. refl;
  mask = λ tag. refl;
  everywhere = refl;
  stages = refl;
  stage = λ stage i b. refl;
}
