-- Scripts whose letters join as those of Arabic do.
use Rattle.std.specs.Prelude.{ℕ, ◌==◌, ◌||◌, Bool, true, false, if◌then◌else◌, Option, None, Some}
use Rattle.shape_items.specs.Buffer.{Buffer}
use Rattle.shape_common.specs.declared.text_types.Script.{Script}
use Rattle.shape_plan.specs.Shaper.{ChangesMasksAlone}
use Rattle.shape_plan.specs.Shapers.{no_masks-alone}
use Rattle.letter_joining.specs.Flags.{joined, joined-alone}
use Rattle.letter_joining.specs.Features.{is_mongolian}
use Rattle.letter_joining.specs.declared.forms.FormMasks.{FormMasks}

-- Adlm, Arab, Chrs, Rohg, Mand, Mani, Mong, Nkoo, Ougr, Phag, Phlp, Sogd, Syrc
abbrev pub joins_tag : ℕ → Bool
joins_tag tag =
    (tag == 0x4164_6C6D) || (tag == 0x4172_6162) || (tag == 0x4368_7273) || (tag == 0x526F_6867) || (tag == 0x4D61_6E64)
    || (tag == 0x4D61_6E69) || (tag == 0x4D6F_6E67) || (tag == 0x4E6B_6F6F) || (tag == 0x4F75_6772) || (tag == 0x5068_6167)
    || (tag == 0x5068_6C70) || (tag == 0x536F_6764) || (tag == 0x5379_7263)

abbrev pub joins : Option Script → Bool
joins None = false
joins (Some script) = joins_tag script.0.0

abbrev pub joined_if : FormMasks → Option Script → Buffer → Buffer
joined_if masks script b = if joins script then joined masks (is_mongolian script) b else b

pub joined_if-alone : (masks : FormMasks) (script : Option Script) (b : Buffer) → ChangesMasksAlone b (joined_if masks script b)
joined_if-alone masks script b =
    elim (joins script) as (λ t. ChangesMasksAlone b (if t then joined masks (is_mongolian script) b else b)) [
      | true ↦ joined-alone masks (is_mongolian script) b
      | false ↦ no_masks-alone b
    ]
