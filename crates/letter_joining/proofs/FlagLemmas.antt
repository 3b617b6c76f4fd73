-- Masks of the forms of letters preserve the flags of glyphs.
use Rattle.std.proofs.Common.{◌≡◌, ℕ, zero, suc, ◌+◌, ◌==◌, ◌&&◌, ◌||◌, Bool, true, false, if◌then◌else◌, Option, None, Some, is_some, length, refl, inl, inr, bit_and}
use Rattle.letter_joining.specs.Joining.{kind_of}
use Rattle.letter_joining.specs.Flags.{joins_back, may_change, changes, marked_pair, start_of, marked_by, marked_at, marked_to, marked_end, begun_walk, marked, joined}
use Rattle.letter_joining.specs.declared.flags.Walk.{Walk}
use Rattle.std.proofs.Math.Seq.{map-set_same}
use Rattle.shape_common.specs.declared.text_types.hb_tag_t.{hb_tag_t}
use Rattle.shape_items.specs.Buffer.{Buffer}
use Rattle.shape_items.specs.Items.{Item, new_item}
use Rattle.shape_items.specs.PreservesFlags.{PreservesFlags, has_flag}
use Rattle.shape_items.proofs.Flags.FlagLemmas.{PreservesFlags-same, PreservesFlags-then, safe_to_insert_tatweel_preserves}
use Rattle.shape_buffer.specs.Preservation.{IsFlagPreserving}
use Rattle.shape_buffer.proofs.Steps.PreservationLemmas.{flags-unsafe_to_concat}
use Rattle.shape_buffer.specs.Layout.{HasNoDefinedFlag}
use Rattle.letter_joining.specs.Forms.{form_mask, masks_by, kind_after, kind_before, begun, form_at, item_at, masked_by, formed_at, formed_to, formed}
use Rattle.letter_joining.specs.declared.features.TheConstants.{ISOL, FINA, FIN2, FIN3, MEDI, MED2, INIT}
use Rattle.letter_joining.specs.declared.joining.Kind.{Kind}
use Rattle.letter_joining.specs.declared.joining.Form.{Form}
use Rattle.letter_joining.specs.declared.joining.Form.TheVariants as form
use Rattle.letter_joining.specs.declared.forms.FormMasks.{FormMasks}
use Rattle.letter_joining.specs.declared.forms.Joining.{Joining}
use Rattle.letter_joining.proofs.MaskLemmas.{added_flag, flags-same}

no_flag : (mask : hb_tag_t → ℕ) → ((tag : hb_tag_t) → HasNoDefinedFlag (mask tag)) → (f : Form) → HasNoDefinedFlag (form_mask (masks_by mask) f)
no_flag mask none form.None = refl
no_flag mask none form.Isol = none ISOL
no_flag mask none form.Fina = none FINA
no_flag mask none form.Fin2 = none FIN2
no_flag mask none form.Fin3 = none FIN3
no_flag mask none form.Medi = none MEDI
no_flag mask none form.Med2 = none MED2
no_flag mask none form.Init = none INIT

module _ (mask : hb_tag_t → ℕ) (none : (tag : hb_tag_t) → HasNoDefinedFlag (mask tag)) (mongolian : Bool) (after : Option Kind) (joining : Joining) where
  flags_to : (n : ℕ) (b : Buffer) → PreservesFlags b (formed_to (masks_by mask) mongolian after joining n b).0
  flags_to zero b = PreservesFlags-same b
  flags_to (suc i) b =
      let c = (formed_to (masks_by mask) mongolian after joining i b).0 in
      let j = (formed_to (masks_by mask) mongolian after joining i b).1 in
      let f = (form_at mongolian after j i c).last in
      let m = form_mask (masks_by mask) f in
      PreservesFlags-then b c (formed_at (masks_by mask) mongolian after j i c) (flags_to i b)
      (flags-same c _ (λ flag defined. map-set_same (has_flag flag) c.items i (masked_by m (item_at c.items i)) (new_item 0 0)
      (added_flag m flag (item_at c.items i) (no_flag mask none f) defined)))

pub flags-formed : (mask : hb_tag_t → ℕ) → ((tag : hb_tag_t) → HasNoDefinedFlag (mask tag)) → (mongolian : Bool)
    → IsFlagPreserving (formed (masks_by mask) mongolian)
flags-formed mask none mongolian b =
    flags_to mask none mongolian (kind_after b.post_context) (begun (kind_before b.pre_context)) (length b.items) b

flags-pair : (both apart : Bool) (start end : ℕ) → IsFlagPreserving (marked_pair both apart start end)
flags-pair true apart start end b = safe_to_insert_tatweel_preserves start end b
flags-pair false true start end b = flags-unsafe_to_concat start end b
flags-pair false false start end b = PreservesFlags-same b

flags-by : (walk : Walk) (k : Option Kind) (i : ℕ) → IsFlagPreserving (marked_by walk k i)
flags-by walk None i b = PreservesFlags-same b
flags-by walk (Some k) i b =
    flags-pair (is_some walk.place && changes walk.state k) (joins_back k || (is_some walk.place && may_change walk.state))
    (start_of walk i) (i + 1) b

flags-end : (walk : Walk) (k : Option Kind) → IsFlagPreserving (marked_end walk k)
flags-end walk None b = PreservesFlags-same b
flags-end walk (Some k) b =
    flags-pair (is_some walk.place && changes walk.state k) (is_some walk.place && may_change walk.state) (start_of walk (length b.items))
    (length b.items) b

flags-marked_to : (walk : Walk) (n : ℕ) (b : Buffer) → PreservesFlags b (marked_to walk n b).0
flags-marked_to walk zero b = PreservesFlags-same b
flags-marked_to walk (suc i) b =
    let c = (marked_to walk i b).0 in
    let w = (marked_to walk i b).1 in
    PreservesFlags-then b c (marked_at w i c) (flags-marked_to walk i b) (flags-by w (kind_of (item_at c.items i).codepoint) i c)

pub flags-joined : (mask : hb_tag_t → ℕ) → ((tag : hb_tag_t) → HasNoDefinedFlag (mask tag)) → (mongolian : Bool)
    → IsFlagPreserving (joined (masks_by mask) mongolian)
flags-joined mask none mongolian b =
    let c = formed (masks_by mask) mongolian b in
    let walked = marked_to (begun_walk c) (length c.items) c in
    PreservesFlags-then b c (marked c) (flags-formed mask none mongolian b)
    (PreservesFlags-then c walked.0 (marked c) (flags-marked_to (begun_walk c) (length c.items) c)
    (flags-end walked.1 (kind_after c.post_context) walked.0))
