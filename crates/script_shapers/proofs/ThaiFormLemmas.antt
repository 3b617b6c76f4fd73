-- Forms at private characters preserve clusters, flags and the number of items.
use Rattle.std.proofs.Common.{ℕ, zero, suc, Bool, true, false, if◌then◌else◌, Option, None, Some, [], ◌∷◌, length, min, drop, refl}
use Rattle.std.proofs.Math.Seq.{map-set_same}
use Rattle.std.proofs.lemmas.List.{length-set}
use Rattle.shape_common.specs.Face.{FaceMeaning}
use Rattle.shape_items.specs.Buffer.{Buffer}
use Rattle.shape_items.specs.BufferClusters.{unsafe_to_break}
use Rattle.shape_items.specs.Items.{Item, new_item}
use Rattle.shape_items.specs.PreservesFlags.{has_flag}
use Rattle.shape_items.proofs.Flags.FlagLemmas.{PreservesFlags-then}
use Rattle.shape_buffer.specs.Preservation.{IsClusterPreserving, IsFlagPreserving}
use Rattle.shape_buffer.specs.Outcome.{Refused, step}
use Rattle.shape_buffer.specs.declared.buffer.error.ShapeError.{ShapeError}
use Rattle.shape_buffer.proofs.Steps.PreservationLemmas.{PreservesClusters-equal, PreservesOrder-then}
use Rattle.script_shapers.specs.Thai.{sara_am_parted}
use Rattle.script_shapers.specs.ThaiForms.{item_at, item_formed, char_formed, ends_marks, marks_spanned, action_of, place_of, mark_of, formed_by, formed_to, forms_put, thai_text}
use Rattle.script_shapers.specs.declared.thai.forms.Action.{Action}
use Rattle.script_shapers.specs.declared.thai.forms.Mark.{Mark}
use Rattle.script_shapers.specs.declared.thai.forms.Walk.{Walk}
use Rattle.letter_joining.proofs.MaskLemmas.{flags-same}
use Rattle.script_shapers.proofs.PreservationLemmas.{PreservesAll, PreservesAll-same, PreservesAll-then, PreservesAll-unsafe_to_break}
use Rattle.script_shapers.proofs.ReplaceLemmas.{Refused-then_made}
use Rattle.script_shapers.proofs.ThaiLemmas.{sara_am_preserves_clusters, sara_am_preserves_flags}

char_formed-preserves : (face : FaceMeaning) (a : Action) (place : ℕ) (b : Buffer) → PreservesAll b (char_formed face a place b)
char_formed-preserves face a place b =
    let x = item_formed face a (item_at b.items place) in
    record {
      order = record {
        clusters = PreservesClusters-equal _ _ (map-set_same (λ (y : Item). y.cluster) b.items place x (new_item 0 0) refl);
        direction = refl;
        flags = refl;
        level = refl;
      };
      flags = flags-same b _ (λ flag defined. map-set_same (has_flag flag) b.items place x (new_item 0 0) refl);
      count = length-set b.items place x;
    }

spanned-preserves : (base i : ℕ) (b : Buffer) → PreservesAll b (marks_spanned base i b)
spanned-preserves base i b =
    elim (ends_marks (drop i b.items)) as (λ t. PreservesAll b (if t then unsafe_to_break (min base i) i b else b)) [
      | true ↦ PreservesAll-unsafe_to_break (min base i) i b
      | false ↦ PreservesAll-same b
    ]

by-preserves : (face : FaceMeaning) (walk : Walk) (m : Option Mark) (i : ℕ) (b : Buffer) → PreservesAll b (formed_by face walk m i b)
by-preserves face walk None i b = PreservesAll-same b
by-preserves face walk (Some m) i b =
    let c = marks_spanned walk.base i b in
    PreservesAll-then b c _ (spanned-preserves walk.base i b)
    (char_formed-preserves face (action_of walk m) (place_of (action_of walk m) walk.base i) c)

to-preserves : (face : FaceMeaning) (n : ℕ) (b : Buffer) → PreservesAll b (formed_to face n b).0
to-preserves face zero b = PreservesAll-same b
to-preserves face (suc i) b =
    let c = (formed_to face i b).0 in
    let walk = (formed_to face i b).1 in
    PreservesAll-then b c _ (to-preserves face i b) (by-preserves face walk (mark_of (item_at c.items i).codepoint) i c)

pub forms-preserve : (face : FaceMeaning) (b : Buffer) → PreservesAll b (forms_put face b)
forms-preserve face b = to-preserves face (length b.items) b

pub thai_text-clusters : (due : Bool) (face : FaceMeaning) → IsClusterPreserving (thai_text due face)
thai_text-clusters false face b monotone = sara_am_preserves_clusters b monotone
thai_text-clusters true face b monotone =
    PreservesOrder-then b (sara_am_parted b) _ (sara_am_preserves_clusters b monotone) (forms-preserve face (sara_am_parted b)).order

pub thai_text-flags : (due : Bool) (face : FaceMeaning) → IsFlagPreserving (thai_text due face)
thai_text-flags false face b = sara_am_preserves_flags b
thai_text-flags true face b =
    PreservesFlags-then b (sara_am_parted b) _ (sara_am_preserves_flags b) (forms-preserve face (sara_am_parted b)).flags

-- ---- refusals and steps

pub thai_text-refused : (due : Bool) (face : FaceMeaning) (old : Buffer) (error : ShapeError) → Refused (step sara_am_parted ∷ []) old error
    → Refused (step (thai_text due face) ∷ []) old error
thai_text-refused false face old error refused = refused
thai_text-refused true face old error refused =
    Refused-then_made sara_am_parted (forms_put face) (λ b. (forms-preserve face b).count) old error refused
