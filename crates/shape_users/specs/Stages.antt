-- An engine of stages alone: the masks of its numbered features, and lookups that are its stages and nothing else.
use Rattle.std.specs.Prelude.{◌≡◌, ℕ, ◌+◌, ◌%◌, ◌^◌, ◌<◌, Bool, true, false, if◌then◌else◌, nat_lt, Option, Some, None, refl}
use Rattle.std.specs.Int.RustNames.{bit_and}
use Rattle.std.proofs.Common.{arith, ap, ◌∙◌}
use Rattle.std.proofs.lemmas.Nat.{and_mask, pow-add}
use Rattle.std.proofs.Math.Nat.{mul-mod_left}
use Rattle.std.proofs.lemmas.Bool.Decides.{nat_tests}
use Rattle.shape_items.specs.Buffer.{Buffer}
use Rattle.shape_buffer.specs.Layout.{MapMeaning, LookupMeaning, LawfulMasks, LawfulLookups}
use Rattle.shape_buffer.specs.NoLookups.{no_masks, no_lookups, no_lookups-lawful}
use Rattle.shape_common.specs.declared.text_types.hb_tag_t.{hb_tag_t}

-- The bits of a feature in a mask, and their shift: one bit for each of the first 28 numbers, from the bit 3 on. The bits
-- below are flags of glyphs, and the highest is that of features which are on everywhere.
abbrev pub bit_of : Option ℕ → ℕ × ℕ
bit_of None = (0, 0)
bit_of (Some n) = if nat_lt n 28 then (2 ^ (n + 3), n + 3) else (0, 0)

-- no feature is on everywhere
abbrev pub staged_masks : ℕ → (hb_tag_t → Option ℕ) → MapMeaning
staged_masks stages number = record no_masks {
  one_mask = λ tag. (bit_of (number tag)).0;
  mask = λ tag. bit_of (number tag);
  stages = stages;
}

abbrev pub staged_lookups : (ℕ → Buffer → Buffer) → LookupMeaning
staged_lookups stage = record no_lookups { stage = stage }

-- ---- the obligations of an engine

no_flag : (n : ℕ) → bit_and (2 ^ (n + 3)) 7 ≡ 0
no_flag n = and_mask (2 ^ (n + 3)) 3 ∙ ap (λ (x : ℕ). x % 8) (pow-add 2 n 3) ∙ mul-mod_left (2 ^ n) 8

bit_of-lawful : (number : Option ℕ) → (bit_and (bit_of number).0 7 ≡ 0) × ((bit_of number).1 < 32)
bit_of-lawful None = (refl, omega arith)
bit_of-lawful (Some n) =
    let bits : Bool → ℕ × ℕ = λ t. if t then (2 ^ (n + 3), n + 3) else (0, 0) in
    let P : Bool → Type 0 = λ t. nat_lt n 28 ≡ t → (bit_and (bits t).0 7 ≡ 0) × ((bits t).1 < 32) in
    let cases : P (nat_lt n 28) = elim (nat_lt n 28) as P [
      | true ↦ λ e. (no_flag n, grind (arith, nat_tests, e))
      | false ↦ λ e. (refl, omega arith)
    ] in
    cases refl

pub staged_masks-lawful : (stages : ℕ) (number : hb_tag_t → Option ℕ) → LawfulMasks (staged_masks stages number)
staged_masks-lawful stages number = record {
  global_mask = refl;
  one_mask = λ tag. (bit_of-lawful (number tag)).0;
  mask = λ tag. (bit_of-lawful (number tag)).0;
  shift = λ tag. (bit_of-lawful (number tag)).1;
}

pub staged_lookups-lawful : (stage : ℕ → Buffer → Buffer) → LawfulLookups (staged_lookups stage)
staged_lookups-lawful stage = record {
  aat_zero_width_deleted = no_lookups-lawful.aat_zero_width_deleted;
  position_start = no_lookups-lawful.position_start;
  position = no_lookups-lawful.position;
  position_finish_advances = no_lookups-lawful.position_finish_advances;
  position_finish_offsets = no_lookups-lawful.position_finish_offsets;
  aat_position = no_lookups-lawful.aat_position;
  kern = no_lookups-lawful.kern;
  aat_track = no_lookups-lawful.aat_track;
}
