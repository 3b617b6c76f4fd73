-- Bits of features are no flags of glyphs.
use Rattle.std.proofs.Common.{◌≡◌, ℕ, ap, sym, ◌∙◌, bit_and, bit_or}
use Rattle.std.proofs.lemmas.Nat.{and_assoc, and_comm, and_or_apart}
use Rattle.std.specs.Int.Bits.{and_zero_r}
use Rattle.shape_items.specs.PreservesFlags.{IsDefinedFlag}
use Rattle.shape_items.proofs.Flags.FlagLemmas.{defined_flag}
use Rattle.shape_buffer.specs.Layout.{HasNoDefinedFlag}

-- a feature's mask has no flag
pub feature_flagless : (mask flag : ℕ) → HasNoDefinedFlag mask → IsDefinedFlag flag → bit_and mask flag ≡ 0
feature_flagless mask flag none defined =
    ap (bit_and mask) (sym (defined_flag flag defined)) ∙ sym (and_assoc flag mask 7) ∙ ap (λ n. bit_and n flag) none ∙ and_comm 0 flag
    ∙ and_zero_r flag

pub feature-or : (a b : ℕ) → HasNoDefinedFlag a → HasNoDefinedFlag b → HasNoDefinedFlag (bit_or a b)
feature-or a b first second = and_or_apart 7 a b second ∙ first

-- features that are added bring no flag
pub added_brings_none : (mask m flag : ℕ) → HasNoDefinedFlag mask → IsDefinedFlag flag → bit_and (bit_or m mask) flag ≡ bit_and m flag
added_brings_none mask m flag none defined = and_or_apart flag m mask (feature_flagless mask flag none defined)
