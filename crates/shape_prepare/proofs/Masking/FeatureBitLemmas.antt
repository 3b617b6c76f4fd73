-- A feature's value brings no flag of glyphs.
use Rattle.std.proofs.Common.{◌≡◌, ℕ, ◌-◌, ◌≤◌, ap, sym, ◌∙◌, arith, bit_and}
use Rattle.std.proofs.lemmas.Nat.{and_assoc, and_comm, and_le_l, and_or_apart}
use Rattle.std.specs.Int.Bits.{and_zero_r}
use Rattle.shape_items.specs.PreservesFlags.{IsDefinedFlag}
use Rattle.shape_buffer.specs.Layout.{HasNoDefinedFlag}
use Rattle.shape_buffer.proofs.Flags.FeatureBitLemmas.{feature_flagless}
use Rattle.shape_prepare.specs.Ranges.{with_value}

pub value_brings_none : (bits value m flag : ℕ) → HasNoDefinedFlag bits → IsDefinedFlag flag
    → bit_and (with_value bits value m) flag ≤ bit_and m flag
value_brings_none bits value m flag none defined =
    let kept = 4294967295 - bits in
    let apart : bit_and (bit_and value bits) flag ≡ 0 = and_assoc flag value bits
    ∙ ap (bit_and value) (feature_flagless bits flag none defined) ∙ and_zero_r value in
    let left : bit_and (bit_and m kept) flag ≡ bit_and (bit_and m flag) kept = and_assoc flag m kept ∙ ap (bit_and m) (and_comm kept flag)
    ∙ sym (and_assoc kept m flag) in
    let all : bit_and (with_value bits value m) flag
    ≡ bit_and (bit_and m flag) kept = and_or_apart flag (bit_and m kept) (bit_and value bits) apart ∙ left in
    omega (arith, all, and_le_l (bit_and m flag) kept)
