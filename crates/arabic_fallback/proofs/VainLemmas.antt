-- Nothing is marked in a buffer that doesn't ask for it.
use Rattle.std.proofs.Common.{◌≡◌, ◌&&◌, ℕ, true, false, nat_lt, nat_le, length, refl, if◌then◌else◌}
use Rattle.shape_items.specs.Buffer.{Buffer}
use Rattle.shape_items.specs.BufferClusters.{unsafe_to_concat}
use Rattle.arabic_fallback.specs.Vain.{asks_concat, concat_marked}

pub unasked : (at end : ℕ) (b : Buffer) → asks_concat b ≡ false → b ≡ concat_marked at end b
unasked at end b e = elim (nat_lt at end && nat_le end (length b.items)) as (λ t. b ≡ (if t then unsafe_to_concat at end b else b)) [
  | true ↦ rw e refl
  | false ↦ refl
]
