-- Vowels before the base that are turned round keep clusters and flags.
use Rattle.std.proofs.Common.{ℕ, zero, suc, ◌+◌, ◌<◌, ◌≤◌, Bool, true, false, if◌then◌else◌, length, arith}
use Rattle.shape_items.specs.Buffer.{Buffer}
use Rattle.syllabic.specs.Moving.{reversed}
use Rattle.syllabic.proofs.PreservationLemmas.{Keeps, Keeps-same, Keeps-then, JoinedIf}
use Rattle.syllabic.proofs.ReversingLemmas.{Keeps-reversed}
use Rattle.myanmar_shaper.specs.Turning.{is_vowel, turned_at, turned_to}

-- the group that ends at an item
Keeps-turned_at : (start to from k : ℕ) (b : Buffer) → from ≤ k → start + k < to → to ≤ length b.items → JoinedIf start to b
    → Keeps b (turned_at start from k b) × JoinedIf start to (turned_at start from k b)
Keeps-turned_at start to from k b ordered inside within joined =
    elim (is_vowel (start + k) b) as (λ t. let c = if t then reversed (start + from) (start + k + 1) b else b in Keeps b c × JoinedIf start to c) [
      | true ↦ Keeps-reversed start to (start + from) (start + k + 1) b (omega arith) (omega (arith, ordered)) (omega (arith, inside)) within joined
      | false ↦ (Keeps-same b, joined)
    ]

from-within : (t : Bool) (from k : ℕ) → from ≤ k → (if t then k + 1 else from) ≤ suc k
from-within true from k ordered = omega arith
from-within false from k ordered = omega (arith, ordered)

-- each group, and where the next one begins
pub record KeepsTurned (start to n : ℕ) (b : Buffer) : Type 0 where
  pub keeps : Keeps b (turned_to start n b).0
  pub joined : JoinedIf start to (turned_to start n b).0
  pub from : (turned_to start n b).1 ≤ n

pub Keeps-turned_to : (start to n : ℕ) (b : Buffer) → start + n ≤ to → to ≤ length b.items → JoinedIf start to b → KeepsTurned start to n b
Keeps-turned_to start to zero b inside within joined = record { keeps = Keeps-same b; joined = joined; from = omega arith }
Keeps-turned_to start to (suc k) b inside within joined =
    let c = (turned_to start k b).0 in
    let from = (turned_to start k b).1 in
    let first = Keeps-turned_to start to k b (omega (arith, inside)) within joined in
    let kept = first.keeps in
    let second = Keeps-turned_at start to from k c first.from (omega (arith, inside)) (omega (arith, within, kept.count)) first.joined in
    record {
      keeps = Keeps-then b c (turned_at start from k c) kept second.0;
      joined = second.1;
      from = from-within (is_vowel (start + k) c) from k first.from;
    }
