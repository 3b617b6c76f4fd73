-- Lookups that go backwards: as many items as before, and what they preserve.
use Prim.Native.Nat.{zero}
use Rattle.std.proofs.Common.{◌≡◌, ℕ, suc, ◌-◌, true, false, Option, Some, None, length, nat_eq, refl, ◌∙◌, if◌then◌else◌}
use Rattle.std.specs.Option.{option_map_or}
use Rattle.shape_items.specs.Buffer.{Buffer}
use Rattle.layout_matching.specs.Loops.{times}
use Rattle.layout_matching.specs.Skipping.{is_on}
use Rattle.layout_matching.specs.Work.{lookup_charged}
use Rattle.layout_matching.specs.declared.lookup.Lookup.{Lookup}
use Rattle.layout_substitution.specs.Edits.{item_at, broken, concat_marked}
use Rattle.layout_substitution.specs.Replaced.{replaced}
use Rattle.layout_substitution.proofs.AppliedLemmas.{like-replaced}
use Rattle.layout_substitution.proofs.CopyLemmas.{length-put_at}
use Rattle.layout_substitution.proofs.EditLemmas.{length-if, length_broken, length_concat_marked}
use Rattle.layout_substitution.proofs.PreservedLemmas.{Preserves, Preserves-same, Preserves-then, Preserves-times, Preserves-if, Preserves-put, Preserves-broken, Preserves-concat_marked}
use Rattle.layout_context.specs.Reverse.{Backwards, reversal_reach, reversal_found, reversed_by, first_reversed, reversed_at, reversed_within, reverse_step, reversed}
use Rattle.layout_context.specs.declared.reverse.Reversal.{Reversal}

pub length_reversed_by : (l : Lookup) (at : ℕ) (b : Buffer) (r : Reversal) → length (reversed_by l at b r).items ≡ length b.items
length_reversed_by l at b r = let c = broken r.start r.end b in
    length-put_at at (replaced l 0 r.glyph (item_at c at)) c ∙ length_broken r.start r.end b

length_first : (l : Lookup) (at : ℕ) (b : Buffer) → length (first_reversed l at b).items ≡ length b.items
length_first l at b = by_found (reversal_found l b.items at)
  where
    by_found : (o : Option Reversal) → length (option_map_or (reversed_by l at b) o b).items ≡ length b.items
    by_found None = refl
    by_found (Some r) = length_reversed_by l at b r

pub length_reversed_at : (l : Lookup) (at : ℕ) (b : Buffer) → length (reversed_at l at b).items ≡ length b.items
length_reversed_at l at b =
    let c = concat_marked (reversal_reach l b.items at) b in
    length-if (is_on l (item_at b at)) (length b.items) (first_reversed l at c) b
    (length_first l at c ∙ length_concat_marked (reversal_reach l b.items at) b) refl

length-within : (l : Lookup) (s : Backwards) (o : Option ℕ)
    → length (option_map_or (reversed_within l s) o (record s { at = s.at - 1; left = 0 })).buffer.items ≡ length s.buffer.items
length-within l s None = refl
length-within l s (Some left) = length_reversed_at l (s.at - 1) s.buffer

length-step : (l : Lookup) (s : Backwards) → length (reverse_step l s).buffer.items ≡ length s.buffer.items
length-step l s =
    let o = lookup_charged l s.buffer.items (s.at - 1) s.left in
    elim (nat_eq s.at 0) as (λ t. length
    (if t then s else option_map_or (reversed_within l s) o (record s { at = s.at - 1; left = 0 })).buffer.items ≡ length s.buffer.items) [
      | true ↦ refl
      | false ↦ length-within l s o
    ]

pub length-reversed : (l : Lookup) (left : ℕ) (b : Buffer) → length (reversed l left b).buffer.items ≡ length b.items
length-reversed l left b = walk (length b.items)
  where
    first : Backwards
    first = record { buffer = b; at = length b.items; left = left }

    walk : (n : ℕ) → length (times (reverse_step l) n first).buffer.items ≡ length b.items
    walk zero = refl
    walk (suc n) = length-step l (times (reverse_step l) n first) ∙ walk n

at-preserves : (l : Lookup) (at : ℕ) (b : Buffer) → Preserves b (reversed_at l at b)
at-preserves l at b =
    let marked = concat_marked (reversal_reach l b.items at) b in
    Preserves-if (is_on l (item_at b at)) b (first_reversed l at marked) b
    (Preserves-then b marked (first_reversed l at marked) (Preserves-concat_marked (reversal_reach l b.items at) b)
    (by_found marked (reversal_found l marked.items at))) (Preserves-same b)
  where
    by_found : (b : Buffer) (o : Option Reversal) → Preserves b (option_map_or (reversed_by l at b) o b)
    by_found b None = Preserves-same b
    by_found b (Some r) = let c = broken r.start r.end b in
        Preserves-then b c (reversed_by l at b r) (Preserves-broken r.start r.end b)
        (Preserves-put at (replaced l 0 r.glyph (item_at c at)) c (like-replaced l 0 r.glyph (item_at c at)))

within-preserves : (l : Lookup) (s : Backwards) (o : Option ℕ)
    → Preserves s.buffer (option_map_or (reversed_within l s) o (record s { at = s.at - 1; left = 0 })).buffer
within-preserves l s None = Preserves-same s.buffer
within-preserves l s (Some left) = at-preserves l (s.at - 1) s.buffer

step-preserves : (l : Lookup) (s : Backwards) → Preserves s.buffer (reverse_step l s).buffer
step-preserves l s =
    let o = lookup_charged l s.buffer.items (s.at - 1) s.left in
    elim (nat_eq s.at 0) as (λ t. Preserves s.buffer
    (if t then s else option_map_or (reversed_within l s) o (record s { at = s.at - 1; left = 0 })).buffer) [
      | true ↦ Preserves-same s.buffer
      | false ↦ within-preserves l s o
    ]

pub reversed-preserves : (l : Lookup) (left : ℕ) (b : Buffer) → Preserves b (reversed l left b).buffer
reversed-preserves l left b = Preserves-times (λ (s : Backwards). s.buffer) (reverse_step l) (step-preserves l) (length b.items)
    (record { buffer = b; at = length b.items; left = left })
