-- what the calls of a run make: the number of items and the limit stay
use Rattle.std.proofs.Common.{◌≡◌, ℕ, List, Option, fold, length, ap, ◌∙◌, arith}
use Rattle.std.specs.Prelude.{unwrap_or}
use Rattle.shape_items.specs.Buffer.{Buffer, limit_of, most_countable}
use Rattle.shape_buffer.specs.Outcome.{Made}
use Rattle.layout_matching.specs.declared.lookup.Lookup.{Lookup}
use Rattle.layout_positions.specs.Attachment.{offsets_finished}
use Rattle.layout_positions.specs.Preserves.{Kept}
use Rattle.layout_positions.specs.Walk.{lookup_applied, budgeted, settled_up, positioned}
use Rattle.layout_positions.proofs.PreservationLemmas.{positioned-kept, finished-kept}

made_kept : (f : Buffer → Buffer) (b c : Buffer) → c ≡ f b → Kept b (f b) → Made f b c
made_kept f b c is kept =
    let count : length c.items ≡ length b.items = ap (λ (x : Buffer). length x.items) is ∙ kept.count in
    record {
      made = is;
      no_longer = omega (arith, count);
      same_limit = ap limit_of is ∙ ap (λ (o : Option ℕ). unwrap_or o most_countable) kept.limit;
    }

pub positioned_made : (lookups : List Lookup) (left : ℕ) (b c d : Buffer)
    → record { buffer = c; left = left } ≡ fold lookup_applied (budgeted b) lookups → d ≡ record c { max_ops = left }
    → Made (positioned lookups) b d
positioned_made lookups left b c d is ends = made_kept (positioned lookups) b d (ends ∙ ap settled_up is) (positioned-kept lookups b)

pub finished_made : (b c : Buffer) → c ≡ offsets_finished b → Made offsets_finished b c
finished_made b c is = made_kept offsets_finished b c is (finished-kept b)
