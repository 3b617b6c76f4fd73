-- Glyphs put in place of one, and a cluster handed back, step by step.
use Prim.Native.Nat.{zero}
use Rattle.std.proofs.Common.{◌≡◌, ℕ, suc, ◌+◌, ◌-◌, ◌<◌, ◌≤◌, true, false, length, slice_set, if◌then◌else◌, refl, ◌∙◌, arith}
use Rattle.std.proofs.lemmas.Bool.Decides.{nat_tests}
use Rattle.std.proofs.lemmas.List.{length-set}
use Rattle.std.proofs.lemmas.List.Edits.{length-insert}
use Rattle.shape_items.specs.Buffer.{Buffer, limit_of}
use Rattle.shape_items.specs.Delete.{hand_over}
use Rattle.shape_items.specs.Items.{Item}
use Rattle.layout_matching.proofs.LoopLemmas.{times_stays}
use Rattle.layout_substitution.specs.Edits.{item_at, is_inside, put_at, put_after}
use Rattle.layout_matching.specs.Loops.{times}
use Rattle.layout_substitution.specs.Applied.{Handing, is_handed, handed_step, Copying, copy_put, first_put, several_put}
use Rattle.layout_substitution.specs.Substitutes.{listed_count}
use Rattle.layout_matching.specs.declared.lookup.Lookup.{Lookup}

pub length-put_after : (at : ℕ) (item : Item) (b : Buffer) → at < length b.items → length (put_after at item b).items ≡ length b.items + 1
length-put_after at item b inside =
    let t : is_inside at b ≡ true = grind (arith, nat_tests, inside) in
    rw t (length-insert b.items (at + 1) item (omega (arith, inside)))

pub length-put_at : (at : ℕ) (item : Item) (b : Buffer) → length (put_at at item b).items ≡ length b.items
length-put_at at item b = elim (is_inside at b) as (λ t.
    length (if t then record b { items = slice_set b.items at item } else b).items ≡ length b.items) [
      | true ↦ length-set b.items at item
      | false ↦ refl
    ]

length-copies : (l : Lookup) (list at : ℕ) (item : Item) (n : ℕ) (s : Copying) → at < length s.buffer.items
    → length (times (copy_put l list at item) n s).buffer.items ≡ length s.buffer.items + n
length-copies l list at item zero s inside = omega arith
length-copies l list at item (suc n) s inside =
    let before = length-copies l list at item n s inside in
    let here = times (copy_put l list at item) n s in
    length-put_after at _ here.buffer (omega (arith, before, inside)) ∙ omega (arith, before)

pub length_first : (l : Lookup) (list at : ℕ) (item : Item) (b : Buffer) → length (first_put l list at item b).items ≡ length b.items
length_first l list at item b = length-put_at at _ b

limit-put_at : (at : ℕ) (item : Item) (b : Buffer) → limit_of (put_at at item b) ≡ limit_of b
limit-put_at at item b = elim (is_inside at b) as (λ t.
    limit_of (if t then record b { items = slice_set b.items at item } else b) ≡ limit_of b) [ true ↦ refl | false ↦ refl ]

pub limit_first : (l : Lookup) (list at : ℕ) (item : Item) (b : Buffer) → limit_of (first_put l list at item b) ≡ limit_of b
limit_first l list at item b = limit-put_at at _ b

pub length_several : (l : Lookup) (list at : ℕ) (b : Buffer) → at < length b.items
    → length (several_put l list at b).items ≡ length b.items + (listed_count l.table.now list - 1)
length_several l list at b inside =
    let first = length_first l list at (item_at b at) b in
    length-copies l list at (item_at b at) (listed_count l.table.now list - 1) _ (omega (arith, first, inside))
    ∙ omega (arith, first)

-- ---- a cluster handed back

pub handed_on : (cluster : ℕ) (s : Handing) → is_handed cluster s ≡ true
    → handed_step cluster s ≡ record {
      buffer = put_at (s.at - 1)
          (hand_over (item_at s.buffer s.at) (item_at s.buffer (s.at - 1))) s.buffer;
      at = s.at - 1;
    }
handed_on cluster s goes = rw goes refl

pub handed_stops : (cluster n i : ℕ) (first s : Handing) → i ≤ n → s ≡ times (handed_step cluster) i first → is_handed cluster s ≡ false
    → times (handed_step cluster) n first ≡ s
handed_stops cluster n i first s within is stops =
    let still : handed_step cluster s ≡ s = rw stops refl in
    times_stays (handed_step cluster) n i first s within is still
