-- a lookup whose digest holds no glyph of the list may be passed over, and a place whose glyph it doesn't hold
use Prim.Native.Nat.{zero}
use Rattle.std.proofs.Common.{◌≡◌, ℕ, suc, ◌+◌, ◌-◌, ◌*◌, ◌<◌, ◌≤◌, ◌^◌, Bool, true, false, List, [], ◌∷◌, length, max, min, nat_eq, nat_lt, fold, refl, sym, ap, ◌∙◌, subst, arith, if◌then◌else◌, drop, slice_index_or}
use Rattle.std.proofs.lemmas.Bool.Decides.{nat_tests}
use Rattle.std.proofs.lemmas.List.{drop_more, length-drop}
use Rattle.std.proofs.lemmas.Nat.{mul-le}
use Rattle.shape_items.specs.Buffer.{Buffer, most_countable}
use Rattle.shape_items.specs.Items.{Item}
use Rattle.layout_tables.specs.Lookups.{subtable_count_of}
use Rattle.layout_matching.specs.Loops.{times}
use Rattle.layout_matching.specs.Skipping.{nth}
use Rattle.layout_matching.specs.Work.{is_plain, walk_work, devices_work, PLAIN_WORK, STEP_WORK}
use Rattle.layout_matching.specs.declared.lookup.Lookup.{Lookup}
use Rattle.layout_digests.specs.Digests.{has, IsWithin}
use Rattle.layout_digests.specs.declared.digest.Digest.{Digest}
use Rattle.layout_digests.specs.declared.digested.Digested.{Digested}
use Rattle.layout_positions.specs.Digested.{IsOut, IsDigested, HoldsFirst, HoldsGlyphs, AreUnheld, lookups_in}
use Rattle.layout_positions.specs.Walk.{Walk, lookup_step, Budgeted, first_walk, gone_over, walk_charged, lookup_applied}
use Rattle.layout_positions.specs.declared.bases.BaseSeen.{BaseSeen}
use Rattle.layout_matching.proofs.LoopLemmas.{times_after}
use Rattle.layout_positions.proofs.UncoveredLemmas.{step-unlisted, lookup-uncovered}

pub step_out : (l : Lookup) (s : Walk) → IsOut l (nth s.buffer.items s.at).glyph_id → nat_lt s.at (length s.buffer.items) ≡ true
    → lookup_step l s ≡ record s { at = s.at + 1 }
step_out l s out inside = step-unlisted l s out.positions out.unlisted inside

-- ---- the next glyphs, which the set doesn't hold

pub one_unheld : (d : Digest) (items : List Item) (from i : ℕ) → AreUnheld d items from i → has d (nth items (from + i)).glyph_id ≡ false
    → AreUnheld d items from (i + 1)
one_unheld d items from i before new j below = by_last (nat_eq j i) refl
  where
    by_last : (t : Bool) → nat_eq j i ≡ t → has d (nth items (from + j)).glyph_id ≡ false
    by_last true is = let same : i ≡ j = grind (arith, nat_tests, is) in subst (λ k. has d (nth items (from + k)).glyph_id ≡ false) same new
    by_last false is = before j (grind (arith, nat_tests, is, below))

pub steps_passed : (d : Digested) (b : Buffer) (at : ℕ) (seen : BaseSeen) (left n : ℕ) → IsDigested d
    → at + n ≤ length b.items → AreUnheld d.digest b.items at n
    → record { buffer = b; at = at + n; seen = seen; left = left }
    ≡ times (lookup_step d.lookup) n (record { buffer = b; at = at; seen = seen; left = left })
steps_passed d b at seen left zero said inside free = ap (λ i. record { buffer = b; at = i; seen = seen; left = left }) (omega arith)
steps_passed d b at seen left (suc n) said inside free =
    let here : Walk = record { buffer = b; at = at + n; seen = seen; left = left } in
    let before = steps_passed d b at seen left n said (omega (arith, inside)) (λ j below. free j (omega (arith, below))) in
    let within : nat_lt (at + n) (length b.items) ≡ true = grind (arith, nat_tests, inside) in
    let same : at + suc n ≡ at + n + 1 = omega arith in
    ap (λ i. record { buffer = b; at = i; seen = seen; left = left }) same
    ∙ sym (step_out d.lookup here (said.out (nth b.items (at + n)).glyph_id (free n (omega arith))) within)
    ∙ ap (lookup_step d.lookup) before

pub gone_further : {S : Type 0} (f : S → S) (n i : ℕ) (first here there : S) → here ≡ times f i first → there ≡ times f n here
    → there ≡ times f (i + n) first
gone_further f n i first here there before now =
    let e : i + n ≡ n + i = omega arith in
    now ∙ ap (times f n) before ∙ sym (times_after f n i first) ∙ sym (ap (λ m. times f m first) e)

-- ---- the glyphs of a list

pub one_held : (items : List Item) (d e : Digest) (i : ℕ) → HoldsFirst d items i → IsWithin d e → has e (nth items i).glyph_id ≡ true
    → HoldsFirst e items (i + 1)
one_held items d e i before kept new j below = by_last (nat_eq j i) refl
  where
    by_last : (t : Bool) → nat_eq j i ≡ t → has e (nth items j).glyph_id ≡ true
    by_last true is = let same : i ≡ j = grind (arith, nat_tests, is) in subst (λ k. has e (nth items k).glyph_id ≡ true) same new
    by_last false is = kept (nth items j).glyph_id (before j (grind (arith, nat_tests, is, below)))

pub applied_on : (ds : List Digested) (k : ℕ) (x : Digested) (here next made : Budgeted) → k < length ds
    → fold lookup_applied here (lookups_in (drop k ds)) ≡ made → next ≡ lookup_applied here (slice_index_or ds k x).lookup
    → fold lookup_applied next (lookups_in (drop (k + 1) ds)) ≡ made
applied_on ds k x here next made more before is =
    ap (λ s. fold lookup_applied s (lookups_in (drop (k + 1) ds))) is
    ∙ sym (ap (λ (rest : List Digested). fold lookup_applied here (lookups_in rest)) (drop_more ds k x more)) ∙ before

-- ---- once nothing is left, a lookup that costs something changes nothing

product-some : (count n step : ℕ) → 0 < count → 0 < n → 0 < step → 0 < min (count * (n * step)) most_countable
product-some count n step some parts more =
    let one : 1 * 1 ≤ n * step = mul-le 1 1 n step (omega (arith, parts)) (omega (arith, more)) in
    let all : 1 * 1 ≤ count * (n * step) = mul-le 1 1 count (n * step) (omega (arith, some)) (omega (arith, one)) in
    omega (arith, all)

walk_costs : (l : Lookup) (count : ℕ) → 0 < count → 0 < walk_work l count
walk_costs l count some = by_step (is_plain l)
  where
    parts : ℕ
    parts = max (subtable_count_of l.table.now l.place) 1

    by_step : (t : Bool) → 0 < min (count * (parts * (if t then PLAIN_WORK + devices_work l else STEP_WORK))) most_countable
    by_step true = product-some count parts (PLAIN_WORK + devices_work l) some (omega arith) (omega arith)
    by_step false = product-some count parts STEP_WORK some (omega arith) (omega arith)

unpaid : (left work : ℕ) → left ≡ 0 → 0 < work → nat_lt left work ≡ true
unpaid left work none some = grind (arith, nat_tests, none, some)

none-less : (left work : ℕ) → left ≡ 0 → left ≡ left - work
none-less left work none = omega (arith, none)

pub spent : (l : Lookup) (here : Budgeted) (count : ℕ) → count ≡ length here.buffer.items → here.left ≡ 0 → 0 < count
    → here ≡ lookup_applied here l
spent l here count same none filled =
    let after = walk_charged here l in
    let some = walk_costs l (length here.buffer.items) (omega (arith, same, filled)) in
    ap (λ n. record here { left = n }) (none-less here.left (walk_work l (length here.buffer.items)) none)
    ∙ sym (ap (λ t. if t then after else gone_over after l) (unpaid here.left (walk_work l (length here.buffer.items)) none some))

-- in an empty list nothing is done, whatever the lookup is
digest-idle : (d : Digested) (here : Budgeted) (run : Digest) → IsDigested d → HoldsGlyphs run here.buffer.items
    → ((g : ℕ) → has run g ≡ true → has d.digest g ≡ false) → lookup_applied here d.lookup ≡ walk_charged here d.lookup
digest-idle d here run said held apart = by_length (nat_eq (length here.buffer.items) 0) refl
  where
    out_at : (i : ℕ) → i < length here.buffer.items → IsOut d.lookup (nth here.buffer.items i).glyph_id
    out_at i inside = said.out (nth here.buffer.items i).glyph_id (apart (nth here.buffer.items i).glyph_id (held i inside))

    end : ℕ → Budgeted
    end n = let w = times (lookup_step d.lookup) n (first_walk (walk_charged here d.lookup)) in record { buffer = w.buffer; left = w.left }

    by_length : (t : Bool) → nat_eq (length here.buffer.items) 0 ≡ t → lookup_applied here d.lookup ≡ walk_charged here d.lookup
    by_length true e =
        let none : length here.buffer.items ≡ 0 = grind (arith, nat_tests, e) in
        let after = walk_charged here d.lookup in
        elim (nat_lt here.left (walk_work d.lookup (length here.buffer.items))) as
        (λ t. (if t then after else gone_over after d.lookup) ≡ after) [ true ↦ refl | false ↦ ap end none ]
    by_length false e = lookup-uncovered d.lookup here (record {
      positioning = (out_at 0 (grind (arith, nat_tests, e))).positions;
      glyphs = λ i inside. (out_at i inside).unlisted;
    })

pub passed_over : (d : Digested) (b : Buffer) (left next count : ℕ) (run : Digest) → IsDigested d → HoldsGlyphs run b.items
    → ((g : ℕ) → has run g ≡ true → has d.digest g ≡ false) → next ≡ left - walk_work d.lookup count → count ≡ length b.items
    → record { buffer = b; left = next } ≡ lookup_applied (record { buffer = b; left = left }) d.lookup
passed_over d b left next count run said held apart is same =
    ap (λ n. record { buffer = b; left = n }) (is ∙ ap (λ n. left - walk_work d.lookup n) same)
    ∙ sym (digest-idle d (record { buffer = b; left = left }) run said held apart)

-- the set of all glyphs serves any lookup
pub every_said : (d : Digested) → d.lookup.place < 2 ^ 17 → ((glyph : ℕ) → has d.digest glyph ≡ true) → d.firsts.count ≡ 0
    → length d.firsts.wholes.now ≡ 0 → IsDigested d
every_said d near all none empty = record {
  near = near;
  out = λ glyph not. never glyph (has d.digest glyph) (all glyph) not;
  firsts = λ i glyph below inside out. absurd (omega (arith, below, none));
  wholes = λ v inside. absurd (omega (arith, inside, empty));
}
  where
    never : (glyph : ℕ) (t : Bool) → t ≡ true → t ≡ false → IsOut d.lookup glyph
    never glyph true is not = cc
    never glyph false is not = cc
