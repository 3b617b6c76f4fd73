-- How modifier marks of Arabic are reordered.
use Rattle.std.specs.Prelude.{◌≡◌, ℕ, zero, suc, ◌+◌, ◌-◌, ◌<◌, ◌≤◌, ◌==◌, ◌&&◌, Bool, true, false, nat_lt, if◌then◌else◌, List, length, drop, get_or}
use Rattle.std.specs.Prelude.{slice_range, refl}
use Rattle.std.specs.List.{list_any, prefix_len}
use Rattle.std.proofs.Common.{arith, cond, ap, sym, ◌∙◌}
use Rattle.std.proofs.lemmas.List.{length-take-le, length-drop, length-set, get_or_default}
use Rattle.std.proofs.lemmas.List.Edits.{length-swap}
use Rattle.std.proofs.lemmas.List.Sums.{prefix_len-le-length}
use Rattle.shape_items.specs.Buffer.{Buffer}
use Rattle.shape_items.specs.BufferClusters.{merge_clusters}
use Rattle.shape_items.specs.Items.{Item, new_item, ccc_of_item}
use Rattle.shape_items.proofs.Merging.KeyLemmas.{length-merge_clusters}
use Rattle.shape_plan.specs.Reorder.{exchanged, ccc_set, Reorders, exchange, merge, set_ccc, done, ReordersRanges}
use Rattle.script_shapers.specs.declared.arabic.modifiers.TheConstants.{MODIFIER_MARKS}

-- one of the modifier combining marks
abbrev pub is_modifier_mark : ℕ → Bool
is_modifier_mark c = list_any (λ mark. mark == c) MODIFIER_MARKS

-- an item that is one, of this ccc
abbrev pub is_modifier_of : ℕ → Item → Bool
is_modifier_of ccc item = ccc_of_item item == ccc && is_modifier_mark item.codepoint

-- how many marks at the beginning of a run are below a ccc
abbrev pub count_below : ℕ → List Item → ℕ
count_below ccc run = prefix_len (λ item. nat_lt (ccc_of_item item) ccc) run

-- how many modifier marks begin the marks of a ccc in a run in order
abbrev pub count_modifiers : ℕ → List Item → ℕ
count_modifiers ccc run = prefix_len (is_modifier_of ccc) (drop (count_below ccc run) run)

-- the item n places after a place steps before those between
abbrev pub stepped_before : (place n : ℕ) → Buffer → Buffer
stepped_before place zero b = b
stepped_before place (suc n) b = stepped_before place n (exchanged (place + n) (place + suc n) b)

-- the item at a place with another ccc
abbrev pub reclassed : (ccc place : ℕ) → Buffer → Buffer
reclassed ccc place b = ccc_set place (get_or b.items place (new_item 0 0)) ccc b

-- so many items, the first of them n places after a place, step before those between in their order, and get another
-- ccc
abbrev pub brought_before : (ccc count n place : ℕ) → Buffer → Buffer
brought_before ccc zero n place b = b
brought_before ccc (suc count) n place b = brought_before ccc count n (place + 1) (reclassed ccc place (stepped_before place n b))

-- the modifier marks that begin the marks of a ccc step to the front of the run and get another ccc, once they are in
-- one cluster with those that they move past
abbrev pub modifiers_moved : (ccc other : ℕ) → Buffer → (start end : ℕ) → Buffer
modifiers_moved ccc other b start end =
    let run = slice_range b.items start end in
    let n = count_below ccc run in
    let count = count_modifiers ccc run in
    if count == 0 then b else brought_before other count n start (merge_clusters start (start + n + count) b)

-- those below the letter (220) step to the front, then those above it (230) after them
abbrev pub modifiers_reordered : Buffer → ℕ → ℕ → Buffer
modifiers_reordered b start end =
    let count = count_modifiers 220 (slice_range b.items start end) in
    modifiers_moved 230 26 (modifiers_moved 220 25 b start end) (start + count) end

-- what is left once k of the exchanges are done, as an item at `from` steps to a place
pub stepped_before-next : (place from k : ℕ) (b c : Buffer) → place + k < from → c ≡ exchanged (from - k - 1) (from - k) b
    → stepped_before place (from - place - (k + 1)) c ≡ stepped_before place (from - place - k) b
stepped_before-next place from k b c inside is =
    let m = from - place - (k + 1) in
    let left : from - place - k ≡ suc m = omega (arith, inside) in
    let i : from - k - 1 ≡ place + m = omega (arith, inside) in
    let j : from - k ≡ place + suc m = omega (arith, inside) in
    let next : c ≡ exchanged (place + m) (place + suc m) b = is ∙ (ap (λ x. exchanged x (from - k) b) i
    ∙ ap (λ y. exchanged (place + m) y b) j) in
    ap (stepped_before place m) next ∙ sym (ap (λ x. stepped_before place x b) left)

-- what is left once k of the items have come, as those from `from` up to `end` come to a place
pub brought_before-next : (ccc place from end k : ℕ) (b c : Buffer) → place ≤ from → from + k < end
    → c ≡ reclassed ccc (place + k) (stepped_before (place + k) (from + k - (place + k)) b)
    → brought_before ccc (end - from - (k + 1)) (from - place) (place + (k + 1)) c
    ≡ brought_before ccc (end - from - k) (from - place) (place + k) b
brought_before-next ccc place from end k b c ordered inside is =
    let m = end - from - (k + 1) in
    let left : end - from - k ≡ suc m = omega (arith, inside) in
    let n : from + k - (place + k) ≡ from - place = omega (arith, ordered) in
    let at : place + (k + 1) ≡ place + k + 1 = omega arith in
    let next : c ≡ reclassed ccc (place + k) (stepped_before (place + k) (from - place) b) = is
    ∙ ap (λ x. reclassed ccc (place + k) (stepped_before (place + k) x b)) n in
    ap (λ x. brought_before ccc m (from - place) x c) at ∙ (ap (brought_before ccc m (from - place) (place + k + 1)) next
    ∙ sym (ap (λ x. brought_before ccc x (from - place) (place + k) b) left))

pub length-stepped_before : (place n : ℕ) (b : Buffer) → length (stepped_before place n b).items ≡ length b.items
length-stepped_before place zero b = refl
length-stepped_before place (suc n) b =
    length-stepped_before place n (exchanged (place + n) (place + suc n) b) ∙ length-swap b.items (place + n) (place + suc n)

pub length-reclassed : (ccc place : ℕ) (b : Buffer) → length (reclassed ccc place b).items ≡ length b.items
length-reclassed ccc place b = length-set b.items place _

pub length-brought_before : (ccc count n place : ℕ) (b : Buffer) → length (brought_before ccc count n place b).items ≡ length b.items
length-brought_before ccc zero n place b = refl
length-brought_before ccc (suc count) n place b =
    length-brought_before ccc count n (place + 1) (reclassed ccc place (stepped_before place n b))
    ∙ (length-reclassed ccc place (stepped_before place n b) ∙ length-stepped_before place n b)

pub length-modifiers_moved : (ccc other : ℕ) (b : Buffer) (start end : ℕ)
    → length (modifiers_moved ccc other b start end).items ≡ length b.items
length-modifiers_moved ccc other b start end =
    let run = slice_range b.items start end in
    let n = count_below ccc run in
    let count = count_modifiers ccc run in
    let merged = merge_clusters start (start + n + count) b in
    elim (count == 0) as (λ t. length (cond t b (brought_before other count n start merged)).items ≡ length b.items) [
      | true ↦ refl
      | false ↦ length-brought_before other count n start merged ∙ length-merge_clusters start (start + n + count) b
    ]

-- the marks that are moved past and those that step are in the run
pub counts_within : (ccc : ℕ) (xs : List Item) (start end : ℕ) → start ≤ end → end ≤ length xs
    → start + count_below ccc (slice_range xs start end) + count_modifiers ccc (slice_range xs start end) ≤ end
counts_within ccc xs start end ordered within =
    let run = slice_range xs start end in
    let long : length run ≡ end - start = length-take-le (end - start) (drop start xs) (rw (length-drop start xs) (omega arith)) in
    let n : count_below ccc run ≤ length run = prefix_len-le-length (λ item. nat_lt (ccc_of_item item) ccc) run in
    let count : count_modifiers ccc run
    ≤ length (drop (count_below ccc run) run) = prefix_len-le-length (is_modifier_of ccc) (drop (count_below ccc run) run) in
    let rest : length (drop (count_below ccc run) run) ≡ length run - count_below ccc run = length-drop (count_below ccc run) run in
    omega (arith, ordered, long, n, count, rest)

-- each of these is a list of steps in the range, before further ones
stepped_before-steps : {start end : ℕ} {c : Buffer} (place n : ℕ) (b : Buffer) → start ≤ place → place + n < end
    → Reorders start end (stepped_before place n b) c → Reorders start end b c
stepped_before-steps place zero b from to more = more
stepped_before-steps place (suc n) b from to more =
    exchange (place + n) (place + suc n) (omega (arith, from)) (omega (arith, to)) (omega (arith, from)) to
    (stepped_before-steps place n (exchanged (place + n) (place + suc n) b) from (omega (arith, to)) more)

reclassed-steps : {start end : ℕ} {c : Buffer} (ccc place : ℕ) (b : Buffer) → 0 < ccc → ccc < 256 → start ≤ place → place < end
    → end ≤ length b.items → Reorders start end (reclassed ccc place b) c → Reorders start end b c
reclassed-steps ccc place b some fits from to within more =
    let item = get_or b.items place (new_item 0 0) in
    set_ccc place item ccc from to (get_or_default b.items place (new_item 0 0) item (omega (arith, to, within))) some fits more

brought_before-steps : {start end : ℕ} {c : Buffer} (ccc count n place : ℕ) (b : Buffer) → 0 < ccc → ccc < 256 → start ≤ place
    → place + n + count ≤ end → end ≤ length b.items → Reorders start end (brought_before ccc count n place b) c → Reorders start end b c
brought_before-steps ccc zero n place b some fits from to within more = more
brought_before-steps ccc (suc count) n place b some fits from to within more =
    let stepped = stepped_before place n b in
    let kept : length stepped.items ≡ length b.items = length-stepped_before place n b in
    let put : length (reclassed ccc place stepped).items ≡ length stepped.items = length-reclassed ccc place stepped in
    stepped_before-steps place n b from (omega (arith, to))
    (reclassed-steps ccc place stepped some fits from (omega (arith, to)) (omega (arith, kept, within))
    (brought_before-steps ccc count n (place + 1) (reclassed ccc place stepped) some fits (omega (arith, from)) (omega (arith, to))
    (omega (arith, put, kept, within)) more))

modifiers_moved-steps : {first end : ℕ} {c : Buffer} (ccc other : ℕ) (b : Buffer) (start : ℕ) → 0 < other → other < 256 → first ≤ start
    → start ≤ end → end ≤ length b.items → Reorders first end (modifiers_moved ccc other b start end) c → Reorders first end b c
modifiers_moved-steps {first} {end} {c} ccc other b start some fits from ordered within =
    let run = slice_range b.items start end in
    let n = count_below ccc run in
    let count = count_modifiers ccc run in
    let merged = merge_clusters start (start + n + count) b in
    let inside : start + n + count ≤ end = counts_within ccc b.items start end ordered within in
    let kept : length merged.items ≡ length b.items = length-merge_clusters start (start + n + count) b in
    elim (count == 0) as (λ t. Reorders first end (cond t b (brought_before other count n start merged)) c → Reorders first end b c) [
      | true ↦ λ more. more
      | false ↦ λ more. merge start (start + n + count) from (omega arith) inside
          (brought_before-steps other count n start merged some fits from inside (omega (arith, kept, within)) more)
    ]

pub modifiers_reordered-reorders : ReordersRanges modifiers_reordered
modifiers_reordered-reorders = record { reorders = λ b start end run. steps b start end (let some = run.some in omega arith) run.within }
  where
    steps : (b : Buffer) (start end : ℕ) → start ≤ end → end ≤ length b.items → Reorders start end b (modifiers_reordered b start end)
    steps b start end ordered within =
        let below = modifiers_moved 220 25 b start end in
        let count = count_modifiers 220 (slice_range b.items start end) in
        let inside = counts_within 220 b.items start end ordered within in
        let kept : length below.items ≡ length b.items = length-modifiers_moved 220 25 b start end in
        modifiers_moved-steps 220 25 b start (omega arith) (omega arith) (omega arith) ordered within
        (modifiers_moved-steps 230 26 below (start + count) (omega arith) (omega arith) (omega arith) (omega (arith, inside))
        (omega (arith, kept, within)) done)
