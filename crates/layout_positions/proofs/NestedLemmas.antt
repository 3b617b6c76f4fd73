-- levels of lookups, and what their rules look at in vain
use Prim.Native.Nat.{zero}
use Rattle.std.proofs.Common.{◌≡◌, ℕ, suc, ◌-◌, ◌+◌, ◌<◌, true, false, Option, Some, None, lit<, min, length, nat_le, nat_lt, refl, sym, ap, ◌∙◌, arith, if◌then◌else◌}
use Rattle.std.specs.Option.{option_and_then, option_map, option_map_or}
use Rattle.std.proofs.lemmas.Bool.Decides.{nat_tests}
use Rattle.shape_items.specs.Buffer.{Buffer}
use Rattle.shape_items.specs.BufferClusters.{unsafe_to_concat, with_glyph_flags}
use Rattle.shape_items.specs.Clusters.{map_range, mark_concat}
use Rattle.layout_matching.specs.Found.{found_of, is_context}
use Rattle.layout_matching.specs.Sought.{sought, sought_left, place_charged, named_charged}
use Rattle.layout_matching.specs.Tried.{reach_of}
use Rattle.layout_matching.specs.Work.{charged, lookup_charged, nested_charged, steps_work, NESTED_WORK}
use Rattle.layout_matching.specs.declared.found.Found.{Found}
use Rattle.layout_matching.specs.declared.lookup.Lookup.{Lookup}
use Rattle.layout_matching.specs.declared.sought.Sought.{Sought}
use Rattle.layout_positions.specs.Edits.{asks_for_concat, concat_marked}
use Rattle.layout_positions.specs.Nested.{LEVELS, Nest, nest_of, spent, record_within, record_at_place, rule_placed, origin_at, tried_concat_marked}
use Rattle.layout_positions.specs.Nested.{first_rule_placed, level_placed, nested_placed, placed_by_charge, sought_placed, walk_placed, named_placed}
use Rattle.layout_positions.specs.Subtables.{unplaced, lookup_placed}
use Rattle.layout_positions.specs.Walk.{Walk, gone_on, tried_within, tried}
use Rattle.layout_positions.specs.declared.bases.BaseSeen.{BaseSeen}

pub nested_none : (l : Lookup) (i left : ℕ) (seen : BaseSeen) (b : Buffer) (level : ℕ) → level ≡ 0
    → nested_placed level l i left seen b ≡ unplaced left seen b
nested_none l i left seen b level none = ap (λ n. nested_placed n l i left seen b) none

pub nested_outside : (level : ℕ) (l : Lookup) (i left : ℕ) (seen : BaseSeen) (b : Buffer) → nat_lt i (length b.items) ≡ false
    → nested_placed level l i left seen b ≡ unplaced left seen b
nested_outside zero l i left seen b out = refl
nested_outside (suc level) l i left seen b out = rw out refl

pub nested_level : (level : ℕ) (l : Lookup) (i left : ℕ) (seen : BaseSeen) (b : Buffer) → 0 < level → nat_lt i (length b.items) ≡ true
    → nested_placed level l i left seen b ≡ level_placed (nested_placed (level - 1)) l i left seen b
nested_level level l i left seen b some inside =
    let e : level ≡ suc (level - 1) = omega (arith, some) in
    ap (λ n. nested_placed n l i left seen b) e ∙ rw inside refl

-- a lookup without rules of context applies by itself
pub placed_plainly : (l : Lookup) (i left : ℕ) (seen : BaseSeen) (b : Buffer) → is_context l ≡ false → i < length b.items
    → nested_placed LEVELS l i left seen b ≡ lookup_placed l i left seen b
placed_plainly l i left seen b plain inside =
    let within : nat_lt i (length b.items) ≡ true = grind (arith, nat_tests, inside) in
    nested_level 65 l i left seen b (lit< tt) within
    ∙ ap (λ t. if t then first_rule_placed (nested_placed 64) l i left seen (tried_concat_marked l i b) else lookup_placed l i left seen b) plain

-- a buffer that doesn't ask for marks stays
unasked : (start end : ℕ) (b : Buffer) → asks_for_concat b ≡ false → b ≡ concat_marked start end b
unasked start end b e =
    let last = min end (length b.items) in
    elim (nat_le start last) as (λ t. b ≡ (if t then unsafe_to_concat start last b else b))
    [ true ↦ ap (λ t. if t then record (with_glyph_flags b) { items = map_range mark_concat start last b.items } else b) (sym e) | false ↦ refl ]

pub tried_unasked : (l : Lookup) (i : ℕ) (b : Buffer) → asks_for_concat b ≡ false → b ≡ tried_concat_marked l i b
tried_unasked l i b e =
    let reach = reach_of l b.items (origin_at i) in
    elim (nat_lt reach.from reach.to) as (λ t. b ≡ (if t then concat_marked reach.from reach.to b else b))
    [ true ↦ unasked reach.from reach.to b e | false ↦ refl ]

-- ---- a lookup of context, whose rule is sought once

pub sought_some : (level : ℕ) (l : Lookup) (i left : ℕ) (seen : BaseSeen) (b : Buffer) (s : Sought)
    → sought l b.items (origin_at i) left ≡ Some s → sought_placed level l i left seen b ≡ nested_placed level l i s.left seen b
sought_some level l i left seen b s is =
    ap (λ o. placed_by_charge level l i seen b (option_map (λ (t : Sought). t.left) o)) is

pub sought_none : (level : ℕ) (l : Lookup) (i left : ℕ) (seen : BaseSeen) (b : Buffer)
    → sought l b.items (origin_at i) left ≡ None → sought_placed level l i left seen b ≡ unplaced 0 seen b
sought_none level l i left seen b is =
    ap (λ o. placed_by_charge level l i seen b (option_map (λ (t : Sought). t.left) o)) is

-- where nothing is marked that was looked at before, the rule that is found is applied
found_applied : (level : ℕ) (l : Lookup) (i left : ℕ) (seen : BaseSeen) (b : Buffer) (found : Option Found) → 0 < level
    → i < length b.items → is_context l ≡ true → asks_for_concat b ≡ false → found ≡ found_of l b.items (origin_at i)
    → nested_placed level l i left seen b
    ≡ option_map_or (rule_placed (nested_placed (level - 1)) l i left seen b) found (unplaced left seen b)
found_applied level l i left seen b found some inside context unasked is =
    let next = nested_placed (level - 1) in
    let within : nat_lt i (length b.items) ≡ true = grind (arith, nat_tests, inside) in
    nested_level level l i left seen b some within
    ∙ ap (λ t. if t then first_rule_placed next l i left seen (tried_concat_marked l i b) else lookup_placed l i left seen b) context
    ∙ ap (first_rule_placed next l i left seen) (sym (tried_unasked l i b unasked))
    ∙ ap (λ o. option_map_or (rule_placed next l i left seen b) o (unplaced left seen b)) (sym is)

pub found_some : (level : ℕ) (l : Lookup) (i left : ℕ) (seen : BaseSeen) (b : Buffer) (o : Option Found) (found : Found) → 0 < level
    → i < length b.items → is_context l ≡ true → asks_for_concat b ≡ false → o ≡ found_of l b.items (origin_at i) → o ≡ Some found
    → nested_placed level l i left seen b ≡ rule_placed (nested_placed (level - 1)) l i left seen b found
found_some level l i left seen b o found some inside context unasked is there =
    found_applied level l i left seen b o some inside context unasked is
    ∙ ap (λ p. option_map_or (rule_placed (nested_placed (level - 1)) l i left seen b) p (unplaced left seen b)) there

pub found_none : (level : ℕ) (l : Lookup) (i left : ℕ) (seen : BaseSeen) (b : Buffer) (o : Option Found) → 0 < level
    → i < length b.items → is_context l ≡ true → asks_for_concat b ≡ false → o ≡ found_of l b.items (origin_at i) → o ≡ None
    → nested_placed level l i left seen b ≡ unplaced left seen b
found_none level l i left seen b o some inside context unasked is there =
    found_applied level l i left seen b o some inside context unasked is
    ∙ ap (λ p. option_map_or (rule_placed (nested_placed (level - 1)) l i left seen b) p (unplaced left seen b)) there

-- ---- at a place of a walk

pub walk_context : (level : ℕ) (l : Lookup) (i left : ℕ) (seen : BaseSeen) (b : Buffer) → is_context l ≡ true
    → walk_placed level l i left seen b ≡ sought_placed level l i left seen b
walk_context level l i left seen b context = ap (λ t. placed_by_charge level l i seen b
    (if t then sought_left l b.items (origin_at i) left else lookup_charged l b.items i left)) context

pub walk_plain : (level : ℕ) (l : Lookup) (i left rest : ℕ) (seen : BaseSeen) (b : Buffer) → is_context l ≡ false
    → lookup_charged l b.items i left ≡ Some rest → walk_placed level l i left seen b ≡ nested_placed level l i rest seen b
walk_plain level l i left rest seen b plain is = ap (λ t. placed_by_charge level l i seen b
    (if t then sought_left l b.items (origin_at i) left else lookup_charged l b.items i left)) plain
    ∙ ap (placed_by_charge level l i seen b) is

pub walk_stopped : (level : ℕ) (l : Lookup) (i left : ℕ) (seen : BaseSeen) (b : Buffer) → is_context l ≡ false
    → lookup_charged l b.items i left ≡ None → walk_placed level l i left seen b ≡ unplaced 0 seen b
walk_stopped level l i left seen b plain is = ap (λ t. placed_by_charge level l i seen b
    (if t then sought_left l b.items (origin_at i) left else lookup_charged l b.items i left)) plain
    ∙ ap (placed_by_charge level l i seen b) is

pub walk_tried : (l : Lookup) (s : Walk) → tried l s ≡ gone_on s.at (walk_placed LEVELS l s.at s.left s.seen s.buffer)
walk_tried l s = by_charge (place_charged l s.buffer.items (origin_at s.at) s.left)
  where
    by_charge : (o : Option ℕ) → option_map_or (tried_within l s) o (record s { at = s.at + 1; left = 0 })
        ≡ gone_on s.at (placed_by_charge LEVELS l s.at s.seen s.buffer o)
    by_charge None = refl
    by_charge (Some left) = refl

-- ---- where a rule names the lookup

pub named_context : (level : ℕ) (l : Lookup) (i left rest : ℕ) (seen : BaseSeen) (b : Buffer) → is_context l ≡ true
    → charged (steps_work l + NESTED_WORK) left ≡ Some rest
    → named_placed level l i left seen b ≡ sought_placed level l i rest seen b
named_context level l i left rest seen b context paid = ap (λ t. placed_by_charge level l i seen b
    (if t then option_and_then (sought_left l b.items (origin_at i)) (charged (steps_work l + NESTED_WORK) left)
    else nested_charged l b.items i left)) context
    ∙ ap (λ o. placed_by_charge level l i seen b (option_and_then (sought_left l b.items (origin_at i)) o)) paid

pub named_unpaid : (level : ℕ) (l : Lookup) (i left : ℕ) (seen : BaseSeen) (b : Buffer) → is_context l ≡ true
    → charged (steps_work l + NESTED_WORK) left ≡ None → named_placed level l i left seen b ≡ unplaced 0 seen b
named_unpaid level l i left seen b context paid = ap (λ t. placed_by_charge level l i seen b
    (if t then option_and_then (sought_left l b.items (origin_at i)) (charged (steps_work l + NESTED_WORK) left)
    else nested_charged l b.items i left)) context
    ∙ ap (λ o. placed_by_charge level l i seen b (option_and_then (sought_left l b.items (origin_at i)) o)) paid

pub named_plain : (level : ℕ) (l : Lookup) (i left rest : ℕ) (seen : BaseSeen) (b : Buffer) → is_context l ≡ false
    → nested_charged l b.items i left ≡ Some rest → named_placed level l i left seen b ≡ nested_placed level l i rest seen b
named_plain level l i left rest seen b plain is = ap (λ t. placed_by_charge level l i seen b
    (if t then option_and_then (sought_left l b.items (origin_at i)) (charged (steps_work l + NESTED_WORK) left)
    else nested_charged l b.items i left)) plain
    ∙ ap (placed_by_charge level l i seen b) is

pub named_stopped : (level : ℕ) (l : Lookup) (i left : ℕ) (seen : BaseSeen) (b : Buffer) → is_context l ≡ false
    → nested_charged l b.items i left ≡ None → named_placed level l i left seen b ≡ unplaced 0 seen b
named_stopped level l i left seen b plain is = ap (λ t. placed_by_charge level l i seen b
    (if t then option_and_then (sought_left l b.items (origin_at i)) (charged (steps_work l + NESTED_WORK) left)
    else nested_charged l b.items i left)) plain
    ∙ ap (placed_by_charge level l i seen b) is

pub record_named : (level : ℕ) (s : Nest) (other : Lookup) (place : ℕ)
    → record_at_place (nested_placed level) s other place ≡ nest_of s (named_placed level other place s.left s.seen s.buffer)
record_named level s other place = by_charge (named_charged other s.buffer.items (origin_at place) s.left)
  where
    by_charge : (o : Option ℕ) → option_map_or (record_within (nested_placed level) s other place) o (spent s)
        ≡ nest_of s (placed_by_charge level other place s.seen s.buffer o)
    by_charge None = refl
    by_charge (Some left) = refl
