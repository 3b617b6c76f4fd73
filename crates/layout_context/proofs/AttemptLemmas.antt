-- a lookup at a place: what it is charged, what it makes, and what its walk or its rule makes of that
use Rattle.std.proofs.Common.{◌≡◌, ℕ, ◌+◌, ◌-◌, ◌<◌, ◌≤◌, not, true, false, Option, Some, None, length, nat_lt, refl, sym, ap, ◌∙◌, arith, if◌then◌else◌}
use Rattle.std.proofs.lemmas.Bool.Decides.{nat_tests}
use Rattle.std.specs.Option.{option_and_then, option_map, option_map_or, unwrap_or}
use Rattle.shape_items.specs.Buffer.{Buffer, limit_of}
use Rattle.layout_matching.specs.Found.{is_context, found_of}
use Rattle.layout_matching.specs.Sought.{sought}
use Rattle.layout_matching.specs.Tried.{reach_of}
use Rattle.layout_matching.specs.Work.{charged, nested_charged, lookup_charged, steps_work, NESTED_WORK}
use Rattle.layout_matching.specs.declared.found.Found.{Found}
use Rattle.layout_matching.specs.declared.lookup.Lookup.{Lookup}
use Rattle.layout_matching.specs.declared.nesting.Target.{Target}
use Rattle.layout_matching.specs.declared.sought.Sought.{Sought}
use Rattle.layout_substitution.specs.Applied.{unapplied}
use Rattle.layout_substitution.specs.Edits.{asks_for_concat, is_inside, is_past}
use Rattle.layout_substitution.specs.Kinds.{lookup_applied}
use Rattle.layout_substitution.specs.declared.apply.Spot.{Spot}
use Rattle.layout_substitution.proofs.EditLemmas.{concat_marked_unasked}
use Rattle.layout_context.specs.Nested.{Nest, Attempt, attempt_within, attempt_by, attempt, place_attempt, named_attempt, sought_left, place_charged}
use Rattle.layout_context.specs.Nested.{target_charged, nested_spot, stopped_record, nest_after, passed_record, target_within, target_applied}
use Rattle.layout_context.specs.Nested.{rule_applied, origin_of, tried_marked, first_rule_applied, nested_applied}
use Rattle.layout_context.specs.Stages.{Walk, next_spot, passed, with_left, tried_within, tried}
use Rattle.layout_context.specs.declared.nested.Tried.{Tried}
use Rattle.layout_context.proofs.NestedLemmas.{nested_level}

-- ---- a lookup of context

pub sought_some : (level : ℕ) (l : Lookup) (spot : Spot) (b : Buffer) (s : Sought) → sought l b.items (origin_of spot b) spot.left ≡ Some s
    → attempt level l spot b ≡ attempt_within level l spot b s.left
sought_some level l spot b s is = ap (λ o. attempt_by level l spot b (option_map (λ (t : Sought). t.left) o)) is

pub sought_none : (level : ℕ) (l : Lookup) (spot : Spot) (b : Buffer) → sought l b.items (origin_of spot b) spot.left ≡ None
    → attempt level l spot b ≡ record { buffer = b; tried = None }
sought_none level l spot b is = ap (λ o. attempt_by level l spot b (option_map (λ (t : Sought). t.left) o)) is

-- where nothing is marked that was looked at before, the rule that is found is applied
pub found_applied : (level : ℕ) (l : Lookup) (spot : Spot) (b : Buffer) (found : Option Found) → 0 < level → is_past b ≡ false
    → is_inside spot.at b ≡ true → is_context l ≡ true → asks_for_concat b ≡ false → found ≡ found_of l b.items (origin_of spot b)
    → nested_applied level l spot b ≡ option_map_or (rule_applied (nested_applied (level - 1)) l spot b) found (unapplied b)
found_applied level l spot b found some within inside context unasked is =
    let next = nested_applied (level - 1) in
    nested_level level l spot b some within inside
    ∙ ap (λ t. if t then first_rule_applied next l spot (tried_marked l spot b) else lookup_applied l spot b) context
    ∙ ap (first_rule_applied next l spot) (concat_marked_unasked (reach_of l b.items (origin_of spot b)) b unasked)
    ∙ ap (λ o. option_map_or (rule_applied next l spot b) o (unapplied b)) (sym is)

pub found_some : (level : ℕ) (l : Lookup) (spot : Spot) (b : Buffer) (o : Option Found) (found : Found) (limit count : ℕ)
    → 0 < level → limit ≡ limit_of b → count ≡ length b.items → count ≤ limit → spot.at < length b.items
    → is_context l ≡ true → asks_for_concat b ≡ false → o ≡ found_of l b.items (origin_of spot b) → o ≡ Some found
    → nested_applied level l spot b ≡ rule_applied (nested_applied (level - 1)) l spot b found
found_some level l spot b o found limit count some of_limit of_count within inside context unasked is there =
    let short : nat_lt limit count ≡ false = grind (arith, nat_tests, within) in
    let fits : is_past b ≡ false = sym (ap (λ m. nat_lt m count) of_limit ∙ ap (nat_lt (limit_of b)) of_count) ∙ short in
    let there_is : is_inside spot.at b ≡ true = grind (arith, nat_tests, inside) in
    found_applied level l spot b o some fits there_is context unasked is
    ∙ ap (λ p. option_map_or (rule_applied (nested_applied (level - 1)) l spot b) p (unapplied b)) there

-- ---- at a place of a walk

pub place_context : (level : ℕ) (l : Lookup) (spot : Spot) (b : Buffer) → is_context l ≡ true
    → place_attempt level l spot b ≡ attempt level l spot b
place_context level l spot b context = ap (λ t. attempt_by level l spot b
    (if t then sought_left l b.items (origin_of spot b) spot.left else lookup_charged l b.items spot.at spot.left)) context

pub place_plain : (level : ℕ) (l : Lookup) (spot : Spot) (b : Buffer) (charge : Option ℕ) → is_context l ≡ false
    → lookup_charged l b.items spot.at spot.left ≡ charge → place_attempt level l spot b ≡ attempt_by level l spot b charge
place_plain level l spot b charge plain is = ap (λ t. attempt_by level l spot b
    (if t then sought_left l b.items (origin_of spot b) spot.left else lookup_charged l b.items spot.at spot.left)) plain
    ∙ ap (attempt_by level l spot b) is

abbrev pub gone_from : Walk → Attempt → Walk
gone_from s made = record {
  buffer = made.buffer;
  spot = option_map_or (λ (t : Tried). unwrap_or t.next (record (next_spot s.spot) { left = t.left })) made.tried
      (record (next_spot s.spot) { left = 0 });
}

pub walk_tried : (levels : ℕ) (l : Lookup) (s : Walk) → tried (nested_applied levels l) l s ≡ gone_from s (place_attempt levels l s.spot s.buffer)
walk_tried levels l s = by_charge (place_charged l s.buffer.items (origin_of s.spot s.buffer) s.spot.left)
  where
    by_charge : (o : Option ℕ) → option_map_or (tried_within (nested_applied levels l) s) o (passed (with_left 0 s))
        ≡ gone_from s (attempt_by levels l s.spot s.buffer o)
    by_charge None = refl
    by_charge (Some left) = refl

-- ---- where a rule names the lookup

pub named_context : (level : ℕ) (l : Lookup) (spot : Spot) (b : Buffer) (rest : ℕ) → is_context l ≡ true
    → charged (steps_work l + NESTED_WORK) spot.left ≡ Some rest
    → named_attempt level l spot b ≡ attempt level l (record spot { left = rest }) b
named_context level l spot b rest context paid = ap (λ t. attempt_by level l spot b
    (if t then option_and_then (sought_left l b.items (origin_of spot b)) (charged (steps_work l + NESTED_WORK) spot.left)
    else nested_charged l b.items spot.at spot.left)) context
    ∙ ap (λ o. attempt_by level l spot b (option_and_then (sought_left l b.items (origin_of spot b)) o)) paid

pub named_unpaid : (level : ℕ) (l : Lookup) (spot : Spot) (b : Buffer) → is_context l ≡ true
    → charged (steps_work l + NESTED_WORK) spot.left ≡ None → named_attempt level l spot b ≡ record { buffer = b; tried = None }
named_unpaid level l spot b context paid = ap (λ t. attempt_by level l spot b
    (if t then option_and_then (sought_left l b.items (origin_of spot b)) (charged (steps_work l + NESTED_WORK) spot.left)
    else nested_charged l b.items spot.at spot.left)) context
    ∙ ap (λ o. attempt_by level l spot b (option_and_then (sought_left l b.items (origin_of spot b)) o)) paid

pub named_plain : (level : ℕ) (l : Lookup) (spot : Spot) (b : Buffer) (charge : Option ℕ) → is_context l ≡ false
    → nested_charged l b.items spot.at spot.left ≡ charge → named_attempt level l spot b ≡ attempt_by level l spot b charge
named_plain level l spot b charge plain is = ap (λ t. attempt_by level l spot b
    (if t then option_and_then (sought_left l b.items (origin_of spot b)) (charged (steps_work l + NESTED_WORK) spot.left)
    else nested_charged l b.items spot.at spot.left)) plain
    ∙ ap (attempt_by level l spot b) is

abbrev pub nest_from : Nest → Target → Attempt → Nest
nest_from s t made = option_map_or (λ (u : Tried). nest_after s t (nested_spot s.progress.spot t.place u.left)
    (record { buffer = made.buffer; next = u.next })) made.tried (record s { progress = stopped_record s.progress })

pub target_tried : (level : ℕ) (s : Nest) (t : Target) → is_inside t.place s.buffer ≡ true
    → target_applied (nested_applied level) s t
    ≡ nest_from s t (named_attempt level t.lookup (nested_spot s.progress.spot t.place s.progress.spot.left) s.buffer)
target_tried level s t inside =
    ap (λ u. if not u then record s { progress = passed_record s.progress }
    else option_map_or (target_within (nested_applied level) s t) (target_charged s t) (record s { progress = stopped_record s.progress })) inside
    ∙ by_charge (target_charged s t)
  where
    spot : Spot
    spot = nested_spot s.progress.spot t.place s.progress.spot.left

    by_charge : (o : Option ℕ)
        → option_map_or (target_within (nested_applied level) s t) o (record s { progress = stopped_record s.progress })
        ≡ nest_from s t (attempt_by level t.lookup spot s.buffer o)
    by_charge None = refl
    by_charge (Some left) = refl
