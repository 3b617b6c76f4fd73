-- a stage of substitution tries no more than it is charged for
use Prim.Native.Nat.{zero}
use Rattle.std.proofs.Common.{◌≡◌, ℕ, suc, ◌<◌, ◌≤◌, ◌+◌, ◌-◌, not, min, Bool, true, false, List, [], ◌∷◌, Option, Some, None, is_some, length, nat_eq, nat_lt, refl, sym, ap, ◌∙◌, subst, arith, if◌then◌else◌}
use Rattle.std.specs.List.{All, AllByRecursion}
use Rattle.std.specs.Option.{option_and_then, option_map, option_map_or, unwrap_or}
use Rattle.std.proofs.lemmas.List.Elements.{recursion_from_All}
use Rattle.std.proofs.lemmas.Bool.Decides.{nat_tests}
use Rattle.shape_font.specs.Bytes.{u16_of}
use Rattle.shape_items.specs.Buffer.{Buffer, most_countable}
use Rattle.shape_items.specs.Items.{Item}
use Rattle.layout_tables.specs.Lookups.{subtable_count_of, lookup_of}
use Rattle.layout_matching.specs.Found.{is_context, found_of}
use Rattle.layout_matching.specs.Loops.{times}
use Rattle.layout_matching.specs.Nesting.{lookup_with, record_at, target_with, target_of}
use Rattle.layout_matching.specs.Skipping.{is_on}
use Rattle.layout_matching.specs.Sought.{sought}
use Rattle.layout_matching.specs.Tries.{counted_along, counted_to_first, each_one, rules_tried, subtables_sought, Trace, nothing_tried, all_tried}
use Rattle.layout_matching.specs.Work.{charged, subtables_charged, is_plain, is_paid, lookup_charged, steps_work, NESTED_WORK, nested_charged, walk_work}
use Rattle.layout_matching.specs.declared.found.Found.{Found}
use Rattle.layout_matching.specs.declared.lookup.Lookup.{Lookup}
use Rattle.layout_matching.specs.declared.nesting.Target.{Target}
use Rattle.layout_matching.specs.declared.rules.Rule.{Rule}
use Rattle.layout_matching.specs.declared.sought.Sought.{Sought}
use Rattle.layout_matching.specs.declared.spans.Origin.{Origin}
use Rattle.layout_matching.proofs.ChargeLemmas.{clash, stays, lookup_charged-lessens}
use Rattle.layout_matching.proofs.TriesLemmas.{to-first-few, along-few, along-paid, charged-pays, subtables-pay, sought-pays, subtables-few, steps-cover, walk-covers, plain-alone, paid-plain}
use Rattle.layout_substitution.specs.Applied.{Applied, unapplied}
use Rattle.layout_substitution.specs.Edits.{item_at, is_inside, is_past, concat_marked}
use Rattle.layout_substitution.specs.Kinds.{lookup_applied}
use Rattle.layout_substitution.specs.Tries.{subtables_asked, ligatures_tried}
use Rattle.layout_substitution.specs.declared.apply.Spot.{Spot}
use Rattle.layout_substitution.proofs.LeftLemmas.{left_after, lookup-less}
use Rattle.layout_substitution.proofs.TriesLemmas.{asked-few, ligatures-pay, plain-tries-none}
use Rattle.layout_context.specs.Nested.{origin_of, sought_left, place_charged, named_charged, Nest, passed_record, stopped_record, settled}
use Rattle.layout_context.specs.Nested.{nest_after, nested_spot, target_within, target_charged, target_applied, target_done, record_step, first_nest}
use Rattle.layout_context.specs.Nested.{records_made, rule_applied, tried_marked, first_rule_applied, level_applied, nested_applied}
use Rattle.layout_context.specs.Reverse.{Backwards, is_reverse, reversal_in, reversal_reach, reversed_within, reverse_step, reversed}
use Rattle.layout_context.specs.Stages.{Walk, passed, gone_on, with_left, tried_within, tried, lookup_step, next_spot, first_walk, walked, gone_back}
use Rattle.layout_context.specs.Stages.{gone_over, walk_charged, looked_up, all_looked_up, stage_begun, stage_made, substituted, most_levels}
use Rattle.layout_context.specs.Tries.{subtables_tried, tries_within, target_tries, record_tries, rule_tries, named_tries, others_tried, nested_tries}
use Rattle.layout_context.specs.Tries.{tried_with, step_tries, walk_tries, reversals_tried, reverse_tries, reversed_tries, over_tries, lookup_tries}
use Rattle.layout_context.specs.Tries.{lookups_tries, substitute_tries, Substitutes}
use Rattle.layout_context.specs.declared.nested.LookupRule.{LookupRule}

-- ---- at a place

subtables-few-at : (l : Lookup) (spot : Spot) (b : Buffer) → subtables_tried l spot b ≤ subtable_count_of l.table.now l.place
subtables-few-at l spot b = by_kind (is_context l)
  where
    by_kind : (t : Bool) → (if t then subtables_sought l b.items (origin_of spot b) else subtables_asked l spot b) ≤ subtable_count_of l.table.now l.place
    by_kind true = subtables-few l b.items (origin_of spot b)
    by_kind false = asked-few l spot b

-- what a lookup tries, and what is left after it: rules and ligatures are paid by the charge before it
pub record Paid (l : Lookup) (spot : Spot) (b : Buffer) (t : Trace) (rest : ℕ) : Type 0 where
  pub subtables : t.subtables ≤ subtable_count_of l.table.now l.place
  pub plain : is_plain l ≡ true → t.others + rest ≤ spot.left
  pub rules : is_context l ≡ false → (before : ℕ) → subtables_charged l b.items spot.at before ≡ Some spot.left → t.others + rest ≤ before
  pub seeks : is_context l ≡ true → (before : ℕ) (s : Sought) → sought l b.items (origin_of spot b) before ≡ Some s → s.left ≡ spot.left
      → t.others + rest ≤ before

-- by what a lookup is charged for where it isn't named
placed-paid : (l : Lookup) (spot : Spot) (b : Buffer) (before : ℕ) (t : Trace) (rest : ℕ) → Paid l spot b t rest
    → place_charged l b.items (origin_of spot b) before ≡ Some spot.left → t.others + rest ≤ before
placed-paid l spot b before t rest made is = by_kind (is_context l) refl is
  where
    by_sought : is_context l ≡ true → (o : Option Sought) → sought l b.items (origin_of spot b) before ≡ o
        → option_map (λ (s : Sought). s.left) o ≡ Some spot.left → t.others + rest ≤ before
    by_sought context None there e = clash spot.left e
    by_sought context (Some s) there e = made.seeks context before s there (ap (λ (o : Option ℕ). option_map_or (λ n. n) o 0) e)

    by_paid : is_context l ≡ false → (u : Bool) → is_paid l (item_at b spot.at) ≡ u
        → (if u then Some before else subtables_charged l b.items spot.at before) ≡ Some spot.left → t.others + rest ≤ before
    by_paid plain true paid e =
        let free = made.plain (paid-plain l (item_at b spot.at) paid) in
        let same = stays before spot.left e in
        omega (arith, free, same)
    by_paid plain false paid e = made.rules plain before e

    by_kind : (u : Bool) → is_context l ≡ u
        → (if u then sought_left l b.items (origin_of spot b) before else lookup_charged l b.items spot.at before) ≡ Some spot.left
        → t.others + rest ≤ before
    by_kind true context e = by_sought context (sought l b.items (origin_of spot b) before) refl e
    by_kind false plain e = by_paid plain (is_paid l (item_at b spot.at)) refl e

-- and where it is
named-all : (l : Lookup) (spot : Spot) (b : Buffer) (before : ℕ) (t : Trace) (rest : ℕ) → Paid l spot b t rest
    → named_charged l b.items (origin_of spot b) before ≡ Some spot.left → all_tried t + rest ≤ before
named-all l spot b before t rest made is = by_kind (is_context l) refl is
  where
    work : ℕ
    work = steps_work l + NESTED_WORK

    -- what is charged first pays for the subtables
    by_others : (mid : ℕ) → work + mid ≤ before → t.others + rest ≤ mid → all_tried t + rest ≤ before
    by_others mid first others =
        let few = made.subtables in
        let cover = steps-cover l in
        omega (arith, first, others, few, cover)

    by_sought : is_context l ≡ true → (mid : ℕ) → (o : Option Sought) → sought l b.items (origin_of spot b) mid ≡ o
        → option_map (λ (s : Sought). s.left) o ≡ Some spot.left → t.others + rest ≤ mid
    by_sought context mid None there e = clash spot.left e
    by_sought context mid (Some s) there e = made.seeks context mid s there (ap (λ (o : Option ℕ). option_map_or (λ n. n) o 0) e)

    by_seeking : is_context l ≡ true → (o : Option ℕ) → ((mid : ℕ) → o ≡ Some mid → work + mid ≤ before)
        → option_and_then (sought_left l b.items (origin_of spot b)) o ≡ Some spot.left → all_tried t + rest ≤ before
    by_seeking context None first e = clash spot.left e
    by_seeking context (Some mid) first e =
        by_others mid (first mid refl) (by_sought context mid (sought l b.items (origin_of spot b) mid) refl e)

    by_rules : is_context l ≡ false → (o : Option ℕ) → ((mid : ℕ) → o ≡ Some mid → work + mid ≤ before)
        → option_and_then (subtables_charged l b.items spot.at) o ≡ Some spot.left → all_tried t + rest ≤ before
    by_rules plain None first e = clash spot.left e
    by_rules plain (Some mid) first e = by_others mid (first mid refl) (made.rules plain mid e)

    by_kind : (u : Bool) → is_context l ≡ u
        → (if u then option_and_then (sought_left l b.items (origin_of spot b)) (charged work before) else nested_charged l b.items spot.at before)
        ≡ Some spot.left → all_tried t + rest ≤ before
    by_kind true context e = by_seeking context (charged work before) (λ mid. charged-pays work before mid) e
    by_kind false plain e = by_rules plain (charged work before) (λ mid. charged-pays work before mid) e

abbrev pub NextPaid : (Lookup → Spot → Buffer → Applied) → (Lookup → Spot → Buffer → Trace) → Type 0
NextPaid next deeper = (l : Lookup) → l.positioning ≡ false → (spot : Spot) (b : Buffer)
    → Paid l spot b (deeper l spot b) (left_after spot (next l spot b))

pub unwrap-left : (o : Option Spot) (spot : Spot) → (unwrap_or o spot).left ≡ option_map_or (λ (s : Spot). s.left) o spot.left
unwrap-left None spot = refl
unwrap-left (Some next) spot = refl

-- ---- lookups that are named

-- they are of the same table
pub target-table : (l : Lookup) (rule : Rule) (places : List ℕ) (r : ℕ) (t : Target) → target_of l rule places r ≡ Some t
    → t.lookup.positioning ≡ l.positioning
target-table l rule places r t is = by_index (nat_lt index (length places)) is
  where
    index : ℕ
    index = u16_of l.table.now (record_at rule r)

    by_lookup : (o : Option ℕ) → option_map (λ place. target_with places index (lookup_with l place)) o ≡ Some t
        → t.lookup.positioning ≡ l.positioning
    by_lookup None e = clash t e
    by_lookup (Some place) e =
        sym (ap (λ (o : Option Target). option_map_or (λ (u : Target). u.lookup.positioning) o l.positioning) e)

    by_index : (u : Bool)
        → (if u then option_map (λ place. target_with places index (lookup_with l place))
        (lookup_of l.table.now (u16_of l.table.now (record_at rule r + 2))) else None) ≡ Some t
        → t.lookup.positioning ≡ l.positioning
    by_index true e = by_lookup (lookup_of l.table.now (u16_of l.table.now (record_at rule r + 2))) e
    by_index false e = clash t e

module _ (next : Lookup → Spot → Buffer → Applied) (deeper : Lookup → Spot → Buffer → Trace) (below : NextPaid next deeper) where
  target-paid : (s : Nest) (t : Target) → t.lookup.positioning ≡ false
      → target_tries deeper s t + (target_applied next s t).progress.spot.left ≤ s.progress.spot.left
  target-paid s t gsub = by_inside (is_inside t.place s.buffer)
    where
      named : ℕ → Spot
      named left = nested_spot s.progress.spot t.place left

      by_charge : (o : Option ℕ)
          → named_charged t.lookup s.buffer.items (origin_of (named s.progress.spot.left) s.buffer) s.progress.spot.left ≡ o
          → option_map_or (tries_within deeper s t) o 0
          + (option_map_or (target_within next s t) o (record s { progress = stopped_record s.progress })).progress.spot.left ≤ s.progress.spot.left
      by_charge None is = omega arith
      by_charge (Some left) is =
          let made = next t.lookup (named left) s.buffer in
          let paid = named-all t.lookup (named left) s.buffer s.progress.spot.left (deeper t.lookup (named left) s.buffer)
          (left_after (named left) made) (below t.lookup gsub (named left) s.buffer) is in
          let after = unwrap-left made.next (named left) in
          omega (arith, paid, after)

      by_inside : (u : Bool)
          → (if not u then 0 else option_map_or (tries_within deeper s t) (target_charged s t) 0)
          + (if not u then record s { progress = passed_record s.progress }
          else option_map_or (target_within next s t) (target_charged s t) (record s { progress = stopped_record s.progress })).progress.spot.left
          ≤ s.progress.spot.left
      by_inside true = by_charge (target_charged s t) refl
      by_inside false = omega arith

  pub record-paid : (named : LookupRule) → named.lookup.positioning ≡ false → (s : Nest)
      → record_tries deeper named s + (record_step next named s).progress.spot.left ≤ s.progress.spot.left
  record-paid named gsub s = by_stopped s.progress.stopped
    where
      by_target : (o : Option Target) → ((t : Target) → o ≡ Some t → t.lookup.positioning ≡ false)
          → option_map_or (target_tries deeper s) o 0 + (target_done next s o).progress.spot.left ≤ s.progress.spot.left
      by_target None each = omega arith
      by_target (Some t) each = target-paid s t (each t refl)

      by_stopped : (u : Bool)
          → (if u then 0 else option_map_or (target_tries deeper s) (target_of named.lookup named.rule s.places s.progress.r) 0)
          + (if u then record s { progress = passed_record s.progress }
          else target_done next s (target_of named.lookup named.rule s.places s.progress.r)).progress.spot.left ≤ s.progress.spot.left
      by_stopped true = omega arith
      by_stopped false =
          by_target (target_of named.lookup named.rule s.places s.progress.r)
          (λ t is. target-table named.lookup named.rule s.places s.progress.r t is ∙ gsub)

  rules-paid : (l : Lookup) → l.positioning ≡ false → (spot : Spot) (b : Buffer)
      → named_tries next deeper l spot b + left_after spot (first_rule_applied next l spot b) ≤ spot.left
  rules-paid l gsub spot b = by_found (found_of l b.items (origin_of spot b))
    where
      by_found : (o : Option Found)
          → option_map_or (rule_tries next deeper l spot b) o 0
          + left_after spot (option_map_or (rule_applied next l spot b) o (unapplied b)) ≤ spot.left
      by_found None = omega arith
      by_found (Some found) =
          along-paid (λ (n : Nest). n.progress.spot.left) (record_tries deeper (record { lookup = l; rule = found.rule }))
          (record_step next (record { lookup = l; rule = found.rule })) (record-paid (record { lookup = l; rule = found.rule }) gsub)
          found.rule.count (first_nest l spot b found)

  level-paid : (l : Lookup) → l.positioning ≡ false → (spot : Spot) (b : Buffer)
      → Paid l spot b (record { subtables = subtables_tried l spot b; others = others_tried next deeper l spot b })
      (left_after spot (level_applied next l spot b))
  level-paid l gsub spot b = record {
    subtables = subtables-few-at l spot b;
    plain = λ plain. by_plain (is_context l) (plain-alone l plain) plain;
    rules = λ no before is. by_rules (is_context l) no before is;
    seeks = λ context before s is left. by_seeks (is_context l) context before s is left;
  }
    where
      marked : Buffer
      marked = tried_marked l spot b

      less : left_after spot (lookup_applied l spot b) ≤ spot.left
      less = lookup-less l spot b

      others : Bool → ℕ
      others t = if t then rules_tried l b.items (origin_of spot b) + named_tries next deeper l spot marked else ligatures_tried l spot b

      applied : Bool → Applied
      applied t = if t then first_rule_applied next l spot marked else lookup_applied l spot b

      by_plain : (t : Bool) → t ≡ false → is_plain l ≡ true → others t + left_after spot (applied t) ≤ spot.left
      by_plain true never plain = absurd (let bad : true ≡ false = never in cc)
      by_plain false never plain = let none = plain-tries-none l gsub plain spot b in omega (arith, none, less)

      by_rules : (t : Bool) → t ≡ false → (before : ℕ) → subtables_charged l b.items spot.at before ≡ Some spot.left
          → others t + left_after spot (applied t) ≤ before
      by_rules true never before is = absurd (let bad : true ≡ false = never in cc)
      by_rules false never before is = let paid = ligatures-pay l gsub spot b before spot.left is in omega (arith, paid, less)

      by_seeks : (t : Bool) → t ≡ true → (before : ℕ) (s : Sought) → sought l b.items (origin_of spot b) before ≡ Some s → s.left ≡ spot.left
          → others t + left_after spot (applied t) ≤ before
      by_seeks true context before s is left =
          let rules = sought-pays l b.items (origin_of spot b) before s is in
          let named = rules-paid l gsub spot marked in
          omega (arith, rules, named, left)
      by_seeks false never before s is left = absurd (let bad : false ≡ true = never in cc)

nothing-paid : (l : Lookup) (spot : Spot) (b : Buffer) → l.positioning ≡ false → Paid l spot b nothing_tried spot.left
nothing-paid l spot b gsub = record {
  subtables = omega arith;
  plain = λ plain. omega arith;
  rules = λ no before is. let less = ligatures-pay l gsub spot b before spot.left is in omega (arith, less);
  seeks = λ context before s is left. let less = sought-pays l b.items (origin_of spot b) before s is in omega (arith, less, left);
}

pub nested-paid : (level : ℕ) → NextPaid (nested_applied level) (nested_tries level)
nested-paid zero l gsub spot b = nothing-paid l spot b gsub
nested-paid (suc level) l gsub spot b =
    by_past (is_past b) (is_inside spot.at b) (level-paid (nested_applied level) (nested_tries level) (nested-paid level) l gsub spot b)
  where
    there : Trace
    there = record { subtables = subtables_tried l spot b; others = others_tried (nested_applied level) (nested_tries level) l spot b }

    made : Applied
    made = level_applied (nested_applied level) l spot b

    by_past : (t u : Bool) → Paid l spot b there (left_after spot made)
        → Paid l spot b (if t then nothing_tried else (if u then there else nothing_tried))
        (left_after spot (if t then unapplied b else (if u then made else unapplied b)))
    by_past true u paid = nothing-paid l spot b gsub
    by_past false true paid = paid
    by_past false false paid = nothing-paid l spot b gsub

-- ---- over a buffer

module _ (levels : ℕ) (l : Lookup) (gsub : l.positioning ≡ false) where
  abbrev count : ℕ
  count = subtable_count_of l.table.now l.place

  -- at each step of a walk
  step-few : (s : Walk) → (step_tries levels l s).subtables ≤ count
  step-few s = by_past (is_past s.buffer) (is_inside s.spot.at s.buffer) (is_on l (item_at s.buffer s.spot.at))
    where
      charge : Option ℕ
      charge = place_charged l s.buffer.items (origin_of s.spot s.buffer) s.spot.left

      by_charge : (o : Option ℕ) → (option_map_or (tried_with levels l s) o nothing_tried).subtables ≤ count
      by_charge None = omega arith
      by_charge (Some left) = (nested-paid levels l gsub (with_left left s).spot s.buffer).subtables

      by_past : (t u v : Bool)
          → (if t then nothing_tried else (if u then (if v then option_map_or (tried_with levels l s) charge nothing_tried else nothing_tried)
          else nothing_tried)).subtables ≤ count
      by_past true u v = omega arith
      by_past false false v = omega arith
      by_past false true true = by_charge charge
      by_past false true false = omega arith

  pub step-paid : (s : Walk) → (step_tries levels l s).others + (lookup_step (nested_applied levels l) l s).spot.left ≤ s.spot.left
  step-paid s = by_past (is_past s.buffer) (is_inside s.spot.at s.buffer) (is_on l (item_at s.buffer s.spot.at))
    where
      charge : Option ℕ
      charge = place_charged l s.buffer.items (origin_of s.spot s.buffer) s.spot.left

      by_charge : (o : Option ℕ) → charge ≡ o
          → (option_map_or (tried_with levels l s) o nothing_tried).others
          + (option_map_or (tried_within (nested_applied levels l) s) o (passed (with_left 0 s))).spot.left ≤ s.spot.left
      by_charge None is = omega arith
      by_charge (Some left) is =
          let spot = (with_left left s).spot in
          let made = nested_applied levels l spot s.buffer in
          let paid = placed-paid l spot s.buffer s.spot.left (nested_tries levels l spot s.buffer) (left_after spot made)
          (nested-paid levels l gsub spot s.buffer) is in
          let after = unwrap-left made.next (next_spot spot) in
          omega (arith, paid, after)

      by_past : (t u v : Bool)
          → (if t then nothing_tried else (if u then (if v then option_map_or (tried_with levels l s) charge nothing_tried else nothing_tried)
          else nothing_tried)).others
          + (if t then s else (if u then (if v then tried (nested_applied levels l) l s else passed s) else s)).spot.left ≤ s.spot.left
      by_past true u v = omega arith
      by_past false false v = omega arith
      by_past false true true = by_charge charge refl
      by_past false true false = omega arith

  -- backwards
  reversals-few : (b : Buffer) (at : ℕ) → reversals_tried l b at ≤ count
  reversals-few b at = by_on (is_on l (item_at b at))
    where
      marked : Buffer
      marked = concat_marked (reversal_reach l b.items at) b

      by_on : (t : Bool) → (if t then counted_to_first each_one (reversal_in l marked.items at) count 0 else 0) ≤ count
      by_on true = to-first-few (reversal_in l marked.items at) count 0
      by_on false = omega arith

  reverse-few : (s : Backwards) → reverse_tries l s ≤ count
  reverse-few s = by_start (nat_eq s.at 0)
    where
      by_charge : (o : Option ℕ) → option_map_or (λ left. reversals_tried l s.buffer (s.at - 1)) o 0 ≤ count
      by_charge None = omega arith
      by_charge (Some left) = reversals-few s.buffer (s.at - 1)

      by_start : (t : Bool)
          → (if t then 0 else option_map_or (λ left. reversals_tried l s.buffer (s.at - 1))
          (lookup_charged l s.buffer.items (s.at - 1) s.left) 0) ≤ count
      by_start true = omega arith
      by_start false = by_charge (lookup_charged l s.buffer.items (s.at - 1) s.left)

  pub reverse-less : (s : Backwards) → 0 + (reverse_step l s).left ≤ s.left
  reverse-less s = by_start (nat_eq s.at 0)
    where
      by_charge : (o : Option ℕ) → ((rest : ℕ) → o ≡ Some rest → rest ≤ s.left)
          → 0 + (option_map_or (reversed_within l s) o (record s { at = s.at - 1; left = 0 })).left ≤ s.left
      by_charge None less = omega arith
      by_charge (Some left) less = let low = less left refl in omega (arith, low)

      by_start : (t : Bool)
          → 0 + (if t then s else option_map_or (reversed_within l s) (lookup_charged l s.buffer.items (s.at - 1) s.left)
          (record s { at = s.at - 1; left = 0 })).left ≤ s.left
      by_start true = omega arith
      by_start false =
          by_charge (lookup_charged l s.buffer.items (s.at - 1) s.left) (λ rest. lookup_charged-lessens l s.buffer.items (s.at - 1) s.left rest)

  -- a walk over the buffer, whose subtables are paid before
  over-paid : (s : Walk) (work : ℕ) → work ≡ walk_work l (length s.buffer.items)
      → over_tries levels l s + (gone_over levels l s).spot.left ≤ work + s.spot.left
  over-paid s work is = by_way (is_reverse l)
    where
      n : ℕ
      n = length s.buffer.items

      back : Backwards
      back = record { buffer = s.buffer; at = n; left = s.spot.left }

      start : Walk
      start = first_walk s

      subtables : ℕ
      subtables = counted_along (λ (w : Walk). (step_tries levels l w).subtables) (lookup_step (nested_applied levels l) l) n start

      by_way : (t : Bool)
          → (if t then reversed_tries l s.spot.left s.buffer else walk_tries levels l s)
          + (if t then gone_back s (reversed l s.spot.left s.buffer) else walked (nested_applied levels l) l s).spot.left ≤ work + s.spot.left
      by_way true =
          let covered = walk-covers l n (counted_along (reverse_tries l) (reverse_step l) n back)
          (along-few (reverse_tries l) (reverse_step l) count reverse-few n back) in
          let left = along-paid (λ (t : Backwards). t.left) (λ (t : Backwards). 0) (reverse_step l) reverse-less n back in
          omega (arith, covered, left, is)
      by_way false =
          let covered = walk-covers l n subtables
          (along-few (λ (w : Walk). (step_tries levels l w).subtables) (lookup_step (nested_applied levels l) l) count step-few n start) in
          let others = along-paid (λ (w : Walk). w.spot.left) (λ (w : Walk). (step_tries levels l w).others)
          (lookup_step (nested_applied levels l) l) step-paid n start in
          omega (arith, covered, others, is)

  pub lookup-paid : (s : Walk) → lookup_tries levels l s + (looked_up levels l s).spot.left ≤ s.spot.left
  lookup-paid s = by_work (nat_lt s.spot.left work) refl
    where
      work : ℕ
      work = walk_work l (length s.buffer.items)

      by_work : (t : Bool) → nat_lt s.spot.left work ≡ t
          → (if t then 0 else over_tries levels l (walk_charged l s))
          + (if t then walk_charged l s else gone_over levels l (walk_charged l s)).spot.left ≤ s.spot.left
      by_work true is = omega arith
      by_work false is =
          let enough : work ≤ s.spot.left = grind (arith, nat_tests, is) in
          let over = over-paid (walk_charged l s) work refl in
          omega (arith, enough, over)

-- ---- a stage

pub lookups-paid : (levels : ℕ) (ls : List Lookup) → AllByRecursion Substitutes ls → (s : Walk)
    → lookups_tries levels ls s + (all_looked_up levels ls s).spot.left ≤ s.spot.left
lookups-paid levels [] each s = omega arith
lookups-paid levels (l ∷ ls) each s =
    let first = lookup-paid levels l each.0 s in
    let later = lookups-paid levels ls each.1 (looked_up levels l s) in
    omega (arith, first, later)

pub tries-paid : (ls : List Lookup) → All Substitutes ls → (b : Buffer) → substitute_tries ls b + (substituted ls b).max_ops ≤ b.max_ops
unfolding substituted
tries-paid ls each b = lookups-paid most_levels ls (recursion_from_All Substitutes ls each) (stage_begun b)
