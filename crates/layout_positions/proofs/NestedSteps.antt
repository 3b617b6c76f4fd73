-- what a lookup that names no other keeps, nested lookups and whole walks keep
use Prim.Native.Nat.{zero}
use Rattle.std.proofs.Common.{ℕ, suc, ◌+◌, Bool, true, false, List, [], ◌∷◌, Option, Some, None, fold, length, nat_eq, nat_lt, if◌then◌else◌}
use Rattle.std.specs.Option.{option_map_or}
use Rattle.shape_items.specs.Buffer.{Buffer}
use Rattle.layout_matching.specs.Found.{found_of, is_context}
use Rattle.layout_matching.specs.Loops.{times}
use Rattle.layout_matching.specs.Skipping.{nth, is_on}
use Rattle.layout_matching.specs.Tried.{reach_of}
use Rattle.layout_matching.specs.Sought.{place_charged, named_charged}
use Rattle.layout_matching.specs.Work.{walk_work}
use Rattle.layout_matching.specs.declared.found.Found.{Found}
use Rattle.layout_matching.specs.declared.lookup.Lookup.{Lookup}
use Rattle.layout_matching.specs.declared.rules.Rule.{Rule}
use Rattle.layout_positions.specs.Edits.{broken, concat_marked}
use Rattle.layout_positions.specs.Nested.{named_place, named_lookup, Nest, skipped, spent, seek_charged, record_within, record_at_place, record_for}
use Rattle.layout_positions.specs.Nested.{record_step, rule_placed, origin_at, tried_concat_marked, first_rule_placed, level_placed, LEVELS}
use Rattle.layout_positions.specs.Nested.{nested_placed}
use Rattle.layout_positions.specs.Subtables.{Placing, unplaced, lookup_placed}
use Rattle.layout_positions.specs.Walk.{Walk, tried_within, lookup_step, Budgeted, first_walk, gone_over, walk_charged, lookup_applied}
use Rattle.layout_positions.specs.declared.bases.BaseSeen.{BaseSeen}

module _ (P : Buffer → Buffer → Type 0) (same : (b : Buffer) → P b b) (after : (a b c : Buffer) → P a b → P b c → P a c)
    (by_break : (start end : ℕ) (b : Buffer) → P b (broken start end b))
    (by_concat : (start end : ℕ) (b : Buffer) → P b (concat_marked start end b))
    (by_lookup : (l : Lookup) (i left : ℕ) (seen : BaseSeen) (b : Buffer) → P b (lookup_placed l i left seen b).buffer) where
  -- what is applied next keeps
  abbrev Preserves : (Lookup → ℕ → ℕ → BaseSeen → Buffer → Placing) → Type 0
  Preserves next = (l : Lookup) (i left : ℕ) (seen : BaseSeen) (b : Buffer) → P b (next l i left seen b).buffer

  times-step : {S : Type 0} (view : S → Buffer) (f : S → S) → ((s : S) → P (view s) (view (f s)))
      → (n : ℕ) (s : S) → P (view s) (view (times f n s))
  times-step view f one zero s = same (view s)
  times-step view f one (suc n) s =
      after (view s) (view (times f n s)) (view (f (times f n s))) (times-step view f one n s) (one (times f n s))

  nest-if : (t : Bool) (b : Buffer) (x y : Nest) → P b x.buffer → P b y.buffer → P b (if t then x else y).buffer
  nest-if true b x y k m = k
  nest-if false b x y k m = m

  placing-if : (t : Bool) (b : Buffer) (x y : Placing) → P b x.buffer → P b y.buffer → P b (if t then x else y).buffer
  placing-if true b x y k m = k
  placing-if false b x y k m = m

  walk-if : (t : Bool) (b : Buffer) (x y : Walk) → P b x.buffer → P b y.buffer → P b (if t then x else y).buffer
  walk-if true b x y k m = k
  walk-if false b x y k m = m

  step-place : (next : Lookup → ℕ → ℕ → BaseSeen → Buffer → Placing) → Preserves next → (s : Nest) (other : Lookup) (place : ℕ)
      → P s.buffer (record_at_place next s other place).buffer
  step-place next preserves s other place = by_charge (named_charged other s.buffer.items (origin_at place) s.left)
    where
      by_charge : (o : Option ℕ) → P s.buffer (option_map_or (record_within next s other place) o (spent s)).buffer
      by_charge None = same s.buffer
      by_charge (Some left) = preserves other place left s.seen s.buffer

  step-for : (next : Lookup → ℕ → ℕ → BaseSeen → Buffer → Placing) → Preserves next → (l : Lookup) (rule : Rule) (s : Nest) (other : Lookup)
      (o : Option ℕ) → P s.buffer (option_map_or (record_at_place next (seek_charged l rule s) other) o (skipped s)).buffer
  step-for next preserves l rule s other None = same s.buffer
  step-for next preserves l rule s other (Some place) = step-place next preserves (seek_charged l rule s) other place

  step-named : (next : Lookup → ℕ → ℕ → BaseSeen → Buffer → Placing) → Preserves next → (l : Lookup) (at : ℕ) (rule : Rule) (s : Nest)
      (o : Option Lookup) → P s.buffer (option_map_or (record_for next l at rule s) o (skipped s)).buffer
  step-named next preserves l at rule s None = same s.buffer
  step-named next preserves l at rule s (Some other) = step-for next preserves l rule s other (named_place l s.buffer.items at rule s.r)

  step-record : (next : Lookup → ℕ → ℕ → BaseSeen → Buffer → Placing) → Preserves next → (l : Lookup) (at : ℕ) (rule : Rule) (s : Nest)
      → P s.buffer (record_step next l at rule s).buffer
  step-record next preserves l at rule s =
      nest-if (nat_eq s.left 0) s.buffer (skipped s) _ (same s.buffer) (step-named next preserves l at rule s (named_lookup l rule s.r))

  step-rule : (next : Lookup → ℕ → ℕ → BaseSeen → Buffer → Placing) → Preserves next
      → (l : Lookup) (i left : ℕ) (seen : BaseSeen) (b : Buffer)
      (found : Found) → P b (rule_placed next l i left seen b found).buffer
  step-rule next preserves l i left seen b found =
      let marked = broken found.span.start found.span.end b in
      after b marked (rule_placed next l i left seen b found).buffer (by_break found.span.start found.span.end b)
      (times-step (λ (s : Nest). s.buffer) (record_step next l i found.rule)
      (step-record next preserves l i found.rule) found.rule.count
      (record { buffer = marked; seen = seen; left = left; r = 0 }))

  step-found : (next : Lookup → ℕ → ℕ → BaseSeen → Buffer → Placing) → Preserves next
      → (l : Lookup) (i left : ℕ) (seen : BaseSeen) (b : Buffer)
      (o : Option Found) → P b (option_map_or (rule_placed next l i left seen b) o (unplaced left seen b)).buffer
  step-found next preserves l i left seen b None = same b
  step-found next preserves l i left seen b (Some found) = step-rule next preserves l i left seen b found

  buffer-if : (t : Bool) (b c d : Buffer) → P b c → P b d → P b (if t then c else d)
  buffer-if true b c d x y = x
  buffer-if false b c d x y = y

  step-tried : (l : Lookup) (i : ℕ) (b : Buffer) → P b (tried_concat_marked l i b)
  step-tried l i b =
      let reach = reach_of l b.items (origin_at i) in
      buffer-if (nat_lt reach.from reach.to) b (concat_marked reach.from reach.to b) b (by_concat reach.from reach.to b) (same b)

  step-level : (next : Lookup → ℕ → ℕ → BaseSeen → Buffer → Placing) → Preserves next
      → (l : Lookup) (i left : ℕ) (seen : BaseSeen) (b : Buffer)
      → P b (level_placed next l i left seen b).buffer
  step-level next preserves l i left seen b =
      let c = tried_concat_marked l i b in
      placing-if (is_context l) b (first_rule_placed next l i left seen c) (lookup_placed l i left seen b)
      (after b c (first_rule_placed next l i left seen c).buffer (step-tried l i b)
      (step-found next preserves l i left seen c (found_of l c.items (origin_at i)))) (by_lookup l i left seen b)

  step-nested : (level : ℕ) (l : Lookup) (i left : ℕ) (seen : BaseSeen) (b : Buffer) → P b (nested_placed level l i left seen b).buffer
  step-nested zero l i left seen b = same b
  step-nested (suc level) l i left seen b =
      placing-if (nat_lt i (length b.items)) b (level_placed (nested_placed level) l i left seen b) (unplaced left seen b)
      (step-level (nested_placed level) (step-nested level) l i left seen b) (same b)

  step-try : (l : Lookup) (s : Walk) (o : Option ℕ)
      → P s.buffer (option_map_or (tried_within l s) o (record s { at = s.at + 1; left = 0 })).buffer
  step-try l s None = same s.buffer
  step-try l s (Some left) = step-nested LEVELS l s.at left s.seen s.buffer

  step-walk : (l : Lookup) (s : Walk) → P s.buffer (lookup_step l s).buffer
  step-walk l s =
      walk-if (nat_lt s.at (length s.buffer.items)) s.buffer _ s
      (walk-if (is_on l (nth s.buffer.items s.at)) s.buffer _ (record s { at = s.at + 1 })
      (step-try l s (place_charged l s.buffer.items (origin_at s.at) s.left)) (same s.buffer))
      (same s.buffer)

  step-over : (l : Lookup) (s : Budgeted) → P s.buffer (gone_over s l).buffer
  step-over l s = times-step (λ (w : Walk). w.buffer) (lookup_step l) (step-walk l) (length s.buffer.items) (first_walk s)

  pub step-lookup : (l : Lookup) (s : Budgeted) → P s.buffer (lookup_applied s l).buffer
  step-lookup l s =
      let t = walk_charged s l in
      elim (nat_lt s.left (walk_work l (length s.buffer.items))) as (λ u. P s.buffer (if u then t else gone_over t l).buffer)
      [ true ↦ same s.buffer | false ↦ step-over l t ]

  pub step-lookups : (lookups : List Lookup) (s : Budgeted) → P s.buffer (fold lookup_applied s lookups).buffer
  step-lookups [] s = same s.buffer
  step-lookups (l ∷ lookups) s =
      let here = lookup_applied s l in
      after s.buffer here.buffer (fold lookup_applied here lookups).buffer (step-lookup l s) (step-lookups lookups here)
