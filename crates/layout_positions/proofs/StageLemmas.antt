-- a run that ends with something left is the stage that counts nothing
use Prim.Native.Nat.{zero}
use Rattle.std.proofs.Common.{◌≡◌, ℕ, suc, ◌<◌, ◌+◌, ◌-◌, ◌*◌, Bool, true, false, List, [], ◌∷◌, Option, Some, None, fold, length, nat_eq, nat_lt, refl, ap, subst, ◌∙◌, arith, if◌then◌else◌}
use Rattle.std.specs.List.{All, AllByRecursion}
use Rattle.std.specs.Option.{option_map, option_map_or}
use Rattle.std.proofs.lemmas.List.Elements.{recursion_from_All}
use Rattle.std.proofs.lemmas.Bool.Decides.{nat_tests}
use Rattle.shape_font.specs.Bytes.{u16_of}
use Rattle.shape_items.specs.Buffer.{Buffer}
use Rattle.shape_items.specs.Items.{Item}
use Rattle.layout_tables.specs.Lookups.{lookup_of, subtable_count_of}
use Rattle.layout_matching.specs.Found.{found_of, is_context}
use Rattle.layout_matching.specs.Loops.{times}
use Rattle.layout_matching.specs.Nesting.{lookup_with, record_at}
use Rattle.layout_matching.specs.Skipping.{nth, is_on}
use Rattle.layout_matching.specs.Sought.{place_charged, named_charged}
use Rattle.layout_matching.specs.Tried.{reach_of}
use Rattle.layout_matching.specs.Work.{walk_work}
use Rattle.layout_matching.specs.declared.found.Found.{Found}
use Rattle.layout_matching.specs.declared.lookup.Lookup.{Lookup}
use Rattle.layout_matching.specs.declared.rules.Rule.{Rule}
use Rattle.layout_positions.specs.Attachment.{each}
use Rattle.layout_positions.specs.Edits.{broken, concat_marked}
use Rattle.layout_positions.specs.Lookups.{Applied, unapplied}
use Rattle.layout_positions.specs.Marks.{is_base_seen}
use Rattle.layout_positions.specs.Nested.{LEVELS, named_index, named_place, named_lookup, Nest, skipped, spent, record_within, record_at_place}
use Rattle.layout_positions.specs.Nested.{seek_charged, record_for, record_step, rule_placed, origin_at, tried_concat_marked, first_rule_placed}
use Rattle.layout_positions.specs.Nested.{level_placed, nested_placed}
use Rattle.layout_positions.specs.Stage.{by_subtables, at_named, by_named, by_record, by_rule, by_rules, by_level, by_lookup, Going, going_on, at_glyph, over_line, stage_applied, HasNoLaterComponents, LeavesFlags}
use Rattle.layout_positions.specs.Subtables.{Placing, unplaced, Trial, trial_step, lookup_placed}
use Rattle.layout_positions.specs.Walk.{Budgeted, Walk, tried_within, tried, lookup_step, none_seen, first_walk, gone_over, walk_charged, lookup_applied, budgeted, positioned}
use Rattle.layout_positions.specs.declared.bases.BaseSeen.{BaseSeen}
use Rattle.layout_positions.proofs.LeftLemmas.{nothing-left, some-before, trial-left, record-left, times-left, walk-less, fold-less}
use Rattle.layout_positions.proofs.SightLemmas.{IsReady}
use Rattle.layout_positions.proofs.TrialLemmas.{ready-broken, ready-marked, trials-agree}

module _ (l : Lookup) (leaves : LeavesFlags l) where
  abbrev Ready : Buffer → BaseSeen → Type 0
  Ready b seen = IsReady l b.items seen

  abbrev SeesAs : Lookup → Type 0
  SeesAs other = (item : Item) → is_base_seen other item ≡ is_base_seen l item

  -- ---- what is applied at a place

  record Agrees (left : ℕ) (p : Placing) (a : Applied) : Type 0 where
    buffer : p.buffer ≡ a.buffer
    next : p.next ≡ a.next
    ready : Ready p.buffer p.seen
    some : 0 < left

  -- a lookup that isn't one of context
  plain-agrees : (other : Lookup) → SeesAs other → (i left : ℕ) (seen : BaseSeen) (b : Buffer) → Ready b seen
      → 0 < (lookup_placed other i left seen b).left → Agrees left (lookup_placed other i left seen b) (by_subtables other i b)
  plain-agrees other sees i left seen b ready some =
      let count = subtable_count_of other.table.now other.place in
      let s : Trial = record { buffer = b; next = None; seen = seen; left = left; subtable = 0 } in
      let end = trials-agree l leaves other sees i count s (unapplied b)
      (record { number = refl; agrees = record { buffer = refl; next = refl; ready = ready } }) some in
      record {
        buffer = end.agrees.buffer;
        next = end.agrees.next;
        ready = end.agrees.ready;
        some = times-left (λ (t : Trial). t.left) (trial_step other i) (trial-left other i) count s some;
      }

  -- ---- lookups of context

  -- what is to be shown of the lookups that are named
  abbrev NextAgrees : (Lookup → ℕ → ℕ → BaseSeen → Buffer → Placing) → (Lookup → ℕ → Buffer → Applied) → Type 0
  NextAgrees next plain = (other : Lookup) → SeesAs other → (i left : ℕ) (seen : BaseSeen) (b : Buffer) → Ready b seen
      → 0 < (next other i left seen b).left → Agrees left (next other i left seen b) (plain other i b)

  record NestAgrees (left r : ℕ) (s : Nest) (b : Buffer) : Type 0 where
    buffer : s.buffer ≡ b
    number : s.r ≡ r
    ready : Ready s.buffer s.seen
    some : 0 < left

  module _ (next : Lookup → ℕ → ℕ → BaseSeen → Buffer → Placing) (plain : Lookup → ℕ → Buffer → Applied) (deeper : NextAgrees next plain)
      (other : Lookup) (sees : SeesAs other) (at : ℕ) (rule : Rule) where
    -- one record, where something is left before it
    record-agrees : (s : Nest) → Ready s.buffer s.seen → 0 < (record_step next other at rule s).left
        → NestAgrees s.left (s.r + 1) (record_step next other at rule s) (by_record plain other at rule s.r s.buffer)
    record-agrees s ready more = by_left (nat_eq s.left 0) refl more
      where
        place_index : ℕ
        place_index = u16_of other.table.now (record_at rule s.r + 2)

        by_charge : (named place : ℕ) → 0 < s.left → (o : Option ℕ)
            → 0 < (option_map_or (record_within next (seek_charged other rule s) (lookup_with other named) place) o
            (spent (seek_charged other rule s))).left
            → NestAgrees s.left (s.r + 1) (option_map_or (record_within next (seek_charged other rule s) (lookup_with other named) place) o
            (spent (seek_charged other rule s))) (at_named plain s.buffer (lookup_with other named) place)
        by_charge named place first None some = nothing-left some
        by_charge named place first (Some rest) some =
            let made = deeper (lookup_with other named) sees place rest s.seen s.buffer ready some in
            record { buffer = made.buffer; number = refl; ready = made.ready; some = first }

        by_place : (named : ℕ) (o : Option ℕ) → 0 < s.left
            → 0 < (option_map_or (record_at_place next (seek_charged other rule s) (lookup_with other named)) o (skipped s)).left
            → NestAgrees s.left (s.r + 1) (option_map_or (record_at_place next (seek_charged other rule s) (lookup_with other named)) o (skipped s))
            (option_map_or (at_named plain s.buffer (lookup_with other named)) o s.buffer)
        by_place named None first some = record { buffer = refl; number = refl; ready = ready; some = first }
        by_place named (Some place) first some =
            by_charge named place first (named_charged (lookup_with other named) s.buffer.items (origin_at place) (s.left - named_index other rule s.r * 8)) some

        by_lookup_of : (o : Option ℕ) → 0 < s.left
            → 0 < (option_map_or (record_for next other at rule s) (option_map (lookup_with other) o) (skipped s)).left
            → NestAgrees s.left (s.r + 1) (option_map_or (record_for next other at rule s) (option_map (lookup_with other) o) (skipped s))
            (option_map_or (by_named plain other at rule s.r s.buffer) (option_map (lookup_with other) o) s.buffer)
        by_lookup_of None first some = record { buffer = refl; number = refl; ready = ready; some = first }
        by_lookup_of (Some named) first some = by_place named (named_place other s.buffer.items at rule s.r) first some

        by_left : (t : Bool) → nat_eq s.left 0 ≡ t
            → 0 < (if t then skipped s else option_map_or (record_for next other at rule s) (named_lookup other rule s.r) (skipped s)).left
            → NestAgrees s.left (s.r + 1)
            (if t then skipped s else option_map_or (record_for next other at rule s) (named_lookup other rule s.r) (skipped s))
            (by_record plain other at rule s.r s.buffer)
        by_left true is some = let none : s.left ≡ 0 = grind (arith, nat_tests, is) in absurd (omega (arith, some, none))
        by_left false is some =
            by_lookup_of (lookup_of other.table.now place_index) (grind (arith, nat_tests, is)) some

    -- all of them
    record-next : (left n : ℕ) (t : Nest) (c : Buffer) → NestAgrees left n t c → 0 < (record_step next other at rule t).left
        → NestAgrees left (suc n) (record_step next other at rule t) (by_record plain other at rule n c)
    record-next left n t c before some =
        let made = record-agrees t before.ready some in
        let number = before.number in
        let next_number = made.number in
        record {
          buffer = made.buffer ∙ ap (λ r. by_record plain other at rule r t.buffer) before.number ∙ ap (by_record plain other at rule n) before.buffer;
          number = omega (arith, number, next_number);
          ready = made.ready;
          some = before.some;
        }

    records-agree : (left n : ℕ) (s : Nest) (b : Buffer) → NestAgrees left 0 s b → 0 < (times (record_step next other at rule) n s).left
        → NestAgrees left n (times (record_step next other at rule) n s) (each (by_record plain other at rule) n b)
    records-agree left zero s b first some = first
    records-agree left (suc n) s b first some =
        let t : Nest = times (record_step next other at rule) n s in
        record-next left n t (each (by_record plain other at rule) n b) (records-agree left n s b first (record-left next other at rule t some)) some

    rule-agrees : (left : ℕ) (seen : BaseSeen) (b : Buffer) (found : Found) → found.rule ≡ rule → Ready b seen
        → 0 < (times (record_step next other at rule) found.rule.count
        (record { buffer = broken found.span.start found.span.end b; seen = seen; left = left; r = 0 })).left
        → NestAgrees left found.rule.count (times (record_step next other at rule) found.rule.count
        (record { buffer = broken found.span.start found.span.end b; seen = seen; left = left; r = 0 }))
        (each (by_record plain other at rule) found.rule.count (broken found.span.start found.span.end b))
    rule-agrees left seen b found is ready some =
        let s : Nest = record { buffer = broken found.span.start found.span.end b; seen = seen; left = left; r = 0 } in
        records-agree left found.rule.count s (broken found.span.start found.span.end b)
        (record {
          buffer = refl;
          number = refl;
          ready = ready-broken l leaves found.span.start found.span.end b seen ready;
          some = times-left (λ (t : Nest). t.left) (record_step next other at rule) (record-left next other at rule) found.rule.count s some;
        }) some

  -- ---- levels

  ready-tried : (other : Lookup) (i : ℕ) (b : Buffer) (seen : BaseSeen) → Ready b seen → Ready (tried_concat_marked other i b) seen
  ready-tried other i b seen ready = by_reach (nat_lt reach_from reach_to)
    where
      reach_from : ℕ
      reach_from = (reach_of other b.items (origin_at i)).from

      reach_to : ℕ
      reach_to = (reach_of other b.items (origin_at i)).to

      by_reach : (t : Bool) → Ready (if t then concat_marked reach_from reach_to b else b) seen
      by_reach true = ready-marked l leaves reach_from reach_to b seen ready
      by_reach false = ready

  module _ (next : Lookup → ℕ → ℕ → BaseSeen → Buffer → Placing) (plain : Lookup → ℕ → Buffer → Applied) (deeper : NextAgrees next plain) where
    rules-agree : (other : Lookup) → SeesAs other → (i left : ℕ) (seen : BaseSeen) (b : Buffer) → Ready b seen
        → 0 < (first_rule_placed next other i left seen b).left
        → Agrees left (first_rule_placed next other i left seen b) (by_rules plain other i b)
    rules-agree other sees i left seen b ready some = by_found (found_of other b.items (origin_at i)) some
      where
        by_found : (o : Option Found) → 0 < (option_map_or (rule_placed next other i left seen b) o (unplaced left seen b)).left
            → Agrees left (option_map_or (rule_placed next other i left seen b) o (unplaced left seen b))
            (option_map_or (by_rule plain other i b) o (unapplied b))
        by_found None more = record { buffer = refl; next = refl; ready = ready; some = more }
        by_found (Some found) more =
            let made = rule-agrees next plain deeper other sees i found.rule left seen b found refl ready more in
            record { buffer = made.buffer; next = refl; ready = made.ready; some = made.some }

    level-agrees : (other : Lookup) → SeesAs other → (i left : ℕ) (seen : BaseSeen) (b : Buffer) → Ready b seen
        → 0 < (level_placed next other i left seen b).left
        → Agrees left (level_placed next other i left seen b) (by_level plain other i b)
    level-agrees other sees i left seen b ready some = by_kind (is_context other) some
      where
        by_kind : (t : Bool)
            → 0 < (if t then first_rule_placed next other i left seen (tried_concat_marked other i b) else lookup_placed other i left seen b).left
            → Agrees left (if t then first_rule_placed next other i left seen (tried_concat_marked other i b) else lookup_placed other i left seen b)
            (if t then by_rules plain other i (tried_concat_marked other i b) else by_subtables other i b)
        by_kind true more =
            rules-agree other sees i left seen (tried_concat_marked other i b) (ready-tried other i b seen ready) more
        by_kind false more = plain-agrees other sees i left seen b ready more

  inside-agrees : (next : Lookup → ℕ → ℕ → BaseSeen → Buffer → Placing) (plain : Lookup → ℕ → Buffer → Applied) → NextAgrees next plain
      → (other : Lookup) → SeesAs other → (i left : ℕ) (seen : BaseSeen) (b : Buffer) → Ready b seen → (t : Bool)
      → 0 < (if t then level_placed next other i left seen b else unplaced left seen b).left
      → Agrees left (if t then level_placed next other i left seen b else unplaced left seen b)
      (if t then by_level plain other i b else unapplied b)
  inside-agrees next plain deeper other sees i left seen b ready true some = level-agrees next plain deeper other sees i left seen b ready some
  inside-agrees next plain deeper other sees i left seen b ready false some = record { buffer = refl; next = refl; ready = ready; some = some }

  nested-agrees : (level : ℕ) → NextAgrees (nested_placed level) (by_lookup level)
  nested-agrees zero other sees i left seen b ready some = record { buffer = refl; next = refl; ready = ready; some = some }
  nested-agrees (suc level) other sees i left seen b ready some =
      inside-agrees (nested_placed level) (by_lookup level) (nested-agrees level) other sees i left seen b ready (nat_lt i (length b.items)) some

  -- ---- over a line

  record WalkAgrees (s : Walk) (g : Going) : Type 0 where
    buffer : s.buffer ≡ g.buffer
    at : s.at ≡ g.at
    ready : Ready s.buffer s.seen

  -- a step, by the buffer and the place before it
  step-agrees : (s : Walk) → Ready s.buffer s.seen → 0 < (lookup_step l s).left
      → WalkAgrees (lookup_step l s) (at_glyph l (record { buffer = s.buffer; at = s.at }))
  step-agrees s ready some = by_inside (nat_lt s.at (length s.buffer.items)) some
    where
      here : Going
      here = record { buffer = s.buffer; at = s.at }

      by_charge : (o : Option ℕ) → 0 < (option_map_or (tried_within l s) o (record s { at = s.at + 1; left = 0 })).left
          → WalkAgrees (option_map_or (tried_within l s) o (record s { at = s.at + 1; left = 0 })) (going_on s.at (by_lookup LEVELS l s.at s.buffer))
      by_charge None more = nothing-left more
      by_charge (Some rest) more =
          let made = nested-agrees LEVELS l (λ item. refl) s.at rest s.seen s.buffer ready more in
          record { buffer = made.buffer; at = ap (λ o. option_map_or (λ next. next) o (s.at + 1)) made.next; ready = made.ready }

      by_on : (t : Bool) → 0 < (if t then tried l s else record s { at = s.at + 1 }).left
          → WalkAgrees (if t then tried l s else record s { at = s.at + 1 })
          (if t then going_on s.at (by_lookup LEVELS l s.at s.buffer) else record here { at = s.at + 1 })
      by_on true more = by_charge (place_charged l s.buffer.items (origin_at s.at) s.left) more
      by_on false more = record { buffer = refl; at = refl; ready = ready }

      by_inside : (t : Bool)
          → 0 < (if t then (if is_on l (nth s.buffer.items s.at) then tried l s else record s { at = s.at + 1 }) else s).left
          → WalkAgrees (if t then (if is_on l (nth s.buffer.items s.at) then tried l s else record s { at = s.at + 1 }) else s)
          (if t then (if is_on l (nth s.buffer.items s.at) then going_on s.at (by_lookup LEVELS l s.at s.buffer) else record here { at = s.at + 1 })
          else here)
      by_inside true more = by_on (is_on l (nth s.buffer.items s.at)) more
      by_inside false more = record { buffer = refl; at = refl; ready = ready }

  walk-next : (t : Walk) (g : Going) → WalkAgrees t g → 0 < (lookup_step l t).left → WalkAgrees (lookup_step l t) (at_glyph l g)
  walk-next t g before some =
      subst (λ (h : Going). WalkAgrees (lookup_step l t) (at_glyph l h)) same (step-agrees t before.ready some)
    where
      going : Buffer → ℕ → Going
      going b at = record { buffer = b; at = at }

      same : record { buffer = t.buffer; at = t.at } ≡ g
      same = ap (λ b. going b t.at) before.buffer ∙ ap (going g.buffer) before.at

  walks-agree : (n : ℕ) (s : Walk) (g : Going) → WalkAgrees s g → 0 < (times (lookup_step l) n s).left
      → WalkAgrees (times (lookup_step l) n s) (times (at_glyph l) n g)
  walks-agree zero s g first some = first
  walks-agree (suc n) s g first some =
      let t : Walk = times (lookup_step l) n s in
      walk-next t (times (at_glyph l) n g) (walks-agree n s g first (some-before (lookup_step l t).left t.left (walk-less l t) some)) some

  none-seen-ready : (b : Buffer) → HasNoLaterComponents b.items → Ready b none_seen
  none-seen-ready b none = record { components = none; sight = λ k less. absurd (omega (arith, less)) }

  -- ---- a lookup

  over-agrees : (s : Budgeted) → HasNoLaterComponents s.buffer.items → 0 < (gone_over s l).left
      → WalkAgrees (times (lookup_step l) (length s.buffer.items) (first_walk s))
      (times (at_glyph l) (length s.buffer.items) (record { buffer = s.buffer; at = 0 }))
  over-agrees s none some =
      walks-agree (length s.buffer.items) (first_walk s) (record { buffer = s.buffer; at = 0 })
      (record { buffer = refl; at = refl; ready = none-seen-ready s.buffer none }) some

  lookup-agrees : (s : Budgeted) → HasNoLaterComponents s.buffer.items → 0 < (lookup_applied s l).left
      → ((lookup_applied s l).buffer ≡ over_line s.buffer l) × HasNoLaterComponents (lookup_applied s l).buffer.items
  lookup-agrees s none some = by_work (nat_lt s.left (walk_work l (length s.buffer.items))) refl some
    where
      work : ℕ
      work = walk_work l (length s.buffer.items)

      by_work : (t : Bool) → nat_lt s.left work ≡ t → 0 < (if t then walk_charged s l else gone_over (walk_charged s l) l).left
          → ((if t then walk_charged s l else gone_over (walk_charged s l) l).buffer ≡ over_line s.buffer l)
          × HasNoLaterComponents (if t then walk_charged s l else gone_over (walk_charged s l) l).buffer.items
      by_work true is more = let less : s.left < work = grind (arith, nat_tests, is) in absurd (omega (arith, less, more))
      by_work false is more = let it = over-agrees (walk_charged s l) none more in (it.buffer, it.ready.components)

-- ---- a stage

lookups-agree : (lookups : List Lookup) → AllByRecursion LeavesFlags lookups → (s : Budgeted) → HasNoLaterComponents s.buffer.items
    → 0 < (fold lookup_applied s lookups).left → (fold lookup_applied s lookups).buffer ≡ stage_applied lookups s.buffer
lookups-agree [] leave s none some = refl
lookups-agree (l ∷ lookups) leave s none some =
    let next = lookup_applied s l in
    let one = lookup-agrees l leave.0 s none (some-before (fold lookup_applied next lookups).left next.left (fold-less lookups next) some) in
    lookups-agree lookups leave.1 next one.1 some ∙ ap (stage_applied lookups) one.0

pub stage-agrees : (lookups : List Lookup) → All LeavesFlags lookups → (b : Buffer) → HasNoLaterComponents b.items
    → 0 < (positioned lookups b).max_ops
    → positioned lookups b ≡ record (stage_applied lookups b) { max_ops = (positioned lookups b).max_ops }
stage-agrees lookups leave b none some =
    ap (λ (c : Buffer). record c { max_ops = (fold lookup_applied (budgeted b) lookups).left })
    (lookups-agree lookups (recursion_from_All LeavesFlags lookups leave) (budgeted b) none some)
