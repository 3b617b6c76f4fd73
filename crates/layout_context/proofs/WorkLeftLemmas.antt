-- a stage that ends within the limit of the run and with some work left is the stage that counts nothing
use Prim.Native.Nat.{zero}
use Rattle.std.proofs.Common.{◌≡◌, ℕ, suc, ◌<◌, ◌≤◌, ◌+◌, ◌-◌, not, Bool, true, false, List, [], ◌∷◌, Option, Some, None, fold, length, nat_eq, nat_lt, refl, sym, ap, ◌∙◌, subst, arith, if◌then◌else◌}
use Rattle.std.proofs.lemmas.Bool.Decides.{nat_tests}
use Rattle.std.proofs.lemmas.List.Elements.{recursion_from_All}
use Rattle.std.specs.List.{All, AllByRecursion}
use Rattle.std.specs.Option.{option_map, option_map_or, unwrap_or}
use Rattle.shape_items.specs.Buffer.{Buffer}
use Rattle.layout_tables.specs.Lookups.{subtable_count_of}
use Rattle.layout_matching.specs.Found.{is_context, found_of}
use Rattle.layout_matching.specs.Loops.{times}
use Rattle.layout_matching.specs.Nesting.{target_of}
use Rattle.layout_matching.specs.Skipping.{is_on}
use Rattle.layout_matching.specs.Tried.{reach_of}
use Rattle.layout_matching.specs.Work.{lookup_charged, walk_work}
use Rattle.layout_matching.specs.declared.found.Found.{Found}
use Rattle.layout_matching.specs.declared.lookup.Lookup.{Lookup}
use Rattle.layout_matching.specs.declared.nesting.Target.{Target}
use Rattle.layout_substitution.specs.Applied.{Applied, unapplied}
use Rattle.layout_substitution.specs.Edits.{item_at, is_inside, is_past, concat_marked}
use Rattle.layout_substitution.specs.Kinds.{lookup_applied}
use Rattle.layout_substitution.specs.declared.apply.Spot.{Spot}
use Rattle.layout_substitution.proofs.LeftLemmas.{left_after, lookup-less}
use Rattle.layout_context.specs.Nested.{origin_of, place_charged, Nest, passed_record, stopped_record, nested_spot, nest_after, target_within}
use Rattle.layout_context.specs.Nested.{target_charged, target_applied, target_done, record_step, first_nest, records_made, rule_applied}
use Rattle.layout_context.specs.Nested.{tried_marked, first_rule_applied, level_applied, nested_applied}
use Rattle.layout_context.specs.Reverse.{Backwards, is_reverse, reversed_at, reversed_within, reverse_step, reversed}
use Rattle.layout_context.specs.Stage.{Standing, Made, unmade, standing_of, made_of, by_subtables, Nesting, next_record, after_target, by_target}
use Rattle.layout_context.specs.Stage.{by_record, first_nesting, by_records, by_rule, by_rules, by_level, by_lookup, Going, next_glyph, going_on}
use Rattle.layout_context.specs.Stage.{at_glyph, forwards, Backing, at_glyph_before, backwards, over_buffer, going_from, stage_applied}
use Rattle.layout_context.specs.Stages.{Walk, passed, next_spot, gone_on, with_left, tried_within, tried, lookup_step, first_walk, walked, gone_back, gone_over, walk_charged, looked_up, all_looked_up, stage_begun, substituted, most_levels}
use Rattle.layout_context.specs.Tries.{record_tries, nested_tries, step_tries, lookup_tries, lookups_tries, Substitutes}
use Rattle.layout_context.specs.declared.nested.LookupRule.{LookupRule}
use Rattle.layout_context.proofs.FreeLemmas.{lookup-frees}
use Rattle.layout_context.proofs.StageLemmas.{past_all}
use Rattle.layout_context.proofs.TriesLemmas.{unwrap-left, target-table, record-paid, nested-paid, step-paid, reverse-less, lookup-paid, lookups-paid}

clash-of : {P : Type 0} → true ≡ false → P
clash-of e = absurd (let bad : true ≡ false = e in cc)

nothing-left : {P : Type 0} → 0 < 0 → P
nothing-left less = absurd (omega (arith, less))

some-before : (tries after before : ℕ) → tries + after ≤ before → 0 < after → 0 < before
some-before tries after before less some = omega (arith, less, some)

-- ---- past the limit nothing is done

still-past : (level : ℕ) (l : Lookup) (spot : Spot) (b : Buffer) → is_past b ≡ true → is_past (nested_applied level l spot b).buffer ≡ true
still-past zero l spot b past = past
still-past (suc level) l spot b past =
    ap (λ t. is_past (if t then unapplied b else (if is_inside spot.at b then level_applied (nested_applied level) l spot b else unapplied b)).buffer) past
    ∙ past

-- so what is within the limit was within it
was-within : (before after : Bool) → (before ≡ true → after ≡ true) → after ≡ false → before ≡ false
was-within true after stays is = clash-of (sym (stays refl) ∙ is)
was-within false after stays is = refl

-- ---- lookups that are named

standing-next : (o : Option Spot) (spot : Spot) → standing_of (unwrap_or o spot) ≡ unwrap_or (option_map standing_of o) (standing_of spot)
standing-next None spot = refl
standing-next (Some next) spot = refl

abbrev nesting_of : Nest → Nesting
nesting_of s = record {
  buffer = s.buffer;
  places = s.places;
  standing = standing_of s.progress.spot;
  end = s.progress.end;
  stopped = s.progress.stopped;
  r = s.progress.r;
}

-- what is to be shown of each level of lookups
abbrev NextFrees : (Lookup → Spot → Buffer → Applied) → (Lookup → Standing → Buffer → Made) → Type 0
NextFrees next plain = (l : Lookup) → l.positioning ≡ false → (spot : Spot) (b : Buffer) → is_past (next l spot b).buffer ≡ false
    → 0 < left_after spot (next l spot b) → made_of (next l spot b) ≡ plain l (standing_of spot) b

module _ (level : ℕ) (plain : Lookup → Standing → Buffer → Made) (deeper : NextFrees (nested_applied level) plain) where
  abbrev next : Lookup → Spot → Buffer → Applied
  next = nested_applied level

  after-target : (s : Nest) (t : Target) (spot : Spot) (made : Applied)
      → nesting_of (nest_after s t spot made) ≡ after_target (nesting_of s) t (standing_of spot) (made_of made)
  after-target s t spot made =
      ap (λ (standing : Standing). record (nesting_of (nest_after s t spot made)) { standing = standing }) (standing-next made.next spot)

  target-frees : (s : Nest) (t : Target) → t.lookup.positioning ≡ false → is_past (target_applied next s t).buffer ≡ false
      → 0 < (target_applied next s t).progress.spot.left → nesting_of (target_applied next s t) ≡ by_target plain (nesting_of s) t
  target-frees s t gsub = by_inside (is_inside t.place s.buffer)
    where
      named : ℕ → Spot
      named left = nested_spot s.progress.spot t.place left

      by_charge : (o : Option ℕ)
          → is_past (option_map_or (target_within next s t) o (record s { progress = stopped_record s.progress })).buffer ≡ false
          → 0 < (option_map_or (target_within next s t) o (record s { progress = stopped_record s.progress })).progress.spot.left
          → nesting_of (option_map_or (target_within next s t) o (record s { progress = stopped_record s.progress }))
          ≡ after_target (nesting_of s) t (standing_of (named 0)) (plain t.lookup (standing_of (named 0)) s.buffer)
      by_charge None within some = nothing-left some
      by_charge (Some left) within some =
          let made = next t.lookup (named left) s.buffer in
          after-target s t (named left) made
          ∙ ap (after_target (nesting_of s) t (standing_of (named 0)))
          (deeper t.lookup gsub (named left) s.buffer within (subst (λ n. 0 < n) (unwrap-left made.next (named left)) some))

      by_inside : (u : Bool)
          → is_past (if not u then record s { progress = passed_record s.progress }
          else option_map_or (target_within next s t) (target_charged s t) (record s { progress = stopped_record s.progress })).buffer ≡ false
          → 0 < (if not u then record s { progress = passed_record s.progress }
          else option_map_or (target_within next s t) (target_charged s t) (record s { progress = stopped_record s.progress })).progress.spot.left
          → nesting_of (if not u then record s { progress = passed_record s.progress }
          else option_map_or (target_within next s t) (target_charged s t) (record s { progress = stopped_record s.progress }))
          ≡ (if not u then next_record (nesting_of s)
          else after_target (nesting_of s) t (standing_of (named 0)) (plain t.lookup (standing_of (named 0)) s.buffer))
      by_inside true within some = by_charge (target_charged s t) within some
      by_inside false within some = refl

  module _ (rule : LookupRule) (gsub : rule.lookup.positioning ≡ false) where
    record-frees : (s : Nest) → is_past (record_step next rule s).buffer ≡ false → 0 < (record_step next rule s).progress.spot.left
        → nesting_of (record_step next rule s) ≡ by_record plain rule (nesting_of s)
    record-frees s = by_stopped s.progress.stopped
      where
        by_target_of : (o : Option Target) → ((t : Target) → o ≡ Some t → t.lookup.positioning ≡ false)
            → is_past (target_done next s o).buffer ≡ false → 0 < (target_done next s o).progress.spot.left
            → nesting_of (target_done next s o) ≡ option_map_or (by_target plain (nesting_of s)) o (next_record (nesting_of s))
        by_target_of None each within some = refl
        by_target_of (Some t) each within some = target-frees s t (each t refl) within some

        by_stopped : (u : Bool)
            → is_past (if u then record s { progress = passed_record s.progress }
            else target_done next s (target_of rule.lookup rule.rule s.places s.progress.r)).buffer ≡ false
            → 0 < (if u then record s { progress = passed_record s.progress }
            else target_done next s (target_of rule.lookup rule.rule s.places s.progress.r)).progress.spot.left
            → nesting_of (if u then record s { progress = passed_record s.progress }
            else target_done next s (target_of rule.lookup rule.rule s.places s.progress.r))
            ≡ (if u then next_record (nesting_of s)
            else option_map_or (by_target plain (nesting_of s)) (target_of rule.lookup rule.rule s.places s.progress.r) (next_record (nesting_of s)))
        by_stopped true within some = refl
        by_stopped false within some =
            by_target_of (target_of rule.lookup rule.rule s.places s.progress.r)
            (λ t is. target-table rule.lookup rule.rule s.places s.progress.r t is ∙ gsub) within some

    record-past : (s : Nest) → is_past s.buffer ≡ true → is_past (record_step next rule s).buffer ≡ true
    record-past s past = by_stopped s.progress.stopped
      where
        by_charge : (t : Target) (o : Option ℕ)
            → is_past (option_map_or (target_within next s t) o (record s { progress = stopped_record s.progress })).buffer ≡ true
        by_charge t None = past
        by_charge t (Some left) = still-past level t.lookup (nested_spot s.progress.spot t.place left) s.buffer past

        by_inside : (t : Target) (u : Bool)
            → is_past (if not u then record s { progress = passed_record s.progress }
            else option_map_or (target_within next s t) (target_charged s t) (record s { progress = stopped_record s.progress })).buffer ≡ true
        by_inside t true = by_charge t (target_charged s t)
        by_inside t false = past

        by_target_of : (o : Option Target) → is_past (target_done next s o).buffer ≡ true
        by_target_of None = past
        by_target_of (Some t) = by_inside t (is_inside t.place s.buffer)

        by_stopped : (u : Bool)
            → is_past (if u then record s { progress = passed_record s.progress }
            else target_done next s (target_of rule.lookup rule.rule s.places s.progress.r)).buffer ≡ true
        by_stopped true = past
        by_stopped false = by_target_of (target_of rule.lookup rule.rule s.places s.progress.r)

    records-free : (n : ℕ) (s : Nest) → is_past (times (record_step next rule) n s).buffer ≡ false
        → 0 < (times (record_step next rule) n s).progress.spot.left
        → nesting_of (times (record_step next rule) n s) ≡ times (by_record plain rule) n (nesting_of s)
    records-free zero s within some = refl
    records-free (suc n) s within some =
        let t : Nest = times (record_step next rule) n s in
        let paid = record-paid next (nested_tries level) (nested-paid level) rule gsub t in
        record-frees t within some
        ∙ ap (by_record plain rule) (records-free n s
        (was-within (is_past t.buffer) (is_past (record_step next rule t).buffer) (record-past t) within)
        (some-before (record_tries (nested_tries level) rule t) (record_step next rule t).progress.spot.left t.progress.spot.left paid some))

  rules-free : (l : Lookup) → l.positioning ≡ false → (spot : Spot) (b : Buffer) → is_past (first_rule_applied next l spot b).buffer ≡ false
      → 0 < left_after spot (first_rule_applied next l spot b)
      → made_of (first_rule_applied next l spot b) ≡ by_rules plain l (standing_of spot) b
  rules-free l gsub spot b = by_found (found_of l b.items (origin_of spot b))
    where
      ended : Nesting → Made
      ended n = record { buffer = n.buffer; next = Some (record n.standing { at = n.end }) }

      by_found : (o : Option Found) → is_past (option_map_or (rule_applied next l spot b) o (unapplied b)).buffer ≡ false
          → 0 < left_after spot (option_map_or (rule_applied next l spot b) o (unapplied b))
          → made_of (option_map_or (rule_applied next l spot b) o (unapplied b)) ≡ option_map_or (by_rule plain l (standing_of spot) b) o (unmade b)
      by_found None within some = refl
      by_found (Some found) within some =
          ap ended (records-free (record { lookup = l; rule = found.rule }) gsub found.rule.count (first_nest l spot b found) within some)

  level-frees : (l : Lookup) → l.positioning ≡ false → (spot : Spot) (b : Buffer) → is_past (level_applied next l spot b).buffer ≡ false
      → 0 < left_after spot (level_applied next l spot b) → made_of (level_applied next l spot b) ≡ by_level plain l (standing_of spot) b
  level-frees l gsub spot b = by_kind (is_context l)
    where
      marked : Buffer
      marked = tried_marked l spot b

      by_kind : (t : Bool) → is_past (if t then first_rule_applied next l spot marked else lookup_applied l spot b).buffer ≡ false
          → 0 < left_after spot (if t then first_rule_applied next l spot marked else lookup_applied l spot b)
          → made_of (if t then first_rule_applied next l spot marked else lookup_applied l spot b)
          ≡ (if t then by_rules plain l (standing_of spot) marked
          else by_subtables l (standing_of spot) (subtable_count_of l.table.now l.place) 0 b)
      by_kind true within some = rules-free l gsub spot marked within some
      by_kind false within some =
          let less = lookup-less l spot b in
          lookup-frees l spot (omega (arith, less, some)) b within

nested-frees : (level : ℕ) → NextFrees (nested_applied level) (by_lookup level)
nested-frees zero l gsub spot b = λ within some. refl
nested-frees (suc level) l gsub spot b =
    by_past (is_past b) (is_inside spot.at b) refl (level-frees level (by_lookup level) (nested-frees level) l gsub spot b)
  where
    made : Applied
    made = level_applied (nested_applied level) l spot b

    there : Made
    there = by_level (by_lookup level) l (standing_of spot) b

    by_past : (t u : Bool) → is_past b ≡ t → (is_past made.buffer ≡ false → 0 < left_after spot made → made_of made ≡ there)
        → is_past (if t then unapplied b else (if u then made else unapplied b)).buffer ≡ false
        → 0 < left_after spot (if t then unapplied b else (if u then made else unapplied b))
        → made_of (if t then unapplied b else (if u then made else unapplied b)) ≡ (if u then there else unmade b)
    by_past true u past frees within some = clash-of (sym past ∙ within)
    by_past false true fits frees within some = frees within some
    by_past false false fits frees within some = refl

-- ---- over a buffer

abbrev going : Buffer → Standing → Going
going b standing = record { buffer = b; standing = standing }

abbrev going_of : Walk → Going
going_of w = record { buffer = w.buffer; standing = standing_of w.spot }

module _ (levels : ℕ) (l : Lookup) (gsub : l.positioning ≡ false) where
  abbrev step : Walk → Walk
  step = lookup_step (nested_applied levels l) l

  step-frees : (w : Walk) → is_past (step w).buffer ≡ false → 0 < (step w).spot.left → going_of (step w) ≡ at_glyph levels l (going_of w)
  step-frees w = by_past (is_past w.buffer) (is_inside w.spot.at w.buffer) (is_on l (item_at w.buffer w.spot.at)) refl
    where
      charge : Option ℕ
      charge = place_charged l w.buffer.items (origin_of w.spot w.buffer) w.spot.left

      there : Going
      there = going_on (going_of w) (by_lookup levels l (standing_of w.spot) w.buffer)

      by_charge : (o : Option ℕ)
          → is_past (option_map_or (tried_within (nested_applied levels l) w) o (passed (with_left 0 w))).buffer ≡ false
          → 0 < (option_map_or (tried_within (nested_applied levels l) w) o (passed (with_left 0 w))).spot.left
          → going_of (option_map_or (tried_within (nested_applied levels l) w) o (passed (with_left 0 w))) ≡ there
      by_charge None within some = nothing-left some
      by_charge (Some left) within some =
          let spot = (with_left left w).spot in
          let made = nested_applied levels l spot w.buffer in
          ap (going made.buffer) (standing-next made.next (next_spot spot))
          ∙ ap (going_on (going_of w))
          (nested-frees levels l gsub spot w.buffer within (subst (λ n. 0 < n) (unwrap-left made.next (next_spot spot)) some))

      by_past : (t u v : Bool) → is_past w.buffer ≡ t
          → is_past (if t then w else (if u then (if v then tried (nested_applied levels l) l w else passed w) else w)).buffer ≡ false
          → 0 < (if t then w else (if u then (if v then tried (nested_applied levels l) l w else passed w) else w)).spot.left
          → going_of (if t then w else (if u then (if v then tried (nested_applied levels l) l w else passed w) else w))
          ≡ (if u then (if v then there else record (going_of w) { standing = next_glyph (standing_of w.spot) }) else going_of w)
      by_past true u v past within some = clash-of (sym past ∙ within)
      by_past false false v fits within some = refl
      by_past false true true fits within some = by_charge charge within some
      by_past false true false fits within some = refl

  step-past : (w : Walk) → is_past w.buffer ≡ true → is_past (step w).buffer ≡ true
  step-past w past =
      ap (λ t. is_past (if t then w else (if is_inside w.spot.at w.buffer
      then (if is_on l (item_at w.buffer w.spot.at) then tried (nested_applied levels l) l w else passed w) else w)).buffer) past
      ∙ past

  walk-frees : (n : ℕ) (w : Walk) → is_past (times step n w).buffer ≡ false → 0 < (times step n w).spot.left
      → going_of (times step n w) ≡ times (at_glyph levels l) n (going_of w)
  walk-frees zero w within some = refl
  walk-frees (suc n) w within some =
      let t : Walk = times step n w in
      step-frees t within some
      ∙ ap (at_glyph levels l) (walk-frees n w
      (was-within (is_past t.buffer) (is_past (step t).buffer) (step-past t) within)
      (some-before (step_tries levels l t).others (step t).spot.left t.spot.left (step-paid levels l gsub t) some))

  -- backwards
  abbrev backing_of : Backwards → Backing
  backing_of s = record { buffer = s.buffer; at = s.at }

  back-frees : (s : Backwards) → 0 < (reverse_step l s).left → backing_of (reverse_step l s) ≡ at_glyph_before l (backing_of s)
  back-frees s = by_start (nat_eq s.at 0)
    where
      by_charge : (o : Option ℕ) → 0 < (option_map_or (reversed_within l s) o (record s { at = s.at - 1; left = 0 })).left
          → backing_of (option_map_or (reversed_within l s) o (record s { at = s.at - 1; left = 0 }))
          ≡ record { buffer = reversed_at l (s.at - 1) s.buffer; at = s.at - 1 }
      by_charge None some = nothing-left some
      by_charge (Some left) some = refl

      by_start : (t : Bool)
          → 0 < (if t then s else option_map_or (reversed_within l s) (lookup_charged l s.buffer.items (s.at - 1) s.left)
          (record s { at = s.at - 1; left = 0 })).left
          → backing_of (if t then s else option_map_or (reversed_within l s) (lookup_charged l s.buffer.items (s.at - 1) s.left)
          (record s { at = s.at - 1; left = 0 }))
          ≡ (if t then backing_of s else record { buffer = reversed_at l (s.at - 1) s.buffer; at = s.at - 1 })
      by_start true some = refl
      by_start false some = by_charge (lookup_charged l s.buffer.items (s.at - 1) s.left) some

  backs-free : (n : ℕ) (s : Backwards) → 0 < (times (reverse_step l) n s).left
      → backing_of (times (reverse_step l) n s) ≡ times (at_glyph_before l) n (backing_of s)
  backs-free zero s some = refl
  backs-free (suc n) s some =
      let t : Backwards = times (reverse_step l) n s in
      back-frees t some
      ∙ ap (at_glyph_before l) (backs-free n s (some-before 0 (reverse_step l t).left t.left (reverse-less levels l gsub t) some))

  -- a lookup
  over-frees : (s : Walk) → is_past (gone_over levels l s).buffer ≡ false → 0 < (gone_over levels l s).spot.left
      → going_of (gone_over levels l s) ≡ over_buffer levels (going_of s) l
  over-frees s = by_way (is_reverse l)
    where
      n : ℕ
      n = length s.buffer.items

      back : Backwards
      back = record { buffer = s.buffer; at = n; left = s.spot.left }

      by_way : (t : Bool)
          → is_past (if t then gone_back s (reversed l s.spot.left s.buffer) else walked (nested_applied levels l) l s).buffer ≡ false
          → 0 < (if t then gone_back s (reversed l s.spot.left s.buffer) else walked (nested_applied levels l) l s).spot.left
          → going_of (if t then gone_back s (reversed l s.spot.left s.buffer) else walked (nested_applied levels l) l s)
          ≡ (if t then record (going_of s) { buffer = backwards l s.buffer } else forwards levels l (going_of s))
      by_way true within some =
          ap (λ (k : Backing). record (going_of s) { buffer = k.buffer }) (backs-free n back some)
      by_way false within some = walk-frees n (first_walk s) within some

  looked-frees : (s : Walk) → is_past (looked_up levels l s).buffer ≡ false → 0 < (looked_up levels l s).spot.left
      → going_of (looked_up levels l s) ≡ over_buffer levels (going_of s) l
  looked-frees s = by_work (nat_lt s.spot.left work) refl
    where
      work : ℕ
      work = walk_work l (length s.buffer.items)

      by_work : (t : Bool) → nat_lt s.spot.left work ≡ t
          → is_past (if t then walk_charged l s else gone_over levels l (walk_charged l s)).buffer ≡ false
          → 0 < (if t then walk_charged l s else gone_over levels l (walk_charged l s)).spot.left
          → going_of (if t then walk_charged l s else gone_over levels l (walk_charged l s)) ≡ over_buffer levels (going_of s) l
      by_work true is within some =
          let less : s.spot.left < work = grind (arith, nat_tests, is) in
          absurd (omega (arith, less, some))
      by_work false is within some = over-frees (walk_charged l s) within some

-- ---- a stage

all-frees : (levels : ℕ) (ls : List Lookup) → AllByRecursion Substitutes ls → (s : Walk) → is_past (all_looked_up levels ls s).buffer ≡ false
    → 0 < (all_looked_up levels ls s).spot.left → going_of (all_looked_up levels ls s) ≡ fold (over_buffer levels) (going_of s) ls
all-frees levels [] each s within some = refl
all-frees levels (l ∷ ls) each s within some =
    let t : Walk = looked_up levels l s in
    let one = looked-frees levels l each.0 s
    (was-within (is_past t.buffer) (is_past (all_looked_up levels ls t).buffer) (past_all levels ls t) within)
    (some-before (lookups_tries levels ls t) (all_looked_up levels ls t).spot.left t.spot.left (lookups-paid levels ls each.1 t) some) in
    all-frees levels ls each.1 t within some ∙ ap (λ g. fold (over_buffer levels) g ls) one

pub stage-frees : (ls : List Lookup) → All Substitutes ls → (b : Buffer) → is_past (substituted ls b) ≡ false → 0 < (substituted ls b).max_ops
    → substituted ls b ≡ record (stage_applied ls b) { max_ops = (substituted ls b).max_ops }
unfolding substituted
stage-frees ls each b within some =
    ap (λ (g : Going). record g.buffer { max_ops = (all_looked_up most_levels ls (stage_begun b)).spot.left })
    (all-frees most_levels ls (recursion_from_All Substitutes ls each) (stage_begun b) within some)
