-- Substitution as OpenType says it (`GSUB`; "Lookup table"): each lookup in the order of the list, at each glyph from the first on, or from
-- the last on if it is one of reverse chaining, by the first of its subtables that applies. Nothing is counted here, and no list is too long.
use Prim.Native.Nat.{zero}
use Rattle.std.specs.Prelude.{ℕ, suc, Bool, false, List, Option, Some, None, ◌+◌, ◌-◌, not, fold, length, is_some, nat_eq, if◌then◌else◌}
use Rattle.std.specs.Option.{option_map, option_map_or, unwrap_or}
use Rattle.shape_items.specs.Buffer.{Buffer}
use Rattle.layout_tables.specs.Lookups.{subtable_count_of}
use Rattle.layout_matching.specs.Found.{is_context, found_of}
use Rattle.layout_matching.specs.Loops.{times}
use Rattle.layout_matching.specs.Nesting.{target_of, places_of}
use Rattle.layout_matching.specs.Skipping.{is_on}
use Rattle.layout_matching.specs.Tried.{reach_of}
use Rattle.layout_matching.specs.declared.found.Found.{Found}
use Rattle.layout_matching.specs.declared.lookup.Lookup.{Lookup}
use Rattle.layout_matching.specs.declared.nesting.Target.{Target}
use Rattle.layout_matching.specs.declared.spans.Origin.{Origin}
use Rattle.layout_substitution.specs.Applied.{Applied}
use Rattle.layout_substitution.specs.Edits.{item_at, is_inside, broken, concat_marked}
use Rattle.layout_substitution.specs.Kinds.{subtable_applied}
use Rattle.layout_substitution.specs.declared.apply.Spot.{Spot}
use Rattle.layout_context.specs.Places.{renumbered, moved_end, is_too_long}
use Rattle.layout_context.specs.Reverse.{is_reverse, reversed_at}
use Rattle.layout_context.specs.Stages.{most_levels}
use Rattle.layout_context.specs.declared.nested.LookupRule.{LookupRule}

-- ---- a lookup at a glyph

-- where it is applied: an item, the state that alternates at random go on from, and how many items there were as its walk began
pub record Standing : Type 0 where
  pub at : ℕ
  pub random : ℕ
  pub whole : ℕ

-- the buffer that it leaves, and where it goes on; none if it didn't apply
pub record Made : Type 0 where
  pub buffer : Buffer
  pub next : Option Standing

abbrev pub unmade : Buffer → Made
unmade b = record { buffer = b; next = None }

abbrev pub standing_of : Spot → Standing
standing_of spot = record { at = spot.at; random = spot.random; whole = spot.whole }

abbrev pub made_of : Applied → Made
made_of made = record { buffer = made.buffer; next = option_map standing_of made.next }

-- a subtable, as it applies where anything is left for it
abbrev pub paid_at : Standing → Spot
paid_at s = record { at = s.at; random = s.random; left = 1; whole = s.whole }

abbrev pub by_subtable : Lookup → ℕ → Standing → Buffer → Made
by_subtable l i s b = made_of (subtable_applied l i (paid_at s) b)

-- those after the first that applies aren't tried
abbrev pub unless_made : (Buffer → Made) → Made → Made
unless_made next made = if is_some made.next then made else next made.buffer

abbrev pub by_subtables : Lookup → Standing → ℕ → ℕ → Buffer → Made
by_subtables l s zero i b = unmade b
by_subtables l s (suc n) i b = unless_made (by_subtables l s n (suc i)) (by_subtable l i s b)

-- ---- lookups of context

-- the records of a rule before number `r` are done: where the glyphs of the rule are, and where it goes on
pub record Nesting : Type 0 where
  pub buffer : Buffer
  pub places : List ℕ
  pub standing : Standing
  pub end : ℕ
  pub stopped : Bool
  pub r : ℕ

abbrev pub next_record : Nesting → Nesting
next_record s = record s { r = s.r + 1 }

-- the lookup of a record, at its glyph; glyphs that came or went there move the others
abbrev pub after_target : Nesting → Target → Standing → Made → Nesting
after_target s t here made = let before = length s.buffer.items in let after = length made.buffer.items in record {
  buffer = made.buffer;
  places = if is_too_long before after s.places then s.places else renumbered t.place t.index before after s.places;
  standing = unwrap_or made.next here;
  end = moved_end t.place before after s.end;
  stopped = is_too_long before after s.places;
  r = s.r + 1;
}

abbrev pub by_target : (Lookup → Standing → Buffer → Made) → Nesting → Target → Nesting
by_target next s t = let here = record s.standing { at = t.place } in
    (if not (is_inside t.place s.buffer) then next_record s else after_target s t here (next t.lookup here s.buffer))

abbrev pub by_record : (Lookup → Standing → Buffer → Made) → LookupRule → Nesting → Nesting
by_record next named s = if s.stopped then next_record s
    else option_map_or (by_target next s) (target_of named.lookup named.rule s.places s.r) (next_record s)

-- the records of a rule in order; the lookup goes on after the last glyph that the rule matches
abbrev pub first_nesting : Lookup → Standing → Buffer → Found → Nesting
first_nesting l s b found = record {
  buffer = broken found.span.start found.span.end b;
  places = places_of l b.items s.at found.rule;
  standing = s;
  end = found.span.last + 1;
  stopped = false;
  r = 0;
}

abbrev pub by_records : (Lookup → Standing → Buffer → Made) → Lookup → Standing → Buffer → Found → Nesting
by_records next l s b found =
    times (by_record next (record { lookup = l; rule = found.rule })) found.rule.count (first_nesting l s b found)

abbrev pub by_rule : (Lookup → Standing → Buffer → Made) → Lookup → Standing → Buffer → Found → Made
by_rule next l s b found = let end = by_records next l s b found in
    record { buffer = end.buffer; next = Some (record end.standing { at = end.end }) }

-- the first rule that matches
abbrev pub origin_at : Standing → Buffer → Origin
origin_at s b = record { at = s.at; is_steady = nat_eq (length b.items) s.whole }

abbrev pub by_rules : (Lookup → Standing → Buffer → Made) → Lookup → Standing → Buffer → Made
by_rules next l s b = option_map_or (by_rule next l s b) (found_of l b.items (origin_at s b)) (unmade b)

abbrev pub by_level : (Lookup → Standing → Buffer → Made) → Lookup → Standing → Buffer → Made
by_level next l s b = if is_context l then by_rules next l s (concat_marked (reach_of l b.items (origin_at s b)) b)
    else by_subtables l s (subtable_count_of l.table.now l.place) 0 b

-- lookups name others, so many levels deep
abbrev pub by_lookup : ℕ → Lookup → Standing → Buffer → Made
by_lookup zero l s b = unmade b
by_lookup (suc level) l s b = if is_inside s.at b then by_level (by_lookup level) l s b else unmade b

-- ---- lookups over a buffer

pub record Going : Type 0 where
  pub buffer : Buffer
  pub standing : Standing

abbrev pub next_glyph : Standing → Standing
next_glyph s = record s { at = s.at + 1 }

-- where the lookup applied it goes on after what it made; else, and where it is off, at the next glyph
abbrev pub going_on : Going → Made → Going
going_on g made = record { buffer = made.buffer; standing = unwrap_or made.next (next_glyph g.standing) }

abbrev pub at_glyph : ℕ → Lookup → Going → Going
at_glyph levels l g = if is_inside g.standing.at g.buffer
    then (if is_on l (item_at g.buffer g.standing.at) then going_on g (by_lookup levels l g.standing g.buffer)
    else record g { standing = next_glyph g.standing })
    else g

abbrev pub forwards : ℕ → Lookup → Going → Going
forwards levels l g = times (at_glyph levels l) (length g.buffer.items)
    (record { buffer = g.buffer; standing = record g.standing { at = 0; whole = length g.buffer.items } })

-- the glyph before a place, and then the place is there
pub record Backing : Type 0 where
  pub buffer : Buffer
  pub at : ℕ

abbrev pub at_glyph_before : Lookup → Backing → Backing
at_glyph_before l s = if nat_eq s.at 0 then s else record { buffer = reversed_at l (s.at - 1) s.buffer; at = s.at - 1 }

abbrev pub backwards : Lookup → Buffer → Buffer
backwards l b = (times (at_glyph_before l) (length b.items) (record { buffer = b; at = length b.items })).buffer

abbrev pub over_buffer : ℕ → Going → Lookup → Going
over_buffer levels g l = if is_reverse l then record g { buffer = backwards l g.buffer } else forwards levels l g

-- the random state of a stage begins with 1
abbrev pub going_from : Buffer → Going
going_from b = record { buffer = b; standing = record { at = 0; random = 1; whole = 0 } }

abbrev pub stage_applied : List Lookup → Buffer → Buffer
stage_applied lookups b = (fold (over_buffer most_levels) (going_from b) lookups).buffer
