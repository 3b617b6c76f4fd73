-- Lookups that apply others, by the levels that are left (kinds 5 and 6).
use Prim.Native.Nat.{zero}
use Rattle.std.specs.Prelude.{ℕ, suc, true, false, List, Option, Some, None, ◌+◌, not, length, nat_eq, if◌then◌else◌}
use Rattle.std.specs.Option.{option_and_then, option_map, option_map_or, unwrap_or}
use Rattle.shape_items.specs.Buffer.{Buffer}
use Rattle.shape_items.specs.Items.{Item}
use Rattle.layout_matching.specs.Found.{is_context, found_of}
use Rattle.layout_matching.specs.Loops.{times}
use Rattle.layout_matching.specs.Nesting.{target_of, places_of}
use Rattle.layout_matching.specs.Tried.{reach_of}
use Rattle.layout_matching.specs.Sought.{sought}
use Rattle.layout_matching.specs.Work.{charged, nested_charged, lookup_charged, steps_work, NESTED_WORK}
use Rattle.layout_matching.specs.declared.found.Found.{Found}
use Rattle.layout_matching.specs.declared.lookup.Lookup.{Lookup}
use Rattle.layout_matching.specs.declared.nesting.Target.{Target}
use Rattle.layout_matching.specs.declared.sought.Sought.{Sought}
use Rattle.layout_matching.specs.declared.spans.Origin.{Origin}
use Rattle.layout_substitution.specs.Applied.{Applied, unapplied}
use Rattle.layout_substitution.specs.Edits.{is_inside, is_past, broken, concat_marked}
use Rattle.layout_substitution.specs.Kinds.{lookup_applied}
use Rattle.layout_substitution.specs.declared.apply.Spot.{Spot}
use Rattle.layout_context.specs.Places.{renumbered, moved_end, is_too_long}
use Rattle.layout_context.specs.declared.nested.LookupRule.{LookupRule}
use Rattle.layout_context.specs.declared.progress.Progress.{Progress}
use Rattle.layout_context.specs.declared.nested.Tried.{Tried}

abbrev pub origin_of : Spot → Buffer → Origin
origin_of spot b = record { at = spot.at; is_steady = nat_eq (length b.items) spot.whole }

-- ---- what a lookup costs at a place

abbrev pub sought_left : Lookup → List Item → Origin → ℕ → Option ℕ
sought_left l items origin left = option_map (λ (s : Sought). s.left) (sought l items origin left)

-- a lookup of context is charged for as its rule is sought, any other one before it is tried
abbrev pub place_charged : Lookup → List Item → Origin → ℕ → Option ℕ
place_charged l items origin left = if is_context l then sought_left l items origin left else lookup_charged l items origin.at left

-- one that a rule names costs more
abbrev pub named_charged : Lookup → List Item → Origin → ℕ → Option ℕ
named_charged l items origin left = if is_context l
    then option_and_then (sought_left l items origin) (charged (steps_work l + NESTED_WORK) left)
    else nested_charged l items origin.at left

-- ---- records

pub record Nest : Type 0 where
  pub buffer : Buffer
  pub places : List ℕ
  pub progress : Progress

abbrev pub passed_record : Progress → Progress
passed_record p = record p { r = p.r + 1 }

-- once what is left doesn't suffice, nothing is left
abbrev pub stopped_record : Progress → Progress
stopped_record p = record p { spot = record p.spot { left = 0 }; stopped = true; r = p.r + 1 }

-- after a lookup that was applied at a glyph, or wasn't
abbrev pub settled : Target → ℕ → ℕ → List ℕ → Spot → Progress → Progress
settled t before after places spot p = record p {
  spot = spot;
  end = moved_end t.place before after p.end;
  stopped = is_too_long before after places;
  r = p.r + 1;
}

abbrev pub nest_after : Nest → Target → Spot → Applied → Nest
nest_after s t spot made = let before = length s.buffer.items in let after = length made.buffer.items in record {
  buffer = made.buffer;
  places = if is_too_long before after s.places then s.places else renumbered t.place t.index before after s.places;
  progress = settled t before after s.places (unwrap_or made.next spot) s.progress;
}

abbrev pub nested_spot : Spot → ℕ → ℕ → Spot
nested_spot spot place left = record spot { at = place; left = left }

abbrev pub target_within : (Lookup → Spot → Buffer → Applied) → Nest → Target → ℕ → Nest
target_within next s t left = let spot = nested_spot s.progress.spot t.place left in nest_after s t spot (next t.lookup spot s.buffer)

-- a nested lookup is charged for, whether it applies or not
abbrev pub target_charged : Nest → Target → Option ℕ
target_charged s t = let spot = nested_spot s.progress.spot t.place s.progress.spot.left in
    named_charged t.lookup s.buffer.items (origin_of spot s.buffer) spot.left

abbrev pub target_applied : (Lookup → Spot → Buffer → Applied) → Nest → Target → Nest
target_applied next s t = if not (is_inside t.place s.buffer) then record s { progress = passed_record s.progress }
    else option_map_or (target_within next s t) (target_charged s t) (record s { progress = stopped_record s.progress })

abbrev pub target_done : (Lookup → Spot → Buffer → Applied) → Nest → Option Target → Nest
target_done next s None = record s { progress = passed_record s.progress }
target_done next s (Some t) = target_applied next s t

abbrev pub record_step : (Lookup → Spot → Buffer → Applied) → LookupRule → Nest → Nest
record_step next named s = if s.progress.stopped then record s { progress = passed_record s.progress }
    else target_done next s (target_of named.lookup named.rule s.places s.progress.r)

abbrev pub first_nest : Lookup → Spot → Buffer → Found → Nest
first_nest l spot b found = record {
  buffer = broken found.span.start found.span.end b;
  places = places_of l b.items spot.at found.rule;
  progress = record { spot = spot; end = found.span.last + 1; stopped = false; r = 0 };
}

abbrev pub records_made : (Lookup → Spot → Buffer → Applied) → Lookup → Spot → Buffer → Found → Nest
records_made next l spot b found =
    times (record_step next (record { lookup = l; rule = found.rule })) found.rule.count (first_nest l spot b found)

-- the lookups of a rule, one after the other
abbrev pub rule_applied : (Lookup → Spot → Buffer → Applied) → Lookup → Spot → Buffer → Found → Applied
rule_applied next l spot b found = let s = records_made next l spot b found in
    record { buffer = s.buffer; next = Some (record s.progress.spot { at = s.progress.end }) }

-- ---- levels

-- what the rules looked at in vain that were tried before the one that matches
abbrev pub tried_marked : Lookup → Spot → Buffer → Buffer
tried_marked l spot b = concat_marked (reach_of l b.items (origin_of spot b)) b

abbrev pub first_rule_applied : (Lookup → Spot → Buffer → Applied) → Lookup → Spot → Buffer → Applied
first_rule_applied next l spot b =
    option_map_or (rule_applied next l spot b) (found_of l b.items (origin_of spot b)) (unapplied b)

abbrev pub level_applied : (Lookup → Spot → Buffer → Applied) → Lookup → Spot → Buffer → Applied
level_applied next l spot b = if is_context l then first_rule_applied next l spot (tried_marked l spot b)
    else lookup_applied l spot b

-- past the limit, and where no level is left, nothing is done
abbrev pub nested_applied : ℕ → Lookup → Spot → Buffer → Applied
nested_applied zero l spot b = unapplied b
nested_applied (suc level) l spot b =
    if is_past b then unapplied b
    else (if is_inside spot.at b then level_applied (nested_applied level) l spot b else unapplied b)

-- ---- lookups that are charged for at a place

-- what is left after the charge, and where the lookup goes on if it applied; none if what is left doesn't suffice
pub record Attempt : Type 0 where
  pub buffer : Buffer
  pub tried : Option Tried

abbrev pub attempt_within : ℕ → Lookup → Spot → Buffer → ℕ → Attempt
attempt_within level l spot b left = let made = nested_applied level l (record spot { left = left }) b in
    record { buffer = made.buffer; tried = Some (record { left = left; next = made.next }) }

abbrev pub attempt_by : ℕ → Lookup → Spot → Buffer → Option ℕ → Attempt
attempt_by level l spot b charge = option_map_or (attempt_within level l spot b) charge (record { buffer = b; tried = None })

abbrev pub attempt : ℕ → Lookup → Spot → Buffer → Attempt
attempt level l spot b = attempt_by level l spot b (sought_left l b.items (origin_of spot b) spot.left)

-- at a place of a walk, and where a rule names the lookup
abbrev pub place_attempt : ℕ → Lookup → Spot → Buffer → Attempt
place_attempt level l spot b = attempt_by level l spot b (place_charged l b.items (origin_of spot b) spot.left)

abbrev pub named_attempt : ℕ → Lookup → Spot → Buffer → Attempt
named_attempt level l spot b = attempt_by level l spot b (named_charged l b.items (origin_of spot b) spot.left)
