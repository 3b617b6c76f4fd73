-- Round three of normalising: marks are composed with their starters again (The Unicode Standard, D115 to D117).
use Rattle.std.specs.Prelude.{ℕ, ◌≡◌, suc, ◌+◌, ◌==◌, ◌&&◌, not, nat_lt, nat_le, if◌then◌else◌, Bool, false, List, [], ◌∷◌, ◌++◌, map, drop}
use Rattle.std.specs.Prelude.{replicate, length, get_or, slice_get, Option, Some, None}
use Rattle.std.specs.Option.{option_map}
use Rattle.std.specs.List.{flat_map}
use Rattle.shape_items.specs.Items.{Item, ccc_of_item, is_mark_item}
use Rattle.shape_common.specs.Positions.{zero_position}
use Rattle.shape_items.specs.Buffer.{Buffer}
use Rattle.shape_items.specs.Spans.{spans_merged_out}
use Rattle.canonical_form.specs.Recompose.{is_blocked, is_blocked_by_last, compose_with_glyph, recomposed}
use Rattle.shape_plan.specs.Rules.{Rules, has_glyph}
use Rattle.shape_normalize.specs.Recast.{recast_to, seen_chars}

-- a mark that was composed with a starter: the place where it stood, and the character that the two made
pub record Absorbed : Type 0 where
  pub place : ℕ
  pub char : ℕ

-- an item with the place where it stood, and the marks that were composed with it, in order
pub record Placed : Type 0 where
  pub item : Item
  pub place : ℕ
  pub absorbed : List Absorbed

-- the items from this place on, with nothing composed yet
abbrev pub placed : ℕ → List Item → List Placed
placed place [] = []
placed place (item ∷ items) = record { item = item; place = place; absorbed = [] } ∷ placed (suc place) items

abbrev pub ccc_of_placed : Placed → ℕ
ccc_of_placed p = ccc_of_item p.item

abbrev pub is_mark_placed : Placed → Bool
is_mark_placed p = is_mark_item p.item

-- the starter with the character that it makes with a mark, if that has a glyph
abbrev pub compose_placed : Rules → Placed → Placed → Option Placed
compose_placed rules starter mark =
    option_map (λ c. record {
      item = recast_to rules.unicode rules.face.nominal_glyph starter.item c;
      place = starter.place;
      absorbed = starter.absorbed ++ record { place = mark.place; char = c } ∷ [];
    }) (compose_with_glyph rules.compose (has_glyph rules.face.nominal_glyph) starter.item.codepoint mark.item.codepoint)

-- the items that are emitted: a mark is blocked by any mark between it and its starter that has ccc 0 or a ccc not less
-- than its own (D115), in runs of any length
abbrev pub recomposed_items : Rules → List Item → List Placed
recomposed_items rules items = recomposed ccc_of_placed (is_blocked ccc_of_placed) is_mark_placed (compose_placed rules) (placed 0 items)

-- the items that would be emitted if the mark emitted last alone were asked, as HarfBuzz asks
abbrev pub recomposed_by_last : Rules → List Item → List Placed
recomposed_by_last rules items =
    recomposed ccc_of_placed (is_blocked_by_last ccc_of_placed) is_mark_placed (compose_placed rules) (placed 0 items)

-- the spans from each starter to each mark that was composed with it, in order
abbrev pub absorbed_spans : List Placed → List (ℕ × ℕ)
absorbed_spans out = flat_map (λ p. map (λ mark. (p.place, mark.place + 1)) p.absorbed) out

-- the characters that were composed, in order
abbrev pub composed_chars : List Placed → List ℕ
composed_chars out = flat_map (λ p. map (λ mark. mark.char) p.absorbed) out

-- an item with the cluster and the mask that stand at its place
abbrev pub with_cluster_at : List Item → Placed → Item
with_cluster_at items p = let at = get_or items p.place p.item in record p.item { cluster = at.cluster; mask = at.mask }

-- the buffer with these items as its list, each span of a composition merged, at positions of zeros; the spans are
-- merged while the marks that go still stand: each such mark is in one cluster with the item before it from then on, so
-- that a later merge grows over both or neither
abbrev pub with_put_out : Rules → Buffer → List Placed → Buffer
with_put_out rules b out =
    let merged = spans_merged_out (absorbed_spans out) b in
    record merged {
      items = map (with_cluster_at merged.items) out;
      positions = replicate (length out) zero_position;
      scratch_flags = seen_chars rules.unicode b.scratch_flags (composed_chars out);
    }

-- round three of normalising
abbrev pub round_three : Rules → Buffer → Buffer
round_three rules b = with_put_out rules b (recomposed_items rules b.items)

-- ---- the walk of the code, which puts composed characters in place and keeps the spans beside them

-- a span from this place to the first of these marks, and from each of them to the next
abbrev pub spans_between : ℕ → List Absorbed → List (ℕ × ℕ)
spans_between from [] = []
spans_between from (mark ∷ absorbed) = (from, mark.place + 1) ∷ spans_between mark.place absorbed

-- the spans that the code keeps: once the first one is merged, a starter and its mark are in one cluster, so that the
-- next span may begin at the mark
abbrev pub chained_spans : List Placed → List (ℕ × ℕ)
chained_spans out = flat_map (λ p. spans_between p.place p.absorbed) out

-- after marks of this greatest ccc, 0 if there are none, a mark of such a ccc is blocked from their starter
abbrev pub is_blocked_after : ℕ → ℕ → Bool
is_blocked_after greatest ccc = nat_lt 0 greatest && nat_le ccc greatest

-- the character that a starter makes with an item after it and after marks of this greatest ccc, if the two compose
abbrev pub composed_char : Rules → Item → ℕ → Item → Option ℕ
composed_char rules starter greatest next =
    if is_mark_item next && not (is_blocked_after greatest (ccc_of_item next))
    then compose_with_glyph rules.compose (has_glyph rules.face.nominal_glyph) starter.codepoint next.codepoint
    else None

abbrev pub cluster_and_mask : Item → ℕ × ℕ
cluster_and_mask item = (item.cluster, item.mask)

-- what the walk makes of the items: each that is emitted stands at its place, with the cluster and the mask that it had
pub record AreComposedInPlace (rules : Rules) (old new : List Item) : Type 0 where
  pub in_place : map (λ (p : Placed). slice_get new p.place) (recomposed_items rules old)
      ≡ map (λ (p : Placed). Some p.item) (recomposed_items rules old)
  pub same : map cluster_and_mask new ≡ map cluster_and_mask old

-- the first of these spans ends here
abbrev pub ends_at : ℕ → List (ℕ × ℕ) → Bool
ends_at end [] = false
ends_at end (span ∷ spans) = span.1 == end

-- the items from this place on without the last one of each of these spans, whose ends rise
abbrev pub without_ends : ℕ → List (ℕ × ℕ) → List Item → List Item
without_ends place spans [] = []
without_ends place spans (item ∷ items) =
    if ends_at (suc place) spans then without_ends (suc place) (drop 1 spans) items
    else item ∷ without_ends (suc place) spans items

-- the buffer without the last item of each of these spans, at positions of zeros
abbrev pub ends_taken_out : List (ℕ × ℕ) → Buffer → Buffer
ends_taken_out spans b =
    let left = without_ends 0 spans b.items in
    record b { items = left; positions = replicate (length left) zero_position }
