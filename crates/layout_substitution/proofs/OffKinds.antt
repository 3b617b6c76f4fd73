-- Lookups of kinds 1 to 4 leave the glyphs for which they are off.
use Prim.Native.Nat.{zero}
use Rattle.std.proofs.Common.{◌≡◌, ℕ, suc, ◌+◌, ◌-◌, ◌<◌, ◌≤◌, ◌%◌, ◌&&◌, ◌||◌, not, Bool, true, false, List, length, Option, Some, None, is_some, nat_lt, nat_eq, refl, ap, sym, ◌∙◌, arith, if◌then◌else◌, get_or}
use Rattle.std.proofs.lemmas.Bool.Decides.{nat_tests}
use Rattle.std.proofs.lemmas.List.Edits.{get_or-insert_below, get_or-remove_below}
use Rattle.std.specs.List.{remove, insert}
use Rattle.std.specs.Option.{option_map_or}
use Rattle.shape_common.specs.Positions.{zero_position}
use Rattle.shape_items.specs.Buffer.{Buffer, next_ligature_id}
use Rattle.shape_items.specs.Delete.{hand_over}
use Rattle.shape_items.specs.Items.{Item, new_item}
use Rattle.layout_tables.specs.Lookups.{subtable_count_of, subtable_of}
use Rattle.layout_tables.specs.declared.lookups.LookupSubtable.{LookupSubtable}
use Rattle.layout_matching.specs.Loops.{times}
use Rattle.layout_matching.specs.Seeking.{fits}
use Rattle.layout_matching.specs.Skipping.{shares, is_skipped}
use Rattle.layout_matching.specs.declared.lookup.Lookup.{Lookup}
use Rattle.layout_substitution.specs.Applied.{Applied, unapplied, put_one, single_applied, value_of, is_random, next_random, random_put}
use Rattle.layout_substitution.specs.Applied.{random_applied, alternate_applied, cluster_at, is_left_in, Handing, is_handed, handed_step, handed_back}
use Rattle.layout_substitution.specs.Applied.{left_to_neighbours, gone, Copying, copy_like, copy_put, first_put, several_put, list_put, deleted}
use Rattle.layout_substitution.specs.Applied.{taken_away, glyphs_put, sequence_put, multiple_applied}
use Rattle.layout_substitution.specs.Edits.{item_at, is_inside, is_past, put_at, put_after, taken_out, merged, broken, concat_marked}
use Rattle.layout_substitution.specs.Kinds.{kind_applied, subtable_applied, or_else, subtables_applied, lookup_applied}
use Rattle.layout_substitution.specs.Ligatures.{Joined, between_stays, component_gone, looked_for, stays, join_step, follows, follow_step, followed}
use Rattle.layout_substitution.specs.Ligatures.{component_among, first_joined, joined, ligation_of, id_given, ligatures_reach, ligature_found}
use Rattle.layout_substitution.specs.Ligatures.{ligature_put, ligature_made, set_ligated, ligature_applied}
use Rattle.layout_substitution.specs.Off.{off_glyphs, HasNoFlag}
use Rattle.layout_substitution.specs.Replaced.{replaced, as_component}
use Rattle.layout_substitution.specs.Substitutes.{single_of, set_of, alternate_of, listed_count, listed_at, ligature_glyph, component_count}
use Rattle.layout_substitution.specs.declared.apply.Spot.{Spot}
use Rattle.layout_substitution.specs.declared.ligature.Components.{Components}
use Rattle.layout_substitution.specs.declared.ligature.Ligation.{Ligation}
use Rattle.layout_substitution.proofs.AppliedLemmas.{like-replaced, like-apart, like-ligature}
use Rattle.layout_substitution.proofs.OffLemmas.{Same, Same-then, same-if, same-times, same-merged, same-broken, same-concat_marked, same-put, bare-handed, on_at, same-off, same-on, put-off, put_after-off, taken_out-off, put-on, off-if}

-- the glyphs that are off stay, and if nothing was applied the lookup is still on at the place
pub record Off (l : Lookup) (b : Buffer) (at : ℕ) (made : Applied) : Type 0 where
  pub glyphs : off_glyphs l made.buffer.items ≡ off_glyphs l b.items
  pub on : made.next ≡ None → on_at l made.buffer at ≡ true

off-unapplied : (l : Lookup) (b : Buffer) (at : ℕ) → on_at l b at ≡ true → Off l b at (unapplied b)
off-unapplied l b at on = record { glyphs = refl; on = λ e. on }

off-cond : (l : Lookup) (b : Buffer) (at : ℕ) (t : Bool) (x y : Applied) → Off l b at x → Off l b at y → Off l b at (if t then x else y)
off-cond l b at true x y k m = k
off-cond l b at false x y k m = m

off-option : {X : Type 0} (l : Lookup) (b : Buffer) (at : ℕ) (f : X → Applied) → ((x : X) → Off l b at (f x)) → on_at l b at ≡ true
    → (o : Option X) → Off l b at (option_map_or f o (unapplied b))
off-option l b at f each on None = off-unapplied l b at on
off-option l b at f each on (Some x) = each x

-- what was applied
off-made : (l : Lookup) (b c : Buffer) (at : ℕ) (spot : Spot) → off_glyphs l c.items ≡ off_glyphs l b.items
    → Off l b at (record { buffer = c; next = Some spot })
off-made l b c at spot glyphs = record { glyphs = glyphs; on = λ e. (let t : true ≡ false = ap is_some e in cc) }

-- ---- one glyph for one

put_one-off : (l : Lookup) (spot : Spot) (b : Buffer) (glyph : ℕ) → on_at l b spot.at ≡ true → Off l b spot.at (put_one l spot b glyph)
put_one-off l spot b glyph on =
    off-made l b _ spot.at _ (put-off l spot.at _ b (like-replaced l 0 glyph (item_at b spot.at)).mask on)

random_put-off : (l : Lookup) (spot : Spot) (b : Buffer) (set : ℕ) → HasNoFlag l → on_at l b spot.at ≡ true
    → Off l b spot.at (random_put l spot b set)
random_put-off l spot b set pure on =
    let count = listed_count l.table.now set in
    let state = next_random spot.random in
    let c = broken 0 (length b.items) b in
    let same = same-broken 0 (length b.items) b in
    let glyph = listed_at l.table.now set (state % count) in
    off-cond l b spot.at (nat_eq count 0) (unapplied b) (put_one l (record spot { random = state }) c glyph) (off-unapplied l b spot.at on)
    (off-made l b _ spot.at _
    (put-off l spot.at _ c (like-replaced l 0 glyph (item_at c spot.at)).mask (same-on l b c spot.at pure same on)
    ∙ same-off l b c pure same))

alternate-off : (l : Lookup) (start : ℕ) (spot : Spot) (b : Buffer) → HasNoFlag l → on_at l b spot.at ≡ true
    → Off l b spot.at (alternate_applied l start spot b)
alternate-off l start spot b pure on =
    let item = item_at b spot.at in
    off-cond l b spot.at (is_random l item) (random_applied l start spot b) _
    (off-option l b spot.at (random_put l spot b) (λ set. random_put-off l spot b set pure on) on (set_of l.table.now start item.glyph_id))
    (off-option l b spot.at (put_one l spot b) (λ glyph. put_one-off l spot b glyph on) on
    (alternate_of l.table.now start item.glyph_id (value_of l item)))

-- ---- several for one

handing-if : (t : Bool) (a : Buffer) (x y : Handing) → Same a x.buffer → Same a y.buffer → Same a (if t then x else y).buffer
handing-if true a x y k m = k
handing-if false a x y k m = m

left-same : (i : ℕ) (b : Buffer) → Same b (left_to_neighbours i b)
left-same i b =
    let cluster = cluster_at b (i - 1) in
    let step : (s : Handing) → Same s.buffer (handed_step cluster s).buffer =
    λ s. handing-if (is_handed cluster s) s.buffer
    (record { buffer = put_at (s.at - 1) (hand_over (item_at s.buffer s.at) (item_at s.buffer (s.at - 1))) s.buffer; at = s.at - 1 }) s
    (same-put (s.at - 1) (hand_over (item_at s.buffer s.at) (item_at s.buffer (s.at - 1))) s.buffer
    (bare-handed (item_at s.buffer s.at) (item_at s.buffer (s.at - 1)))) refl in
    let back : Same b (handed_back i b) = same-times (λ (s : Handing). s.buffer) (handed_step cluster) step i
    (record { buffer = b; at = i }) in
    same-if (not (is_inside i b) || is_left_in b i) b b _ refl
    (same-if (nat_eq i 0) b (merged 0 2 b) _ (same-merged 0 2 b)
    (same-if (nat_lt (cluster_at b i) (cluster_at b (i - 1))) b (handed_back i b) b back refl))

gone-off : (l : Lookup) (i : ℕ) (b : Buffer) → HasNoFlag l → on_at l b i ≡ true → off_glyphs l (gone i b).items ≡ off_glyphs l b.items
gone-off l i b pure on =
    let c = left_to_neighbours i b in
    taken_out-off l i c (same-on l b c i pure (left-same i b) on) ∙ same-off l b c pure (left-same i b)

after-on : (l : Lookup) (at : ℕ) (y : Item) (b : Buffer) → on_at l b at ≡ true → on_at l (put_after at y b) at ≡ true
after-on l at y b on =
    let P : Bool → Type 0 = λ t. is_inside at b ≡ t → on_at l (if t
    then record b { items = insert b.items (at + 1) y; positions = insert b.positions (at + 1) zero_position } else b) at ≡ true in
    let cases : P (is_inside at b) = elim (is_inside at b) as P [
      | true ↦ λ t.
          let more : at + 1 ≤ length b.items = grind (arith, nat_tests, t) in
          ap (λ (x : Item). shares x.mask l.mask) (get_or-insert_below b.items (at + 1) y (new_item 0 0) at (omega arith) more) ∙ on
      | false ↦ λ t. on
    ] in
    cases refl

copies-off : (l : Lookup) (list at : ℕ) (item : Item) (n : ℕ) (s : Copying) → on_at l s.buffer at ≡ true
    → (off_glyphs l (times (copy_put l list at item) n s).buffer.items ≡ off_glyphs l s.buffer.items)
    × (on_at l (times (copy_put l list at item) n s).buffer at ≡ true)
copies-off l list at item zero s on = (refl, on)
copies-off l list at item (suc n) s on =
    let before = copies-off l list at item n s on in
    let here = times (copy_put l list at item) n s in
    let copy = copy_like l list (item_at here.buffer at) item here.k in
    (put_after-off l at copy here.buffer before.1 ∙ before.0, after-on l at copy here.buffer before.1)

several-off : (l : Lookup) (list at : ℕ) (b : Buffer) → on_at l b at ≡ true
    → off_glyphs l (several_put l list at b).items ≡ off_glyphs l b.items
several-off l list at b on =
    let item = item_at b at in
    let first = first_put l list at item b in
    let n = listed_count l.table.now list - 1 in
    let like = (like-apart l (listed_at l.table.now list 0) 0 item).mask in
    (copies-off l list at item n (record { buffer = first; k = n }) (put-on l at at _ b like on)).0 ∙ put-off l at _ b like on

list-off : (l : Lookup) (list at : ℕ) (b : Buffer) → HasNoFlag l → on_at l b at ≡ true
    → off_glyphs l (list_put l list at b).items ≡ off_glyphs l b.items
list-off l list at b pure on =
    let glyph = listed_at l.table.now list 0 in
    let one = put_at at (replaced l 0 glyph (item_at b at)) b in
    off-if l (nat_eq (listed_count l.table.now list) 1) b one (several_put l list at b)
    (put-off l at _ b (like-replaced l 0 glyph (item_at b at)).mask on) (several-off l list at b on)

deleted-off : (l : Lookup) (spot : Spot) (b : Buffer) → HasNoFlag l → on_at l b spot.at ≡ true → Off l b spot.at (deleted spot b)
deleted-off l spot b pure on =
    off-cond l b spot.at (nat_eq spot.left 0) (unapplied b) (taken_away (length b.items - (spot.at + 1)) spot b)
    (off-unapplied l b spot.at on) (off-made l b _ spot.at _ (gone-off l spot.at b pure on))

sequence-off : (l : Lookup) (spot : Spot) (b : Buffer) (list : ℕ) → HasNoFlag l → on_at l b spot.at ≡ true
    → Off l b spot.at (sequence_put l spot b list)
sequence-off l spot b list pure on =
    off-cond l b spot.at (nat_eq (listed_count l.table.now list) 0) (deleted spot b) (glyphs_put l spot b list)
    (deleted-off l spot b pure on) (off-made l b _ spot.at _ (list-off l list spot.at b pure on))

multiple-off : (l : Lookup) (start : ℕ) (spot : Spot) (b : Buffer) → HasNoFlag l → on_at l b spot.at ≡ true
    → Off l b spot.at (multiple_applied l start spot b)
multiple-off l start spot b pure on =
    off-option l b spot.at (sequence_put l spot b) (λ list. sequence-off l spot b list pure on) on
    (set_of l.table.now start (item_at b spot.at).glyph_id)

-- ---- one for several

-- the walk over the components stands after the first one, for which the lookup stays on
record Going (l : Lookup) (b : Buffer) (at : ℕ) (s : Joined) : Type 0 where
  glyphs : off_glyphs l s.buffer.items ≡ off_glyphs l b.items
  on : on_at l s.buffer at ≡ true
  ahead : at < s.walk.at

going-if : (l : Lookup) (b : Buffer) (at : ℕ) (t : Bool) (x y : Joined) → (t ≡ true → Going l b at x) → (t ≡ false → Going l b at y)
    → Going l b at (if t then x else y)
going-if l b at true x y k m = k refl
going-if l b at false x y k m = m refl

between-same : (own : Bool) (id : ℕ) (s : Joined) → Same s.buffer (between_stays own id s).buffer
between-same own id s =
    let item = item_at s.buffer s.walk.at in
    same-if own s.buffer (put_at s.walk.at (as_component id (component_among s.walk item) item) s.buffer) s.buffer
    (same-put s.walk.at (as_component id (component_among s.walk item) item) s.buffer refl) refl

between-going : (l : Lookup) (b : Buffer) (at : ℕ) (own : Bool) (id : ℕ) (s : Joined) → HasNoFlag l → Going l b at s
    → Going l b at (between_stays own id s)
between-going l b at own id s pure g =
    let c = (between_stays own id s).buffer in
    let same = between-same own id s in
    record {
      glyphs = same-off l s.buffer c pure same ∙ g.glyphs;
      on = same-on l s.buffer c at pure same g.on;
      ahead =
          omega (arith, g.ahead);
    }

and_left : (a b : Bool) → (a && b) ≡ true → a ≡ true
and_left true b e = refl
and_left false b e = e

-- an item that doesn't stay is a component, for which the lookup is on
component-on : (l : Lookup) (made : Ligation) (s : Joined) → made.seek.is_input ≡ true → stays l made s ≡ false
    → on_at l s.buffer s.walk.at ≡ true
component-on l made s input goes =
    let item = item_at s.buffer s.walk.at in
    let fit : fits l made.seek (looked_for made s.walk) item ≡ true = by_tests (is_skipped l item)
    (fits l made.seek (looked_for made s.walk) item) goes in
    let shared : shares item.mask (if made.seek.is_input then l.mask else 0xFFFFFFFF) ≡ true = and_left _ _ (and_left _ _ fit) in
    ap (λ t. shares item.mask (if t then l.mask else 0xFFFFFFFF)) (sym input) ∙ shared
  where
    by_tests : (a b : Bool) → (a || not b) ≡ false → b ≡ true
    by_tests true true e = refl
    by_tests true false e = sym e
    by_tests false true e = refl
    by_tests false false e = sym e

gone-going : (l : Lookup) (b : Buffer) (at : ℕ) (s : Joined) → is_inside s.walk.at s.buffer ≡ true → on_at l s.buffer s.walk.at ≡ true
    → Going l b at s → Going l b at (component_gone s)
gone-going l b at s inside on g =
    let more : s.walk.at < length s.buffer.items = grind (arith, nat_tests, inside) in
    let out : (taken_out s.walk.at s.buffer).items ≡ remove s.buffer.items s.walk.at = rw inside refl in
    let there : item_at (taken_out s.walk.at s.buffer) at ≡ item_at s.buffer at =
    ap (λ (xs : List Item). get_or xs at (new_item 0 0)) out
    ∙ get_or-remove_below s.buffer.items s.walk.at (new_item 0 0) at g.ahead more in
    record {
      glyphs = taken_out-off l s.walk.at s.buffer on ∙ g.glyphs;
      on = ap (λ (x : Item). shares x.mask l.mask) there ∙ g.on;
      ahead = g.ahead;
    }

join_step-going : (l : Lookup) (b : Buffer) (at : ℕ) (made : Ligation) (s : Joined) → HasNoFlag l → made.seek.is_input ≡ true
    → Going l b at s → Going l b at (join_step l made s)
join_step-going l b at made s pure input g =
    going-if l b at (is_inside s.walk.at s.buffer) _ s
    (λ inside. going-if l b at (stays l made s) (between_stays made.own made.id s) (component_gone s)
    (λ t. between-going l b at made.own made.id s pure g)
    (λ t. gone-going l b at s inside (component-on l made s input t) g)) (λ t. g)

going-times : (l : Lookup) (b : Buffer) (at : ℕ) (f : Joined → Joined) → ((s : Joined) → Going l b at s → Going l b at (f s))
    → (n : ℕ) (s : Joined) → Going l b at s → Going l b at (times f n s)
going-times l b at f each zero s g = g
going-times l b at f each (suc n) s g = each (times f n s) (going-times l b at f each n s g)

followed-going : (l : Lookup) (b : Buffer) (at : ℕ) (made : Ligation) (s : Joined) → HasNoFlag l → Going l b at s
    → Going l b at (followed made s)
followed-going l b at made s pure g =
    going-if l b at (made.marks || nat_eq s.walk.id 0) s _ (λ t. g)
    (λ t. going-times l b at (follow_step made.id)
    (λ j h. going-if l b at (follows j) (between_stays true made.id j) j (λ u. between-going l b at true made.id j pure h) (λ u. h))
    (length s.buffer.items) s g)

ligature_put-off : (l : Lookup) (spot : Spot) (b : Buffer) (m : Components) → HasNoFlag l → on_at l b spot.at ≡ true
    → Off l b spot.at (ligature_put l spot b m)
ligature_put-off l spot b m pure on =
    let at = spot.at in
    let made = ligation_of l at b m in
    let given = id_given made.own b in
    let first = first_joined l m at given in
    let told : Same b given = same-if made.own b (record b { serial = next_ligature_id b.serial }) b refl refl in
    let same : Same b first.buffer = Same-then b given first.buffer told (same-merged at (m.last + 1) given) in
    let begun : Going l b at first = record {
      glyphs = same-off l b first.buffer pure same;
      on = same-on l b first.buffer at pure same on;
      ahead = omega arith;
    } in
    let all : Going l b at (joined l made m at given) =
    followed-going l b at made _ pure (going-times l b at (join_step l made)
    (λ s g. join_step-going l b at made s pure refl g) (m.last - at) first begun) in
    let s = joined l made m at given in
    off-made l b _ at _ (put-off l at _ s.buffer
    (like-ligature l made.own made.id s.walk.so_far (ligature_glyph l.table.now m.ligature) (item_at s.buffer at)).mask all.on ∙ all.glyphs)

set_ligated-off : (l : Lookup) (spot : Spot) (b : Buffer) (set : ℕ) → HasNoFlag l → on_at l b spot.at ≡ true
    → Off l b spot.at (set_ligated l spot b set)
set_ligated-off l spot b set pure on =
    let r = ligatures_reach l b spot.at set in
    let c = concat_marked r b in
    let same = same-concat_marked r b in
    let here = same-on l b c spot.at pure same on in
    let made : Off l c spot.at (set_ligated l spot b set) =
    off-option l c spot.at (ligature_made l spot c)
    (λ m. off-cond l c spot.at (nat_eq (component_count l.table.now m.ligature) 1) _ _
    (put_one-off l spot c (ligature_glyph l.table.now m.ligature) here) (ligature_put-off l spot c m pure here))
    here (ligature_found l c spot.at set) in
    record { glyphs = made.glyphs ∙ same-off l b c pure same; on = made.on }

-- ---- lookups

kind-off : (l : Lookup) (spot : Spot) (b : Buffer) (subtable : LookupSubtable) → HasNoFlag l → on_at l b spot.at ≡ true
    → Off l b spot.at (kind_applied l spot b subtable)
kind-off l spot b subtable pure on =
    let glyph = (item_at b spot.at).glyph_id in
    off-cond l b spot.at (nat_eq subtable.kind 1) (single_applied l subtable.start spot b) _
    (off-option l b spot.at (put_one l spot b) (λ g. put_one-off l spot b g on) on (single_of l.table.now subtable.start glyph))
    (off-cond l b spot.at (nat_eq subtable.kind 2) (multiple_applied l subtable.start spot b) _ (multiple-off l subtable.start spot b pure on)
    (off-cond l b spot.at (nat_eq subtable.kind 3) (alternate_applied l subtable.start spot b) _ (alternate-off l subtable.start spot b pure on)
    (off-cond l b spot.at (nat_eq subtable.kind 4) (ligature_applied l subtable.start spot b) (unapplied b)
    (off-option l b spot.at (set_ligated l spot b) (λ set. set_ligated-off l spot b set pure on) on (set_of l.table.now subtable.start glyph))
    (off-unapplied l b spot.at on))))

subtables-off : (l : Lookup) (spot : Spot) (n i : ℕ) (b : Buffer) → HasNoFlag l → on_at l b spot.at ≡ true
    → off_glyphs l (subtables_applied l spot n i b).buffer.items ≡ off_glyphs l b.items
subtables-off l spot zero i b pure on = refl
subtables-off l spot (suc n) i b pure on =
    let made = subtable_applied l i spot b in
    let off : Off l b spot.at made = off-option l b spot.at (kind_applied l spot b) (λ subtable. kind-off l spot b subtable pure on) on
    (subtable_of l.table.now 7 l.place i) in
    let rest : (o : Option Spot) → made.next ≡ o
    → off_glyphs l (or_else (subtables_applied l spot n (suc i)) made o).buffer.items ≡ off_glyphs l b.items =
    λ o. elim o as (λ o. made.next ≡ o → off_glyphs l (or_else
    (subtables_applied l spot n (suc i)) made o).buffer.items ≡ off_glyphs l b.items) [
      | Some there ↦ λ e. off.glyphs
      | None ↦ λ e. subtables-off l spot n (suc i) made.buffer pure (off.on e) ∙ off.glyphs
    ] in
    elim (is_past made.buffer) as (λ t. off_glyphs l (if t then made else or_else
    (subtables_applied l spot n (suc i)) made made.next).buffer.items
    ≡ off_glyphs l b.items) [
      | true ↦ off.glyphs
      | false ↦ rest made.next refl
    ]

pub lookup-off : (l : Lookup) (spot : Spot) (b : Buffer) → HasNoFlag l → on_at l b spot.at ≡ true
    → off_glyphs l (lookup_applied l spot b).buffer.items ≡ off_glyphs l b.items
lookup-off l spot b pure on = subtables-off l spot (subtable_count_of l.table.now l.place) 0 b pure on
