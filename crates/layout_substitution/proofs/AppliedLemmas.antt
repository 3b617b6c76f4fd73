-- What the subtables of lookups make of a buffer preserves it.
use Prim.Native.Nat.{zero}
use Rattle.std.proofs.lemmas.Bool.Decides.{nat_tests}
use Rattle.std.proofs.Common.{◌≡◌, arith, ℕ, suc, ◌+◌, ◌-◌, ◌<◌, ◌%◌, ◌||◌, not, Bool, true, false, nat_lt, nat_eq, refl, inl, if◌then◌else◌, length, Option, Some, None}
use Rattle.std.specs.Option.{option_map_or}
use Rattle.shape_items.specs.Buffer.{Buffer, next_ligature_id}
use Rattle.shape_items.specs.Delete.{hand_over}
use Rattle.shape_items.specs.Items.{Item}
use Rattle.layout_tables.specs.Gdef.{has_glyph_classes, glyph_props}
use Rattle.layout_substitution.specs.Edits.{item_at, is_inside, put_at, merged, broken, concat_marked}
use Rattle.layout_matching.specs.Loops.{times}
use Rattle.layout_substitution.specs.Replaced.{replaced, with_class, with_glyph, as_component, is_multiplied, taken_apart, with_components, is_ligated, as_ligature}
use Rattle.layout_matching.specs.Skipping.{shares}
use Rattle.layout_substitution.specs.Substitutes.{single_of, set_of, alternate_of, listed_count, listed_at, ligature_glyph, component_count}
use Rattle.layout_substitution.specs.Applied.{Applied, unapplied, put_one, single_applied, value_of, is_random, next_random, random_put}
use Rattle.layout_substitution.specs.Applied.{random_applied, alternate_applied, cluster_at, is_left_in, Handing, is_handed, handed_step, handed_back}
use Rattle.layout_substitution.specs.Applied.{left_to_neighbours, gone, Copying, copy_put, copies_put, first_put, several_put, list_put, deleted}
use Rattle.layout_substitution.specs.Applied.{taken_away, glyphs_put, sequence_put, multiple_applied}
use Rattle.layout_substitution.specs.Ligatures.{Joined, between_stays, component_gone, stays, join_step, follows, follow_step, followed, first_joined}
use Rattle.layout_substitution.specs.Ligatures.{joined, ligation_of, id_given, ligatures_reach, ligature_found, ligature_put, ligature_made}
use Rattle.layout_substitution.specs.Ligatures.{set_ligated, ligature_applied}
use Rattle.layout_matching.specs.declared.lookup.Lookup.{Lookup}
use Rattle.layout_substitution.specs.declared.ligature.Components.{Components}
use Rattle.layout_substitution.specs.declared.ligature.Ligation.{Ligation}
use Rattle.layout_substitution.specs.declared.apply.Spot.{Spot}
use Rattle.layout_substitution.proofs.CopyLemmas.{length-put_at}
use Rattle.layout_substitution.proofs.PreservedLemmas.{Preserves, Preserves-same, Preserves-then, Preserves-times, Preserves-if, IsLike, IsLike-same}
use Rattle.layout_substitution.proofs.PreservedLemmas.{IsLike-then, Preserves-handed, Preserves-put, Preserves-put_after, Preserves-taken_out}
use Rattle.layout_substitution.proofs.PreservedLemmas.{Preserves-merged, Preserves-broken, Preserves-concat_marked}

-- ---- items

like-if : (t : Bool) (x y z : Item) → IsLike x y → IsLike x z → IsLike x (if t then y else z)
like-if true x y z a b = a
like-if false x y z a b = b

pub like-replaced : (l : Lookup) (guess glyph : ℕ) (x : Item) → IsLike x (replaced l guess glyph x)
like-replaced l guess glyph x =
    let same : IsLike x (with_glyph glyph x) = record { cluster = refl; mask = refl } in
    like-if (has_glyph_classes l.gdef.now) x (with_class (glyph_props l.gdef.now glyph) (with_glyph glyph x)) _
    (record { cluster = refl; mask = refl })
    (like-if (nat_lt 0 guess) x (with_class guess (with_glyph glyph x)) (with_glyph glyph x) (record { cluster = refl; mask = refl }) same)

pub like-apart : (l : Lookup) (glyph i : ℕ) (x : Item) → IsLike x (taken_apart l glyph i x)
unfolding is_multiplied
like-apart l glyph i x =
    let y = if nat_eq x.properties.ligature_id 0 then as_component 0 i x else x in
    let first : IsLike x y = like-if (nat_eq x.properties.ligature_id 0) x (as_component 0 i x) x
    (record { cluster = refl; mask = refl }) (IsLike-same x) in
    let z = replaced l (if shares x.properties.glyph_class.0 4 then 2 else 0) glyph y in
    let second : IsLike y z = like-replaced l (if shares x.properties.glyph_class.0 4 then 2 else 0) glyph y in
    IsLike-then x z (is_multiplied z) (IsLike-then x y z first second) (record { cluster = refl; mask = refl })

pub like-ligature : (l : Lookup) (own : Bool) (id components glyph : ℕ) (x : Item) → IsLike x (as_ligature l own id components glyph x)
unfolding as_ligature
like-ligature l own id components glyph x =
    let y = if own then with_components id components x else x in
    let first : IsLike x y = like-if own x (with_components id components x) x (record { cluster = refl; mask = refl }) (IsLike-same x) in
    let z = replaced l (if own then 4 else 0) glyph y in
    let second : IsLike y z = like-replaced l (if own then 4 else 0) glyph y in
    IsLike-then x z (is_ligated z) (IsLike-then x y z first second) (record { cluster = refl; mask = refl })

-- ---- one glyph for one

put_one-preserves : (l : Lookup) (spot : Spot) (b : Buffer) (glyph : ℕ) → Preserves b (put_one l spot b glyph).buffer
put_one-preserves l spot b glyph = Preserves-put spot.at _ b (like-replaced l 0 glyph (item_at b spot.at))

pub applied-if : (t : Bool) (a : Buffer) (x y : Applied) → Preserves a x.buffer → Preserves a y.buffer
    → Preserves a (if t then x else y).buffer
applied-if true a x y k m = k
applied-if false a x y k m = m

-- if there is something, what is made of it; else nothing
pub or_unapplied : {X : Type 0} (f : X → Applied) (b : Buffer) → ((x : X) → Preserves b (f x).buffer)
    → (o : Option X) → Preserves b (option_map_or f o (unapplied b)).buffer
or_unapplied f b each None = Preserves-same b
or_unapplied f b each (Some x) = each x

pub single-preserves : (l : Lookup) (start : ℕ) (spot : Spot) (b : Buffer) → Preserves b (single_applied l start spot b).buffer
single-preserves l start spot b =
    or_unapplied (put_one l spot b) b (put_one-preserves l spot b) (single_of l.table.now start (item_at b spot.at).glyph_id)

random_put-preserves : (l : Lookup) (spot : Spot) (b : Buffer) (set : ℕ) → Preserves b (random_put l spot b set).buffer
random_put-preserves l spot b set =
    let count = listed_count l.table.now set in
    let state = next_random spot.random in
    let marked = broken 0 (length b.items) b in
    let made = put_one l (record spot { random = state }) marked (listed_at l.table.now set (state % count)) in
    applied-if (nat_eq count 0) b (unapplied b) made (Preserves-same b)
    (Preserves-then b marked made.buffer (Preserves-broken 0 (length b.items) b)
    (put_one-preserves l (record spot { random = state }) marked (listed_at l.table.now set (state % count))))

pub alternate-preserves : (l : Lookup) (start : ℕ) (spot : Spot) (b : Buffer) → Preserves b (alternate_applied l start spot b).buffer
alternate-preserves l start spot b =
    let item = item_at b spot.at in
    applied-if (is_random l item) b (random_applied l start spot b) _
    (or_unapplied (random_put l spot b) b (random_put-preserves l spot b) (set_of l.table.now start item.glyph_id))
    (or_unapplied (put_one l spot b) b (put_one-preserves l spot b) (alternate_of l.table.now start item.glyph_id (value_of l item)))

-- ---- several for one

step-if : (t : Bool) (a : Buffer) (x y : Handing) → Preserves a x.buffer → Preserves a y.buffer → Preserves a (if t then x else y).buffer
step-if true a x y k m = k
step-if false a x y k m = m

-- the item at the place stays inside, one place nearer to the start with each step
handed-preserves : (cluster n : ℕ) (s : Handing) → s.at < length s.buffer.items
    → Preserves s.buffer (times (handed_step cluster) n s).buffer
handed-preserves cluster n s inside = (walk n).0
  where
    one : (s : Handing) → s.at < length s.buffer.items
        → Preserves s.buffer (handed_step cluster s).buffer × ((handed_step cluster s).at < length (handed_step cluster s).buffer.items)
    one s inside =
        let P : Bool → Type 0 = λ t. is_handed cluster s ≡ t
        → (let there : Handing = if t then record {
          buffer = put_at (s.at - 1)
              (hand_over (item_at s.buffer s.at) (item_at s.buffer (s.at - 1))) s.buffer;
          at = s.at - 1;
        } else s in
        Preserves s.buffer there.buffer × (there.at < length there.buffer.items)) in
        let cases : P (is_handed cluster s) = elim (is_handed cluster s) as P [
          | true ↦ λ t. (
            Preserves-handed s.at s.buffer (grind (arith, nat_tests, t)) inside,
            grind
                (arith, inside, length-put_at (s.at - 1) (hand_over (item_at s.buffer s.at) (item_at s.buffer (s.at - 1))) s.buffer),
          )
          | false ↦ λ t. (Preserves-same s.buffer, inside)
        ] in
        cases refl

    walk : (n : ℕ) → Preserves s.buffer (times (handed_step cluster) n s).buffer
        × ((times (handed_step cluster) n s).at < length (times (handed_step cluster) n s).buffer.items)
    walk zero = (Preserves-same s.buffer, inside)
    walk (suc n) =
        let before = walk n in
        let here = times (handed_step cluster) n s in
        let next = one here before.1 in
        (Preserves-then s.buffer here.buffer (handed_step cluster here).buffer before.0 next.0, next.1)

left-preserves : (i : ℕ) (b : Buffer) → Preserves b (left_to_neighbours i b)
left-preserves i b =
    let back = handed_back i b in
    let P : Bool → Type 0 = λ t. is_inside i b ≡ t → Preserves b (if not t || is_left_in b i then b
    else (if nat_eq i 0 then merged 0 2 b else (if nat_lt (cluster_at b i) (cluster_at b (i - 1)) then back else b))) in
    let cases : P (is_inside i b) = elim (is_inside i b) as P [
      | true ↦ λ t.
          let handed : Preserves b back = handed-preserves (cluster_at b (i - 1)) i (record { buffer = b; at = i })
          (grind (arith, nat_tests, t)) in
          Preserves-if (is_left_in b i) b b _ (Preserves-same b)
          (Preserves-if (nat_eq i 0) b (merged 0 2 b) _ (Preserves-merged 0 2 b)
          (Preserves-if (nat_lt (cluster_at b i) (cluster_at b (i - 1))) b back b handed (Preserves-same b)))
      | false ↦ λ t. Preserves-same b
    ] in
    cases refl

gone-preserves : (i : ℕ) (b : Buffer) → Preserves b (gone i b)
gone-preserves i b = Preserves-then b (left_to_neighbours i b) (gone i b) (left-preserves i b)
    (Preserves-taken_out i (left_to_neighbours i b))

copy_put-preserves : (l : Lookup) (list at : ℕ) (item : Item) (s : Copying) → Preserves s.buffer (copy_put l list at item s).buffer
copy_put-preserves l list at item s = Preserves-put_after at _ s.buffer (record { cluster = refl; mask = refl })

several-preserves : (l : Lookup) (list at : ℕ) (b : Buffer) → Preserves b (several_put l list at b)
several-preserves l list at b =
    let item = item_at b at in
    let first = first_put l list at item b in
    let n = listed_count l.table.now list - 1 in
    Preserves-then b first (copies_put l list at item n first)
    (Preserves-put at _ b (like-apart l (listed_at l.table.now list 0) 0 item))
    (Preserves-times (λ (s : Copying). s.buffer) (copy_put l list at item) (copy_put-preserves l list at item) n
    (record { buffer = first; k = n }))

list-preserves : (l : Lookup) (list at : ℕ) (b : Buffer) → Preserves b (list_put l list at b)
list-preserves l list at b =
    let glyph = listed_at l.table.now list 0 in
    let one = put_at at (replaced l 0 glyph (item_at b at)) b in
    Preserves-if (nat_eq (listed_count l.table.now list) 1) b one (several_put l list at b)
    (Preserves-put at _ b (like-replaced l 0 glyph (item_at b at))) (several-preserves l list at b)

deleted-preserves : (spot : Spot) (b : Buffer) → Preserves b (deleted spot b).buffer
deleted-preserves spot b =
    applied-if (nat_eq spot.left 0) b (unapplied b) (taken_away (length b.items - (spot.at + 1)) spot b)
    (Preserves-same b) (gone-preserves spot.at b)

sequence-preserves : (l : Lookup) (spot : Spot) (b : Buffer) (list : ℕ) → Preserves b (sequence_put l spot b list).buffer
sequence-preserves l spot b list =
    applied-if (nat_eq (listed_count l.table.now list) 0) b (deleted spot b) (glyphs_put l spot b list)
    (deleted-preserves spot b) (list-preserves l list spot.at b)

pub multiple-preserves : (l : Lookup) (start : ℕ) (spot : Spot) (b : Buffer) → Preserves b (multiple_applied l start spot b).buffer
multiple-preserves l start spot b =
    or_unapplied (sequence_put l spot b) b (sequence-preserves l spot b) (set_of l.table.now start (item_at b spot.at).glyph_id)

-- ---- one for several

between-preserves : (own : Bool) (id : ℕ) (s : Joined) → Preserves s.buffer (between_stays own id s).buffer
between-preserves own id s =
    Preserves-if own s.buffer _ s.buffer (Preserves-put s.walk.at _ s.buffer (record { cluster = refl; mask = refl }))
    (Preserves-same s.buffer)

joined-if : (t : Bool) (a : Buffer) (x y : Joined) → Preserves a x.buffer → Preserves a y.buffer → Preserves a (if t then x else y).buffer
joined-if true a x y k m = k
joined-if false a x y k m = m

join_step-preserves : (l : Lookup) (made : Ligation) (s : Joined) → Preserves s.buffer (join_step l made s).buffer
join_step-preserves l made s =
    joined-if (is_inside s.walk.at s.buffer) s.buffer _ s
    (joined-if (stays l made s) s.buffer (between_stays made.own made.id s) (component_gone s)
    (between-preserves made.own made.id s) (Preserves-taken_out s.walk.at s.buffer))
    (Preserves-same s.buffer)

follow_step-preserves : (id : ℕ) (s : Joined) → Preserves s.buffer (follow_step id s).buffer
follow_step-preserves id s = joined-if (follows s) s.buffer (between_stays true id s) s (between-preserves true id s)
    (Preserves-same s.buffer)

followed-preserves : (made : Ligation) (s : Joined) → Preserves s.buffer (followed made s).buffer
followed-preserves made s =
    joined-if (made.marks || nat_eq s.walk.id 0) s.buffer s _ (Preserves-same s.buffer)
    (Preserves-times (λ (j : Joined). j.buffer) (follow_step made.id) (follow_step-preserves made.id) (length s.buffer.items) s)

joined-preserves : (l : Lookup) (made : Ligation) (m : Components) (at : ℕ) (b : Buffer) → Preserves b (joined l made m at b).buffer
joined-preserves l made m at b =
    let first = first_joined l m at b in
    let all = times (join_step l made) (m.last - at) first in
    Preserves-then b first.buffer (joined l made m at b).buffer (Preserves-merged at (m.last + 1) b)
    (Preserves-then first.buffer all.buffer (followed made all).buffer
    (Preserves-times (λ (j : Joined). j.buffer) (join_step l made) (join_step-preserves l made) (m.last - at) first)
    (followed-preserves made all))

given-preserves : (own : Bool) (b : Buffer) → Preserves b (id_given own b)
given-preserves own b =
    Preserves-if own b (record b { serial = next_ligature_id b.serial }) b
    (record {
      draws = (Preserves-same b).draws;
      flags = record { flags = refl; stays_set = λ e. e; none_new = λ flag is some. inl some };
      direction = refl;
      level = refl;
      limit = refl;
    })
    (Preserves-same b)

ligature_put-preserves : (l : Lookup) (spot : Spot) (b : Buffer) (m : Components) → Preserves b (ligature_put l spot b m).buffer
ligature_put-preserves l spot b m =
    let made = ligation_of l spot.at b m in
    let given = id_given made.own b in
    let s = joined l made m spot.at given in
    Preserves-then b s.buffer (ligature_put l spot b m).buffer
    (Preserves-then b given s.buffer (given-preserves made.own b) (joined-preserves l made m spot.at given))
    (Preserves-put spot.at _ s.buffer (like-ligature l made.own made.id s.walk.so_far
    (ligature_glyph l.table.now m.ligature) (item_at s.buffer spot.at)))

ligature_made-preserves : (l : Lookup) (spot : Spot) (b : Buffer) (m : Components) → Preserves b (ligature_made l spot b m).buffer
ligature_made-preserves l spot b m =
    applied-if (nat_eq (component_count l.table.now m.ligature) 1) b _ _
    (put_one-preserves l spot b (ligature_glyph l.table.now m.ligature)) (ligature_put-preserves l spot b m)

set_ligated-preserves : (l : Lookup) (spot : Spot) (b : Buffer) (set : ℕ) → Preserves b (set_ligated l spot b set).buffer
set_ligated-preserves l spot b set =
    let r = ligatures_reach l b spot.at set in
    Preserves-then b (concat_marked r b) (set_ligated l spot b set).buffer (Preserves-concat_marked r b)
    (or_unapplied (ligature_made l spot (concat_marked r b)) (concat_marked r b) (ligature_made-preserves l spot (concat_marked r b))
    (ligature_found l (concat_marked r b) spot.at set))

pub ligature-preserves : (l : Lookup) (start : ℕ) (spot : Spot) (b : Buffer) → Preserves b (ligature_applied l start spot b).buffer
ligature-preserves l start spot b =
    or_unapplied (set_ligated l spot b) b (set_ligated-preserves l spot b) (set_of l.table.now start (item_at b spot.at).glyph_id)
