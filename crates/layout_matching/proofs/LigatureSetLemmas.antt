-- what is stored of sets of ligatures: made one ligature after the other, and what it says at a place
use Prim.Native.Nat.{zero}
use Rattle.std.proofs.Common.{◌≡◌, ℕ, suc, ◌+◌, ◌-◌, ◌*◌, ◌^◌, ◌<◌, ◌≤◌, ◌&&◌, not, Bool, true, false, List, Option, Some, None, length, slice_index_or, max, min, nat_eq, nat_lt, refl, sym, ap, subst, ◌∙◌, arith, if◌then◌else◌}
use Rattle.std.proofs.lemmas.Bool.Decides.{nat_tests}
use Rattle.std.proofs.lemmas.List.{get_or_default}
use Rattle.std.specs.Option.{option_and_then, option_map, option_map_or}
use Rattle.shape_font.specs.Bytes.{u16_of}
use Rattle.shape_items.specs.Buffer.{most_countable}
use Rattle.shape_items.specs.Items.{Item, is_ignorable_item}
use Rattle.layout_tables.specs.Lookups.{lookup_type_of, resolved}
use Rattle.layout_tables.specs.Offsets.{offset16_of}
use Rattle.layout_tables.specs.declared.lookups.LookupSubtable.{LookupSubtable}
use Rattle.layout_matching.specs.Firsts.{may_begin}
use Rattle.layout_matching.specs.Found.{number_of, subtable_at}
use Rattle.layout_matching.specs.Glance.{any_glyph, glance_at, refuses}
use Rattle.layout_matching.specs.Input.{seek_input}
use Rattle.layout_matching.specs.LigatureSets.{ligature_counted, ligatures_counted, count_of, set_paid, subtable_paid, HasFirst, IsSetFor, AreSets, no_set}
use Rattle.layout_matching.specs.Loops.{along, steps}
use Rattle.layout_matching.specs.Rules.{FAR, row, rules_at, rule_place}
use Rattle.layout_matching.specs.Seeking.{fits}
use Rattle.layout_matching.specs.Sifted.{nearest_glance, second_glance, begins_with_another, is_out, AreOut}
use Rattle.layout_matching.specs.Skipping.{nth, is_skipped}
use Rattle.layout_matching.specs.Work.{glances_at, has_classes, rule_tried, set_tries, tries_made, tries_step}
use Rattle.layout_matching.specs.Work.{charged, counts_tallied, counts_work, counted, ligature_counts, null_counted, beside, part_counts, part_counted, part_rule, rule_counted, passed, passed_charged}
use Rattle.layout_matching.specs.Work.{set_counted, set_passed, set_charged, SUBTABLE_WORK, whole_list, begun_charged, parts_charged, numbered_charged, subtable_charged, charged_at_subtable}
use Rattle.layout_matching.specs.declared.firsts.First.{First}
use Rattle.layout_matching.specs.declared.glance.Glance.{Glance}
use Rattle.layout_matching.specs.declared.glance.Glance.TheVariants.{Closed, Only}
use Rattle.layout_matching.specs.declared.ligature_sets.LigatureSet.{LigatureSet}
use Rattle.layout_matching.specs.declared.ligature_sets.StoredSets.{StoredSets}
use Rattle.layout_matching.specs.declared.lookup.Lookup.{Lookup}
use Rattle.layout_matching.specs.declared.rules.Test.TheVariants.{Glyph}
use Rattle.layout_matching.specs.declared.seeking.Seek.{Seek}
use Rattle.layout_matching.specs.declared.tally.Counts.{Counts}
use Rattle.layout_matching.specs.declared.glance.Glances.{Glances}
use Rattle.layout_matching.specs.declared.tally.Tally.{Tally}
use Rattle.layout_matching.specs.declared.tally.Tries.{Tries}
use Rattle.layout_matching.proofs.LoopLemmas.{steps_last, steps_same}
use Rattle.layout_matching.proofs.NearestLemmas.{glance_nearest, glance_past}
use Rattle.layout_matching.proofs.SiftedLemmas.{ligature_parts, ligature_charged, ligature_subtable, set_free}
use Rattle.layout_matching.proofs.TallyLemmas.{part_counted_by}

-- ---- what they cost

pub charged-twice : (w c left : ℕ) → option_and_then (charged c) (charged w left) ≡ charged (w + c) left
charged-twice w c left = by_first (nat_lt left w) refl
  where
    by_second : (u : Bool) → nat_lt left w ≡ false → nat_lt (left - w) c ≡ u
        → (if u then None else Some (left - w - c)) ≡ charged (w + c) left
    by_second true enough less =
        let e : nat_lt left (w + c) ≡ true = grind (arith, nat_tests, enough, less) in rw e refl
    by_second false enough less =
        let e : nat_lt left (w + c) ≡ false = grind (arith, nat_tests, enough, less) in
        let rest : left - w - c ≡ left - (w + c) = omega arith in rw (e, rest) refl

    by_first : (u : Bool) → nat_lt left w ≡ u → option_and_then (charged c) (if u then None else Some (left - w)) ≡ charged (w + c) left
    by_first true less = let e : nat_lt left (w + c) ≡ true = grind (arith, nat_tests, less) in rw e refl
    by_first false enough = by_second (nat_lt (left - w) c) enough refl

abbrev pub tallied : LigatureSet → ℕ → Tally
tallied s rest = record { left = rest; before = 1; after = s.after; tries = s.tries }

-- one ligature more, that costs so much
paid-more : (t : List ℕ) (set r c : ℕ) (s more : LigatureSet) (f : ℕ → Tally)
    → ((left : ℕ) → ligatures_counted t set r left ≡ set_paid s left)
    → ((rest : ℕ) → ligature_counted t set r (tallied s rest) ≡ option_map f (charged c rest))
    → ((rest : ℕ) → f rest ≡ tallied more rest) → more.work ≡ s.work + c
    → (left : ℕ) → ligatures_counted t set (r + 1) left ≡ set_paid more left
paid-more t set r c s more f before one same work left =
    steps_last (ligature_counted t set) r 0 (beside left)
    ∙ ap (option_and_then (ligature_counted t set (0 + r))) (before left)
    ∙ here (charged s.work left)
    ∙ ap (option_map (tallied more)) (charged-twice s.work c left ∙ ap (λ w. charged w left) (sym work))
  where
    first : 0 + r ≡ r
    first = omega arith

    one-map : (o : Option ℕ) → option_map f o ≡ option_map (tallied more) o
    one-map None = refl
    one-map (Some rest) = ap Some (same rest)

    here : (o : Option ℕ) → option_and_then (ligature_counted t set (0 + r)) (option_map (tallied s) o)
        ≡ option_map (tallied more) (option_and_then (charged c) o)
    here None = refl
    here (Some rest) = ap (λ k. ligature_counted t set k (tallied s rest)) first ∙ one rest ∙ one-map (charged c rest)

-- ---- which glyphs refuse them

pub second_in : (t : List ℕ) (ligature glyph : ℕ) (seconds : First) → ligature < 2 ^ 37 → 1 < u16_of t (ligature + 2)
    → may_begin seconds (u16_of t (ligature + 4)) ≡ true → may_begin seconds glyph ≡ false
    → begins_with_another t (Only glyph) ligature ≡ true
second_in t ligature glyph seconds near two in_it out = by_glyph (nat_eq glyph (u16_of t (ligature + 4))) refl
  where
    many : nat_lt 1 (u16_of t (ligature + 2)) ≡ true
    many = grind (arith, nat_tests, two)

    place : min (ligature + 4) FAR ≡ ligature + 4
    place = omega (arith, near)

    by_glyph : (u : Bool) → nat_eq glyph (u16_of t (ligature + 4)) ≡ u
        → (nat_lt 1 (u16_of t (ligature + 2)) && not (nat_eq glyph (u16_of t (min (ligature + 4) FAR)))) ≡ true
    by_glyph true is =
        let same : u16_of t (ligature + 4) ≡ glyph = grind (arith, nat_tests, is) in
        let both : may_begin seconds glyph ≡ true = subst (λ g. may_begin seconds g ≡ true) same in_it in cc
    by_glyph false is = rw (many, place, is) refl

pub no_second : (t : List ℕ) (ligature glyph : ℕ) (seconds : First) → ((g : ℕ) → may_begin seconds g ≡ true) → may_begin seconds glyph ≡ false
    → begins_with_another t (Only glyph) ligature ≡ true
no_second t ligature glyph seconds each out = let is = each glyph in cc

out-more : (t : List ℕ) (second : Glance) (set r : ℕ) → AreOut t second set r → is_out t second set r ≡ true → AreOut t second set (r + 1)
out-more t second set r before last k below = by_last (nat_eq k r) refl
  where
    by_last : (u : Bool) → nat_eq k r ≡ u → is_out t second set k ≡ true
    by_last true is = let same : r ≡ k = grind (arith, nat_tests, is) in subst (λ j. is_out t second set j ≡ true) same last
    by_last false is = before k (grind (arith, nat_tests, is, below))

pub null_more : (t : List ℕ) (set r : ℕ) (s more : LigatureSet) → rule_place t set r ≡ None → more.work ≡ s.work + 1
    → more.after ≡ s.after → more.tries ≡ s.tries → more.seconds ≡ s.seconds → more.is_closed ≡ s.is_closed
    → HasFirst t set r s → HasFirst t set (r + 1) more
null_more t set r s more none work after tries seconds closed before = record {
  paid = paid-more t set r 1 s more (λ rest. record (tallied s rest) { left = rest }) before.paid
      (λ rest. rw none refl) (λ rest. rw (after, tries) refl) work;
  seconds = λ glyph out. out-more t (Only glyph) set r (before.seconds glyph (ap (λ f. may_begin f glyph) (sym seconds) ∙ out)) (rw none refl);
  closed = λ is. out-more t Closed set r (before.closed (sym closed ∙ is)) (rw none refl);
}

-- what is false of the more is false of the less
less-out : (a b : Bool) → (a ≡ true → b ≡ true) → b ≡ false → a ≡ false
less-out false b held none = refl
less-out true true held none = cc
less-out true false held none = sym (held refl)

both-left : (a b : Bool) → (a && b) ≡ true → a ≡ true
both-left true b is = refl
both-left false b is = cc

both-right : (a b : Bool) → (a && b) ≡ true → b ≡ true
both-right true b is = is
both-right false b is = cc

pub ligature_more : (t : List ℕ) (set r ligature : ℕ) (s more : LigatureSet) → rule_place t set r ≡ Some ligature
    → r < 2 ^ 16 → s.tries ≤ r + 1
    → more.work ≡ s.work + (u16_of t (ligature + 2) + 1) → more.after ≡ max s.after (u16_of t (ligature + 2) - 1)
    → more.tries ≡ s.tries + 1
    → ((glyph : ℕ) → may_begin more.seconds glyph ≡ false → begins_with_another t (Only glyph) ligature ≡ true)
    → ((glyph : ℕ) → may_begin s.seconds glyph ≡ true → may_begin more.seconds glyph ≡ true)
    → more.is_closed ≡ (s.is_closed && nat_lt 1 (u16_of t (ligature + 2)))
    → HasFirst t set r s → HasFirst t set (r + 1) more
ligature_more t set r ligature s more there few small work after tries second kept closed before = record {
  paid = paid-more t set r (counts_work counts) s more (λ rest. counts_tallied counts (tallied s rest) rest) before.paid
      (λ rest. ap (λ o. option_map_or (λ place. counted (ligature_counts t place) (tallied s rest)) o (null_counted (tallied s rest))) there
      ∙ tallied-here rest) same (work ∙ omega arith);
  seconds = λ glyph out. out-more t (Only glyph) set r
      (before.seconds glyph (less-out (may_begin s.seconds glyph) (may_begin more.seconds glyph) (kept glyph) out))
      (ap (λ o. option_map_or (begins_with_another t (Only glyph)) o true) there ∙ second glyph out);
  closed = λ is. let both : (s.is_closed && nat_lt 1 (u16_of t (ligature + 2))) ≡ true = sym closed ∙ is in
      out-more t Closed set r (before.closed (both-left s.is_closed (nat_lt 1 (u16_of t (ligature + 2))) both))
      (ap (λ o. option_map_or (begins_with_another t Closed) o true) there
      ∙ ap (λ u. u && true) (both-right s.is_closed (nat_lt 1 (u16_of t (ligature + 2))) both));
}
  where
    counts : Counts
    counts = ligature_counts t ligature

    tallied-here : (rest : ℕ) → counted counts (tallied s rest) ≡ option_map (counts_tallied counts (tallied s rest)) (charged (counts_work counts) rest)
    tallied-here rest = refl

    same : (rest : ℕ) → counts_tallied counts (tallied s rest) rest ≡ tallied more rest
    same rest =
        let a : max s.after (u16_of t (ligature + 2) - 1 + 0) ≡ more.after = omega (arith, after) in
        let n : min (s.tries + (0 + 1)) most_countable ≡ more.tries = omega (arith, few, small, tries) in
        rw (a, n) refl

-- ---- what it says at a place

pub end_refuses : (l : Lookup) (items : List Item) (at set n : ℕ) (s : LigatureSet) → length items ≤ at + 1 → s.is_closed ≡ true
    → HasFirst l.table.now set n s → AreOut l.table.now (second_glance l items at) set n
end_refuses l items at set n s over is has =
    subst (λ second. AreOut l.table.now second set n) (sym (glance_past l items at over)) (has.closed is)

closed-too : (t : List ℕ) (glyph set k : ℕ) → is_out t (Only glyph) set k ≡ true → is_out t Closed set k ≡ true
closed-too t glyph set k = by_place (rule_place t set k)
  where
    by_place : (o : Option ℕ) → option_map_or (begins_with_another t (Only glyph)) o true ≡ true
        → option_map_or (begins_with_another t Closed) o true ≡ true
    by_place None out = refl
    by_place (Some ligature) out = ap (λ u. u && true) (both-left (nat_lt 1 (u16_of t (ligature + 2))) _ out)

pub glyph_refuses : (l : Lookup) (items : List Item) (at set n : ℕ) (s : LigatureSet) → at + 1 < length items
    → is_skipped l (nth items (at + 1)) ≡ false → is_ignorable_item (nth items (at + 1)) ≡ false
    → may_begin s.seconds (nth items (at + 1)).glyph_id ≡ false → HasFirst l.table.now set n s
    → AreOut l.table.now (second_glance l items at) set n
glyph_refuses l items at set n s more seen opaque out has =
    subst (λ second. AreOut l.table.now second set n) (sym (glance_nearest l items at more seen opaque))
    (by_fit (fits l (any_glyph (seek_input l (nth items at) (row Glyph 0 0 0))) 0 (nth items (at + 1))))
  where
    glyph : ℕ
    glyph = (nth items (at + 1)).glyph_id

    by_fit : (u : Bool) → AreOut l.table.now (if u then Only glyph else Closed) set n
    by_fit true = has.seconds glyph out
    by_fit false = λ k below. closed-too l.table.now glyph set k (has.seconds glyph out k below)

-- a set of ligatures is counted by the table alone
set-by-table : (l : Lookup) (start left set : ℕ) → l.positioning ≡ false
    → set_counted l (record { kind = 4; start = start }) left set ≡ ligatures_counted l.table.now set (count_of l.table.now set) left
set-by-table l start left set gsub =
    steps_same (part_counted l subtable set) (ligature_counted l.table.now set) one (count_of l.table.now set) 0 (beside left)
  where
    subtable : LookupSubtable
    subtable = record { kind = 4; start = start }

    four : (place : ℕ) → part_counts l subtable place ≡ ligature_counts l.table.now place
    four place = rw gsub refl

    one : (r : ℕ) (s : Tally) → part_counted l subtable set r s ≡ ligature_counted l.table.now set r s
    one r s = by_place (rule_place l.table.now set r)
      where
        by_place : (o : Option ℕ) → option_map_or (λ place. rule_counted (part_rule l subtable place) s) o (null_counted s)
            ≡ option_map_or (λ place. counted (ligature_counts l.table.now place) s) o (null_counted s)
        by_place None = refl
        by_place (Some place) = part_counted_by l subtable place s ∙ ap (λ c. counted c s) (four place)

-- they look beside a place as often as is counted with them
tries_counted : (l : Lookup) (around : Glances) (start set : ℕ) → l.positioning ≡ false → (n i : ℕ) (s last : Tally) (tries : Tries)
    → s.tries ≡ min (1 + tries.rules) most_countable → tries.lookups ≡ 0 → steps (ligature_counted l.table.now set) n i s ≡ Some last
    → last.tries ≡ tries_made (along (tries_step l (record { kind = 4; start = start }) around set) n i tries)
tries_counted l around start set gsub zero i s last tries same none made =
    let more : min (1 + tries.rules + tries.lookups) most_countable ≡ min (1 + tries.rules) most_countable = omega (arith, none) in
    let is : s ≡ last = ap (λ (o : Option Tally). option_map_or (λ (x : Tally). x) o s) made in
    sym (ap (λ (x : Tally). x.tries) is) ∙ same ∙ sym more
tries_counted l around start set gsub (suc n) i s last tries same none made =
    by_place (λ s tries same none made. tries_counted l around start set gsub n (suc i) s last tries same none made) (rule_place t set i) made
  where
    t : List ℕ
    t = l.table.now

    subtable : LookupSubtable
    subtable = record { kind = 4; start = start }

    rest : Option Tally → Option Tally
    rest = option_and_then (steps (ligature_counted t set) n (suc i))

    after : Tries → ℕ
    after now = tries_made (along (tries_step l subtable around set) n (suc i) now)

    Again : Type 0
    Again = (s : Tally) (tries : Tries) → s.tries ≡ min (1 + tries.rules) most_countable → tries.lookups ≡ 0 → rest (Some s) ≡ Some last
        → last.tries ≡ after tries

    with-left : Again → (f : ℕ → Tally) (next : Tries) → ((left : ℕ) → (f left).tries ≡ min (1 + next.rules) most_countable)
        → next.lookups ≡ 0 → (o : Option ℕ) → rest (option_map f o) ≡ Some last → last.tries ≡ after next
    with-left again f next is zeros None there = cc
    with-left again f next is zeros (Some left) there = again (f left) next (is left) zeros there

    one_more : Tries
    one_more = record { rules = min (tries.rules + 1) most_countable; lookups = max tries.lookups 0 }

    tried : (place : ℕ) → one_more ≡ rule_tried l subtable around place tries
    tried place = rw gsub refl

    by_place : Again → (o : Option ℕ) → rest (option_map_or (λ place. counted (ligature_counts t place) s) o (null_counted s)) ≡ Some last
        → last.tries ≡ after (option_map_or (λ place. rule_tried l subtable around place tries) o tries)
    by_place again None there = with-left again (λ left. record s { left = left }) tries (λ left. same) none (charged 1 s.left) there
    by_place again (Some place) there =
        let counts : Counts = ligature_counts t place in
        let more : min (s.tries + (0 + 1)) most_countable ≡ min (1 + min (tries.rules + 1) most_countable) most_countable = omega (arith, same) in
        let zeros : max tries.lookups 0 ≡ 0 = omega (arith, none) in
        subst (λ (next : Tries). last.tries ≡ after next) (tried place)
        (with-left again (counts_tallied counts s) one_more (λ left. more) zeros (charged (counts_work counts) s.left) there)

-- so what they pass over is charged by what is counted
ligatures-passed : (l : Lookup) (items : List Item) (at start set less : ℕ) (s : Tally) → l.positioning ≡ false
    → ligatures_counted l.table.now set (count_of l.table.now set) less ≡ Some s
    → set_passed l items at (record { kind = 4; start = start }) set s ≡ passed_charged l false items at s
ligatures-passed l items at start set less s gsub made =
    let subtable : LookupSubtable = record { kind = 4; start = start } in
    let first : 1 ≡ min (1 + 0) most_countable = omega arith in
    let same : s.tries ≡ tries_made (set_tries l items at subtable set) =
    tries_counted l (glances_at l items at subtable) start set gsub (count_of l.table.now set) 0 (beside less) s
    (record { rules = 0; lookups = 0 }) first refl made in
    let listed : has_classes l subtable ≡ false = rw gsub refl in
    ap (λ u. passed_charged l u items at (record s { tries = tries_made (set_tries l items at subtable set) })) listed
    ∙ ap (λ n. passed_charged l false items at (record s { tries = n })) (sym same)

-- what is stored for a number is of the glyph that has it
pub set_of_glyph : (t : List ℕ) (place glyph i n : ℕ) (stored : StoredSets) (number : Option ℕ) (s : LigatureSet) → AreSets t place stored
    → stored.first ≤ glyph → i ≡ glyph - stored.first → i < length stored.numbers.items
    → number ≡ slice_index_or stored.numbers.items i number → number ≡ Some n → n < length stored.sets.items
    → s ≡ slice_index_or stored.sets.items n s → IsSetFor t place glyph s
set_of_glyph t place glyph i n stored number s are from is inside numbered some held here =
    let there : slice_index_or stored.numbers.items i None ≡ Some n =
    get_or_default stored.numbers.items i None number inside ∙ sym numbered ∙ some in
    let same : stored.first + i ≡ glyph = omega (arith, from, is) in
    subst (λ (x : LigatureSet). IsSetFor t place glyph x) (get_or_default stored.sets.items n no_set s held ∙ sym here)
    (subst (λ g. IsSetFor t place g (slice_index_or stored.sets.items n no_set)) same (are i inside n there held))

module _ (l : Lookup) (items : List Item) (at left rest : ℕ) (s : LigatureSet) (gsub : l.positioning ≡ false)
    (type : lookup_type_of l.table.now l.place ≡ 4) (stored : IsSetFor l.table.now l.place (nth items at).glyph_id s)
    (paid : Some rest ≡ option_and_then (passed_charged l false items at) (subtable_paid s left)) where
  abbrev subtable : LookupSubtable
  subtable = record { kind = 4; start = s.start }

  first : subtable_at l 0 ≡ Some subtable
  first =
      let place : l.place + 6 + 2 * 0 ≡ l.place + 6 = omega arith in
      ligature_subtable l 0 gsub type
      ∙ ap (option_map (λ start. record { kind = 4; start = start })) (ap (offset16_of l.table.now l.place) place ∙ stored.first)

  nothing : charged 0 left ≡ Some left
  nothing = let e : nat_lt left 0 ≡ false = grind (arith, nat_tests) in
      let rest : left - 0 ≡ left = omega arith in rw (e, rest) refl

  begun : begun_charged l items subtable left ≡ charged SUBTABLE_WORK left
  begun = ap (option_and_then (charged SUBTABLE_WORK)) (no-list l.positioning ∙ nothing)
    where
      no-list : (p : Bool) → charged (if not p && false && l.random then length items else 0) left ≡ charged 0 left
      no-list true = refl
      no-list false = refl

  counted_so : (less : ℕ) → ligatures_counted l.table.now s.set (count_of l.table.now s.set) less ≡ set_paid s less
  counted_so less = stored.held.has.paid less

  by_left : (less : ℕ) (o : Option ℕ) → set_paid s less ≡ option_map (tallied s) o
      → option_and_then (passed_charged l false items at) (option_map (tallied s) o) ≡ Some rest
      → option_and_then (set_passed l items at subtable s.set) (option_map (tallied s) o) ≡ Some rest
  by_left less None e this = cc
  by_left less (Some n) e this = ligatures-passed l items at s.start s.set less (tallied s n) gsub (counted_so less ∙ e) ∙ this

  parts : (number less : ℕ) → rules_at l.table.now s.start 4 number ≡ Some s.set
      → parts_charged l items at subtable number less ≡ set_charged l items at subtable less s.set
  parts number less is = ligature_parts l items at subtable number less gsub refl
      ∙ ap (λ o. option_map_or (set_charged l items at subtable less) o (passed_charged l false items at (beside less))) is

  by_begun : (number : ℕ) → rules_at l.table.now s.start 4 number ≡ Some s.set → (o : Option ℕ)
      → option_and_then (passed_charged l false items at) (option_and_then (set_paid s) o) ≡ Some rest
      → option_and_then (parts_charged l items at subtable number) o ≡ Some rest
  by_begun number is None this = cc
  by_begun number is (Some less) this =
      parts number less is
      ∙ ap (option_and_then (set_passed l items at subtable s.set)) (set-by-table l s.start less s.set gsub ∙ counted_so less)
      ∙ by_left less (charged s.work less) refl this

  by_number : (o : Option ℕ) → option_and_then (rules_at l.table.now s.start 4) o ≡ Some s.set
      → option_map_or (numbered_charged l items at subtable left) o (Some left) ≡ Some rest
  by_number None is = cc
  by_number (Some number) is =
      ap (option_and_then (parts_charged l items at subtable number)) begun
      ∙ by_begun number is (charged SUBTABLE_WORK left) (sym paid)

  pub stored_charged : charged_at_subtable l items at 0 left ≡ Some rest
  stored_charged =
      ap (λ o. option_map_or (subtable_charged l items at left) o (Some left)) first
      ∙ ligature_charged l items at left s.start gsub
      ∙ by_number (number_of l.table.now s.start (nth items at).glyph_id) stored.held.set
