-- a lookup of type 4, gone over once
use Prim.Native.Nat.{zero}
use Rattle.std.proofs.Common.{◌≡◌, ℕ, suc, ◌+◌, ◌-◌, ◌*◌, ◌<◌, ◌≤◌, Bool, true, false, List, Option, Some, None, is_some, nat_eq, nat_lt, refl, sym, ap, ◌∙◌, subst, arith, if◌then◌else◌}
use Rattle.std.proofs.lemmas.Bool.Decides.{nat_tests}
use Rattle.std.specs.Option.{IfSome, option_and_then, option_map, option_map_or, option_or}
use Rattle.shape_font.specs.Bytes.{u16_of, fitting}
use Rattle.shape_items.specs.Buffer.{Buffer}
use Rattle.shape_buffer.specs.Outcome.{IsWithinLimit}
use Rattle.layout_tables.specs.Lookups.{lookup_type_of, subtable_count_of, resolved}
use Rattle.layout_tables.specs.Offsets.{offset16_of}
use Rattle.layout_tables.specs.declared.lookups.LookupSubtable.{LookupSubtable}
use Rattle.layout_matching.specs.Firsts.{begins, IsOut, AreOut}
use Rattle.layout_matching.specs.Found.{number_of, subtable_at}
use Rattle.layout_matching.specs.LigatureSets.{count_of, first_start}
use Rattle.layout_matching.specs.Loops.{first_some, steps}
use Rattle.layout_matching.specs.Rules.{rules_at, rule_place}
use Rattle.layout_matching.specs.Sifted as sifted
use Rattle.layout_matching.specs.Work.{subtable_charged, charged_at_subtable, subtables_charged}
use Rattle.layout_matching.specs.declared.lookup.Lookup.{Lookup}
use Rattle.layout_matching.proofs.FirstLemmas.{charged_out}
use Rattle.layout_matching.proofs.LoopLemmas.{first_some_end, first_some_to, steps_next, steps_to}
use Rattle.layout_matching.proofs.SiftedLemmas.{ligature_subtable}
use Rattle.layout_substitution.specs.Applied.{Applied, unapplied, put_one}
use Rattle.layout_substitution.specs.Edits.{asks_for_concat, concat_marked, is_past, item_at}
use Rattle.layout_substitution.specs.Kinds.{kind_applied, or_next, subtables_applied, lookup_applied}
use Rattle.layout_substitution.specs.Ligatures.{ligature_matched, ligature_in, ligature_found, ligature_made, ligature_put, ligatures_reach, set_ligated, one_ligated}
use Rattle.layout_substitution.specs.Sought.{found_by, found_in, first_ligature, with_found, all_sought, sought_by, sought_step}
use Rattle.layout_substitution.specs.Substitutes.{component_count, ligature_glyph, listed_count, set_number, set_of}
use Rattle.layout_substitution.specs.declared.apply.Spot.{Spot}
use Rattle.layout_substitution.specs.declared.ligature.Components.{Components}
use Rattle.layout_substitution.specs.declared.ligature_sought.SoughtLigature.{SoughtLigature}
use Rattle.layout_substitution.proofs.EditLemmas.{concat_marked_unasked}
use Rattle.layout_substitution.proofs.KindLemmas.{past_is_false}
use Rattle.layout_substitution.proofs.SecondLemmas.{refused_ligature}

-- ---- one set

out-one : (l : Lookup) (b : Buffer) (at set k : ℕ) → sifted.is_out l.table.now (sifted.second_glance l b.items at) set k ≡ true
    → ligature_in l b at set k ≡ None
out-one l b at set k = by_place (rule_place l.table.now set k)
  where
    by_place : (o : Option ℕ) → option_map_or (sifted.begins_with_another l.table.now (sifted.second_glance l b.items at)) o true ≡ true
        → option_and_then (ligature_matched l b at) o ≡ None
    by_place None out = refl
    by_place (Some ligature) out = refused_ligature l b at ligature out

-- those before the first that may stand there don't
pub found_after : (l : Lookup) (b : Buffer) (at set first n : ℕ) → n ≡ listed_count l.table.now set → first ≤ n
    → sifted.AreOut l.table.now (sifted.second_glance l b.items at) set first
    → ligature_found l b at set ≡ first_some (ligature_in l b at set) (n - first) first
found_after l b at set first n count within out =
    let e : listed_count l.table.now set ≡ n - 0 = omega (arith, count) in
    ap (λ m. first_some (ligature_in l b at set) m 0) e
    ∙ first_some_to (ligature_in l b at set) n 0 first (omega arith) within (λ k low below. out-one l b at set k (out k below))

-- ---- one subtable

rules-sets : (t : List ℕ) (start i : ℕ) → rules_at t start 4 i ≡ set_number t start i
rules-sets t start i =
    let e : start + 4 + 2 ≡ start + 6 = omega arith in
    ap (λ p. if nat_lt i (fitting t (u16_of t (start + 4)) p 2) then offset16_of t start (p + 2 * i) else None) e

sets-there : (t : List ℕ) (start : ℕ) (o : Option ℕ) → option_and_then (rules_at t start 4) o ≡ option_and_then (set_number t start) o
sets-there t start None = refl
sets-there t start (Some i) = rules-sets t start i

-- a subtable of format 1 has the set that is charged for, one of another format none
pub set_of_format : (l : Lookup) (b : Buffer) (at start : ℕ) → u16_of l.table.now start ≡ 1
    → set_of l.table.now start (item_at b at).glyph_id ≡ sifted.set_there l b.items at start
set_of_format l b at start one =
    let t = l.table.now in
    let is : nat_eq (u16_of t start) 1 ≡ true = grind (arith, nat_tests, one) in
    rw is (sym (sets-there t start (number_of t start (item_at b at).glyph_id)))

pub found_by_format : (l : Lookup) (b : Buffer) (at start : ℕ) → nat_eq (u16_of l.table.now start) 1 ≡ false → found_by l b at start ≡ None
found_by_format l b at start other = rw other refl

pub found_by_set : (l : Lookup) (b : Buffer) (at start : ℕ) (o : Option ℕ) → u16_of l.table.now start ≡ 1
    → o ≡ sifted.set_there l b.items at start → found_by l b at start ≡ option_and_then (ligature_found l b at) o
found_by_set l b at start o one is = ap (option_and_then (ligature_found l b at)) (set_of_format l b at start one ∙ sym is)

or-none : (o : Option Components) → option_or o None ≡ o
or-none None = refl
or-none (Some x) = refl

-- subtable `i` by its offset
pub step_by_offset : (l : Lookup) (b : Buffer) (at i : ℕ) (s : SoughtLigature) (o : Option ℕ) → l.positioning ≡ false
    → lookup_type_of l.table.now l.place ≡ 4 → offset16_of l.table.now l.place (l.place + 6 + 2 * i) ≡ o
    → sought_step l b at i s ≡ option_map_or (λ start. sought_by l b at start s) o (Some s)
step_by_offset l b at i s o gsub type is =
    let made : Option LookupSubtable → Option SoughtLigature = λ p. option_map (with_found s.found (found_in l b at i))
    (option_map_or (subtable_charged l b.items at s.left) p (Some s.left)) in
    ap made (ligature_subtable l i gsub type) ∙ by_offset (offset16_of l.table.now l.place (l.place + 6 + 2 * i)) is
  where
    at_offset : Option ℕ → Option SoughtLigature
    at_offset p = option_map (with_found s.found (option_and_then (found_by l b at) p))
        (option_map_or (subtable_charged l b.items at s.left) (option_map (λ start. record { kind = 4; start = start }) p) (Some s.left))

    same : (found : Option Components) → with_found found None s.left ≡ record { left = s.left; found = found }
    same None = refl
    same (Some x) = refl

    none : at_offset None ≡ Some s
    none = ap (λ t. Some t) (same s.found)

    by_value : (p : Option ℕ) → at_offset p ≡ option_map_or (λ start. sought_by l b at start s) p (Some s)
    by_value None = none
    by_value (Some start) = refl

    by_offset : (p : Option ℕ) → p ≡ o → at_offset p ≡ option_map_or (λ start. sought_by l b at start s) o (Some s)
    by_offset p e = by_value p ∙ ap (λ q. option_map_or (λ start. sought_by l b at start s) q (Some s)) e

-- ---- a first subtable that is charged for by what is stored

none-found : (l : Lookup) (b : Buffer) (at set : ℕ)
    → sifted.AreOut l.table.now (sifted.second_glance l b.items at) set (count_of l.table.now set) → ligature_found l b at set ≡ None
none-found l b at set out =
    found_after l b at set (count_of l.table.now set) (count_of l.table.now set) refl (omega arith) out
    ∙ first_some_end (ligature_in l b at set) (count_of l.table.now set) (count_of l.table.now set) (omega arith)

pub found_by_paid : (l : Lookup) (b : Buffer) (at start set : ℕ) → u16_of l.table.now start ≡ 1
    → sifted.set_there l b.items at start ≡ Some set → found_by l b at start ≡ ligature_found l b at set
found_by_paid l b at start set one there = found_by_set l b at start (Some set) one (sym there)

pub none_if_out : (l : Lookup) (b : Buffer) (at start set : ℕ) → sifted.set_there l b.items at start ≡ Some set
    → sifted.AreOut l.table.now (sifted.second_glance l b.items at) set (count_of l.table.now set) → found_by l b at start ≡ None
none_if_out l b at start set there out = by_format (nat_eq (u16_of l.table.now start) 1) refl
  where
    by_format : (u : Bool) → nat_eq (u16_of l.table.now start) 1 ≡ u → found_by l b at start ≡ None
    by_format true is = found_by_paid l b at start set (grind (arith, nat_tests, is)) there ∙ none-found l b at set out
    by_format false is = found_by_format l b at start is

pub paid_step : (l : Lookup) (b : Buffer) (at i start rest : ℕ) (s : SoughtLigature) → i ≡ 0 → first_start l.table.now l.place ≡ Some start
    → charged_at_subtable l b.items at 0 s.left ≡ Some rest
    → sought_step l b at i s ≡ Some (with_found s.found (found_by l b at start) rest)
paid_step l b at i start rest s first there paid =
    let place : l.place + 6 + 2 * 0 ≡ l.place + 6 = omega arith in
    ap (λ k. sought_step l b at k s) first
    ∙ ap (option_map (with_found s.found (found_in l b at 0))) paid
    ∙ ap (λ o. Some (with_found s.found (option_and_then (found_by l b at) o) rest)) (ap (offset16_of l.table.now l.place) place ∙ there)

pub refused_step : (l : Lookup) (b : Buffer) (at i start set rest : ℕ) (s : SoughtLigature) → i ≡ 0 → first_start l.table.now l.place ≡ Some start
    → charged_at_subtable l b.items at 0 s.left ≡ Some rest → sifted.set_there l b.items at start ≡ Some set
    → sifted.AreOut l.table.now (sifted.second_glance l b.items at) set (count_of l.table.now set)
    → sought_step l b at i s ≡ Some (record { left = rest; found = s.found })
refused_step l b at i start set rest s first there paid is out =
    paid_step l b at i start rest s first there paid
    ∙ ap (λ f. Some (with_found s.found f rest)) (none_if_out l b at start set is out)
    ∙ ap (λ f. Some (record { left = rest; found = f })) (or-none s.found)

-- ---- those that don't begin at the glyph

none-of : (o : Option ℕ) → is_some o ≡ false → o ≡ None
none-of None e = refl
none-of (Some x) e = cc

set-none : (t : List ℕ) (start glyph : ℕ) → number_of t start glyph ≡ None → set_of t start glyph ≡ None
set-none t start glyph none = by_format (nat_eq (u16_of t start) 1)
  where
    by_format : (f : Bool) → (if f then option_and_then (set_number t start) (number_of t start glyph) else None) ≡ None
    by_format true = ap (option_and_then (set_number t start)) none
    by_format false = refl

begins-four : (l : Lookup) (start glyph : ℕ) → l.positioning ≡ false
    → begins l (record { kind = 4; start = start }) glyph ≡ is_some (number_of l.table.now start glyph)
begins-four l start glyph gsub = rw gsub refl

module _ (l : Lookup) (b : Buffer) (at : ℕ) (gsub : l.positioning ≡ false) (type : lookup_type_of l.table.now l.place ≡ 4) where
  found-out : (i : ℕ) → IsOut l i (item_at b at).glyph_id → found_in l b at i ≡ None
  found-out i out = by_offset (offset16_of l.table.now l.place (l.place + 6 + 2 * i)) refl
    where
      by_offset : (o : Option ℕ) → offset16_of l.table.now l.place (l.place + 6 + 2 * i) ≡ o → option_and_then (found_by l b at) o ≡ None
      by_offset None e = refl
      by_offset (Some start) e =
          let glyph = (item_at b at).glyph_id in
          let there : subtable_at l i ≡ Some (record { kind = 4; start = start }) = ligature_subtable l i gsub type
          ∙ ap (option_map (λ start. record { kind = 4; start = start })) e in
          let none = none-of (number_of l.table.now start glyph) (sym (begins-four l start glyph gsub) ∙ out (record { kind = 4; start = start }) there) in
          ap (option_and_then (ligature_found l b at)) (set-none l.table.now start glyph none)

  step-out : (i : ℕ) (s : SoughtLigature) → IsOut l i (item_at b at).glyph_id → sought_step l b at i s ≡ Some s
  step-out i s out =
      ap (option_map (with_found s.found (found_in l b at i))) (charged_out l b.items at i s.left out)
      ∙ ap (λ f. Some (with_found s.found f s.left)) (found-out i out)
      ∙ ap (λ f. Some (record { left = s.left; found = f })) (or-none s.found)

  none-sought : (n i j : ℕ) (s : SoughtLigature) → i ≤ j → j ≤ n → AreOut l i j (item_at b at).glyph_id
      → steps (sought_step l b at) (n - i) i s ≡ steps (sought_step l b at) (n - j) j s
  none-sought n i j s from within out =
      steps_to (sought_step l b at) n i j s from within (λ k low below. step-out k s (out k low below))

  pub sought_begun : (n j : ℕ) (s : SoughtLigature) → n ≡ subtable_count_of l.table.now l.place → j ≤ n → AreOut l 0 j (item_at b at).glyph_id
      → steps (sought_step l b at) (subtable_count_of l.table.now l.place) 0 s ≡ steps (sought_step l b at) (n - j) j s
  sought_begun n j s count within out =
      let e : subtable_count_of l.table.now l.place ≡ n - 0 = omega (arith, count) in
      ap (λ m. steps (sought_step l b at) m 0 s) e ∙ none-sought n 0 j s (omega arith) within out

  pub sought_next : (n i j : ℕ) (all : Option SoughtLigature) (s t : SoughtLigature) → i < n → i + 1 ≤ j → j ≤ n → AreOut l (i + 1) j (item_at b at).glyph_id
      → sought_step l b at i s ≡ Some t → all ≡ steps (sought_step l b at) (n - i) i s
      → all ≡ steps (sought_step l b at) (n - j) j t
  sought_next n i j all s t more from within out made before =
      before ∙ steps_next (sought_step l b at) n i s t more made ∙ none-sought n (i + 1) j t from within out

-- ---- all subtables

or-assoc : (x y z : Option Components) → option_or (option_or x y) z ≡ option_or x (option_or y z)
or-assoc None y z = refl
or-assoc (Some a) y z = refl

-- one subtable more, where it is said what those after it find
sought-more : (l : Lookup) (b : Buffer) (at n i : ℕ) (found : Option Components)
    → ((less : ℕ) (before : Option Components) → steps (sought_step l b at) n (suc i) (record { left = less; found = before })
    ≡ option_map (with_found before (first_some (found_in l b at) n (suc i))) (steps (charged_at_subtable l b.items at) n (suc i) less))
    → (o : Option ℕ)
    → option_and_then (steps (sought_step l b at) n (suc i)) (option_map (with_found found (found_in l b at i)) o)
    ≡ option_map (with_found found (option_or (found_in l b at i) (first_some (found_in l b at) n (suc i))))
    (option_and_then (steps (charged_at_subtable l b.items at) n (suc i)) o)
sought-more l b at n i found later None = refl
sought-more l b at n i found later (Some less) =
    let here = found_in l b at i in
    let rest = first_some (found_in l b at) n (suc i) in
    later less (option_or found here)
    ∙ ap (λ f. option_map (λ r. record { left = r; found = f }) (steps (charged_at_subtable l b.items at) n (suc i) less))
    (or-assoc found here rest)

all-sought : (l : Lookup) (b : Buffer) (at : ℕ) (n i left : ℕ) (found : Option Components)
    → steps (sought_step l b at) n i (record { left = left; found = found })
    ≡ option_map (with_found found (first_some (found_in l b at) n i)) (steps (charged_at_subtable l b.items at) n i left)
all-sought l b at zero i left found = ap (λ f. Some (record { left = left; found = f })) (sym (or-none found))
all-sought l b at (suc n) i left found =
    sought-more l b at n i found (λ less before. all-sought l b at n (suc i) less before) (charged_at_subtable l b.items at i left)

pub sought_whole : (l : Lookup) (b : Buffer) (at left : ℕ)
    → steps (sought_step l b at) (subtable_count_of l.table.now l.place) 0 (record { left = left; found = None })
    ≡ all_sought l b at left
sought_whole l b at left = all-sought l b at (subtable_count_of l.table.now l.place) 0 left None

-- one subtable alone
pub paid_alone : (l : Lookup) (b : Buffer) (at start left rest : ℕ) → subtable_count_of l.table.now l.place ≡ 1
    → first_start l.table.now l.place ≡ Some start → charged_at_subtable l b.items at 0 left ≡ Some rest
    → Some (with_found None (found_by l b at start) rest) ≡ all_sought l b at left
paid_alone l b at start left rest one there paid =
    let before : SoughtLigature = record { left = left; found = None } in
    sym (ap (λ o. option_and_then (λ s. Some s) o) (paid_step l b at 0 start rest before refl there paid))
    ∙ ap (λ n. steps (sought_step l b at) n 0 before) (sym one) ∙ sought_whole l b at left

pub refused_alone : (l : Lookup) (b : Buffer) (at start set left rest : ℕ) → subtable_count_of l.table.now l.place ≡ 1
    → first_start l.table.now l.place ≡ Some start → charged_at_subtable l b.items at 0 left ≡ Some rest
    → sifted.set_there l b.items at start ≡ Some set
    → sifted.AreOut l.table.now (sifted.second_glance l b.items at) set (count_of l.table.now set)
    → Some (record { left = rest; found = None }) ≡ all_sought l b at left
refused_alone l b at start set left rest one there paid is out =
    ap (λ f. Some (with_found None f rest)) (sym (none_if_out l b at start set is out)) ∙ paid_alone l b at start left rest one there paid

-- ---- what the lookup makes

same-if : (t : Bool) (x : Applied) → (if t then x else x) ≡ x
same-if true x = refl
same-if false x = refl

made-stays : (l : Lookup) (spot : Spot) (b : Buffer) (next : Buffer → Applied) (one : Components)
    → or_next next (ligature_made l spot b one) ≡ ligature_made l spot b one
made-stays l spot b next one = by_count (nat_eq (component_count l.table.now one.ligature) 1)
  where
    single : Applied
    single = put_one l spot b (ligature_glyph l.table.now one.ligature)

    several : Applied
    several = ligature_put l spot b one

    by_count : (t : Bool) → or_next next (if t then single else several) ≡ (if t then single else several)
    by_count true = same-if (is_past single.buffer) single
    by_count false = same-if (is_past several.buffer) several

or-rest : (l : Lookup) (spot : Spot) (b : Buffer) (next : Buffer → Applied) (rest : Option Components) → is_past b ≡ false
    → next b ≡ option_map_or (ligature_made l spot b) rest (unapplied b) → (o : Option Components)
    → or_next next (option_map_or (ligature_made l spot b) o (unapplied b))
    ≡ option_map_or (ligature_made l spot b) (option_or o rest) (unapplied b)
or-rest l spot b next rest within same None = rw within same
or-rest l spot b next rest within same (Some one) = made-stays l spot b next one

by-set : (l : Lookup) (spot : Spot) (b : Buffer) → asks_for_concat b ≡ false → (o : Option ℕ)
    → option_map_or (set_ligated l spot b) o (unapplied b)
    ≡ option_map_or (ligature_made l spot b) (option_and_then (ligature_found l b spot.at) o) (unapplied b)
by-set l spot b unasked None = refl
by-set l spot b unasked (Some set) =
    ap (one_ligated l spot set) (concat_marked_unasked (ligatures_reach l b spot.at set) b unasked)

by-offset : (l : Lookup) (spot : Spot) (b : Buffer) (type : ℕ) → type ≡ 4 → asks_for_concat b ≡ false → (o : Option ℕ)
    → option_map_or (kind_applied l spot b) (option_and_then (resolved l.table.now 7 type) o) (unapplied b)
    ≡ option_map_or (ligature_made l spot b) (option_and_then (found_by l b spot.at) o) (unapplied b)
by-offset l spot b type four unasked None = refl
by-offset l spot b type four unasked (Some start) =
    rw four (by-set l spot b unasked (set_of l.table.now start (item_at b spot.at).glyph_id))

each-ligature : (l : Lookup) (spot : Spot) (b : Buffer) → lookup_type_of l.table.now l.place ≡ 4 → is_past b ≡ false
    → asks_for_concat b ≡ false → (n i : ℕ)
    → subtables_applied l spot n i b
    ≡ option_map_or (ligature_made l spot b) (first_some (found_in l b spot.at) n i) (unapplied b)
each-ligature l spot b four within unasked zero i = refl
each-ligature l spot b four within unasked (suc n) i =
    ap (or_next (subtables_applied l spot n (suc i)))
    (by-offset l spot b (lookup_type_of l.table.now l.place) four unasked (offset16_of l.table.now l.place (l.place + 6 + 2 * i)))
    ∙ or-rest l spot b (subtables_applied l spot n (suc i)) (first_some (found_in l b spot.at) n (suc i)) within
    (each-ligature l spot b four within unasked n (suc i)) (found_in l b spot.at i)

-- a lookup of type 4 makes the first ligature that its subtables find, where nothing is marked that was looked at before
pub ligatures_alone : (l : Lookup) (spot : Spot) (b : Buffer) → lookup_type_of l.table.now l.place ≡ 4 → is_past b ≡ false
    → asks_for_concat b ≡ false
    → lookup_applied l spot b ≡ option_map_or (ligature_made l spot b) (first_ligature l b spot.at) (unapplied b)
ligatures_alone l spot b four within unasked = each-ligature l spot b four within unasked (subtable_count_of l.table.now l.place) 0
