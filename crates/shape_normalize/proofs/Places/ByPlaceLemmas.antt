-- Each item of the normalised list comes by its place: of the text, of the expanded list, and of the ordered one.
use Rattle.std.proofs.Common.{◌≡◌, ◌⊎◌, ℕ, ◌<◌, ◌==◌, ◌&&◌, bit_and, Bool, true, false, if◌then◌else◌, List, [], ◌∷◌, map, length, Option, None, Some, is_some, refl, sym, ap, subst, ◌∙◌, arith, inl, inr}
use Rattle.std.specs.List.{AllByRecursion, AllZip}
use Rattle.std.specs.Option.{MatchOption}
use Rattle.std.proofs.lemmas.Bool.{cases_Bool, cond-true, cond-false, and_parts}
use Rattle.std.proofs.lemmas.Bool.Decides.{nat_tests}
use Rattle.canonical_form.specs.Runs.{AreRunsSettled}
use Rattle.shape_items.specs.Buffer.{Buffer}
use Rattle.shape_items.specs.Items.{Item, ccc_of_item}
use Rattle.shape_plan.specs.Rules.{Rules}
use Rattle.shape_normalize.specs.Normalized.{ordered, normalized}
use Rattle.shape_normalize.specs.Origins.{item_at, all_places, PermutesRuns, IsOrderOf, lasting, IsFromPlace, IsFromStarter, is_recomposed, ComesByPlace}
use Rattle.shape_normalize.specs.Reordered.{unmerged, without_ccc}
use Rattle.shape_normalize.specs.RoundOne.{round_one}
use Rattle.shape_normalize.specs.RoundTwo.{max_run, has_mark_past_first, marks_ordered, keeps_nothing_apart, unhidden, one_cgj_unhidden, cgj_unhidden_after, cgj_unhidden, has_seen_cgj, cgj_unhidden_where_seen}
use Rattle.shape_normalize.specs.RoundThree.{recomposed_items, round_three}
use Rattle.shape_normalize.proofs.Places.FromTextLemmas.{order_below, all_places_below, new_has}
use Rattle.shape_normalize.proofs.Normalized.HiddenLemmas.{flag-marks_ordered, cgj_unseen}
use Rattle.shape_normalize.proofs.Places.HookPlaceLemmas.{marks_placed}
use Rattle.shape_normalize.proofs.Places.OriginLemmas.{expanded_by_place}
use Rattle.shape_normalize.proofs.Places.PlaceLemmas.{by_places, settled_places, settled_places-settled, settled_places-items}
use Rattle.shape_normalize.proofs.Hooks.ReorderLemmas.{LawfulReorder}
use Rattle.shape_normalize.proofs.Places.StarterLemmas.{recomposed_by_place}

-- ---- two lists, place by place

zip_of_same : {A B C : Type 0} (f : A → C) (g : B → C) (xs : List A) (ys : List B) → map g ys ≡ map f xs → AllZip (λ x y. g y ≡ f x) xs ys
zip_of_same f g [] [] same = tt
zip_of_same f g [] (y ∷ ys) same = absurd (cc)
zip_of_same f g (x ∷ xs) [] same = absurd (cc)
zip_of_same f g (x ∷ xs) (y ∷ ys) same =
    let head : g y ≡ f x = cc in
    let tail : map g ys ≡ map f xs = cc in
    (head, zip_of_same f g xs ys tail)

zip_then : {A B C : Type 0} (R : A → B → Type 0) (S : B → C → Type 0) (T : A → C → Type 0)
    → ((x : A) (y : B) (z : C) → R x y → S y z → T x z)
    → (xs : List A) (ys : List B) (zs : List C) → AllZip R xs ys → AllZip S ys zs → AllZip T xs zs
zip_then R S T both [] [] [] first second = tt
zip_then R S T both [] [] (z ∷ zs) first second = absurd second
zip_then R S T both [] (y ∷ ys) zs first second = absurd first
zip_then R S T both (x ∷ xs) [] zs first second = absurd first
zip_then R S T both (x ∷ xs) (y ∷ ys) [] first second = absurd second
zip_then R S T both (x ∷ xs) (y ∷ ys) (z ∷ zs) first second = (both x y z first.0 second.0, zip_then R S T both xs ys zs first.1 second.1)

-- ---- CGJ

-- an item stays, or is a CGJ that is unhidden
abbrev MayUnhide : Item → Item → Type 0
MayUnhide item new = (new ≡ item) ⊎ ((item.codepoint ≡ 0x34F) × (new ≡ unhidden item))

may_unhide : (before item after : Item) → MayUnhide item (one_cgj_unhidden before item after)
may_unhide before item after =
    elim (cases_Bool (item.codepoint == 0x34F && keeps_nothing_apart before after)) [
      | inl unhides ↦
          let cgj = (and_parts (item.codepoint == 0x34F) (keeps_nothing_apart before after) unhides).0 in
          inr (grind (arith, nat_tests), cond-true _ (unhidden item) item unhides)
      | inr stays ↦ inl (cond-false _ (unhidden item) item stays)
    ]

may_unhide_after : (before : Item) (items : List Item) → AllZip MayUnhide items (cgj_unhidden_after before items)
may_unhide_after before [] = tt
may_unhide_after before (item ∷ []) = (inl refl, tt)
may_unhide_after before (item ∷ after ∷ rest) = (may_unhide before item after, may_unhide_after item (after ∷ rest))

may_unhide_all : (items : List Item) → AllZip MayUnhide items (cgj_unhidden items)
may_unhide_all [] = tt
may_unhide_all (first ∷ rest) = (inl refl, may_unhide_after first rest)

-- ---- the ordered list

-- round two by places, with a hook and without
marks_by_place : (reorder : Option (Buffer → ℕ → ℕ → Buffer)) → LawfulReorder reorder → (one : Buffer) →
    (places : List ℕ)
    × MatchOption reorder (AreRunsSettled (λ place. ccc_of_item (item_at one.items place)) max_run [] (all_places one.items) places)
    (λ f. PermutesRuns one.items places)
    × (map (λ item. if is_some reorder then without_ccc item else unmerged item) (marks_ordered reorder one).items
    ≡ map (λ place. if is_some reorder then without_ccc (item_at one.items place) else unmerged (item_at one.items place)) places)
marks_by_place None lawful one = (settled_places one, settled_places-settled one, settled_places-items one)
marks_by_place (Some f) lawful one = let placed = marks_placed f lawful one in (placed.places, placed.order, placed.same)

module _ (rules : Rules) (one : Buffer) where
  lasting_char : (hook : Bool) (x y : Item) → (if hook then without_ccc x else unmerged x) ≡ (if hook then without_ccc y else unmerged y)
      → x.codepoint ≡ y.codepoint
  lasting_char true x y same = ap (λ (item : Item). item.codepoint) same
  lasting_char false x y same = ap (λ (item : Item). item.codepoint) same

  lasting_unhidden : (hook : Bool) (x y : Item) → (if hook then without_ccc x else unmerged x) ≡ (if hook then without_ccc y else unmerged y)
      → (if hook then without_ccc (unhidden x) else unmerged (unhidden x)) ≡ (if hook then without_ccc (unhidden y) else unmerged (unhidden y))
  lasting_unhidden true x y same = ap unhidden same
  lasting_unhidden false x y same = ap unhidden same

  unhidden_by_place : has_seen_cgj one ≡ true → (place : ℕ) (item new : Item)
      → lasting rules item ≡ lasting rules (item_at one.items place) → MayUnhide item new → IsFromPlace rules one place new
  unhidden_by_place seen place item new same (inl stays) = inl (ap (lasting rules) stays ∙ same)
  unhidden_by_place seen place item new same (inr unhides) =
      let from = item_at one.items place in
      let hook = is_some rules.reorder in
      inr (seen, sym (lasting_char hook item from same) ∙ unhides.0, ap (lasting rules) unhides.1 ∙ lasting_unhidden hook item from same)

  -- with CGJ unhidden, if one was seen
  settled_by_place : (c : Buffer) (places : List ℕ) → bit_and c.scratch_flags.0 8 ≡ bit_and one.scratch_flags.0 8
      → map (lasting rules) c.items ≡ map (λ place. lasting rules (item_at one.items place)) places
      → AllZip (IsFromPlace rules one) places (cgj_unhidden_where_seen c).items
  settled_by_place c places flag same =
      let Same : ℕ → Item → Type 0 = λ place item. lasting rules item ≡ lasting rules (item_at one.items place) in
      let each : AllZip Same places c.items =
      zip_of_same (λ place. lasting rules (item_at one.items place)) (lasting rules) places c.items same in
      elim (cases_Bool (has_seen_cgj c)) [
        | inl seen ↦
            subst (λ (d : Buffer). AllZip (IsFromPlace rules one) places d.items)
            (sym (cond-true _ (record c { items = cgj_unhidden c.items }) c seen))
            (zip_then Same MayUnhide (IsFromPlace rules one) (unhidden_by_place (ap (λ n. n == 8) (sym flag) ∙ seen)) places c.items
            (cgj_unhidden c.items) each (may_unhide_all c.items))
        | inr unseen ↦
            subst (λ (d : Buffer). AllZip (IsFromPlace rules one) places d.items) (sym (cgj_unseen c unseen))
            (zip_then Same (λ item new. new ≡ item) (IsFromPlace rules one)
            (λ place item new same new_is. inl (ap (lasting rules) new_is ∙ same)) places c.items c.items each
            (zip_of_same (λ item. item) (λ item. item) c.items c.items refl))
      ]

  ordered_by_place : LawfulReorder rules.reorder → (test : Bool) → (places : List ℕ)
      × (test ≡ false → places ≡ all_places one.items)
      × (test ≡ true → IsOrderOf rules one.items places)
      × AllZip (IsFromPlace rules one) places (cgj_unhidden_where_seen (if test then marks_ordered rules.reorder one else one)).items
  ordered_by_place lawful true =
      let marks = marks_by_place rules.reorder lawful one in (
        marks.0,
        λ no. absurd (cc),
        λ yes. marks.1,
        settled_by_place (marks_ordered rules.reorder one) marks.0 (flag-marks_ordered rules.reorder lawful one) marks.2,
      )
  ordered_by_place lawful false = (
    all_places one.items,
    λ no. refl,
    λ yes. absurd (cc),
    settled_by_place one (all_places one.items) refl (by_places (lasting rules) one.items),
  )

-- ---- the normalised list

-- each item of the normalised list comes by its place
pub normalized_by_place : (rules : Rules) → LawfulReorder rules.reorder → (b new : Buffer) → new ≡ normalized rules b
    → ComesByPlace rules b new
normalized_by_place rules lawful b new is =
    let one : Buffer = round_one rules b in
    let before : Buffer = ordered rules b in
    let by = ordered_by_place rules one lawful (has_mark_past_first b.items) in
    let below : AllByRecursion (λ place. place < length one.items) by.0 =
    elim (cases_Bool (has_mark_past_first b.items)) [
      | inl marks ↦ order_below rules.reorder one.items by.0 (by.2 marks)
      | inr unmarked ↦ subst (AllByRecursion (λ place. place < length one.items)) (sym (by.1 unmarked)) (all_places_below one.items)
    ] in
    let starters : is_recomposed rules b ≡ true
    → AllZip (IsFromStarter rules before.items) (recomposed_items rules before.items) new.items =
    λ composes.
    subst (λ (c : Buffer). AllZip (IsFromStarter rules before.items) (recomposed_items rules before.items) c.items)
    (sym (is ∙ cond-true _ (round_three rules before) before composes)) (recomposed_by_place rules before) in
    let leaves : is_recomposed rules b ≡ false → new ≡ before = λ left. is ∙ cond-false _ (round_three rules before) before left in
    record {
      expanded = expanded_by_place rules b;
      places = by.0;
      unmarked = by.1;
      marked = by.2;
      ordered_list = by.3;
      recomposed = starters;
      left = leaves;
      from_text = new_has rules b by.0 below (expanded_by_place rules b) by.3 new starters leaves;
    }
