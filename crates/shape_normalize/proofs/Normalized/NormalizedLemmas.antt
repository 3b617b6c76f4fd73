-- What a normalised list has of the list that it was made of.
use Rattle.std.proofs.Common.{◌≡◌, ℕ, ◌≤◌, ◌⊎◌, ◌==◌, ◌&&◌, Bool, true, false, if◌then◌else◌, List, [], ◌∷◌, length, map, bit_and, Option, None, refl, sym, subst, ◌∙◌, ap, arith, inl, inr}
use Rattle.std.specs.List.{AllByRecursion, Contains}
use Rattle.std.proofs.lemmas.Bool.{cases_Bool, cond-true, cond-false, and_right}
use Rattle.std.proofs.lemmas.List.{length-map}
use Rattle.std.proofs.lemmas.List.Elements.{All-from_recursion, recursion_from_All}
use Rattle.shape_items.specs.Items.{Item, char_of, ccc_of_item}
use Rattle.shape_items.specs.Buffer.{Buffer}
use Rattle.shape_common.specs.declared.positions.GlyphPosition.{GlyphPosition}
use Rattle.shape_items.proofs.Merging.KeyLemmas.{IsKey, IsKey-unflagged}
use Rattle.shape_plan.specs.Rules.{Rules, has_glyph}
use Rattle.shape_normalize.specs.Recast.{recast_to}
use Rattle.shape_normalize.specs.RoundOne.{round_one}
use Rattle.shape_normalize.specs.RoundTwo.{has_mark_past_first, marks_ordered, unhidden, cgj_unhidden_where_seen, without_place, OrdersMarks}
use Rattle.shape_normalize.specs.RoundThree.{round_three}
use Rattle.shape_normalize.specs.Normalized.{ordered, normalized, content, BroughtInHaveGlyphs, OrdersExpanded}
use Rattle.shape_normalize.proofs.RoundTwo.CgjLemmas.{keys-cgj_unhidden_where_seen, chars-cgj_unhidden_where_seen}
use Rattle.shape_normalize.proofs.RoundTwo.OrderedLemmas.{marks_ordered_settles}
use Rattle.shape_normalize.proofs.RoundThree.RecomposedItemLemmas.{round_three_all, length-round_three}
use Rattle.shape_normalize.proofs.Hooks.ReorderLemmas.{LawfulReorder, GoesByNoCcc}
use Rattle.shape_normalize.proofs.RoundOne.RoundOneLemmas.{round_one_brings_in}
use Rattle.shape_normalize.proofs.RoundOne.SequenceLemmas.{each_of_values, each_value}
use Rattle.shape_normalize.proofs.RoundTwo.SettleLemmas.{length-marks_ordered, keys-marks_ordered}

-- ---- the rounds by their tests

module _ (rules : Rules) where
  -- marks in order if the test says so
  abbrev ordered_where : Bool → Buffer → Buffer
  ordered_where test b = if test then marks_ordered rules.reorder b else b

  abbrev recomposed_where : Bool → Buffer → Buffer
  recomposed_where test b = if test then round_three rules b else b

  -- what holds after round one, and what ordering, unhiding CGJ and recomposing keep, holds of the normalised list
  pub preserved_by_rounds : (P : Buffer → Type 0) (b : Buffer) → (P (round_one rules b) → P (marks_ordered rules.reorder (round_one rules b)))
      → ((c : Buffer) → P c → P (cgj_unhidden_where_seen c)) → ((c : Buffer) → P c → P (round_three rules c))
      → P (round_one rules b) → P (normalized rules b)
  preserved_by_rounds P b orders unhides recomposes of_one =
      let test = has_mark_past_first b.items in
      recomposed_cases (test && rules.recomposes) (ordered rules b) (unhides (ordered_where test (round_one rules b)) (ordered_cases test))
    where
      ordered_cases : (test : Bool) → P (ordered_where test (round_one rules b))
      ordered_cases true = orders of_one
      ordered_cases false = of_one

      recomposed_cases : (test : Bool) (c : Buffer) → P c → P (recomposed_where test c)
      recomposed_cases true c h = recomposes c h
      recomposed_cases false c h = h

-- ---- the number of items

length-cgj_unhidden_where_seen : (b : Buffer) → length (cgj_unhidden_where_seen b).items ≡ length b.items
length-cgj_unhidden_where_seen b =
    sym (length-map (cgj_unhidden_where_seen b).items char_of) ∙ ap length (chars-cgj_unhidden_where_seen b) ∙ length-map b.items char_of

module _ (rules : Rules) (lawful : LawfulReorder rules.reorder) where
  -- the later rounds bring in no item
  pub length-normalized : (b : Buffer) → length (normalized rules b).items ≤ length (round_one rules b).items
  length-normalized b =
      preserved_by_rounds rules (λ c. length c.items ≤ length (round_one rules b).items) b
      (λ below. omega (arith, length-marks_ordered rules.reorder lawful (round_one rules b)))
      (λ c below. omega (arith, length-cgj_unhidden_where_seen c)) (λ c below. omega (arith, length-round_three rules c)) (omega arith)

-- ---- what holds of each item

IsKey-content : (rules : Rules) → IsKey (content rules)
IsKey-content rules = record { by_cluster = λ item cluster. refl; by_break = λ item. refl }

-- a hook may set ccc, so that content depends on none if one is given
content-without_ccc : (rules : Rules) → GoesByNoCcc rules.reorder (content rules)
content-without_ccc rules f is item ccc = rw is refl

module _ (rules : Rules) (lawful : LawfulReorder rules.reorder) (P : Item → Type 0)
    (composes : (item : Item) (c : ℕ) → has_glyph rules.face.nominal_glyph c ≡ true
    → P (content rules (recast_to rules.unicode rules.face.nominal_glyph item c))) where
  -- what depends on an item's content, and holds of each composed item, holds of each item of the normalised list if it
  -- does of the expanded one
  pub normalized_all : (b : Buffer) → AllByRecursion (λ item. P (content rules item)) (round_one rules b).items
      → AllByRecursion (λ item. P (content rules item)) (normalized rules b).items
  normalized_all b each =
      let one : Buffer = round_one rules b in
      preserved_by_rounds rules (λ c. AllByRecursion (λ item. P (content rules item)) c.items) b
      (λ of. each_of_values (content rules) P (marks_ordered rules.reorder one).items
      (keys-marks_ordered rules.reorder lawful (content rules) (IsKey-content rules) (content-without_ccc rules) P one
      (each_value (content rules) P one.items of)))
      (λ c of. each_of_values (content rules) P (cgj_unhidden_where_seen c).items
      (subst (AllByRecursion P) (sym (keys-cgj_unhidden_where_seen (content rules) (λ item. refl) c)) (each_value (content rules) P c.items of)))
      (λ c of. round_three_all rules (λ item. P (content rules item)) (λ item cluster mask h. h) (λ item c has h. composes item c has) c of)
      each

-- every character that is brought in has a glyph
pub normalized_brings_in : (rules : Rules) → LawfulReorder rules.reorder → (b new : Buffer) → new ≡ normalized rules b
    → BroughtInHaveGlyphs rules.face.nominal_glyph (map char_of b.items) (map char_of new.items)
normalized_brings_in rules lawful b new is =
    let P : ℕ → Type 0 = λ c. (has_glyph rules.face.nominal_glyph c ≡ true) ⊎ Contains (map char_of b.items) c in
    let one = (round_one rules b).items in
    let all = (normalized rules b).items in
    rw is (All-from_recursion P (map char_of all)
    (each_value char_of P all (normalized_all rules lawful (λ item. P item.codepoint) (λ item c has. inl has) b
    (each_of_values char_of P one (recursion_from_All P (map char_of one) (round_one_brings_in rules b))))))

-- ---- the order of the marks

pub IsKey-without_place : IsKey without_place
IsKey-without_place = record {
  by_cluster = λ item cluster. ap unhidden (IsKey-unflagged.by_cluster item cluster);
  by_break = λ item. ap unhidden (IsKey-unflagged.by_break item);
}

-- with a mark past the first item, and with no hook, the ordered list is the expanded one with its runs settled
orders_ordered : (rules : Rules) (b : Buffer) → has_mark_past_first b.items ≡ true → rules.reorder ≡ None
    → OrdersMarks (round_one rules b).items (ordered rules b).items
orders_ordered rules b marked none =
    let one : Buffer = round_one rules b in
    let by_none : OrdersMarks one.items (cgj_unhidden_where_seen (marks_ordered None one)).items =
    rw (keys-cgj_unhidden_where_seen without_place (λ item. refl) (marks_ordered None one))
    (marks_ordered_settles without_place IsKey-without_place ccc_of_item (λ item. refl) one) in
    let by_hook : OrdersMarks one.items (cgj_unhidden_where_seen (marks_ordered rules.reorder one)).items = subst
    (λ (hook : Option (Buffer → ℕ → ℕ → Buffer)). OrdersMarks one.items (cgj_unhidden_where_seen (marks_ordered hook one)).items)
    (sym none) by_none in
    subst (λ (c : Buffer). OrdersMarks one.items (cgj_unhidden_where_seen c).items)
    (sym (cond-true _ (marks_ordered rules.reorder one) one marked)) by_hook

pub normalized_orders : (rules : Rules) (b new : Buffer) → new ≡ normalized rules b → OrdersExpanded rules b new
normalized_orders rules b new is = record {
  ordered_list = orders_ordered rules b;
  new_list = λ marked none leaves.
      let same : normalized rules b
      ≡ ordered rules b = cond-false _ (round_three rules (ordered rules b)) (ordered rules b)
      (and_right (has_mark_past_first b.items) rules.recomposes leaves) in
      subst (λ (c : Buffer). OrdersMarks (round_one rules b).items c.items) (sym (is ∙ same)) (orders_ordered rules b marked none);
}

-- ---- the empty text

module _ (rules : Rules) where
  same_when_empty : (b : Buffer) (items : List Item) (positions : List GlyphPosition) → length items ≡ 0 → length positions ≡ 0 →
      record b { items = items; positions = positions } ≡ normalized rules (record b { items = items; positions = positions })
  same_when_empty b [] [] none as_many =
      elim (cases_Bool (bit_and b.scratch_flags.0 8 == 8)) [ inl seen ↦ rw seen refl | inr unseen ↦ rw unseen refl ]
  same_when_empty b [] (p ∷ ps) none as_many = absurd (omega arith)
  same_when_empty b (x ∷ xs) positions none as_many = absurd (omega arith)

  -- an empty buffer is normalised
  pub empty_is_normalized : (b : Buffer) → length b.items ≡ 0 → length b.positions ≡ 0 → b ≡ normalized rules b
  empty_is_normalized b none as_many = same_when_empty b b.items b.positions none as_many
