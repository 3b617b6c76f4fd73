-- The test of the premises of canonical form tells whether they hold.
use Rattle.std.proofs.Common.{◌≡◌, ◌↔◌, ℕ, ◌==◌, ◌&&◌, not, Bool, if◌then◌else◌, true, false, List, [], ◌∷◌, ◌++◌, length, map, Option, None, Some, flat_map, refl, sym, ◌∙◌, ap, arith, inl, inr, eqb-true, eq-eqb, ne_eqb}
use Rattle.std.proofs.lemmas.Bool.{and_parts, and_from}
use Rattle.std.proofs.lemmas.Grind.{flat_map-append}
use Rattle.std.proofs.lemmas.List.{map-append, append-nil}
use Rattle.std.proofs.lemmas.List.Elements.{All-from_recursion, recursion_from_All}
use Rattle.std.specs.List.{AllByRecursion, list_all}
use Rattle.std.specs.Option.{is_some}
use Rattle.canonical_form.specs.Chain.{FallsAlong, kept_part, full, full_text}
use Rattle.canonical_form.specs.Decompositions.{Decompositions}
use Rattle.canonical_form.proofs.Expanding.ChainLemmas.{full-stays, full-splits, kept_part_zero}
use Rattle.shape_items.specs.Buffer.{Buffer}
use Rattle.shape_items.specs.Items.{Item, char_of, ccc_of_item, is_mark_item}
use Rattle.shape_items.specs.Prepared.{IsPreparedItem}
use Rattle.shape_common.specs.Unicode.{UnicodeMeaning, is_mark}
use Rattle.shape_plan.specs.Rules.{Rules, decompositions, has_glyph}
use Rattle.shape_normalize.specs.CanonicalForm.{CanonicalFormPremises, HasLawfulHooks, text_of}
use Rattle.shape_normalize.specs.PremiseTest.{front_with, front_before, no_front, is_plain_item, is_full_mode, is_supported_text, meets_premises}
use Rattle.shape_normalize.specs.RoundTwo.{has_mark_past_first}
use Rattle.shape_normalize.specs.declared.ot_shape_normalize.premises.Front.{Front}
use Rattle.shape_normalize.proofs.Form.FrontLemmas.{FrontDecides, front_decides, test_of_front, front_of_test}
use Rattle.shape_normalize.proofs.Form.NormalFormLemmas.{mark_past_first_char}
use Rattle.shape_normalize.proofs.Form.PreparedLemmas.{ArePrepared}

-- ---- lists joined

module _ (ccc : ℕ → ℕ) (glyph : ℕ → Bool) where
  pub front_before-append : (xs ys : List ℕ) (front : Option Front)
      → front_before ccc glyph (xs ++ ys) front ≡ front_before ccc glyph xs (front_before ccc glyph ys front)
  front_before-append [] ys front = refl
  front_before-append (x ∷ xs) ys front = ap (front_with ccc glyph x) (front_before-append xs ys front)

  -- what is refused stays refused, whatever comes in front
  front_before-refused : (xs : List ℕ) → front_before ccc glyph xs None ≡ None
  front_before-refused [] = refl
  front_before-refused (x ∷ xs) = ap (front_with ccc glyph x) (front_before-refused xs)

-- ---- along a chain, and from the last item to the first

module _ (D : Decompositions) (glyph : ℕ → Bool) where
  module _ (falls : FallsAlong D.split D.height) where
    -- the last part of Full is put in front first, if it isn't U+0000
    front_before-split : (c a b : ℕ) (front : Option Front) → D.split c ≡ Some (a, b)
        → front_before D.ccc glyph (full D c) front
        ≡ front_before D.ccc glyph (full D a) (front_before D.ccc glyph (kept_part b) front)
    front_before-split c a b front splits =
        ap (λ xs. front_before D.ccc glyph xs front) (full-splits D falls c a b splits)
        ∙ front_before-append D.ccc glyph (full D a) (kept_part b) front

    pub front_before-kept : (c a b : ℕ) (front next : Option Front) → D.split c ≡ Some (a, b) → (b ≡ 0 → ⊥) → next ≡ front_with D.ccc glyph b front
        → front_before D.ccc glyph (full D c) front ≡ front_before D.ccc glyph (full D a) next
    front_before-kept c a b front next splits some is =
        let kept : kept_part b ≡ b ∷ [] = rw (ne_eqb b 0 some) refl in
        front_before-split c a b front splits
        ∙ ap (λ xs. front_before D.ccc glyph (full D a) (front_before D.ccc glyph xs front)) kept
        ∙ ap (λ o. front_before D.ccc glyph (full D a) o) (sym is)

    pub front_before-dropped : (c a b : ℕ) (front : Option Front) → D.split c ≡ Some (a, b) → b ≡ 0
        → front_before D.ccc glyph (full D c) front ≡ front_before D.ccc glyph (full D a) front
    front_before-dropped c a b front splits none =
        front_before-split c a b front splits
        ∙ ap (λ xs. front_before D.ccc glyph (full D a) (front_before D.ccc glyph xs front)) (kept_part_zero b none)

    pub front_before-whole : (c : ℕ) (front : Option Front) → D.split c ≡ None
        → front_before D.ccc glyph (full D c) front ≡ front_with D.ccc glyph c front
    front_before-whole c front stays = ap (λ xs. front_before D.ccc glyph xs front) (full-stays D falls c stays)

  abbrev front_before_items : List Item → Option Front → Option Front
  front_before_items items front = front_before D.ccc glyph (full_text D (map char_of items)) front

  pub front_before-last : (items before : List Item) (item : Item) (front : Option Front) → items ≡ before ++ item ∷ []
      → front_before_items items front ≡ front_before_items before (front_before D.ccc glyph (full D item.codepoint) front)
  unfolding full_text
  front_before-last items before item front is =
      let parts = flat_map (full D) in
      let last = full D item.codepoint in
      let chars : map char_of items ≡ map char_of before ++ item.codepoint ∷ [] =
      ap (map char_of) is ∙ map-append char_of before (item ∷ []) in
      let full_of : parts (map char_of items) ≡ parts (map char_of before) ++ last =
      ap parts chars ∙ flat_map-append (full D) (map char_of before) (item.codepoint ∷ [])
      ∙ ap (λ cs. parts (map char_of before) ++ cs) (append-nil last) in
      ap (λ cs. front_before D.ccc glyph cs front) full_of ∙ front_before-append D.ccc glyph (parts (map char_of before)) last front

  -- if the last item is refused, so are all
  pub front_before-last_refused : (items before : List Item) (item : Item) (front : Option Front) → items ≡ before ++ item ∷ []
      → front_before D.ccc glyph (full D item.codepoint) front ≡ None → front_before_items items front ≡ None
  front_before-last_refused items before item front is refused =
      front_before-last items before item front is
      ∙ ap (front_before_items before) refused ∙ front_before-refused D.ccc glyph (full_text D (map char_of before))

  pub front_before-none : (items : List Item) (front : Option Front) → length items ≡ 0 → front_before_items items front ≡ front
  unfolding full_text
  front_before-none [] front none = refl
  front_before-none (item ∷ items) front none = absurd (omega (arith, none))

-- ---- plain items, the mode, and all of it

not-true : (a : Bool) → not a ≡ true → a ≡ false
not-true true e = cc
not-true false e = refl

plain-item : (unicode : UnicodeMeaning) (item : Item) → is_plain_item unicode item ≡ true
    → IsPreparedItem unicode item × (unicode.selector item.codepoint ≡ false)
plain-item unicode item plain =
    let same_mark = if is_mark unicode item.codepoint then is_mark_item item else not (is_mark_item item) in
    let same_ccc = ccc_of_item item == unicode.ccc item.codepoint in
    let both = and_parts (same_mark && same_ccc) (not (unicode.selector item.codepoint)) plain in
    let same = and_parts same_mark same_ccc both.0 in (
      record { mark = marks (is_mark unicode item.codepoint) (is_mark_item item) same.0; ccc = eqb-true _ _ same.1 },
      not-true (unicode.selector item.codepoint) both.1,
    )
  where
    marks : (a b : Bool) → (if a then b else not b) ≡ true → b ≡ a
    marks true true e = refl
    marks true false e = cc
    marks false true e = cc
    marks false false e = refl

item-plain : (unicode : UnicodeMeaning) (item : Item) → IsPreparedItem unicode item → unicode.selector item.codepoint ≡ false
    → is_plain_item unicode item ≡ true
item-plain unicode item prepared no_selector =
    let same_mark = if is_mark unicode item.codepoint then is_mark_item item else not (is_mark_item item) in
    let same_ccc = ccc_of_item item == unicode.ccc item.codepoint in
    and_from (same_mark && same_ccc) (not (unicode.selector item.codepoint))
    (and_from same_mark same_ccc (marks (is_mark unicode item.codepoint) (is_mark_item item) prepared.mark)
    (eq-eqb (ccc_of_item item) (unicode.ccc item.codepoint) prepared.ccc))
    (ap not no_selector)
  where
    marks : (a b : Bool) → b ≡ a → (if a then b else not b) ≡ true
    marks true true e = refl
    marks true false e = cc
    marks false true e = cc
    marks false false e = refl

-- items are plain if they are prepared and their characters no selectors
abbrev ArePlain : UnicodeMeaning → List Item → Type 0
ArePlain unicode items = ArePrepared unicode items × AllByRecursion (λ c. unicode.selector c ≡ false) (map char_of items)

plain-items : (unicode : UnicodeMeaning) (items : List Item) → list_all (is_plain_item unicode) items ≡ true → ArePlain unicode items
plain-items unicode [] plain = (tt, tt)
plain-items unicode (item ∷ items) plain =
    let both = and_parts (is_plain_item unicode item) (list_all (is_plain_item unicode) items) plain in
    let first = plain-item unicode item both.0 in
    let later = plain-items unicode items both.1 in
    ((first.0, later.0), (first.1, later.1))

items-plain : (unicode : UnicodeMeaning) (items : List Item) → ArePlain unicode items → list_all (is_plain_item unicode) items ≡ true
items-plain unicode [] plain = refl
items-plain unicode (item ∷ items) plain =
    and_from (is_plain_item unicode item) _ (item-plain unicode item plain.0.0 plain.1.0)
    (items-plain unicode items (plain.0.1, plain.1.1))

full-mode : (short : Bool → Bool) → is_full_mode short ≡ true → (with_marks : Bool) → short with_marks ≡ false
full-mode short full true = not-true (short true) (and_parts (not (short true)) (not (short false)) full).0
full-mode short full false = not-true (short false) (and_parts (not (short true)) (not (short false)) full).1

mode-full : (short : Bool → Bool) → ((with_marks : Bool) → short with_marks ≡ false) → is_full_mode short ≡ true
mode-full short full = rw (full true, full false) refl

unordered : {A : Type 0} (reorder : Option A) → not (is_some reorder) ≡ true → reorder ≡ None
unordered None none = refl
unordered (Some f) none = cc

module _ (rules : Rules) (lawful : HasLawfulHooks rules) (b : Buffer) where
  abbrev glyph : ℕ → Bool
  glyph = has_glyph rules.face.nominal_glyph

  abbrev full_of_text : List ℕ
  full_of_text = full_text (decompositions rules) (text_of b)

  -- the four tests
  abbrev mode : Bool
  mode = is_full_mode rules.short

  abbrev order : Bool
  order = not (is_some rules.reorder)

  abbrev plain : Bool
  plain = list_all (is_plain_item rules.unicode) b.items

  abbrev supported_test : Bool
  supported_test = is_supported_text rules b.items

  abbrev front_known : Option Front
  front_known = front_before rules.unicode.ccc glyph full_of_text (Some no_front)

  tells : FrontDecides rules.unicode.ccc glyph full_of_text front_known
  tells = front_decides rules.unicode.ccc glyph full_of_text

  premises_where_met : meets_premises rules b.items ≡ true → CanonicalFormPremises rules b
  premises_where_met met =
      let last = and_parts (mode && order && plain) supported_test met in
      let third = and_parts (mode && order) plain last.0 in
      let first = and_parts mode order third.0 in
      let items = plain-items rules.unicode b.items third.1 in
      let found = test_of_front rules.unicode.ccc glyph full_of_text front_known tells (has_mark_past_first b.items)
      (not rules.recomposes) last.1 in
      record {
        equivalence = record {
          text = record {
            lawful_hooks = lawful;
            no_selector = All-from_recursion (λ c. rules.unicode.selector c ≡ false) (text_of b) items.1;
            no_reordering = unordered rules.reorder first.1;
          };
          prepared = All-from_recursion (IsPreparedItem rules.unicode) b.items items.0;
        };
        canonical = record {
          decomposes_fully = full-mode rules.short first.0;
          supported = record { glyphs = found.0.0; fits = found.0.1 };
          in_order = elim found.1 [
            | inl marked ↦ inl (sym (mark_past_first_char rules.unicode b.items items.0) ∙ marked)
            | inr (leaves, ordered) ↦ inr (not-true rules.recomposes leaves, ordered)
          ];
        };
      }

  met_where_premises : CanonicalFormPremises rules b → meets_premises rules b.items ≡ true
  met_where_premises premises =
      let prepared = recursion_from_All (IsPreparedItem rules.unicode) b.items premises.equivalence.prepared in
      let no_selector = recursion_from_All (λ c. rules.unicode.selector c ≡ false) (text_of b) premises.equivalence.text.no_selector in
      let supported = premises.canonical.supported in
      let first = and_from mode order (mode-full rules.short premises.canonical.decomposes_fully)
      (ap (λ reorder. not (is_some reorder)) premises.equivalence.text.no_reordering) in
      let third = and_from (mode && order) plain first (items-plain rules.unicode b.items (prepared, no_selector)) in
      and_from (mode && order && plain) supported_test third
      (front_of_test rules.unicode.ccc glyph full_of_text front_known tells (has_mark_past_first b.items)
      (not rules.recomposes) supported.glyphs supported.fits (elim premises.canonical.in_order [
        | inl marked ↦ inl (mark_past_first_char rules.unicode b.items prepared ∙ marked)
        | inr (leaves, ordered) ↦ inr (ap not leaves, ordered)
      ]))

  pub test_decides : (meets_premises rules b.items ≡ true) ↔ CanonicalFormPremises rules b
  test_decides = (premises_where_met, met_where_premises)
