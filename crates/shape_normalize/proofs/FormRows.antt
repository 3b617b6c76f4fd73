-- The rows of what is promised of a normalised list, and of what canonical form asks.
use Rattle.std.proofs.Common.{◌≡◌, ◌⊎◌, ℕ, zero, suc, ◌<◌, ◌≤◌, nat_lt, Bool, true, false, List, [], ◌∷◌, ◌++◌, length, map, replicate, inl, inr, refl, ap, sym, ◌∙◌, arith}
use Rattle.std.specs.Prelude.{All, Contains}
use Rattle.std.specs.List.{list_all}
use Rattle.std.proofs.lemmas.Bool.Decides.{nat_tests}
use Rattle.std.proofs.lemmas.List.{length-append}
use Rattle.std.proofs.lemmas.List.Sums.{AllPass-from_list_all}
use Rattle.canonical_form.specs.Chain.{full, full_text}
use Rattle.shape_items.specs.Buffer.{Buffer}
use Rattle.shape_items.specs.Items.{Item, ccc_of_item}
use Rattle.shape_items.specs.Clusters.{merge}
use Rattle.shape_items.specs.UnicodeProps.{is_hidden_char}
use Rattle.shape_plan.specs.Rules.{Rules, has_glyph}
use Rattle.shape_normalize.specs.Normalized.{content, hidden_char}
use Rattle.shape_normalize.specs.RoundTwo.{run_settled}
use Rattle.shape_normalize.specs.Worked.Form.{GlyphsBroughtIn, GlyphsOfItems, items_compared, placed, with_hidden, HiddenItems, ShortRuns}
use Rattle.shape_normalize.specs.Worked.Form.{MarksOfLists, SelectorsAsked, OrderAsked, SpellingsTested, PremisesAsked, acute, all_glyphs}
use Rattle.shape_normalize.specs.Worked.Form.{ListsNormalized, TextsCompared, FormWorked}
use Rattle.shape_normalize.specs.CanonicalForm.{HasNoSelector, text_of}
use Rattle.shape_normalize.specs.Worked.Fixture.{item, rules_in, face_of}

-- what holds of the one element of a list
of_one : {A : Type 0} (P : A → Type 0) (x : A) → P x → All P (x ∷ [])
of_one P x holds zero d lt = holds
of_one P x holds (suc k) d lt = absurd (omega arith)

-- nothing is in no list, and one thing alone in a list of one
in_none : {A B : Type 0} (x : A) → Contains [] x → B
in_none x (k, lt, e) = absurd (omega arith)

in_one : {A : Type 0} (x y : A) → Contains (x ∷ []) y → x ≡ y
in_one x y (zero, lt, e) = e
in_one x y (suc k, lt, e) = absurd (omega arith)

glyphs_brought_in : GlyphsBroughtIn
glyphs_brought_in = record {
  with_glyph = of_one (λ c. (has_glyph (face_of (0x61 ∷ [])).nominal_glyph c ≡ true) ⊎ Contains [] c) 0x61 (inl refl);
  of_the_text =
      of_one (λ c. (has_glyph (face_of []).nominal_glyph c ≡ true) ⊎ Contains (0x62 ∷ 0x61 ∷ []) c) 0x61 (inr (1, omega arith, refl));
  without_glyph = λ have. elim (have 0 0 (omega arith)) [
    | inl is ↦ absurd (let e : false ≡ true = is in cc)
    | inr there ↦ let e : 0x63 ≡ 0x62 = in_one 0x63 0x62 there in omega (arith, e)
  ];
}

abbrev variant_rules : Rules
variant_rules = rules_in 4 (0x61 ∷ 0xFE00 ∷ [])

glyphs_of_items : GlyphsOfItems
unfolding merge
glyphs_of_items = record {
  own = inl refl;
  none = inl refl;
  of_another = λ has. elim has [
    | inl is ↦ let e : 0x62 ≡ 0x61 = is in omega (arith, e)
    | inr there ↦ in_none _ there
  ];
  of_the_sequence = inr (0, omega arith, refl);
  not_of_the_sequence = λ has. elim has [
    | inl is ↦ let e : 8 ≡ 0x61 = is in omega (arith, e)
    | inr there ↦
        let same = in_one (content variant_rules (placed 0x61 7)) (content variant_rules (placed 0x61 8)) there in
        let e : 7 ≡ 8 = ap (λ (one : Item). one.glyph_index) same in
        omega (arith, e)
  ];
}

-- an item's hidden bit is its character's, or the item is as one of the text
abbrev IsHiddenAs : Item → Item → Type 0
IsHiddenAs old new =
    (new.properties.hidden ≡ is_hidden_char new.codepoint) ⊎ Contains (map hidden_char (old ∷ [])) (hidden_char new)

hidden_items : HiddenItems
hidden_items = record {
  in_sight = λ unseen. of_one (IsHiddenAs (with_hidden true 0x61)) (with_hidden false 0x61) (inl refl);
  as_it_was = λ unseen. of_one (IsHiddenAs (with_hidden true 0x61)) (with_hidden true 0x61) (inr (0, omega arith, refl));
  of_another = λ preserves. elim (preserves refl 0 (item 0x61 0) (omega arith)) [
    | inl is ↦ absurd (let e : true ≡ false = is in cc)
    | inr there ↦
        let same = in_one (hidden_char (with_hidden true 0x62)) (hidden_char (with_hidden true 0x61)) there in
        let e : 0x62 ≡ 0x61 = ap (λ (one : ℕ × Bool). one.0) same in
        omega (arith, e)
  ];
  hidden_anew = λ preserves. elim (preserves refl 0 (item 0x61 0) (omega arith)) [
    | inl is ↦ absurd (let e : true ≡ false = is in cc)
    | inr there ↦
        let same = in_one (hidden_char (with_hidden false 0x61)) (hidden_char (with_hidden true 0x61)) there in
        absurd (let e : false ≡ true = ap (λ (one : ℕ × Bool). one.1) same in cc)
  ];
}

-- no run is longer than its list
within_list : (xs before run after : List ℕ) → xs ≡ before ++ (run ++ after) → length run ≤ length xs
within_list xs before run after is =
    let e = ap (λ (l : List ℕ). length l) is in
    let outer = length-append before (run ++ after) in
    let inner = length-append run after in
    omega (arith, e, outer, inner)

above : (n : ℕ) → nat_lt 0 n ≡ true → 0 < n
above n test = grind (arith, nat_tests)

all_above : (ns : List ℕ) → list_all (λ n. nat_lt 0 n) ns ≡ true → All (λ n. 0 < n) ns
all_above ns test k d lt = above _ (AllPass-from_list_all (λ n. nat_lt 0 n) ns test k d lt)

abbrev marks : ℕ → List ℕ
marks count = map ccc_of_item (replicate count (item 0x301 0))

short_runs : ShortRuns
short_runs = record {
  longest = λ before run after is above. within_list (marks 32) before run after is;
  one_more = λ short. let le : 33 ≤ 32 = short [] (marks 33) [] refl (all_above (marks 33) refl) in omega (arith, le);
}

marks_of_lists : MarksOfLists
unfolding merge run_settled
marks_of_lists = record {
  composed = λ new is. ap (λ (items : List Item). map (λ (one : Item). one.codepoint) items) (is.by_all refl refl);
  first_in_order = λ new is. ap (λ (items : List Item). map (λ (one : Item). one.codepoint) items) (is.by_all refl refl);
  without_glyph = λ new is. ap (λ (items : List Item). map (λ (one : Item). one.codepoint) items) (is.by_all refl refl);
  in_order = λ new is. is.new_list refl refl refl;
}

lists_normalized : ListsNormalized
unfolding merge run_settled
lists_normalized = record {
  one_list = λ new is. ap (λ (b : Buffer). text_of b) is.made;
  as_it_was = λ is. let e : 2 ≡ 1 = ap (λ (b : Buffer). length b.items) is.made in omega (arith, e);
  in_its_form = λ new is. is.form;
  past_on_the_way = λ new is. let le : 3 ≤ 2 = is.counted in omega (arith, le);
}

texts_compared : TextsCompared
unfolding merge run_settled
texts_compared = record {
  called_other = λ new_a new_b are.
      let a : text_of new_a ≡ 0x61 ∷ 0x301 ∷ [] = ap (λ (b : Buffer). text_of b) are.first.made in
      let b : text_of new_b ≡ 0x61 ∷ 0x301 ∷ [] = ap (λ (b : Buffer). text_of b) are.second.made in
      absurd (let e : false ≡ true = are.equal.1 (a ∙ sym b) in cc);
  called_same = λ new_a new_b are.
      let a : text_of new_a ≡ 0x61 ∷ 0x301 ∷ [] = ap (λ (b : Buffer). text_of b) are.first.made in
      let b : text_of new_b ≡ 0x61 ∷ 0x323 ∷ 0x301 ∷ [] = ap (λ (b : Buffer). text_of b) are.second.made in
      let e : 2 ≡ 3 = ap (λ (l : List ℕ). length l) (sym a ∙ (are.equal.0 refl ∙ b)) in
      omega (arith, e);
  by_equivalence = λ rules a b new_a new_b same are of_a of_b. are.equivalent of_a of_b;
}

no_selector : HasNoSelector (rules_in 4 []) (0x61 ∷ 0x301 ∷ [])
no_selector zero d lt = refl
no_selector (suc zero) d lt = refl
no_selector (suc (suc k)) d lt = absurd (omega arith)

selectors_asked : SelectorsAsked
selectors_asked = record {
  none = no_selector;
  one = λ none. absurd (let e : true ≡ false = none 1 0 (omega arith) in cc);
}

order_asked : OrderAsked
unfolding full full_text
order_asked = record {
  composed_alone = inr (refl, (λ mark. omega arith, tt));
  after_a_starter = inr (refl, (λ mark. omega arith, (λ mark. omega arith, (λ mark. omega arith, tt))));
  marked = inl refl;
  composing = λ order. elim order [
    | inl is ↦ let e : false ≡ true = is in cc
    | inr (leaves, ordered) ↦ let e : true ≡ false = leaves in cc
  ];
  falling = λ order. elim order [
    | inl is ↦ let e : false ≡ true = is in cc
    | inr (leaves, ordered) ↦ let le : 230 ≤ 220 = ordered.1.0 (omega arith) in omega (arith, le)
  ];
}

spellings_tested : SpellingsTested
unfolding full full_text
spellings_tested = record {
  composed = refl;
  decomposed = refl;
  composing = refl;
  composing_decomposed = refl;
  falling = refl;
}

premises_asked : (rules : Rules) → PremisesAsked rules
premises_asked rules = record {
  of_a_text = λ text lawful none stays. record { lawful_hooks = lawful; no_selector = none; no_reordering = stays };
  of_a_buffer = λ b text prepared. record { text = text; prepared = prepared };
  of_characters = λ text fully supported order. record { decomposes_fully = fully; supported = supported; in_order = order };
  of_marks = λ text marked. inl marked;
  of_both = λ b equivalence canonical. record { equivalence = equivalence; canonical = canonical };
  of_a_plain_text = λ b prepared none stays. record { prepared = prepared; no_selector = none; no_reordering = stays };
  of_a_cut = λ old front back parts plain plain_front plain_back unmarked choice front_marked back_marked. record {
    parts = parts;
    plain = plain;
    plain_front = plain_front;
    plain_back = plain_back;
    unmarked = unmarked;
    unmarked_choice = choice;
    front_marked = front_marked;
    back_marked = back_marked;
  };
}

pub form_worked : FormWorked
form_worked = record {
  brought_in = glyphs_brought_in;
  item_glyphs = glyphs_of_items;
  compared = items_compared;
  hidden = hidden_items;
  short_runs = short_runs;
  marks = marks_of_lists;
  normalized = lists_normalized;
  texts = texts_compared;
  selectors = selectors_asked;
  order = order_asked;
  tested = spellings_tested;
  premises = premises_asked;
}
