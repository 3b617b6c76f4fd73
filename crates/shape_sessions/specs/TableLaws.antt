-- The laws of the program's Unicode functions: the rule of a table is a test that computes over the whole table.
use Rattle.std.specs.Prelude.{◌≡◌, ◌≢◌, ℕ, ◌<◌, ◌⊎◌, ◌==◌, ◌&&◌, ◌||◌, not, nat_lt, Bool, true, false, List, [], ◌∷◌, Option, Some, None, ◌++◌}
use Rattle.std.specs.Prelude.{is_none, option_and_then, refl}
use Rattle.std.specs.List.{find, list_all}
use Rattle.std.specs.Option.{option_map}
use Rattle.std.proofs.Common.{cond, inl, inr, ap, sym, ◌∙◌, arith, subst}
use Rattle.std.proofs.lemmas.Bool.{and_parts, or_cases}
use Rattle.std.proofs.lemmas.Bool.Decides.{nat_tests}
use Rattle.std.proofs.lemmas.List.{append_assoc}
use Rattle.unicode.specs.GeneralCategory.{general_category}
use Rattle.shape_common.specs.Category.{is_mark_category, is_space_category}
use Rattle.canonical_form.specs.Chain.{kept_part, full, full_text}
use Rattle.canonical_form.specs.Decompositions.{Decompositions}
use Rattle.canonical_form.specs.Order.{Swaps, done}
use Rattle.canonical_form.specs.Equivalent.{ComposesSoundly}
use Rattle.shape_common.specs.Unicode.{FormsArePlain, IsPlain, LawfulUnicode, decompositions_of}
use Rattle.canonical_form.specs.SplitsFall.{SplitsFall}
use Rattle.shape_common.specs.declared.general_category.hb_unicode_general_category_t.{hb_unicode_general_category_t}
use Rattle.shape_common.specs.declared.general_category.hb_unicode_general_category_t.TheVariants.{Unassigned}
use Rattle.shape_unicode.specs.Category.{category_from}
use Rattle.shape_sessions.specs.Category.{category_of, is_marked}
use Rattle.shape_sessions.specs.Ccc.{ccc_in_table, ccc_of}
use Rattle.shape_sessions.specs.Split.{split_in_table, split_of, height_of, preserves_marks}
use Rattle.shape_sessions.specs.Plain.{is_plain, plain_form}
use Rattle.shape_sessions.specs.Mirror.{mirror_in_table}
use Rattle.shape_sessions.specs.Vertical.{vertical_in_table}
use Rattle.shape_sessions.specs.Compose.{compose_in_table, compose_of, is_split_into}
use Rattle.shape_sessions.specs.Meaning.{unicode_tables}
use Rattle.shape_sessions.specs.declared.unicode_tables.split.TheConstants.{SPLITS}
use Rattle.shape_sessions.specs.declared.unicode_tables.compose.TheConstants.{COMPOSITES}
use Rattle.canonical_form.proofs.Expanding.ChainLemmas.{full-stays, full-splits}

-- what is found passes each test that the whole list passes
found_passes : {X : Type 0} (p test : X → Bool) (xs : List X) (x : X) → list_all test xs ≡ true → find p xs ≡ Some x
    → (p x ≡ true) × (test x ≡ true)
found_passes p test [] x all found = cc
found_passes p test (y ∷ ys) x all found =
    let both = and_parts (test y) (list_all test ys) all in
    let P : Bool → Type 0 = λ b. p y ≡ b → cond b (Some y) (find p ys) ≡ Some x → (p x ≡ true) × (test x ≡ true) in
    let cases : P (p y) = elim (p y) as P [
      | true ↦ λ e h. let same_item : y ≡ x = cc in (subst (λ z. p z ≡ true) same_item e, subst (λ z. test z ≡ true) same_item both.0)
      | false ↦ λ e h. found_passes p test ys x both.1 h
    ] in
    cases refl found

-- an entry of the table of splits: a character and its two parts
abbrev Entry : Type 0
Entry = ℕ × ℕ × ℕ

-- the first part is lower than the whole
abbrev falls : Entry → Bool
falls e = nat_lt (height_of e.1) (height_of e.0)

-- the second part is U+0000 or splits no more
abbrev ends : Entry → Bool
ends e = e.2 == 0 || is_none (split_in_table e.2)

-- the parts have the ccc of the whole, if that isn't 0; U+0000 has none
abbrev preserves_ccc : Entry → Bool
preserves_ccc e = ccc_in_table e.0 == 0 || (ccc_in_table e.1 == ccc_in_table e.0 && (e.2 == 0 || ccc_in_table e.2 == ccc_in_table e.0))

-- each split of the table passes a test that the whole table passes
split_passes : (test : Entry → Bool) → list_all test SPLITS ≡ true → (c a b : ℕ) → split_in_table c ≡ Some (a, b) → test (c, a, b) ≡ true
split_passes test all c a b splits =
    let is_key : Entry → Bool = λ e. e.0 == c in
    let parts_of : Entry → ℕ × ℕ = λ e. (e.1, e.2) in
    let P : Option Entry → Type 0 = λ v. find is_key SPLITS ≡ v → option_map parts_of v ≡ Some (a, b) → test (c, a, b) ≡ true in
    let cases : P (find is_key SPLITS) = elim (find is_key SPLITS) as P [
      | None ↦ λ e h. cc
      | Some entry ↦ λ e h.
          let passes = found_passes is_key test SPLITS entry all e in
          let key : entry.0 ≡ c = grind (arith, nat_tests, passes.0) in
          let into : parts_of entry ≡ (a, b) = cc in
          let Q : ℕ → ℕ × ℕ → Type 0 = λ x parts. test (x, parts.0, parts.1) ≡ true in
          subst (λ parts. Q c parts) into (subst (λ x. Q x (parts_of entry)) key passes.1)
    ] in
    cases refl splits

-- a split of the functions is one of the table, and keeps marks
split_of_cases : (c a b : ℕ) → split_of c ≡ Some (a, b) → (split_in_table c ≡ Some (a, b)) × (preserves_marks c (a, b) ≡ true)
split_of_cases c a b splits =
    let P : Option (ℕ × ℕ) → Type 0 = λ v. option_and_then (λ parts. cond (preserves_marks c parts) (Some parts) None) v ≡ Some (a, b)
    → (v ≡ Some (a, b)) × (preserves_marks c (a, b) ≡ true) in
    let cases : P (split_in_table c) = elim (split_in_table c) as P [
      | None ↦ λ h. cc
      | Some parts ↦ λ h.
          let Q : Bool → Type 0 = λ t. preserves_marks c parts ≡ t → cond t (Some parts) None ≡ Some (a, b)
          → (Some parts ≡ Some (a, b)) × (preserves_marks c (a, b) ≡ true) in
          let inner : Q (preserves_marks c parts) = elim (preserves_marks c parts) as Q [
            | true ↦ λ e k. let into : parts ≡ (a, b) = cc in (k, subst (λ z. preserves_marks c z ≡ true) into e)
            | false ↦ λ e k. cc
          ] in
          inner refl h
    ] in
    cases splits

height_of-falls : list_all falls SPLITS ≡ true → (c a b : ℕ) → split_of c ≡ Some (a, b) → height_of a < height_of c
height_of-falls all c a b splits =
    let test = split_passes falls all c a b (split_of_cases c a b splits).0 in
    grind (arith, nat_tests, test)

none_is : (o : Option (ℕ × ℕ)) → is_none o ≡ true → o ≡ None
none_is None h = refl
none_is (Some x) h = cc

unsplit : (c : ℕ) → split_in_table c ≡ None → split_of c ≡ None
unsplit c whole = ap (λ v. option_and_then (λ parts. cond (preserves_marks c parts) (Some parts) None) v) whole

second_is_last : list_all ends SPLITS ≡ true → (c a b : ℕ) → split_of c ≡ Some (a, b) → (b ≡ 0) ⊎ (split_of b ≡ None)
second_is_last all c a b splits =
    let test = split_passes ends all c a b (split_of_cases c a b splits).0 in
    elim (or_cases (b == 0) (is_none (split_in_table b)) test) [
      | inl h ↦ inl (grind (arith, nat_tests, h))
      | inr h ↦ inr
          (unsplit b (none_is (split_in_table b) h))
    ]

cond_nonzero : (t : Bool) (n : ℕ) → cond t n 0 ≢ 0 → (t ≡ true) × (cond t n 0 ≡ n)
cond_nonzero true n h = (refl, refl)
cond_nonzero false n h = absurd (h refl)

ccc_of_mark : (c : ℕ) → is_marked c ≡ true → ccc_of c ≡ ccc_in_table c
ccc_of_mark c marked = ap (λ t. cond t (ccc_in_table c) 0) marked

-- the parts of a mark with a ccc have that ccc
ccc_of_parts : list_all preserves_ccc SPLITS ≡ true → (c a b : ℕ) → ccc_of c ≢ 0 → split_of c ≡ Some (a, b)
    → (ccc_of a ≡ ccc_of c) × ((b ≡ 0) ⊎ (ccc_of b ≡ ccc_of c))
ccc_of_parts all c a b nonzero splits =
    let was = cond_nonzero (is_marked c) (ccc_in_table c) nonzero in
    let cases = split_of_cases c a b splits in
    let kept_marks : (is_marked a && (b == 0 || is_marked b)) ≡ true =
    elim (or_cases (is_marked a && (b == 0 || is_marked b)) (not (is_marked c)) cases.1) [
      | inl h ↦ h
      | inr h ↦ let e : is_marked c
          ≡ true = was.0 in absurd (grind (arith, nat_tests, h, e))
    ] in
    let marks = and_parts (is_marked a) (b == 0 || is_marked b) kept_marks in
    let test = split_passes preserves_ccc all c a b cases.0 in
    let same_cccs : (ccc_in_table a == ccc_in_table c && (b == 0 || ccc_in_table b == ccc_in_table c)) ≡ true =
    elim (or_cases (ccc_in_table c == 0) (ccc_in_table a == ccc_in_table c
    && (b == 0 || ccc_in_table b == ccc_in_table c)) test) [
      | inl h ↦ absurd
          (nonzero (was.1 ∙ grind (arith, nat_tests, h)))
      | inr h ↦ h
    ] in
    let cccs = and_parts (ccc_in_table a == ccc_in_table c) (b == 0 || ccc_in_table b == ccc_in_table c) same_cccs in
    let first : ccc_in_table a ≡ ccc_in_table c = grind (arith, nat_tests, cccs.0) in (
      ccc_of_mark a marks.0 ∙ first ∙ sym was.1,
      elim (or_cases (b == 0) (ccc_in_table b == ccc_in_table c) cccs.1) [
        | inl h ↦ inl (grind (arith, nat_tests, h))
        | inr h ↦ elim (or_cases (b == 0) (is_marked b) marks.1) [
          | inl z ↦ inl (grind (arith, nat_tests, z))
          | inr marked ↦ let second : ccc_in_table b
              ≡ ccc_in_table c = grind (arith, nat_tests, h) in inr (ccc_of_mark b marked ∙ second ∙ sym was.1)
        ]
      ],
    )

ascii_is_no_mark : (t : Bool) (k : hb_unicode_general_category_t) → t ≡ true
    → is_mark_category (cond (t && is_mark_category k) Unassigned k) ≡ false
ascii_is_no_mark false k h = cc
ascii_is_no_mark true k h =
    let P : Bool → Type 0 = λ b. is_mark_category k ≡ b → is_mark_category (cond b Unassigned k) ≡ false in
    let cases : P (is_mark_category k) = elim (is_mark_category k) as P [ true ↦ λ e. refl | false ↦ λ e. e ] in
    cases refl

-- the splits of the tables
abbrev by_tables : Decompositions
by_tables = decompositions_of unicode_tables

splits_fall : list_all falls SPLITS ≡ true → list_all ends SPLITS ≡ true → list_all preserves_ccc SPLITS ≡ true → SplitsFall by_tables
splits_fall all_fall all_end all_preserve = record {
  height_falls = record { falls = height_of-falls all_fall };
  second_is_last = second_is_last all_end;
  first_ccc = λ c a b h e. (ccc_of_parts all_preserve c a b h e).0;
  second_ccc = λ c a b h e. (ccc_of_parts all_preserve c a b h e).1;
}

-- what the functions compose is in the table, and splits into the two again
compose_of_cases : (a b c : ℕ) → compose_of a b ≡ Some c → (compose_in_table a b ≡ Some c) × (is_split_into a b (split_of c) ≡ true)
compose_of_cases a b c composed =
    let P : Option ℕ → Type 0 = λ v. option_and_then (λ d. cond (is_split_into a b (split_of d)) (Some d) None) v ≡ Some c
    → (v ≡ Some c) × (is_split_into a b (split_of c) ≡ true) in
    let cases : P (compose_in_table a b) = elim (compose_in_table a b) as P [
      | None ↦ λ h. cc
      | Some d ↦ λ h.
          let Q : Bool → Type 0 = λ t. is_split_into a b (split_of d) ≡ t → cond t (Some d) None ≡ Some c
          → (Some d ≡ Some c) × (is_split_into a b (split_of c) ≡ true) in
          let inner : Q (is_split_into a b (split_of d)) = elim (is_split_into a b (split_of d)) as Q [
            | true ↦ λ e k. let same_one : d ≡ c = cc in (k, subst (λ z. is_split_into a b (split_of z) ≡ true) same_one e)
            | false ↦ λ e k. cc
          ] in
          inner refl h
    ] in
    cases composed

split_into : (a b : ℕ) (o : Option (ℕ × ℕ)) → is_split_into a b o ≡ true → o ≡ Some (a, b)
split_into a b None h = cc
split_into a b (Some parts) h =
    let both = and_parts (parts.0 == a) (parts.1 == b) h in
    let first : parts.0 ≡ a = grind (arith, nat_tests, both.0) in
    let second : parts.1 ≡ b = grind (arith, nat_tests, both.1) in
    ap Some (ap (λ x. (x, parts.1)) first ∙ ap (λ y. (a, y)) second)

-- a composite has two parts: the second one isn't U+0000
abbrev has_two_parts : Entry → Bool
has_two_parts e = not (e.1 == 0)

composed_second : list_all has_two_parts COMPOSITES ≡ true → (a b c : ℕ) → compose_in_table a b ≡ Some c → b ≢ 0
composed_second all a b c composed =
    let is_key : Entry → Bool = λ e. e.0 == a && e.1 == b in
    let made : Entry → ℕ = λ e. e.2 in
    let P : Option Entry → Type 0 = λ v. find is_key COMPOSITES ≡ v → option_map made v ≡ Some c → b ≢ 0 in
    let cases : P (find is_key COMPOSITES) = elim (find is_key COMPOSITES) as P [
      | None ↦ λ e h. cc
      | Some entry ↦ λ e h zero_second.
          let passes = found_passes is_key has_two_parts COMPOSITES entry all e in
          let key = and_parts (entry.0 == a) (entry.1 == b) passes.0 in
          let second : entry.1 ≡ b = grind (arith, nat_tests, key.1) in
          let nonzero = passes.1 in
          grind (arith, nat_tests)
    ] in
    cases refl composed

kept_part_nonzero : (b : ℕ) → b ≢ 0 → kept_part b ≡ b ∷ []
kept_part_nonzero b nonzero = let e : (b == 0) ≡ false = grind (arith, nat_tests) in ap (λ t. cond t [] (b ∷ [])) e

-- Full of the composite is Full of the first part, and then the second part, which is its own Full
full_of_composed : SplitsFall by_tables → list_all has_two_parts COMPOSITES ≡ true → (a b c : ℕ) → compose_of a b ≡ Some c
    → full by_tables c ≡ full by_tables a ++ full by_tables b
full_of_composed falling all a b c composed =
    let cases = compose_of_cases a b c composed in
    let splits : split_of c ≡ Some (a, b) = split_into a b (split_of c) cases.1 in
    let nonzero : b ≢ 0 = composed_second all a b c cases.0 in
    let last : split_of b ≡ None = elim (falling.second_is_last c a b splits) [ inl z ↦ absurd (nonzero z) | inr h ↦ h ] in
    let second : kept_part b ≡ full by_tables b = kept_part_nonzero b nonzero ∙ sym (full-stays by_tables falling.height_falls b last) in
    full-splits by_tables falling.height_falls c a b splits ∙ ap (λ xs. full by_tables a ++ xs) second

composes_soundly : SplitsFall by_tables → list_all has_two_parts COMPOSITES ≡ true → ComposesSoundly by_tables compose_of
unfolding full_text
composes_soundly falling all = record { equivalent = sound }
  where
    full_of : ℕ → List ℕ
    full_of c = full by_tables c

    sound : (a b c : ℕ) → compose_of a b ≡ Some c → Swaps ccc_of (full_text by_tables (c ∷ [])) (full_text by_tables (a ∷ b ∷ []))
    sound a b c composed =
        let same_text : (full_of c ++ []) ≡ (full_of a ++ (full_of b ++ [])) =
        ap (λ xs. xs ++ []) (full_of_composed falling all a b c composed) ∙ append_assoc (full_of a) (full_of b) [] in
        subst (λ xs. Swaps ccc_of (full_of c ++ []) xs) same_text done

not_false : (t : Bool) → not t ≡ true → t ≡ false
not_false true h = cc
not_false false h = refl

plain_of : (c : ℕ) → is_plain c ≡ true → IsPlain unicode_tables c
plain_of c plain =
    let both = and_parts (not (is_marked c)) (not (is_space_category (category_of c))) plain in
    record { no_mark = not_false (is_marked c) both.0; no_space = not_false (is_space_category (category_of c)) both.1 }

-- only a plain character has a form, and is a plain one
forms_are_plain : (form : ℕ → Option ℕ) → FormsArePlain unicode_tables (λ c. plain_form c (form c))
forms_are_plain form c d found =
    let P : Option ℕ → Type 0 = λ v. plain_form c v ≡ Some d → (is_plain c ≡ true) × (is_plain d ≡ true) in
    let cases : P (form c) = elim (form c) as P [
      | None ↦ λ h. cc
      | Some e ↦ λ h.
          let Q : Bool → Type 0 = λ t. is_plain c && is_plain e ≡ t → cond t (Some e) None ≡ Some d
          → (is_plain c ≡ true) × (is_plain d ≡ true) in
          let inner : Q (is_plain c && is_plain e) = elim (is_plain c && is_plain e) as Q [
            | true ↦ λ plain k. let both = and_parts (is_plain c) (is_plain e) plain in let same_one : e
                ≡ d = cc in (both.0, subst (λ z. is_plain z ≡ true) same_one both.1)
            | false ↦ λ plain k. cc
          ] in
          inner refl h
    ] in
    let both = cases found in
    (plain_of c both.0, plain_of d both.1)

-- here the tests compute
pub unicode_tables-lawful : LawfulUnicode unicode_tables
unicode_tables-lawful = record {
  only_marks_have_ccc = λ c h. (cond_nonzero (is_marked c) (ccc_in_table c) h).0;
  ascii_is_no_mark = λ c h. ascii_is_no_mark (nat_lt c 128) (category_from (general_category c)) (grind (arith, nat_tests, h));
  mirrors_are_plain = forms_are_plain mirror_in_table;
  verticals_are_plain = forms_are_plain vertical_in_table;
  splits_fall = splits_fall refl refl refl;
  composes_soundly = composes_soundly (splits_fall refl refl refl) refl;
}
