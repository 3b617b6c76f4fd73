-- Mirror images and vertical forms are plain, and so is what they are forms of.
use Rattle.std.proofs.Common.{◌≡◌, ◌⊎◌, ℕ, Bool, true, false, cond, ◌||◌, ◌==◌, List, [], ◌∷◌, Option, Some, None, refl, sym, ap, subst, ◌∙◌, inl}
use Rattle.std.proofs.Common.{inr, eqb-true}
use Rattle.std.proofs.lemmas.Bool.{cases_Bool, and_parts, cond-true, cond-false}
use Rattle.std.specs.List.{find, list_all}
use Rattle.std.specs.Option.{option_map}
use Rattle.ucd_bidi.specs.Binary.{is_bidi_mirrored}
use Rattle.shape_common.specs.Unicode.{IsPlain, FormsArePlain}
use Rattle.shape_unicode.specs.Meaning.{unicode_database}
use Rattle.shape_unicode.specs.Mirror.{other_one, is_one_of, other_of_pair, mirrored_of}
use Rattle.shape_unicode.specs.Vertical.{vertical_of}
use Rattle.shape_unicode.specs.Tables.{by_rows}
use Rattle.shape_unicode.specs.TableFacts.{plain_pair, MirrorsPass, VerticalsPass}
use Rattle.shape_unicode.specs.SplitLaws.{not_true}
use Rattle.shape_unicode.specs.declared.mirror_pairs.TheConstants.{MIRROR_PAIRS}
use Rattle.shape_unicode.specs.declared.vertical.TheConstants.{VERTICAL_FORMS}

-- what is found passes each test that the whole list passes
pub found_passes : {X : Type 0} (p test : X → Bool) (xs : List X) (x : X) → list_all test xs ≡ true → find p xs ≡ Some x
    → (p x ≡ true) × (test x ≡ true)
found_passes p test [] x all found = cc
found_passes p test (y ∷ ys) x all found =
    let both = and_parts (test y) (list_all test ys) all in
    let P : Bool → Type 0 = λ b. p y ≡ b → cond b (Some y) (find p ys) ≡ Some x → (p x ≡ true) × (test x ≡ true) in
    let cases : P (p y) = elim (p y) as P [
      | true ↦ λ e h. let same_item : y ≡ x = cc in (subst (λ z. p z ≡ true) same_item e, subst (λ z. test z ≡ true) same_item both.0)
      | false ↦ λ e h. found_passes p test ys x both.1 h
    ] in
    cases refl found

-- an entry of a table by which a look-up of c returned d
pub record IsFound {X : Type 0} (key test : X → Bool) (form : X → ℕ) (d : ℕ) : Type 0 where
  pub entry : X
  pub is_key : key entry ≡ true
  pub passes : test entry ≡ true
  pub into : form entry ≡ d

pub look_up : {X : Type 0} (key test : X → Bool) (xs : List X) (form : X → ℕ) (d : ℕ) → list_all test xs ≡ true
    → option_map form (find key xs) ≡ Some d → IsFound key test form d
look_up {X} key test xs form d all found =
    let P : Option X → Type 0 = λ v. find key xs ≡ v → option_map form v ≡ Some d → IsFound key test form d in
    let cases : P (find key xs) = elim (find key xs) as P [
      | None ↦ λ e h. cc
      | Some x ↦ λ e h.
          let passes = found_passes key test xs x all e in
          record { entry = x; is_key = passes.0; passes = passes.1; into = cc }
    ] in
    cases refl found

-- both of a pair that passes are plain
plain : (c d : ℕ) → plain_pair by_rows (c, d) ≡ true → IsPlain unicode_database c × IsPlain unicode_database d
plain c d passes =
    let both = and_parts _ _ passes in
    let of_c = and_parts _ _ both.0 in
    let of_d = and_parts _ _ both.1 in (
      record { no_mark = not_true _ of_c.0; no_space = not_true _ of_c.1 },
      record { no_mark = not_true _ of_d.0; no_space = not_true _ of_d.1 },
    )

pub verticals_are_plain : VerticalsPass → FormsArePlain unicode_database vertical_of
verticals_are_plain pass c d found =
    let at = look_up (λ entry. entry.0 == c) (plain_pair by_rows) VERTICAL_FORMS (λ entry. entry.1) d pass found in
    let both = plain at.entry.0 at.entry.1 at.passes in (
      subst (IsPlain unicode_database) (eqb-true _ _ at.is_key) both.0,
      subst (IsPlain unicode_database) at.into both.1,
    )

-- a pair of the table that passes a test, made of c and d
pub record IsPairOf (test : ℕ × ℕ → Bool) (c d : ℕ) : Type 0 where
  pub pair : ℕ × ℕ
  pub passes : test pair ≡ true
  pub sides : ((pair.0 ≡ c) × (pair.1 ≡ d)) ⊎ ((pair.1 ≡ c) × (pair.0 ≡ d))

pub found_pair : (test : ℕ × ℕ → Bool) → list_all test MIRROR_PAIRS ≡ true → (c d : ℕ) → other_of_pair c ≡ Some d → IsPairOf test c d
found_pair test all c d found =
    let at = look_up (is_one_of c) test MIRROR_PAIRS (other_one c) d all found in
    record {
      pair = at.entry;
      passes = at.passes;
      sides = elim (cases_Bool (at.entry.0 == c)) [
        | inl first ↦ inl (eqb-true _ _ first, sym (cond-true (at.entry.0 == c) at.entry.1 at.entry.0 first) ∙ at.into)
        | inr other ↦
            let second : (at.entry.1 == c) ≡ true = ap (λ b. b || at.entry.1 == c) (sym other) ∙ at.is_key in
            inr (eqb-true _ _ second, sym (cond-false (at.entry.0 == c) at.entry.1 at.entry.0 other) ∙ at.into)
      ];
    }

other_is_plain : MirrorsPass → (c d : ℕ) → other_of_pair c ≡ Some d → IsPlain unicode_database c × IsPlain unicode_database d
other_is_plain pass c d found =
    let at = found_pair (plain_pair by_rows) pass c d found in
    let both = plain at.pair.0 at.pair.1 at.passes in
    elim at.sides [
      | inl e ↦ (subst (IsPlain unicode_database) e.0 both.0, subst (IsPlain unicode_database) e.1 both.1)
      | inr e ↦ (subst (IsPlain unicode_database) e.0 both.1, subst (IsPlain unicode_database) e.1 both.0)
    ]

-- what has a mirror image is mirrored, and the other one of a pair is that image
pub mirrored_cases : (c d : ℕ) → mirrored_of c ≡ Some d → (is_bidi_mirrored c ≡ true) × (other_of_pair c ≡ Some d)
mirrored_cases c d found =
    elim (cases_Bool (is_bidi_mirrored c)) [
      | inl has ↦ (has, sym (cond-true (is_bidi_mirrored c) (other_of_pair c) None has) ∙ found)
      | inr lacks ↦ let none : ◌≡◌ {A = Option ℕ} None (Some d) = sym (cond-false (is_bidi_mirrored c) (other_of_pair c) None lacks)
          ∙ found in cc
    ]

pub mirrors_are_plain : MirrorsPass → FormsArePlain unicode_database mirrored_of
mirrors_are_plain pass c d found = other_is_plain pass c d (mirrored_cases c d found).1
