-- The levels of a text: one for each character, and at most 126.
use Rattle.std.proofs.Common.{◌≡◌, ℕ, zero, suc, ◌+◌, ◌≤◌, ◌%◌, ◌==◌, Bool, true, false, Option, List, [], ◌∷◌, ◌++◌, length, map, refl, ap, subst, sym, ◌∙◌, inl, inr, arith, length-append}
use Rattle.std.proofs.lemmas.Bool.Decides.{nat_tests}
use Rattle.std.proofs.lemmas.List.{length-map}
use Rattle.std.specs.List.{All, AllByRecursion}
use Rattle.std.specs.Prelude.{⊤, slice_set, if◌then◌else◌}
use Rattle.std.proofs.lemmas.Bool.{cases_Bool, cond-true, cond-false}
use Rattle.std.proofs.lemmas.List.Elements.{All-from_recursion}
use Rattle.ucd_bidi.specs.BidiClass.{bidi_class}
use Rattle.ucd_bidi.specs.declared.BidiClass.{BidiClass}
use Rattle.ucd_bidi.specs.declared.BidiClass.TheVariants.{RightToLeft}
use Rattle.bidi.specs.Classes.{is, is_removed}
use Rattle.bidi.specs.Explicit.{explicit, stack_of}
use Rattle.bidi.specs.Levels.{classes_of, is_right, paragraph_level}
use Rattle.bidi.specs.Members.{members}
use Rattle.bidi.specs.Neutral.{i1_level, i2_level, implicit_level}
use Rattle.bidi.specs.Sequences.{AreWithin, class_of, resolved_classes, last_of, with_levels, with_sequence, with_sequences}
use Rattle.bidi.specs.Text.{ends_paragraph, filled, filled_level, last_part, level_in, level_of, levels_of, part_levels, parts_from, parts_of, text_levels}
use Rattle.bidi.specs.declared.explicit.Placed.{Placed}
use Rattle.bidi.specs.declared.levels.Direction.{Direction}
use Rattle.bidi.specs.declared.members.Member.{Member}
use Rattle.bidi.proofs.KeptLemmas.{length_sequences, sequences_kept}
use Rattle.bidi.proofs.WithinLemmas.{ArePlaced, explicit_within, length_explicit, members_within, stack_within}

abbrev AtMost : List ℕ → Type 0
AtMost [] = ⊤
AtMost (x ∷ xs) = (x ≤ 126) × AtMost xs

-- ---- I1 and I2

i1_within : (level : ℕ) (class : BidiClass) → level ≤ 124 → i1_level level class ≤ 126
i1_within level class le = elim (cases_Bool (is class RightToLeft)) [
  | inl on ↦ subst (λ k. k ≤ 126) (sym (cond-true (is class RightToLeft) _ _ on)) (omega (arith, le))
  | inr off ↦ subst (λ k. k ≤ 126) (sym (cond-false (is class RightToLeft) _ _ off)) (number_within level _ le)
]
  where
    number_within : (level : ℕ) (number : Bool) → level ≤ 124 → (if number then level + 2 else level) ≤ 126
    number_within level true le = omega (arith, le)
    number_within level false le = omega (arith, le)

i2_within : (level : ℕ) (class : BidiClass) → level ≤ 125 → i2_level level class ≤ 126
i2_within level class le = raised_within level _ le
  where
    raised_within : (level : ℕ) (raised : Bool) → level ≤ 125 → (if raised then level + 1 else level) ≤ 126
    raised_within level true le = omega (arith, le)
    raised_within level false le = omega (arith, le)

even_within : (level : ℕ) → (level % 2 == 0) ≡ true → level ≤ 125 → level ≤ 124
even_within level even le = grind (arith, nat_tests)

pub implicit_within : (level : ℕ) (class : BidiClass) → level ≤ 125 → implicit_level level class ≤ 126
implicit_within level class le = elim (cases_Bool (level % 2 == 0)) [
  | inl even ↦ subst (λ k. k ≤ 126) (sym (cond-true (level % 2 == 0) (i1_level level class) (i2_level level class) even))
      (i1_within level class (even_within level even le))
  | inr odd ↦ subst (λ k. k ≤ 126) (sym (cond-false (level % 2 == 0) (i1_level level class) (i2_level level class) odd)) (i2_within level class le)
]

-- ---- at most 126

set_within : (levels : List ℕ) (n v : ℕ) → v ≤ 126 → AtMost levels → AtMost (slice_set levels n v)
set_within [] n v le h = tt
set_within (x ∷ levels) zero v le h = (le, h.1)
set_within (x ∷ levels) (suc n) v le h = (h.0, set_within levels n v le h.1)

levels_within : (ms : List Member) (cs : List BidiClass) (levels : List ℕ) → AreWithin ms → AtMost levels → AtMost (with_levels ms cs levels)
levels_within [] cs levels h k = k
levels_within (m ∷ ms) [] levels h k = k
levels_within (m ∷ ms) (c ∷ cs) levels h k =
    levels_within ms cs (slice_set levels m.place (implicit_level m.level c)) h.1 (set_within levels m.place _ (implicit_within m.level c h.0) k)

sequence_within : (base : ℕ) (ms : List Member) (levels : List ℕ) → AreWithin ms → AtMost levels → AtMost (with_sequence base ms levels)
sequence_within base [] levels h k = k
sequence_within base (m ∷ ms) levels h k =
    levels_within (m ∷ ms) (resolved_classes base (m ∷ ms) m (last_of m ms) (map class_of (m ∷ ms))) levels h k

filled_within : (before : ℕ) (cs : List BidiClass) (levels : List ℕ) → before ≤ 126 → AtMost levels → AtMost (filled before cs levels)
filled_within before [] levels le h = h
filled_within before (c ∷ cs) [] le h = tt
filled_within before (c ∷ cs) (x ∷ levels) le h =
    let one = one_within c before x le h.0 in
    (one, filled_within (filled_level before c x) cs levels one h.1)
  where
    one_within : (c : BidiClass) (before x : ℕ) → before ≤ 126 → x ≤ 126 → filled_level before c x ≤ 126
    one_within c before x le le' = elim (cases_Bool (is_removed c)) [
      | inl on ↦ subst (λ k. k ≤ 126) (sym (cond-true (is_removed c) before x on)) le
      | inr off ↦ subst (λ k. k ≤ 126) (sym (cond-false (is_removed c) before x off)) le'
    ]

placed_within : (ps : List Placed) → ArePlaced ps → AtMost (map level_of ps)
placed_within [] h = tt
placed_within (p ∷ ps) h = let le = h.0 in (omega (arith, le), placed_within ps h.1)

base_within : (base : Option Direction) (classes : List BidiClass) → paragraph_level base classes ≤ 1
base_within base classes = one (is_right base classes)
  where
    one : (right : Bool) → (if right then 1 else 0) ≤ 1
    one true = omega arith
    one false = omega arith

part_within : (base : Option Direction) (part : List ℕ) → AtMost (part_levels base part)
part_within base part =
    let level = level_in base part in
    let le : level ≤ 1 = base_within base (classes_of part) in
    let small : level ≤ 125 = omega (arith, le) in
    let ps = explicit level (classes_of part) in
    filled_within level (classes_of part) (with_sequences level (members level part (classes_of part) ps) (map level_of ps)) (omega (arith, le))
    (sequences_kept (with_sequence level) AtMost (sequence_within level) (members level part (classes_of part) ps) (map level_of ps)
    (members_within level part (classes_of part) le)
    (placed_within ps (explicit_within level (stack_of level) (classes_of part) small (stack_within level small))))

append_within : (xs ys : List ℕ) → AtMost xs → AtMost ys → AtMost (xs ++ ys)
append_within [] ys h k = k
append_within (x ∷ xs) ys h k = (h.0, append_within xs ys h.1 k)

parts_within : (base : Option Direction) (parts : List (List ℕ)) → AtMost (levels_of base parts)
parts_within base [] = tt
parts_within base (part ∷ parts) = append_within (part_levels base part) (levels_of base parts) (part_within base part) (parts_within base parts)

all_within : (xs : List ℕ) → AtMost xs → AllByRecursion (λ x. x ≤ 126) xs
all_within [] h = tt
all_within (x ∷ xs) h = (h.0, all_within xs h.1)

pub text_within : (base : Option Direction) (text : List ℕ) → All (λ x. x ≤ 126) (text_levels base text)
text_within base text = All-from_recursion (λ x. x ≤ 126) (text_levels base text) (all_within _ (parts_within base (parts_of text)))

-- ---- a level for each character

pub length_filled : (before : ℕ) (cs : List BidiClass) (levels : List ℕ) → length levels ≡ length cs → length (filled before cs levels) ≡ length cs
length_filled before [] levels e = e
length_filled before (c ∷ cs) [] e = e
length_filled before (c ∷ cs) (x ∷ levels) e = ap suc (length_filled (filled_level before c x) cs levels (omega (arith, e)))

length_part : (base : Option Direction) (part : List ℕ) → length (part_levels base part) ≡ length part
length_part base part =
    let level = level_in base part in
    let le : level ≤ 1 = base_within base (classes_of part) in
    let ps = explicit level (classes_of part) in
    let all : length (map level_of ps) ≡ length (classes_of part) = length-map ps level_of ∙ length_explicit level (stack_of level) (classes_of part) in
    length_filled level (classes_of part) (with_sequences level (members level part (classes_of part) ps) (map level_of ps))
    (length_sequences level (members level part (classes_of part) ps) (map level_of ps) (members_within level part (classes_of part) le) ∙ all)
    ∙ length-map part bidi_class

abbrev total : List (List ℕ) → ℕ
total [] = 0
total (part ∷ parts) = length part + total parts

length_parts : (base : Option Direction) (parts : List (List ℕ)) → length (levels_of base parts) ≡ total parts
length_parts base [] = refl
length_parts base (part ∷ parts) =
    length-append (part_levels base part) (levels_of base parts) ∙ ap (λ k. k + length (levels_of base parts)) (length_part base part)
    ∙ ap (λ k. length part + k) (length_parts base parts)

total_last : (part : List ℕ) → total (last_part part) ≡ length part
total_last [] = refl
total_last (c ∷ part) = omega arith

total_parts : (part text : List ℕ) → total (parts_from part text) ≡ length part + length text
total_parts part [] = let last = total_last part in omega (arith, last)
total_parts part (c ∷ text) = elim (cases_Bool (ends_paragraph c text)) [
  | inl on ↦
      let rest = total_parts [] text in
      let one = length-append part (c ∷ []) in
      ap total (cond-true (ends_paragraph c text) ((part ++ c ∷ []) ∷ parts_from [] text) (parts_from (part ++ c ∷ []) text) on) ∙ omega (arith, rest, one)
  | inr off ↦
      let rest = total_parts (part ++ c ∷ []) text in
      let one = length-append part (c ∷ []) in
      ap total (cond-false (ends_paragraph c text) ((part ++ c ∷ []) ∷ parts_from [] text) (parts_from (part ++ c ∷ []) text) off) ∙ omega (arith, rest, one)
]

pub length_text : (base : Option Direction) (text : List ℕ) → length (text_levels base text) ≡ length text
length_text base text =
    let sum : 0 + length text ≡ length text = omega arith in
    length_parts base (parts_of text) ∙ total_parts [] text ∙ sum
