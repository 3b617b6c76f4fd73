-- what a subtable without rules is charged for in positioning
use Rattle.std.proofs.Common.{◌≡◌, ℕ, ◌+◌, ◌-◌, ◌*◌, ◌/◌, ◌&&◌, Bool, true, false, List, Option, Some, None, min, nat_eq, nat_lt, refl, sym, ap, subst, ◌∙◌, arith, if◌then◌else◌}
use Rattle.std.proofs.lemmas.Bool.Decides.{nat_tests}
use Rattle.std.specs.Option.{option_and_then, option_map_or}
use Rattle.shape_font.specs.Bytes.{u16_of}
use Rattle.shape_items.specs.Buffer.{most_countable}
use Rattle.shape_items.specs.Items.{Item}
use Rattle.layout_tables.specs.declared.lookups.LookupSubtable.{LookupSubtable}
use Rattle.layout_matching.specs.Found.{is_chained, is_context_subtable, set_for, number_of}
use Rattle.layout_matching.specs.Input.{marks_passed}
use Rattle.layout_matching.specs.Skipping.{nth}
use Rattle.layout_matching.specs.Work.{SUBTABLE_WORK, charged, beside, passed_beside, passed, passed_charged, set_charged, whole_charged, subtable_charged}
use Rattle.layout_matching.specs.declared.lookup.Lookup.{Lookup}

-- once, and it can be counted
once : (n : ℕ) → min (1 * min n most_countable) most_countable ≡ min n most_countable
once n = omega arith

charged-once : (l : Lookup) (items : List Item) (at left : ℕ)
    → passed_charged l false items at (beside left) ≡ charged (passed l false items at (beside 0)) left
charged-once l items at left =
    ap (λ n. charged n left)
    (once (passed_beside l false items at (beside 0) + marks_passed l items at / 4))

charged-nothing : (left : ℕ) → charged 0 left ≡ Some left
charged-nothing left = by_test (nat_lt left 0) refl
  where
    by_test : (t : Bool) → nat_lt left 0 ≡ t → (if t then None else Some (left - 0)) ≡ Some left
    by_test true is = grind (arith, nat_tests, is)
    by_test false is = ap Some (omega arith)

module _ (items : List Item) (at left : ℕ) (subtable : LookupSubtable) where
  -- a subtable that begins with the glyph
  abbrev pub begun : Lookup → ℕ → Option ℕ
  begun l number = option_and_then (charged (passed l false items at (beside 0))) (charged SUBTABLE_WORK left)

  abbrev pub Goal : Lookup → Type 0
  Goal l = subtable_charged l items at left subtable
      ≡ option_map_or (begun l) (number_of l.table.now subtable.start (nth items at).glyph_id) (Some left)

  by-kind : (l : Lookup) (c w : Bool) (x : Option ℕ) (set : ℕ → Option ℕ) (some : ℕ → ℕ → Option ℕ) (o : Option ℕ) → c ≡ false
      → (if c && w then x else option_map_or (λ number. option_and_then (λ less. option_map_or (some less) (if c then set number else None)
      (passed_charged l false items at (beside less))) (option_and_then (charged SUBTABLE_WORK) (charged 0 left))) o (Some left))
      ≡ option_map_or (begun l) o (Some left)
  by-kind l true w x set some o is = cc
  by-kind l false w x set some None is = refl
  by-kind l false w x set some (Some number) is =
      ap (λ o. option_and_then (λ less. passed_charged l false items at (beside less)) (option_and_then (charged SUBTABLE_WORK) o))
      (charged-nothing left)
      ∙ by_begun (charged SUBTABLE_WORK left)
    where
      by_begun : (o : Option ℕ) → option_and_then (λ less. passed_charged l false items at (beside less)) o
          ≡ option_and_then (charged (passed l false items at (beside 0))) o
      by_begun None = refl
      by_begun (Some less) = charged-once l items at less

  in-positioning : (l : Lookup) → is_context_subtable (record l { positioning = true }) subtable ≡ false
      → Goal (record l { positioning = true })
  in-positioning l plain =
      let m : Lookup = record l { positioning = true } in
      by-kind m (is_context_subtable m subtable) (nat_eq (u16_of m.table.now subtable.start) 3) (whole_charged m items at subtable left)
      (set_for m.table.now (is_chained m subtable) subtable.start (nth items at).glyph_id) (set_charged m items at subtable)
      (number_of m.table.now subtable.start (nth items at).glyph_id) plain

  pub part-charged : (l : Lookup) → l.positioning ≡ true → is_context_subtable l subtable ≡ false → Goal l
  part-charged l positions plain =
      let same : record l { positioning = true } ≡ l = ap (λ p. record l { positioning = p }) (sym positions) in
      subst Goal same (in-positioning l (subst (λ m. is_context_subtable m subtable ≡ false) (sym same) plain))

pub part_unbegun : (l : Lookup) (items : List Item) (at left : ℕ) (subtable : LookupSubtable) → l.positioning ≡ true
    → is_context_subtable l subtable ≡ false → number_of l.table.now subtable.start (nth items at).glyph_id ≡ None
    → Some left ≡ subtable_charged l items at left subtable
part_unbegun l items at left subtable positions plain none =
    sym (part-charged items at left subtable l positions plain ∙ ap (λ o. option_map_or (begun items at left subtable l) o (Some left)) none)

pub part_begun : (l : Lookup) (items : List Item) (at left number : ℕ) (subtable : LookupSubtable) (made : Option ℕ)
    → l.positioning ≡ true → is_context_subtable l subtable ≡ false
    → number_of l.table.now subtable.start (nth items at).glyph_id ≡ Some number
    → made ≡ option_and_then (charged (passed l false items at (beside 0))) (charged SUBTABLE_WORK left)
    → made ≡ subtable_charged l items at left subtable
part_begun l items at left number subtable made positions plain some is =
    is ∙ sym (part-charged items at left subtable l positions plain
    ∙ ap (λ o. option_map_or (begun items at left subtable l) o (Some left)) some)
