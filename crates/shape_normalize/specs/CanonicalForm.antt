-- Canonical form: what normalising promises of equivalent texts (UAX 15; The Unicode Standard, D70 and D118).
use Rattle.std.specs.Prelude.{◌≡◌, ◌⊎◌, ◌↔◌, ℕ, Bool, true, false, List, ◌++◌, map, drop, All, None}
use Rattle.std.specs.List.{list_any}
use Rattle.shape_items.specs.Buffer.{Buffer}
use Rattle.canonical_form.specs.Chain.{full_text}
use Rattle.canonical_form.specs.Equivalent.{IsEquivalent, IsCanonical, ComposesSoundly}
use Rattle.canonical_form.specs.Expanded.{begins_with_mark}
use Rattle.shape_items.specs.Items.{char_of, is_mark_item}
use Rattle.canonical_form.specs.Laws.{IsWhollySupported}
use Rattle.canonical_form.specs.Order.{IsOrdered}
use Rattle.canonical_form.specs.Recompose.{is_blocked, compose_with_glyph, recomposed}
use Rattle.shape_common.specs.Unicode.{is_mark}
use Rattle.canonical_form.specs.SplitsFall.{SplitsFall}
use Rattle.shape_normalize.specs.Normalized.{normalized}
use Rattle.shape_items.specs.Prepared.{IsPrepared}
use Rattle.shape_normalize.specs.RoundOne.{round_one}
use Rattle.shape_normalize.specs.RoundTwo.{max_run, has_mark_past_first}
use Rattle.shape_plan.specs.Rules.{Rules, decompositions, has_glyph}

-- the characters of a buffer
abbrev pub text_of : Buffer → List ℕ
text_of b = map char_of b.items

-- two texts are canonically equivalent, by the split in use and Unicode's ccc
abbrev pub AreEquivalent : Rules → List ℕ → List ℕ → Type 0
AreEquivalent rules s t = IsEquivalent (decompositions rules) s t

-- a text has canonical form: none of its characters splits, and its marks are in order
abbrev pub HasCanonicalForm : Rules → List ℕ → Type 0
HasCanonicalForm rules text = IsCanonical (decompositions rules) text

-- the hooks are lawful: their splits fall as Unicode's do, and in the modes that compose what they compose is
-- equivalent to its parts
pub record HasLawfulHooks (rules : Rules) : Type 0 where
  pub splits : SplitsFall (decompositions rules)
  pub composes : rules.recomposes ≡ true → ComposesSoundly (decompositions rules) rules.compose

-- no character of a text is a variation selector
abbrev pub HasNoSelector : Rules → List ℕ → Type 0
HasNoSelector rules text = All (λ c. rules.unicode.selector c ≡ false) text

-- a text has a glyph for each character of its Full, and no run of more than 32 marks in it
abbrev pub IsSupported : Rules → List ℕ → Type 0
IsSupported rules text = IsWhollySupported (decompositions rules) (has_glyph rules.face.nominal_glyph) max_run text

-- what equivalence asks of a shaper and a text: lawful hooks, no variation selector, and no hook that reorders
pub record TextPremises (rules : Rules) (text : List ℕ) : Type 0 where
  pub lawful_hooks : HasLawfulHooks rules
  pub no_selector : HasNoSelector rules text
  pub no_reordering : rules.reorder ≡ None

-- what it asks of a buffer: that, and that each item's mark and ccc are those of its character
pub record EquivalencePremises (rules : Rules) (b : Buffer) : Type 0 where
  pub text : TextPremises rules (text_of b)
  pub prepared : IsPrepared rules.unicode b.items

-- the marks of a text end in order: one stands past its first character, so that round two orders them; or, in a mode
-- that doesn't compose, no neighbours in Full of the text have ccc x > y > 0, so that nothing is left to do
abbrev pub EndsInOrder : Rules → List ℕ → Type 0
EndsInOrder rules text =
    (list_any (is_mark rules.unicode) (drop 1 text) ≡ true)
    ⊎ ((rules.recomposes ≡ false) × IsOrdered rules.unicode.ccc (full_text (decompositions rules) text))

-- what canonical form asks of a text besides: a mode that decomposes fully, glyphs for all of Full, runs that are short
-- enough, and marks that end in order
pub record CanonicalTextPremises (rules : Rules) (text : List ℕ) : Type 0 where
  pub decomposes_fully : (with_marks : Bool) → rules.short with_marks ≡ false
  pub supported : IsSupported rules text
  pub in_order : EndsInOrder rules text

pub record CanonicalFormPremises (rules : Rules) (b : Buffer) : Type 0 where
  pub equivalence : EquivalencePremises rules b
  pub canonical : CanonicalTextPremises rules (text_of b)

-- a text recomposed: marks go into the starter before them if the composed character has a glyph
abbrev pub recomposed_text : Rules → List ℕ → List ℕ
recomposed_text rules text =
    recomposed rules.unicode.ccc (is_blocked rules.unicode.ccc) (is_mark rules.unicode)
    (compose_with_glyph rules.compose (has_glyph rules.face.nominal_glyph)) text

-- the recomposed form of a text: that of an equivalent text in canonical form, of which there is one
pub record IsRecomposedForm (rules : Rules) (text new : List ℕ) : Type 0 where
  pub canonical : List ℕ
  pub is_canonical : HasCanonicalForm rules canonical
  pub equivalent : AreEquivalent rules text canonical
  pub is : new ≡ recomposed_text rules canonical

-- a text whose normalised characters depend on its characters alone: its items are prepared, there are no variation
-- selectors and no hook that reorders
pub record PlainPremises (rules : Rules) (b : Buffer) : Type 0 where
  pub prepared : IsPrepared rules.unicode b.items
  pub no_selector : HasNoSelector rules (text_of b)
  pub no_reordering : rules.reorder ≡ None

-- what is asked of a text that is cut in two, whose parts may have clusters and masks of their own: all three are
-- plain, the second part and its expanded list begin with no mark, and each part has a mark past its first item
pub record CutPremises (rules : Rules) (old front back : Buffer) : Type 0 where
  pub parts : text_of old ≡ text_of front ++ text_of back
  pub plain : PlainPremises rules old
  pub plain_front : PlainPremises rules front
  pub plain_back : PlainPremises rules back
  pub unmarked : begins_with_mark is_mark_item back.items ≡ false
  pub unmarked_choice : begins_with_mark (is_mark rules.unicode) (text_of (round_one rules back)) ≡ false
  pub front_marked : has_mark_past_first front.items ≡ true
  pub back_marked : has_mark_past_first back.items ≡ true

-- normalising leads from the one text to an equivalent one, which is canonical or recomposed of a canonical one, and
-- the same for equivalent texts alone; it depends on characters alone, and may be done part by part
pub record NormalizesCanonically (rules : Rules) (old new : Buffer) : Type 0 where
  pub equivalent : EquivalencePremises rules old → AreEquivalent rules (text_of old) (text_of new)
  pub canonical : rules.recomposes ≡ false → CanonicalFormPremises rules old → HasCanonicalForm rules (text_of new)
  pub recomposed : rules.recomposes ≡ true → CanonicalFormPremises rules old → IsRecomposedForm rules (text_of old) (text_of new)
  pub decides : (other : Buffer) → CanonicalFormPremises rules old → CanonicalFormPremises rules other
      → (text_of new ≡ text_of (normalized rules other)) ↔ AreEquivalent rules (text_of old) (text_of other)
  pub by_characters : (other : Buffer) → PlainPremises rules old → PlainPremises rules other → text_of old ≡ text_of other
      → text_of new ≡ text_of (normalized rules other)
  pub cuts : (front back : Buffer) → CutPremises rules old front back
      → text_of new ≡ text_of (normalized rules front) ++ text_of (normalized rules back)
