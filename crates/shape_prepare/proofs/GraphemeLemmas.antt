-- Items that stay as they are: those on which no rule has a say, and those that continue already and are no ZWJ.
use Rattle.std.proofs.Common.{◌≡◌, ℕ, Bool, true, false, not, ◌&&◌, ◌||◌, nat_lt, refl, sym, ap, ◌∙◌, arith}
use Rattle.std.proofs.lemmas.Bool.{and_parts}
use Rattle.std.proofs.lemmas.Bool.Decides.{nat_tests}
use Rattle.shape_items.specs.Items.{Item}
use Rattle.shape_common.specs.Unicode.{UnicodeMeaning}
use Rattle.shape_prepare.specs.Graphemes.{continues, is_joined, is_joining, is_unasked, is_left_alone, is_modifier_symbol, is_skin_tone, is_extender, with_continuation, is_to_next, is_regional_indicator}
use Rattle.shape_prepare.specs.declared.graphemes.Before.{Before}
use Rattle.shape_prepare.specs.declared.graphemes.Before.TheVariants.{Plain, OpenIndicator, Zwj}

never_both : (test : Bool) → (test && false) ≡ false
never_both true = refl
never_both false = refl

-- nothing is joined to what is no ZWJ
is_joined-alone : (unicode : UnicodeMeaning) (before : Before) (c : ℕ) → not (is_joining before) ≡ true → is_joined unicode before c ≡ false
is_joined-alone unicode Plain c alone = refl
is_joined-alone unicode OpenIndicator c alone = refl
is_joined-alone unicode Zwj c alone = absurd (cc)

or_false : (test : Bool) → (test || false) ≡ test
or_false true = refl
or_false false = refl

left_alone : (before : Before) (item : Item) → is_left_alone before item ≡ true
    → ((not (is_joining before) ≡ true) × (is_unasked item.properties.general_category ≡ true)) × (nat_lt item.codepoint 0x1F1E6 ≡ true)
left_alone before item alone =
    let tests = and_parts (not (is_joining before) && is_unasked item.properties.general_category) (nat_lt item.codepoint 0x1F1E6) alone in
    (and_parts (not (is_joining before)) (is_unasked item.properties.general_category) tests.0, tests.1)

-- an item on which no rule has a say continues only what it did before
continues-left_alone : (unicode : UnicodeMeaning) (before : Before) (item : Item) → is_left_alone before item ≡ true
    → continues unicode before item ≡ item.properties.continuation
continues-left_alone unicode before item alone =
    let tests = left_alone before item alone in
    rw (is_joined-alone unicode before item.codepoint tests.0.0, tests.0.1)
    (or_false (item.properties.continuation || false) ∙ or_false item.properties.continuation)

-- so it is left as it is
pub with_continuation-left_alone : (unicode : UnicodeMeaning) (before : Before) (item : Item) → is_left_alone before item ≡ true
    → item ≡ with_continuation (continues unicode before item) item
with_continuation-left_alone unicode before item alone =
    sym (ap (λ c. with_continuation c item) (continues-left_alone unicode before item alone))

-- and is nothing special to the next one
pub is_to_next-left_alone : (unicode : UnicodeMeaning) (before : Before) (item : Item) → is_left_alone before item ≡ true
    → Plain ≡ is_to_next unicode before item
is_to_next-left_alone unicode before item alone =
    let tests = left_alone before item alone in
    let no_indicator : is_regional_indicator item.codepoint ≡ false = grind (arith, nat_tests, tests.1) in
    rw (no_indicator, tests.0.1, never_both (item.properties.zwj && not (is_joined unicode before item.codepoint))) refl

-- an item that continues already, and is no ZWJ, is left as it is
pub with_continuation-settled : (unicode : UnicodeMeaning) (before : Before) (item : Item) → item.properties.continuation ≡ true
    → item ≡ with_continuation (continues unicode before item) item
with_continuation-settled unicode before item continuing =
    let all : continues unicode before item ≡ item.properties.continuation = rw continuing refl in
    sym (ap (λ c. with_continuation c item) all)

-- and is nothing special to the next one
pub is_to_next-settled : (unicode : UnicodeMeaning) (before : Before) (item : Item) → item.properties.continuation ≡ true
    → item.properties.zwj ≡ false → Plain ≡ is_to_next unicode before item
is_to_next-settled unicode before item continuing no_joiner =
    rw (continuing, no_joiner, never_both (is_regional_indicator item.codepoint)) refl

-- no rule fits: nothing joins the item to the one before, and it is no ZWJ, skin tone, regional indicator or extender
abbrev pub fits_none : Before → Item → Bool
fits_none before item =
    not (is_joining before) && not item.properties.zwj && not (is_skin_tone item.codepoint)
    && not (is_regional_indicator item.codepoint) && not (is_extender item.codepoint)

record FitsNone (before : Before) (item : Item) : Type 0 where
  alone : not (is_joining before) ≡ true
  joiner : item.properties.zwj ≡ false
  tone : is_skin_tone item.codepoint ≡ false
  indicator : is_regional_indicator item.codepoint ≡ false
  extender : is_extender item.codepoint ≡ false

not_true : (test : Bool) → not test ≡ true → test ≡ false
not_true true is = absurd (cc)
not_true false is = refl

none_fits : (before : Before) (item : Item) → fits_none before item ≡ true → FitsNone before item
none_fits before item none =
    let c = item.codepoint in
    let alone = not (is_joining before) in
    let joiner = not item.properties.zwj in
    let tone = not (is_skin_tone c) in
    let indicator = not (is_regional_indicator c) in
    let all = and_parts (alone && joiner && tone && indicator) (not (is_extender c)) none in
    let three = and_parts (alone && joiner && tone) indicator all.0 in
    let two = and_parts (alone && joiner) tone three.0 in
    let one = and_parts alone joiner two.0 in
    record {
      alone = one.0;
      joiner = not_true item.properties.zwj one.1;
      tone = not_true (is_skin_tone c) two.1;
      indicator = not_true (is_regional_indicator c) three.1;
      extender = not_true (is_extender c) all.1;
    }

-- such an item continues only what it did before
continues-fits_none : (unicode : UnicodeMeaning) (before : Before) (item : Item) → fits_none before item ≡ true
    → continues unicode before item ≡ item.properties.continuation
continues-fits_none unicode before item none =
    let fits = none_fits before item none in
    let category = item.properties.general_category in
    rw (
      is_joined-alone unicode before item.codepoint fits.alone,
      fits.tone,
      fits.indicator,
      fits.joiner,
      fits.extender,
      never_both (is_modifier_symbol category),
      never_both (not (is_unasked category)),
    )
    (or_false (item.properties.continuation || false) ∙ or_false item.properties.continuation)

-- so it is left as it is
pub with_continuation-fits_none : (unicode : UnicodeMeaning) (before : Before) (item : Item) → fits_none before item ≡ true
    → item ≡ with_continuation (continues unicode before item) item
with_continuation-fits_none unicode before item none =
    sym (ap (λ c. with_continuation c item) (continues-fits_none unicode before item none))

-- and is nothing special to the next one
pub is_to_next-fits_none : (unicode : UnicodeMeaning) (before : Before) (item : Item) → fits_none before item ≡ true
    → Plain ≡ is_to_next unicode before item
is_to_next-fits_none unicode before item none =
    let fits = none_fits before item none in
    rw (fits.indicator, fits.joiner) refl
