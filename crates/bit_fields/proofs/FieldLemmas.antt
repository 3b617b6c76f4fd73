-- Fields of a word: one is read, or put in, and the others stay.
use Rattle.std.proofs.Common.{◌≡◌, ℕ, zero, suc, ◌/◌, ◌%◌, ◌^◌, ◌*◌, ◌+◌, ◌-◌, ◌<◌, ◌≤◌, refl, lit<, Bool, true, false, List, [], ◌∷◌, length, get_or, set, sym, ap, ap₂, subst, ◌∙◌, arith, add-mul, mul_assoc, mul_comm, add_assoc, add_comm}
use Rattle.std.proofs.lemmas.Nat.{pow-add, pow_pos, shr-shr, mod-pow-add, shr_high, mod_low, shr_split, shr_below, mod_below, mul-add-lt}
use Rattle.std.proofs.lemmas.Bool.Decides.{nat_tests}
use Rattle.bit_fields.specs.Fields.{fields, word_of, place_of, width_of, bits_of, field, with_field, number_of, is_set, AreInFields}

-- the field is read at its place
pub fields-at : (widths : List ℕ) (k word : ℕ) → k < length widths → get_or (fields widths word) k 0 ≡ field (place_of widths k) (width_of widths k) word
fields-at [] k word lt = absurd (omega arith)
fields-at (width ∷ widths) zero word lt = ap (λ n. n % 2 ^ width) (omega arith)
fields-at (width ∷ widths) (suc k) word lt =
    fields-at widths k (word / 2 ^ width) (omega arith)
    ∙ ap (λ n. n % 2 ^ width_of widths k) (shr-shr word width (place_of widths k))

-- two products that share a factor
regrouped : (x a b m l : ℕ) → x * (a * b) + (m * a + l) ≡ (x * b + m) * a + l
regrouped x a b m l =
    let one = add-mul (x * b) m a in
    let two : x * b * a ≡ x * (a * b) = mul_assoc x b a ∙ ap (λ n. x * n) (mul_comm b a) in
    omega arith

-- what is put in at a place further on is put into the bits further on
with_field-further : (width place wide value word : ℕ)
    → with_field (width + place) wide value word ≡ with_field place wide value (word / 2 ^ width) * 2 ^ width + word % 2 ^ width
unfolding with_field
with_field-further width place wide value word =
    let high : word / 2 ^ (width + place + wide) ≡ word / 2 ^ width / 2 ^ (place + wide) =
    ap (λ n. word / 2 ^ n) (add_assoc width place wide) ∙ sym (shr-shr word width (place + wide)) in
    let low : word % 2 ^ (width + place) ≡ word / 2 ^ width % 2 ^ place * 2 ^ width + word % 2 ^ width =
    ap (λ n. word % 2 ^ n) (add_comm width place) ∙ mod-pow-add word place width in
    ap₂ (λ h l. (h * 2 ^ wide + value) * 2 ^ (width + place) + l) high low
    ∙ ap (λ n. (word / 2 ^ width / 2 ^ (place + wide) * 2 ^ wide + value) * n + (word / 2 ^ width % 2 ^ place * 2 ^ width + word % 2 ^ width))
    (pow-add 2 width place)
    ∙ regrouped (word / 2 ^ width / 2 ^ (place + wide) * 2 ^ wide + value) (2 ^ width) (2 ^ place) (word / 2 ^ width % 2 ^ place) (word % 2 ^ width)

with_field-here : (width value word : ℕ) → with_field 0 width value word ≡ word / 2 ^ width * 2 ^ width + value
unfolding with_field
with_field-here width value word =
    let e : 0 + width ≡ width = omega arith in
    rw e (omega (arith, mod_one word))
  where
    mod_one : (n : ℕ) → n % 1 ≡ 0
    mod_one n = let below = mod_below n 1 (omega arith) in omega arith

-- THE lemma: a value that is put into a field is there, and the others are as they were
pub fields-with_field : (widths : List ℕ) (k value word : ℕ) → k < length widths → value < 2 ^ width_of widths k
    → fields widths (with_field (place_of widths k) (width_of widths k) value word) ≡ set (fields widths word) k value
fields-with_field [] k value word lt fits = absurd (omega arith)
fields-with_field (width ∷ widths) zero value word lt fits =
    ap (fields (width ∷ widths)) (with_field-here width value word)
    ∙ ap₂ (λ x rest. x ∷ fields widths rest) (mod_low (word / 2 ^ width) width value fits) (shr_high (word / 2 ^ width) width value fits)
fields-with_field (width ∷ widths) (suc k) value word lt fits =
    let low : word % 2 ^ width < 2 ^ width = mod_below word (2 ^ width) (pow_pos width) in
    let inner = with_field (place_of widths k) (width_of widths k) value (word / 2 ^ width) in
    ap (fields (width ∷ widths)) (with_field-further width (place_of widths k) (width_of widths k) value word)
    ∙ ap₂ (λ x rest. x ∷ fields widths rest) (mod_low inner width (word % 2 ^ width) low) (shr_high inner width (word % 2 ^ width) low)
    ∙ ap (λ l. word % 2 ^ width ∷ l) (fields-with_field widths k value (word / 2 ^ width) (omega arith) fits)

-- a word is made again of its fields
pub word_of-fields : (widths : List ℕ) (word : ℕ) → word < 2 ^ bits_of widths → word_of widths (fields widths word) ≡ word
word_of-fields [] word small = omega arith
word_of-fields (width ∷ widths) word small =
    ap (λ n. n * 2 ^ width + word % 2 ^ width) (word_of-fields widths (word / 2 ^ width)
    (shr_below word (bits_of widths) width (subst (λ n. word < 2 ^ n) (add_comm width (bits_of widths)) small))) ∙ shr_split word width

-- the fields of a word that was made of values are these values
pub fields-word_of : (widths values : List ℕ) → AreInFields widths values → fields widths (word_of widths values) ≡ values
fields-word_of [] [] fit = refl
fields-word_of [] (value ∷ values) fit = absurd fit
fields-word_of (width ∷ widths) [] fit = absurd fit
fields-word_of (width ∷ widths) (value ∷ values) fit =
    ap₂ (λ x rest. x ∷ fields widths rest) (mod_low (word_of widths values) width value fit.0) (shr_high (word_of widths values) width value fit.0)
    ∙ ap (λ l. value ∷ l) (fields-word_of widths values fit.1)

pub equal_fields : (widths : List ℕ) (word other : ℕ) → word < 2 ^ bits_of widths → other < 2 ^ bits_of widths
    → fields widths word ≡ fields widths other → word ≡ other
equal_fields widths word other small other_small same =
    sym (word_of-fields widths word small) ∙ ap (word_of widths) same ∙ word_of-fields widths other other_small

-- a word keeps its number of bits if a field within them is put in
pub with_field-below : (bits place width value word : ℕ) → place + width ≤ bits → value < 2 ^ width → word < 2 ^ bits
    → with_field place width value word < 2 ^ bits
unfolding with_field
with_field-below bits place width value word within fits small =
    let above = bits - (place + width) in
    let high = word / 2 ^ (place + width) in
    let bits_are : bits ≡ (bits - (place + width)) + (place + width) = omega arith in
    let high_fits : word / 2 ^ (place + width) < 2 ^ (bits - (place + width)) =
    shr_below word (bits - (place + width)) (place + width) (subst (λ n. word < 2 ^ n) bits_are small) in
    let low_fits : word % 2 ^ place < 2 ^ place = mod_below word (2 ^ place) (pow_pos place) in
    let inner : high * 2 ^ width + value < 2 ^ width * 2 ^ above = mul-add-lt high (2 ^ width) value (2 ^ above) high_fits fits in
    let outer : (high * 2 ^ width + value) * 2 ^ place + word % 2 ^ place < 2 ^ place * (2 ^ width * 2 ^ above) =
    mul-add-lt (high * 2 ^ width + value) (2 ^ place) (word % 2 ^ place) (2 ^ width * 2 ^ above) inner low_fits in
    let whole : 2 ^ place * (2 ^ width * 2 ^ above) ≡ 2 ^ bits =
    ap (λ n. 2 ^ place * n) (sym (pow-add 2 width above)) ∙ sym (pow-add 2 place (width + above))
    ∙ ap (λ n. 2 ^ n) (omega arith) in
    subst (λ n. (high * 2 ^ width + value) * 2 ^ place + word % 2 ^ place < n) whole outer

-- a field that is in the list lies within all their bits
pub place-within : (widths : List ℕ) (k : ℕ) → k < length widths → place_of widths k + width_of widths k ≤ bits_of widths
place-within [] k lt = absurd (omega arith)
place-within (width ∷ widths) zero lt = omega arith
place-within (width ∷ widths) (suc k) lt = let rest = place-within widths k (omega arith) in omega arith

pub is_set-number_of : (b : Bool) → is_set (number_of b) ≡ b
is_set-number_of true = refl
is_set-number_of false = refl

pub number_of-is_set : (n : ℕ) → number_of (is_set (n % 2)) ≡ n % 2
number_of-is_set n = let below = mod_below n 2 (lit< tt) in grind (arith, nat_tests)

pub number_of-below : (b : Bool) → number_of b < 2
number_of-below true = lit< tt
number_of-below false = lit< tt
