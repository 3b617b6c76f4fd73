-- Code with masks and shifts puts a value into a field.
use Rattle.std.proofs.Common.{◌≡◌, ℕ, ◌/◌, ◌%◌, ◌^◌, ◌*◌, ◌+◌, ◌-◌, ◌<◌, ◌≤◌, bit_and, bit_or, sym, ap, ap₂, subst, ◌∙◌, arith, add-mul, mod-eq_of_lt}
use Rattle.std.proofs.lemmas.Nat.{pow-add, pow_pos, shr-shr, shr_split, shr_below, mod_below, and_block, or_block, and_mask, and_le_r, or_disjoint, or_comm}
use Rattle.bit_fields.specs.Fields.{with_field}

and_zero : (n : ℕ) → bit_and n 0 ≡ 0
and_zero n = let le = and_le_r n 0 in omega arith

or_zero : (n : ℕ) → bit_or n 0 ≡ n
or_zero n = or_disjoint n 0 (and_zero n) ∙ omega arith

zero_or : (n : ℕ) → bit_or 0 n ≡ n
zero_or n = or_comm 0 n ∙ or_zero n

and_ones : (n k : ℕ) → n < 2 ^ k → bit_and n (2 ^ k - 1) ≡ n
and_ones n k lt = and_mask n k ∙ mod-eq_of_lt lt

-- a word by its three parts: after the field, the field, and before it
parted : (place width word : ℕ) → word ≡ (word / 2 ^ (place + width) * 2 ^ width + word / 2 ^ place % 2 ^ width) * 2 ^ place + word % 2 ^ place
parted place width word =
    sym (shr_split word place)
    ∙ ap (λ n. n * 2 ^ place + word % 2 ^ place)
    (sym (shr_split (word / 2 ^ place) width) ∙ ap (λ n. n * 2 ^ width + word / 2 ^ place % 2 ^ width) (shr-shr word place width))

-- all bits except those of the field
mask_parted : (above width place : ℕ)
    → 2 ^ (above + width + place) - 1 - (2 ^ width - 1) * 2 ^ place ≡ ((2 ^ above - 1) * 2 ^ width + 0) * 2 ^ place + (2 ^ place - 1)
mask_parted above width place =
    let a = 2 ^ above in
    let w = 2 ^ width in
    let p = 2 ^ place in
    let some_a = pow_pos above in
    let some_w = pow_pos width in
    let some_p = pow_pos place in
    let whole : 2 ^ (above + width + place) ≡ (2 ^ above * 2 ^ width) * 2 ^ place =
    pow-add 2 (above + width) place ∙ ap (λ n. n * 2 ^ place) (pow-add 2 above width) in
    let back_a : (2 ^ above - 1) + 1 ≡ 2 ^ above = omega arith in
    let back_w : (2 ^ width - 1) + 1 ≡ 2 ^ width = omega arith in
    let one : (2 ^ above - 1) * 2 ^ width + 1 * 2 ^ width ≡ 2 ^ above * 2 ^ width =
    sym (add-mul (2 ^ above - 1) 1 (2 ^ width)) ∙ ap (λ n. n * 2 ^ width) back_a in
    let two : (2 ^ above - 1) * 2 ^ width * 2 ^ place + 1 * 2 ^ width * 2 ^ place ≡ 2 ^ above * 2 ^ width * 2 ^ place =
    sym (add-mul ((2 ^ above - 1) * 2 ^ width) (1 * 2 ^ width) (2 ^ place)) ∙ ap (λ n. n * 2 ^ place) one in
    let three : (2 ^ width - 1) * 2 ^ place + 1 * 2 ^ place ≡ 2 ^ width * 2 ^ place =
    sym (add-mul (2 ^ width - 1) 1 (2 ^ place)) ∙ ap (λ n. n * 2 ^ place) back_w in
    let single : 1 * 2 ^ width * 2 ^ place ≡ 2 ^ width * 2 ^ place = ap (λ n. n * 2 ^ place) (omega arith) in
    let none : ((2 ^ above - 1) * 2 ^ width + 0) * 2 ^ place ≡ (2 ^ above - 1) * 2 ^ width * 2 ^ place = ap (λ n. n * 2 ^ place) (omega arith) in
    omega arith

-- `word & !(mask << place) | value << place`, at a word of so many bits
pub masked : (bits place width value word : ℕ) → place + width ≤ bits → word < 2 ^ bits → value < 2 ^ width
    → bit_or (bit_and word (2 ^ bits - 1 - (2 ^ width - 1) * 2 ^ place)) (value * 2 ^ place) ≡ with_field place width value word
unfolding with_field
masked bits place width value word within small fits =
    let above = bits - (place + width) in
    let high = word / 2 ^ (place + width) in
    let mid = word / 2 ^ place % 2 ^ width in
    let low = word % 2 ^ place in
    let some_p = pow_pos place in
    let mid_fits : word / 2 ^ place % 2 ^ width < 2 ^ width = mod_below (word / 2 ^ place) (2 ^ width) (pow_pos width) in
    let low_fits : word % 2 ^ place < 2 ^ place = mod_below word (2 ^ place) (pow_pos place) in
    let none_p : 0 < 2 ^ place = pow_pos place in
    let bits_are : bits ≡ (bits - (place + width)) + width + place = omega arith in
    let bits_too : bits ≡ (bits - (place + width)) + (place + width) = omega arith in
    let high_fits : word / 2 ^ (place + width) < 2 ^ (bits - (place + width)) =
    shr_below word (bits - (place + width)) (place + width) (subst (λ n. word < 2 ^ n) bits_too small) in
    let value_parted : value * 2 ^ place ≡ (0 * 2 ^ width + value) * 2 ^ place + 0 =
    (let e : 0 * 2 ^ width + value ≡ value = omega arith in rw e (omega arith)) in
    let ones_fit : 2 ^ place - 1 < 2 ^ place = omega arith in
    ap₂ (λ w m. bit_or (bit_and w m) (value * 2 ^ place)) (parted place width word)
    (ap (λ n. 2 ^ n - 1 - (2 ^ width - 1) * 2 ^ place) bits_are ∙ mask_parted (bits - (place + width)) width place)
    ∙ ap₂ bit_or
    (and_block place (high * 2 ^ width + mid) ((2 ^ above - 1) * 2 ^ width + 0) low (2 ^ place - 1) low_fits ones_fit
    ∙ ap₂ (λ x y. x * 2 ^ place + y)
    (and_block width high (2 ^ above - 1) mid 0 mid_fits (pow_pos width)
    ∙ ap₂ (λ x y. x * 2 ^ width + y) (and_ones high above high_fits) (and_zero mid))
    (and_ones low place low_fits))
    value_parted
    ∙ or_block place (high * 2 ^ width + 0) (0 * 2 ^ width + value) low 0 low_fits none_p
    ∙ ap₂ (λ x y. x * 2 ^ place + y)
    (or_block width high 0 0 value (pow_pos width) fits ∙ ap₂ (λ x y. x * 2 ^ width + y) (or_zero high) (zero_or value))
    (or_zero low)
