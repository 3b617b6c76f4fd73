-- Two words, one of them directly above the other, have the fields of both.
use Rattle.std.proofs.Common.{◌≡◌, ℕ, ◌/◌, ◌%◌, ◌^◌, ◌*◌, ◌+◌, ◌<◌, List, [], ◌∷◌, ◌++◌, sym, ap, ap₂, subst, ◌∙◌, arith, add-mul, mul_assoc, mul_comm, add_comm}
use Rattle.std.proofs.lemmas.Nat.{pow-add, pow_pos, shr_high, mod_low, shr_split, shr_below, mod_below}
use Rattle.bit_fields.specs.Fields.{fields, bits_of}

-- the lower word's lowest field stands below all others
split_low : (width bits low high : ℕ)
    → high * 2 ^ (width + bits) + low ≡ (high * 2 ^ bits + low / 2 ^ width) * 2 ^ width + low % 2 ^ width
split_low width bits low high =
    let whole : high * 2 ^ (width + bits) ≡ high * 2 ^ bits * 2 ^ width =
    ap (λ n. high * n) (pow-add 2 width bits ∙ mul_comm (2 ^ width) (2 ^ bits)) ∙ sym (mul_assoc high (2 ^ bits) (2 ^ width)) in
    let parts : low / 2 ^ width * 2 ^ width + low % 2 ^ width ≡ low = shr_split low width in
    let both : (high * 2 ^ bits + low / 2 ^ width) * 2 ^ width ≡ high * 2 ^ bits * 2 ^ width + low / 2 ^ width * 2 ^ width =
    add-mul (high * 2 ^ bits) (low / 2 ^ width) (2 ^ width) in
    omega arith

pub fields-join : (lower upper : List ℕ) (low high : ℕ) → low < 2 ^ bits_of lower
    → fields (lower ++ upper) (high * 2 ^ bits_of lower + low) ≡ fields lower low ++ fields upper high
fields-join [] upper low high small = ap (fields upper) (omega arith)
fields-join (width ∷ lower) upper low high small =
    let below : low % 2 ^ width < 2 ^ width = mod_below low (2 ^ width) (pow_pos width) in
    let rest = high * 2 ^ bits_of lower + low / 2 ^ width in
    let small_rest : low / 2 ^ width < 2 ^ bits_of lower =
    shr_below low (bits_of lower) width (subst (λ n. low < 2 ^ n) (add_comm width (bits_of lower)) small) in
    ap (fields (width ∷ lower ++ upper)) (split_low width (bits_of lower) low high)
    ∙ ap₂ (λ x n. x ∷ fields (lower ++ upper) n) (mod_low rest width (low % 2 ^ width) below) (shr_high rest width (low % 2 ^ width) below)
    ∙ ap (λ l. low % 2 ^ width ∷ l) (fields-join lower upper (low / 2 ^ width) high small_rest)
