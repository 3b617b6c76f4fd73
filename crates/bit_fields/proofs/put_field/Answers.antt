use Rattle.std.proofs.Common.{◌≡◌, ◌-◌, ◌*◌, ◌%◌, ◌^◌, ◌<◌, bit_and, bit_or, ap, ap₂, ◌∙◌, arith}
use Rattle.std.proofs.lemmas.Nat.{one_shl, shl_whole, pow_pos}
use Rattle.bit_fields.proofs.MaskLemmas.{masked}
use Rattle.bit_fields.proofs.put_field.Goals as goal

pub returns : goal.returns
returns c =
    let word = c.args.word in
    let place = c.args.place in
    let width = c.args.width in
    let value = c.args.value in
    let some = pow_pos c.args.width in
    let ones : 2 ^ c.args.width - 1 < 2 ^ c.args.width = omega arith in
    let mask : (1 * 2 ^ c.args.width % 2 ^ 32 - 1) * 2 ^ c.args.place % 2 ^ 32 ≡ (2 ^ c.args.width - 1) * 2 ^ c.args.place =
    ap (λ m. (m - 1) * 2 ^ place % 2 ^ 32) (one_shl width 32 (omega arith)) ∙ shl_whole (2 ^ width - 1) width place 32 ones (omega arith) in
    let shifted : c.args.value * 2 ^ c.args.place % 2 ^ 32 ≡ c.args.value * 2 ^ c.args.place =
    shl_whole value width place 32 c.requires.fits (omega arith) in
    ap₂ (λ m v. bit_or (bit_and word (2 ^ 32 - 1 - m)) v) mask shifted
    ∙ masked 32 place width value word (omega arith) (omega arith) c.requires.fits
