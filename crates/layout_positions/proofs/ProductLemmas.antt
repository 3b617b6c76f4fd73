-- products that fit
use Rattle.std.proofs.Common.{ℕ, ◌<◌, ◌≤◌, ◌*◌, arith}
use Rattle.std.proofs.lemmas.Nat.{mul-le}

pub product_short : (a b : ℕ) → a < 65536 → b < 65536 → a * b ≤ 4294836225
product_short a b h k =
    let x : a ≤ 65535 = omega (arith, h) in
    let y : b ≤ 65535 = omega (arith, k) in
    mul-le a b 65535 65535 x y

pub product_size : (n size : ℕ) → n < 4294967296 → size ≤ 66 → n * size ≤ 283467841470
product_size n size h k =
    let x : n ≤ 4294967295 = omega (arith, h) in
    mul-le n size 4294967295 66 x k
