-- What is said of each byte of a text: as much, whatever it is.
use Rattle.std.proofs.Common.{◌≡◌, ℕ, zero, suc, ◌+◌, ◌≤◌, List, [], ◌∷◌, length, drop, replicate, arith, refl, sym, ap₂, ◌∙◌}
use Rattle.std.proofs.lemmas.List.{length-append, length-replicate}
use Rattle.std.specs.Char.{len_utf8}
use Rattle.text_lines.specs.Levels.{of_bytes}

pub same_bytes : {A B : Type 0} (characters : List ℕ) (xs : List A) (ys : List B) → length xs ≡ length ys
    → length (of_bytes characters xs) ≡ length (of_bytes characters ys)
same_bytes [] xs ys same = refl
same_bytes (c ∷ characters) [] [] same = refl
same_bytes (c ∷ characters) [] (y ∷ ys) same = absurd (omega (arith, same))
same_bytes (c ∷ characters) (x ∷ xs) [] same = absurd (omega (arith, same))
same_bytes (c ∷ characters) (x ∷ xs) (y ∷ ys) same =
    length-append (replicate (len_utf8 c) x) (of_bytes characters xs)
    ∙ ap₂ (λ n m. n + m) (length-replicate (len_utf8 c) x ∙ sym (length-replicate (len_utf8 c) y)) (same_bytes characters xs ys (omega (arith, same)))
    ∙ sym (length-append (replicate (len_utf8 c) y) (of_bytes characters ys))

of_no_values : {T : Type 0} (characters : List ℕ) → of_bytes {T = T} characters [] ≡ []
of_no_values [] = refl
of_no_values (c ∷ characters) = refl

-- past the last value nothing is said
pub of_bytes_past : {T : Type 0} (n : ℕ) (characters : List ℕ) (values : List T) → length values ≤ n
    → of_bytes (drop n characters) (drop n values) ≡ []
of_bytes_past zero characters [] past = of_no_values characters
of_bytes_past zero characters (value ∷ values) past = absurd (omega (arith, past))
of_bytes_past (suc n) [] values past = refl
of_bytes_past (suc n) (c ∷ characters) [] past = of_no_values (drop n characters)
of_bytes_past (suc n) (c ∷ characters) (value ∷ values) past = of_bytes_past n characters values (omega (arith, past))
